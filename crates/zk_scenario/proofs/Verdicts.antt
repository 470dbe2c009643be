-- Which reason applies first, where the tests before it say nothing.
use Rattle.std.proofs.Common.{◌≡◌, Bool, true, false, cond, not, ◌&&◌, Option, Some, None, List, refl, sym, ap, subst, ◌∙◌}
use Rattle.std.specs.Option.{option_map_or}
use Rattle.zk_words.specs.declared.word.Head.{Head}
use Rattle.zk_words.specs.Parts.{Placed}
use Rattle.zk_line.specs.declared.types.Decl.{Decl}
use Rattle.zk_line.specs.declared.types.Arg.{Arg}
use Rattle.zk_line.specs.declared.weights.Wrong.{Wrong}
use Rattle.zk_line.specs.declared.weights.Wrong.TheVariants.{OutOfRange, Misnamed}
use Rattle.zk_line.specs.Args.{args_of}
use Rattle.zk_line.specs.Checks.{are_in_range, are_well_named}
use Rattle.zk_line.specs.Weights.{Weighs, or_wrong}
use Rattle.zk_scenario.specs.declared.refused.Why.{Why}
use Rattle.zk_scenario.specs.declared.refused.Why.TheVariants.{Order, Number, Name, Limit}
use Rattle.zk_scenario.specs.Free.{is_free_line}
use Rattle.zk_scenario.specs.Reading.{Reading}
use Rattle.zk_scenario.specs.Verdict.{is_misplaced, is_past_limit, is_said_before, are_named, verdict}

abbrev first_of : Bool → Bool → Bool → Bool → Option Why
first_of misplaced in_range named past =
    cond misplaced (Some Order) (cond (not in_range) (Some Number) (cond (not named) (Some Name) (cond past (Some Limit) None)))

first_number : (misplaced in_range named past : Bool) → misplaced ≡ false → in_range ≡ false → first_of misplaced in_range named past ≡ Some Number
first_number false false named past e f = refl
first_number true in_range named past e f = absurd (cc)
first_number false true named past e f = absurd (cc)

first_name : (misplaced in_range named past : Bool) → misplaced ≡ false → in_range ≡ true → named ≡ false → first_of misplaced in_range named past ≡ Some Name
first_name false true false past e f g = refl
first_name true in_range named past e f g = absurd (cc)
first_name false false named past e f g = absurd (cc)
first_name false true true past e f g = absurd (cc)

first_limit : (misplaced in_range named again past : Bool) → misplaced ≡ false → in_range ≡ true → named ≡ not again → first_of misplaced in_range named past ≡ cond again (Some Name) (cond past (Some Limit) None)
first_limit false true named true past e f g = ap (λ b. cond (not b) (Some Name) (cond past (Some Limit) None)) g
first_limit false true named false past e f g = ap (λ b. cond (not b) (Some Name) (cond past (Some Limit) None)) g
first_limit true in_range named again past e f g = absurd (cc)
first_limit false false named again past e f g = absurd (cc)

-- what is weighed of a line that stands in its place, by declarations that are those which were read
module _ (r : Reading) (decls : List Decl) (h : Head) (parts : List Placed) (wrong : Option Wrong) (args : List Arg) (same : decls ≡ r.decls)
    (free : Bool) (loose : free ≡ is_free_line r h)
    (weighed : Weighs (are_in_range decls h parts) (are_well_named free decls parts) (args_of decls parts) (or_wrong wrong args)) (placed : is_misplaced r h parts ≡ false) where
  named_is : are_well_named (is_free_line r h) r.decls parts ≡ are_well_named free decls parts
  named_is = ap (λ f. are_well_named f r.decls parts) (sym loose) ∙ ap (λ ds. are_well_named free ds parts) (sym same)

  -- a number is out of its range
  pub verdict_number : wrong ≡ Some OutOfRange → verdict r h parts ≡ Some Number
  verdict_number is =
      let out : are_in_range decls h parts ≡ false = subst (λ w. Weighs (are_in_range decls h parts) (are_well_named free decls parts) (args_of decls parts) (or_wrong w args)) is weighed in
      first_number (is_misplaced r h parts) (are_in_range r.decls h parts) (are_named r h parts) (is_past_limit r h parts) placed (ap (λ ds. are_in_range ds h parts) (sym same) ∙ out)

  -- a name may not stand where it does
  pub verdict_name : wrong ≡ Some Misnamed → verdict r h parts ≡ Some Name
  verdict_name is =
      let right = subst (λ w. Weighs (are_in_range decls h parts) (are_well_named free decls parts) (args_of decls parts) (or_wrong w args)) is weighed in
      first_name (is_misplaced r h parts) (are_in_range r.decls h parts) (are_named r h parts) (is_past_limit r h parts) placed
      (ap (λ ds. are_in_range ds h parts) (sym same) ∙ right.0) (misnamed (are_well_named (is_free_line r h) r.decls parts) _ (named_is ∙ right.1)) where
        misnamed : (a b : Bool) → a ≡ false → (a && b) ≡ false
        misnamed false b e = refl
        misnamed true b e = absurd (cc)

  -- its words are right, and say these: it says a permission again, or its limit decides
  pub verdict_right : (again past : Bool) → wrong ≡ None → is_said_before r h args ≡ again → is_past_limit r h parts ≡ past
      → (verdict r h parts ≡ cond again (Some Name) (cond past (Some Limit) None)) × (args_of r.decls parts ≡ Some args)
  verdict_right again past is said limit =
      let right = subst (λ w. Weighs (are_in_range decls h parts) (are_well_named free decls parts) (args_of decls parts) (or_wrong w args)) is weighed in
      let words : args_of r.decls parts ≡ Some args = ap (λ ds. args_of ds parts) (sym same) ∙ right.2 in
      let named : are_named r h parts ≡ not again =
      ap (λ b. b && not (option_map_or (is_said_before r h) (args_of r.decls parts) false)) (named_is ∙ right.1)
      ∙ ap (λ o. not (option_map_or (is_said_before r h) o false)) words ∙ ap not said in (
        first_limit (is_misplaced r h parts) (are_in_range r.decls h parts) (are_named r h parts) again (is_past_limit r h parts) placed
            (ap (λ ds. are_in_range ds h parts) (sym same) ∙ right.0) named ∙ ap (λ b. cond again (Some Name) (cond b (Some Limit) None)) limit,
        words,
      )
