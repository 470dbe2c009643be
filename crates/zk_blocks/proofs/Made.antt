-- What is made of what is read is read exactly; what passes a test; and what is there where it is called for.
use Rattle.std.proofs.Common.{◌≡◌, Bool, true, false, if◌then◌else◌, Option, Some, None, List, [], ◌∷◌, ◌++◌, refl, sym, ap, subst, ◌∙◌}
use Rattle.std.proofs.lemmas.Bool.{cond-true}
use Rattle.std.proofs.lemmas.Option.{same_Some, none-some, cond_some}
use Rattle.zk_blocks.specs.Blocks.{FirstIs, Reading, IsBlock, checked_of, made_of, kept_of, FitsKept, given_of, given_lines, FitsGiven}
use Rattle.zk_blocks.proofs.Blocks.{pair, looser, nothing}

module _ {L A : Type 0} {lines_of : A → List L} {Fits : A → Type 0} {read : List L → Reading L A} {Opens Behind : L → Type 0}
    (block : IsBlock lines_of Fits read Opens Behind) where
  module _ {B : Type 0} {lines_made : B → List L} {FitsMade : B → Type 0} (make : A → Option B)
      (back : (b : B) → FitsMade b → (a : A) × (Fits a × (make a ≡ Some b)) × (lines_of a ≡ lines_made b))
      (forth : (a : A) (b : B) → Fits a → make a ≡ Some b → FitsMade b × (lines_of a ≡ lines_made b)) where
    made_spelled : (lines more : List L) (b : B) (r : Reading L A) → read lines ≡ r → checked_of make r ≡ (Some b, more) → (lines ≡ lines_made b ++ more) × FitsMade b
    made_spelled lines more b (None, rest) found is = absurd (none-some b (ap (λ r. r.0) is))
    made_spelled lines more b (Some a, rest) found is =
        let there = block.spelled lines rest a found in
        let fits = forth a b there.1 (ap (λ r. r.0) is) in
        (there.0 ∙ ap (λ ls. lines_of a ++ ls) (ap (λ r. r.1) is) ∙ ap (λ ls. ls ++ more) fits.1, fits.0)

    made_left : (r : Reading L A) → (checked_of make r).1 ≡ r.1
    made_left (None, left) = refl
    made_left (Some a, left) = refl

    made_ahead : (r : Reading L A) (o : Option B) (more other : List L) → checked_of make r ≡ (o, more) → checked_of make (r.0, other) ≡ (o, other)
    made_ahead (None, left) o more other is = pair (ap (λ r. r.0) is) refl
    made_ahead (Some a, left) o more other is = pair (ap (λ r. r.0) is) refl

    -- what is made of what is read is read exactly, where it is made of just what has its lines
    pub checked : IsBlock lines_made FitsMade (λ lines. checked_of make (read lines)) Opens Behind
    checked = record {
      again = λ b more fits behind. let x = back b fits in
          ap (λ ls. checked_of make (read (ls ++ more))) (sym x.2) ∙ ap (checked_of make) (block.again x.0 more x.1.0 behind) ∙ pair x.1.1 refl;
      spelled = λ lines more b is. made_spelled lines more b (read lines) refl is;
      opens = λ b more fits behind. let x = back b fits in subst (λ ls. FirstIs Opens (ls ++ more)) x.2 (block.opens x.0 more x.1.0 behind);
      left = λ lines. let there = block.left lines in (there.0, there.1 ∙ ap (λ ls. there.0 ++ ls) (sym (made_left (read lines))));
      one_ahead = λ before more other line o is.
          let r = read (before ++ line ∷ more) in
          let there = block.one_ahead before more other line r.0 (pair refl (sym (made_left r) ∙ ap (λ r. r.1) is)) in
          ap (checked_of make) there ∙ made_ahead r o (line ∷ more) (line ∷ other) is;
    }

  -- what is made of what is read is read exactly
  pub made : {B : Type 0} {lines_made : B → List L} {FitsMade : B → Type 0} (make : A → B) →
      ((b : B) → FitsMade b → (a : A) × (Fits a × (make a ≡ b)) × (lines_of a ≡ lines_made b)) →
      ((a : A) → Fits a → FitsMade (make a) × (lines_of a ≡ lines_made (make a))) →
      IsBlock lines_made FitsMade (λ lines. made_of make (read lines)) Opens Behind
  made {B = B} {lines_made = lines_made} {FitsMade = FitsMade} make back forth =
      checked (λ a. Some (make a)) (λ b fits. let x = back b fits in (x.0, (x.1.0, ap Some x.1.1), x.2))
      (λ a b fits is. subst (λ x. FitsMade x × (lines_of a ≡ lines_made x)) (same_Some (make a) b is) (forth a fits))

  -- what is read and passes a test is read exactly
  pub kept : (passes : A → Bool) → IsBlock lines_of (FitsKept passes Fits) (λ lines. kept_of passes (read lines)) Opens Behind
  kept passes = checked (λ a. if passes a then Some a else None)
      (λ a fits. (a, (fits.0, cond-true (passes a) (Some a) None fits.1), refl))
      (λ a b fits is. let is_it = cond_some (passes a) a b is in subst (λ x. FitsKept passes Fits x × (lines_of a ≡ lines_of x)) is_it.1 ((fits, is_it.0), refl))

-- nothing in a thing's place is read exactly: no lines, of whatever sort those behind them are
pub absent : {L A : Type 0} (none : A) (Sort : L → Type 0) → IsBlock (λ a. []) (λ a. a ≡ none) (λ lines. (Some none, lines)) Sort Sort
absent none Sort = made (nothing Sort) (λ (u : Unit {0}). none) (λ b fits. (tt, (tt, sym fits), refl)) (λ u fits. (refl, refl))

-- what is there where it is called for is read exactly: then as its block is, and else as no lines are
pub given : {L A : Type 0} {lines_of : A → List L} {Fits : A → Type 0} {read : List L → Reading L A} {Opens Behind : L → Type 0} (is : Bool) (none : A) →
    (is ≡ true → IsBlock lines_of Fits read Opens Behind) → (is ≡ false → (line : L) → Behind line → Opens line) →
    IsBlock (given_lines is lines_of) (FitsGiven is none Fits) (given_of is none read) Opens Behind
given true none block opens = block refl
given {Behind = Behind} false none block opens = looser (absent none Behind) (opens refl) (λ line is. is)
