-- What decisions hand to those who wait.
use Rattle.std.proofs.Common.{◌≡◌, ◌<◌, All, Bool, true, false, eqb, cond, List, [], ◌∷◌, ◌++◌, length, refl, sym, ap, ◌∙◌, append_assoc, append-nil, arith}
use Rattle.std.specs.List.{Contains}
use Rattle.std.proofs.lemmas.Bool.{eq-eqb}
use Rattle.std.proofs.lemmas.Bool.Decides.{nat_tests}
use Rattle.std.proofs.lemmas.List.Elements.{All-head, All-tail, All-contains_itself}
use Rattle.zk_base.specs.declared.waits.Waiter.{Waiter}
use Rattle.zk_base.specs.declared.waits.Decision.{Decision}
use Rattle.zk_base.specs.Waits.{Waits, decide}
use Rattle.zk_base.specs.WaitLaws.{decided_at, handed_by}
use Rattle.zk_base.proofs.WaitDecisions.{decided-some}

-- a list of those who wait isn't empty where one waits
pub some-waits : {W : Type 0} (w : W) (ws waiting : List W) → waiting ≡ w ∷ ws → waiting ≡ [] → ⊥
some-waits w ws waiting is none = let both = sym is ∙ none in cc

-- where nobody waits beside what is there, and one waits, nothing is there
pub nothing-there : {X W : Type 0} (xs : List X) (w : W) (ws waiting : List W) → waiting ≡ w ∷ ws →
    (0 < length xs → waiting ≡ []) → xs ≡ []
nothing-there [] w ws waiting some none = refl
nothing-there (x ∷ xs) w ws waiting some none = absurd (some-waits w ws waiting some (none (omega arith)))

module _ {M A B : Type 0} (content : A → List B) (before : Waits M A) where
  -- what was decided before is handed to nobody
  handed-old : (ds : List (Decision A)) → All (Contains before.decided) ds → handed_by content before ds ≡ []
  handed-old [] held = refl
  handed-old (d ∷ ds) held =
      let some = decided-some before d (All-head (Contains before.decided) d ds held) in
      let old : eqb (decided_at d.place before) 0 ≡ false = grind (arith, nat_tests) in
      ap (λ (b : Bool). cond b (content d.answer) [] ++ handed_by content before ds) old
      ∙ handed-old ds (All-tail (Contains before.decided) d ds held)

  handed-append : (ds cs : List (Decision A)) →
      handed_by content before (ds ++ cs) ≡ handed_by content before ds ++ handed_by content before cs
  handed-append [] cs = refl
  handed-append (d ∷ ds) cs =
      let here : List B = cond (eqb (decided_at d.place before) 0) (content d.answer) [] in
      ap (λ (xs : List B). here ++ xs) (handed-append ds cs)
      ∙ sym (append_assoc here (handed_by content before ds) (handed_by content before cs))

  pub handed-none : handed_by content before before.decided ≡ []
  handed-none = handed-old before.decided (All-contains_itself before.decided)

  -- the first who waits is handed what its answer holds
  pub handed-first : (w : Waiter M) (answer : A) → decided_at w.place before ≡ 0 →
      handed_by content before (before.decided ++ decide answer w ∷ []) ≡ content answer
  handed-first w answer none =
      let new : eqb (decided_at w.place before) 0 ≡ true = eq-eqb (decided_at w.place before) 0 none in
      handed-append before.decided (decide answer w ∷ [])
      ∙ ap (λ (xs : List B). xs ++ handed_by content before (decide answer w ∷ [])) handed-none
      ∙ ap (λ (b : Bool). cond b (content answer) [] ++ []) new ∙ append-nil (content answer)
