-- One block behind another is read exactly.
use Rattle.std.proofs.Common.{◌≡◌, Option, Some, None, List, ◌∷◌, ◌++◌, append_assoc, refl, sym, ap, subst, ◌∙◌}
use Rattle.std.proofs.lemmas.Option.{same_Some, none-some}
use Rattle.std.proofs.lemmas.List.{append_cancel_right}
use Rattle.zk_blocks.specs.Blocks.{FirstIs, Reading, IsBlock, beside, onward, then_of, then_lines, FitsThen}
use Rattle.zk_blocks.proofs.Blocks.{pair, farther}

module _ {L A B : Type 0} {lines_a : A → List L} {FitsA : A → Type 0} {read_a : List L → Reading L A}
    {lines_b : B → List L} {FitsB : B → Type 0} {read_b : List L → Reading L B} {Opens Between Behind : L → Type 0}
    (first : IsBlock lines_a FitsA read_a Opens Between) (second : IsBlock lines_b FitsB read_b Between Behind) where
  abbrev lines_both : A × B → List L
  lines_both both = then_lines lines_a lines_b both

  abbrev FitsBoth : A × B → Type 0
  FitsBoth both = FitsThen FitsA FitsB both

  abbrev read_both : List L → Reading L (A × B)
  read_both lines = then_of read_a read_b lines

  behind_left : (a : A) (r : Reading L B) → (beside a r).1 ≡ r.1
  behind_left a (None, left) = refl
  behind_left a (Some b, left) = refl

  both_spelled : (lines more : List L) (both : A × B) → read_both lines ≡ (Some both, more) → (lines ≡ lines_both both ++ more) × FitsBoth both
  both_spelled lines more both is = by (read_a lines) refl is where
    on : (a : A) (left : List L) → read_a lines ≡ (Some a, left) → (r : Reading L B) → read_b left ≡ r → beside a r ≡ (Some both, more) →
        (lines ≡ lines_both both ++ more) × FitsBoth both
    on a left found (None, rest) next is = absurd (none-some both (ap (λ r. r.0) is))
    on a left found (Some b, rest) next is =
        let here = first.spelled lines left a found in
        let there = second.spelled left rest b next in
        subst (λ x. (lines ≡ lines_both x ++ more) × FitsBoth x) (same_Some (a, b) both (ap (λ r. r.0) is))
        (here.0 ∙ ap (λ ls. lines_a a ++ ls) (there.0 ∙ ap (λ ls. lines_b b ++ ls) (ap (λ r. r.1) is)) ∙ sym (append_assoc (lines_a a) (lines_b b) more), (here.1, there.1))

    by : (r : Reading L A) → read_a lines ≡ r → onward read_b r ≡ (Some both, more) → (lines ≡ lines_both both ++ more) × FitsBoth both
    by (None, left) found is = absurd (none-some both (ap (λ r. r.0) is))
    by (Some a, left) found is = on a left found (read_b left) refl is

  both_left : (lines : List L) → (before : List L) × (lines ≡ before ++ (read_both lines).1)
  both_left lines = by (read_a lines) (first.left lines) where
    by : (r : Reading L A) → (before : List L) × (lines ≡ before ++ r.1) → (before : List L) × (lines ≡ before ++ (onward read_b r).1)
    by (None, left) before = before
    by (Some a, left) (before, is) =
        let next = second.left left in (
          before ++ next.0,
          is ∙ ap (λ ls. before ++ ls) next.1 ∙ sym (append_assoc before next.0 (read_b left).1)
              ∙ ap (λ ls. (before ++ next.0) ++ ls) (sym (behind_left a (read_b left))),
        )

  -- where the first block ends among the lines up to the one ahead, and the second behind it
  both_ahead : (before more other : List L) (line : L) (o : Option (A × B)) →
      read_both (before ++ line ∷ more) ≡ (o, line ∷ more) → read_both (before ++ line ∷ other) ≡ (o, line ∷ other)
  both_ahead before more other line o is = by (read_a (before ++ line ∷ more)) refl is where
    by : (r : Reading L A) → read_a (before ++ line ∷ more) ≡ r → onward read_b r ≡ (o, line ∷ more) → read_both (before ++ line ∷ other) ≡ (o, line ∷ other)
    by (None, left) found is =
        ap (onward read_b) (first.one_ahead before more other line None (found ∙ pair refl (ap (λ r. r.1) is))) ∙ pair (ap (λ r. r.0) is) refl
    by (Some a, left) found is =
        let up = first.left (before ++ line ∷ more) in
        let on = second.left left in
        let rest : (read_b left).1 ≡ line ∷ more = sym (behind_left a (read_b left)) ∙ ap (λ r. r.1) is in
        let mid : left ≡ on.0 ++ line ∷ more = on.1 ∙ ap (λ ls. on.0 ++ ls) rest in
        let cut : before ≡ up.0 ++ on.0 = append_cancel_right before (up.0 ++ on.0) (line ∷ more)
        (up.1 ∙ ap (λ r. up.0 ++ r.1) found ∙ ap (λ ls. up.0 ++ ls) mid ∙ sym (append_assoc up.0 on.0 (line ∷ more))) in
        let there : (ls : List L) → before ++ line ∷ ls ≡ up.0 ++ (on.0 ++ line ∷ ls) = λ ls. ap (λ b. b ++ line ∷ ls) cut ∙ append_assoc up.0 on.0 (line ∷ ls) in
        let a_again = farther first up.0 on.0 more other line (Some a) (ap read_a (sym (there more)) ∙ found ∙ pair refl mid) in
        let b_again = second.one_ahead on.0 more other line (read_b left).0 (ap read_b (sym mid) ∙ pair refl rest) in
        ap read_both (there other) ∙ ap (onward read_b) a_again ∙ ap (beside a) b_again ∙ joined a (read_b left) is where
          joined : (a : A) (r : Reading L B) → beside a r ≡ (o, line ∷ more) → beside a (r.0, line ∷ other) ≡ (o, line ∷ other)
          joined a (None, left) is = pair (ap (λ r. r.0) is) refl
          joined a (Some b, left) is = pair (ap (λ r. r.0) is) refl

  -- one thing behind another is read exactly, where what opens the second may stand behind the first
  pub both : IsBlock (then_lines lines_a lines_b) (FitsThen FitsA FitsB) (then_of read_a read_b) Opens Behind
  both = record {
    again = λ x more fits behind.
        ap read_both (append_assoc (lines_a x.0) (lines_b x.1) more)
        ∙ ap (onward read_b) (first.again x.0 (lines_b x.1 ++ more) fits.0 (second.opens x.1 more fits.1 behind))
        ∙ ap (beside x.0) (second.again x.1 more fits.1 behind);
    spelled = both_spelled;
    opens = λ x more fits behind. subst (λ ls. FirstIs Opens ls) (sym (append_assoc (lines_a x.0) (lines_b x.1) more))
        (first.opens x.0 (lines_b x.1 ++ more) fits.0 (second.opens x.1 more fits.1 behind));
    left = both_left;
    one_ahead = both_ahead;
  }
