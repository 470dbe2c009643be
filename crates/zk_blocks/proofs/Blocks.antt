-- What follows from a block that is read exactly; and the least blocks: no line, and one line.
use Rattle.std.proofs.Common.{◌≡◌, Option, Some, None, List, [], ◌∷◌, ◌++◌, length, length-append, append-nil, arith, refl, sym, ap, subst, ◌∙◌}
use Rattle.std.proofs.lemmas.Option.{same_Some, none-some}
use Rattle.std.proofs.lemmas.List.{append_cancel_right}
use Rattle.zk_blocks.specs.Blocks.{FirstIs, Reading, IsBlock, nothing_of, said, line_of}
use Rattle.zk_blocks.specs.Exact.{IsExact}

-- two pairs of equal parts are equal
pub pair : {A B : Type 0} {a c : A} {b d : B} → a ≡ c → b ≡ d → ◌≡◌ {A = A × B} (a, b) (c, d)
pair {A = A} {B = B} {a = a} {c = c} {b = b} {d = d} first second = ap (λ (x : A). (x, b)) first ∙ ap (λ (y : B). (c, y)) second

-- what is as long with something in front has nothing there
pub same_end : {L : Type 0} (before xs : List L) → before ++ xs ≡ xs → before ≡ []
same_end before xs is = append_cancel_right before [] xs is

-- what is left of lines behind a first one is shorter than they are
pub never_longer : {L : Type 0} {A : Type 0} (line : L) (lines before left : List L) → lines ≡ before ++ left → left ≡ line ∷ lines → A
never_longer line lines before left is longer = absurd (omega (arith, ap length is, ap length longer, length-append before left))

module _ {L A : Type 0} {lines_of : A → List L} {Fits : A → Type 0} {read : List L → Reading L A} {Opens Behind : L → Type 0}
    (block : IsBlock lines_of Fits read Opens Behind) where
  -- what fits is read again from its lines alone
  pub all_again : (a : A) → Fits a → read (lines_of a) ≡ (Some a, [])
  all_again a fits = ap read (sym (append-nil (lines_of a))) ∙ block.again a [] fits tt

  -- what is read of lines up to their end has these lines
  pub all_spelled : (lines : List L) (a : A) → read lines ≡ (Some a, []) → (lines ≡ lines_of a) × Fits a
  all_spelled lines a is = let there = block.spelled lines [] a is in (there.0 ∙ append-nil (lines_of a), there.1)

  -- two that fit and have the same lines are one
  pub one_text : (a b : A) → Fits a → Fits b → lines_of a ≡ lines_of b → a ≡ b
  one_text a b fits_a fits_b same = same_Some a b (ap (λ r. r.0) (sym (all_again a fits_a) ∙ ap read same ∙ all_again b fits_b))

  -- what is read, and where that ends, is known by the lines up to the first that is left, also where more of them are known
  pub farther : (before mid more other : List L) (line : L) (o : Option A) →
      read (before ++ (mid ++ line ∷ more)) ≡ (o, mid ++ line ∷ more) → read (before ++ (mid ++ line ∷ other)) ≡ (o, mid ++ line ∷ other)
  farther before [] more other line o is = block.one_ahead before more other line o is
  farther before (z ∷ mid) more other line o is = block.one_ahead before (mid ++ line ∷ more) (mid ++ line ∷ other) z o is

  -- the first line that is left stands behind the same lines in no text of one that fits
  pub can't_stand : (before more other : List L) (line : L) (o : Option A) → read (before ++ line ∷ more) ≡ (o, line ∷ more) →
      (a : A) → Fits a → lines_of a ≡ before ++ line ∷ other → ⊥
  can't_stand before more other line o is a fits text =
      let left = ap (λ r. r.1) (sym (all_again a fits) ∙ ap read text ∙ block.one_ahead before more other line o is) in
      omega (arith, ap length left)

  -- where a line is left, it has its place among the lines, and there it can't stand
  pub stops : (lines more : List L) (line : L) (o : Option A) → read lines ≡ (o, line ∷ more) →
      (before : List L) × (lines ≡ before ++ line ∷ more) × ((a : A) (other : List L) → Fits a → lines_of a ≡ before ++ line ∷ other → ⊥)
  stops lines more line o is =
      let there = block.left lines in
      let whole : lines ≡ there.0 ++ line ∷ more = there.1 ∙ ap (λ r. there.0 ++ r.1) is in
      (there.0, whole, λ a other fits text. can't_stand there.0 more other line o (ap read (sym whole) ∙ is) a fits text)

  -- the sorts of lines that open it and that stand behind it may be said more loosely
  pub looser : {Opens2 Behind2 : L → Type 0} → ((line : L) → Opens line → Opens2 line) → ((line : L) → Behind2 line → Behind line) →
      IsBlock lines_of Fits read Opens2 Behind2
  looser {Opens2 = Opens2} {Behind2 = Behind2} wider closer = record {
    again = λ a more fits behind. block.again a more fits (change Behind2 Behind closer more behind);
    spelled = block.spelled;
    opens = λ a more fits behind. change Opens Opens2 wider (lines_of a ++ more) (block.opens a more fits (change Behind2 Behind closer more behind));
    left = block.left;
    one_ahead = block.one_ahead;
  } where
    change : (P Q : L → Type 0) → ((line : L) → P line → Q line) → (lines : List L) → FirstIs P lines → FirstIs Q lines
    change P Q f [] is = tt
    change P Q f (line ∷ lines) is = f line is

  -- what fits may be said otherwise
  pub same_fits : {Fits2 : A → Type 0} → ((a : A) → Fits2 a → Fits a) → ((a : A) → Fits a → Fits2 a) → IsBlock lines_of Fits2 read Opens Behind
  same_fits back forth = record {
    again = λ a more fits behind. block.again a more (back a fits) behind;
    spelled = λ lines more a is. let there = block.spelled lines more a is in (there.0, forth a there.1);
    opens = λ a more fits behind. block.opens a more (back a fits) behind;
    left = block.left;
    one_ahead = block.one_ahead;
  }

-- no lines are read exactly
pub nothing : {L : Type 0} (Sort : L → Type 0) → IsBlock {L = L} {A = Unit {0}} (λ u. []) (λ u. Unit {0}) nothing_of Sort Sort
nothing Sort = record {
  again = λ a more fits behind. refl;
  spelled = λ lines more a is. (ap (λ r. r.1) is, tt);
  opens = λ a more fits behind. behind;
  left = λ lines. ([], refl);
  one_ahead = λ before more other line o is.
      pair (ap (λ r. r.0) is) (ap (λ b. b ++ line ∷ other) (same_end before (line ∷ more) (ap (λ r. r.1) is)));
}

module _ {L A : Type 0} {text : A → L} {Fits : A → Type 0} {says : L → Option A} (exact : IsExact text Fits says) where
  one_spelled : (lines more : List L) (a : A) → line_of says lines ≡ (Some a, more) → (lines ≡ text a ∷ more) × Fits a
  one_spelled [] more a is = absurd (none-some a (ap (λ r. r.0) is))
  one_spelled (line ∷ lines) more a is = by (says line) refl is where
    by : (o : Option A) → says line ≡ o → said o line lines ≡ (Some a, more) → (line ∷ lines ≡ text a ∷ more) × Fits a
    by None is_said is = absurd (none-some a (ap (λ r. r.0) is))
    by (Some b) is_said is =
        let there = exact.spelled line b is_said in
        subst (λ x. (line ∷ lines ≡ text x ∷ more) × Fits x) (same_Some b a (ap (λ r. r.0) is))
        (ap (λ l. l ∷ lines) there.0 ∙ ap (λ ls. text b ∷ ls) (ap (λ r. r.1) is), there.1)

  one_left : (lines : List L) → (before : List L) × (lines ≡ before ++ (line_of says lines).1)
  one_left [] = ([], refl)
  one_left (line ∷ lines) = by (says line) where
    by : (o : Option A) → (before : List L) × (line ∷ lines ≡ before ++ (said o line lines).1)
    by None = ([], refl)
    by (Some a) = (line ∷ [], refl)

  one_line_ahead : (before more other : List L) (line : L) (o : Option A) →
      line_of says (before ++ line ∷ more) ≡ (o, line ∷ more) → line_of says (before ++ line ∷ other) ≡ (o, line ∷ other)
  one_line_ahead [] more other line o is = by (says line) is where
    by : (p : Option A) → said p line more ≡ (o, line ∷ more) → said p line other ≡ (o, line ∷ other)
    by None is = pair (ap (λ r. r.0) is) refl
    by (Some a) is = never_longer line more [] more refl (ap (λ r. r.1) is)
  one_line_ahead (b ∷ before) more other line o is = by (says b) is where
    by : (p : Option A) → said p b (before ++ line ∷ more) ≡ (o, line ∷ more) → said p b (before ++ line ∷ other) ≡ (o, line ∷ other)
    by None is = absurd (omega (arith, ap (λ r. length r.1) is, length-append (b ∷ before) (line ∷ more)))
    by (Some a) is = pair (ap (λ r. r.0) is) (ap (λ b. b ++ line ∷ other) (same_end before (line ∷ more) (ap (λ r. r.1) is)))

  -- one line is read exactly, of whatever sort it is, and before whatever lines
  pub one_line : (Opens Behind : L → Type 0) → ((a : A) → Fits a → Opens (text a)) → IsBlock (λ a. text a ∷ []) Fits (line_of says) Opens Behind
  one_line Opens Behind opens = record {
    again = λ a more fits behind. ap (λ o. said o (text a) more) (exact.again a fits);
    spelled = one_spelled;
    opens = λ a more fits behind. opens a fits;
    left = one_left;
    one_ahead = one_line_ahead;
  }
