-- A line that tells of what stands behind it, and that, are read exactly.
use Rattle.std.proofs.Common.{◌≡◌, Option, Some, None, List, [], ◌∷◌, ◌++◌, length, length-append, arith, refl, ap, ◌∙◌}
use Rattle.std.proofs.lemmas.Option.{none-some}
use Rattle.zk_blocks.specs.Blocks.{Reading, IsBlock, told_by, told_of, told_lines}
use Rattle.zk_blocks.specs.Heads.{IsHead}
use Rattle.zk_blocks.proofs.Blocks.{pair, never_longer}

module _ {H L A : Type 0} {head : A → L} {lines_of : A → List L} {Fits : A → Type 0} {head_of : L → Option H} {Tells : H → A → Type 0}
    {read : H → List L → Reading L A} {Inner Behind : L → Type 0}
    (heads : IsHead head Fits head_of Tells) (inner : (line : L) (h : H) → head_of line ≡ Some h → IsBlock lines_of (λ a. Fits a × Tells h a) (read h) Inner Behind) where
  told_spelled : (lines more : List L) (a : A) → told_of head_of read lines ≡ (Some a, more) → (lines ≡ told_lines head lines_of a ++ more) × Fits a
  told_spelled [] more a is = absurd (none-some a (ap (λ r. r.0) is))
  told_spelled (line ∷ lines) more a is = by (head_of line) refl is where
    by : (o : Option H) → head_of line ≡ o → told_by read o line lines ≡ (Some a, more) → (line ∷ lines ≡ told_lines head lines_of a ++ more) × Fits a
    by None known is = absurd (none-some a (ap (λ r. r.0) is))
    by (Some h) known is =
        let there = (inner line h known).spelled lines more a is in
        (ap (λ l. l ∷ lines) (heads.spelled line h a known there.1.1) ∙ ap (λ ls. head a ∷ ls) there.0, there.1.0)

  told_left : (lines : List L) → (before : List L) × (lines ≡ before ++ (told_of head_of read lines).1)
  told_left [] = ([], refl)
  told_left (line ∷ lines) = by (head_of line) refl where
    by : (o : Option H) → head_of line ≡ o → (before : List L) × (line ∷ lines ≡ before ++ (told_by read o line lines).1)
    by None known = ([], refl)
    by (Some h) known = let there = (inner line h known).left lines in (line ∷ there.0, ap (λ ls. line ∷ ls) there.1)

  told_ahead : (before more other : List L) (line : L) (o : Option A) →
      told_of head_of read (before ++ line ∷ more) ≡ (o, line ∷ more) → told_of head_of read (before ++ line ∷ other) ≡ (o, line ∷ other)
  told_ahead [] more other line o is = by (head_of line) refl is where
    by : (p : Option H) → head_of line ≡ p → told_by read p line more ≡ (o, line ∷ more) → told_by read p line other ≡ (o, line ∷ other)
    by None known is = pair (ap (λ r. r.0) is) refl
    by (Some h) known is = let there = (inner line h known).left more in never_longer line more there.0 (read h more).1 there.1 (ap (λ r. r.1) is)
  told_ahead (b ∷ before) more other line o is = by (head_of b) refl is where
    by : (p : Option H) → head_of b ≡ p → told_by read p b (before ++ line ∷ more) ≡ (o, line ∷ more) → told_by read p b (before ++ line ∷ other) ≡ (o, line ∷ other)
    by None known is = absurd (omega (arith, ap (λ r. length r.1) is, length-append (b ∷ before) (line ∷ more)))
    by (Some h) known is = (inner b h known).one_ahead before more other line o is

  -- a line that tells of what stands behind it, and that, are read exactly
  pub told : (Opens : L → Type 0) → ((a : A) → Fits a → Opens (head a)) → IsBlock (told_lines head lines_of) Fits (told_of head_of read) Opens Behind
  told Opens opens = record {
    again = λ a more fits behind. let known = heads.again a fits in
        ap (λ o. told_by read o (head a) (lines_of a ++ more)) known.1 ∙ (inner (head a) known.0 known.1).again a more (fits, known.2) behind;
    spelled = told_spelled;
    opens = λ a more fits behind. opens a fits;
    left = told_left;
    one_ahead = told_ahead;
  }
