-- A text of lines that are a block is read exactly; and where its reading ends before its end, no right text begins as it does.
use Rattle.std.proofs.Common.{◌≡◌, ℕ, ◌+◌, Option, List, [], ◌∷◌, ◌++◌, append_assoc, append-nil, length, length-append, arith, sym, ap, subst, ◌∙◌}
use Rattle.std.proofs.lemmas.List.Concat.{flat_map-append}
use Rattle.zk_blocks.specs.Blocks.{Reading, IsBlock}
use Rattle.zk_blocks.specs.Cut.{fed, fed_lines, cut_of, AreUnfed, IsRead, IsTextOf, FailsAt}
use Rattle.zk_blocks.proofs.Blocks.{all_again, all_spelled, one_text, stops}
use Rattle.zk_blocks.proofs.Cut.{cut_front, cut_again, same_lines, cut_spelled, cut_unfed}

module _ (feed : ℕ) where
  -- lines up to one of them have no feed where all have none
  unfed_front : (front : List (List ℕ)) (line : List ℕ) (more : List (List ℕ)) → AreUnfed feed (front ++ line ∷ more) → AreUnfed feed (front ++ line ∷ [])
  unfed_front [] line more unfed = (unfed.0, tt)
  unfed_front (l ∷ front) line more unfed = (unfed.0, unfed_front front line more unfed.1)

  module _ {A : Type 0} {lines_of : A → List (List ℕ)} {Fits : A → Type 0} {read : List (List ℕ) → Reading (List ℕ) A} {Opens Behind : List ℕ → Type 0}
      (block : IsBlock lines_of Fits read Opens Behind) (unfed : (a : A) → Fits a → AreUnfed feed (lines_of a)) where
    -- what fits is read again from its text
    pub text_again : (a : A) → Fits a → IsRead feed read (fed_lines feed (lines_of a)) a
    text_again a fits =
        let cut = cut_again feed (lines_of a) (unfed a fits) in
        (ap (λ c. read c.0) cut ∙ all_again block a fits, ap (λ c. c.1) cut)

    -- what is read has this text, and fits
    pub text_spelled : (text : List ℕ) (a : A) → IsRead feed read text a → (text ≡ fed_lines feed (lines_of a)) × Fits a
    text_spelled text a is =
        let there = all_spelled block (cut_of feed text).0 a is.0 in (
          cut_spelled feed text ∙ ap (λ ls. fed_lines feed ls ++ (cut_of feed text).1) there.0
              ∙ ap (λ p. fed_lines feed (lines_of a) ++ p) is.1 ∙ append-nil (fed_lines feed (lines_of a)),
          there.1,
        )

    -- two that fit and have one text are one
    pub one_meaning : (a b : A) → Fits a → Fits b → fed_lines feed (lines_of a) ≡ fed_lines feed (lines_of b) → a ≡ b
    one_meaning a b fits_a fits_b same =
        one_text block a b fits_a fits_b (same_lines feed (lines_of a) (lines_of b) (unfed a fits_a) (unfed b fits_b) same)

    -- where a line is left, behind so many that were taken, no text of one that fits begins so
    pub fails : (text : List ℕ) (place : ℕ) (line : List ℕ) (more : List (List ℕ)) (o : Option A) → read (cut_of feed text).0 ≡ (o, line ∷ more) →
        place + length (line ∷ more) ≡ length (cut_of feed text).0 → FailsAt feed (IsTextOf feed lines_of Fits) text place
    fails text place line more o is long =
        let there = stops block (cut_of feed text).0 more line o is in
        let clean : AreUnfed feed (there.0 ++ line ∷ []) = unfed_front there.0 line more (subst (AreUnfed feed) there.1 (cut_unfed feed text).0) in
        let whole : there.0 ++ line ∷ more ≡ (there.0 ++ line ∷ []) ++ more = sym (append_assoc there.0 (line ∷ []) more) in
        record {
          front = there.0;
          line = line;
          rest = fed_lines feed more ++ (cut_of feed text).1;
          whole = cut_spelled feed text
              ∙ ap (λ ls. fed_lines feed ls ++ (cut_of feed text).1) (there.1 ∙ whole)
              ∙ ap (λ bs. bs ++ (cut_of feed text).1) (flat_map-append (fed feed) (there.0 ++ line ∷ []) more)
              ∙ append_assoc (fed_lines feed (there.0 ++ line ∷ [])) (fed_lines feed more) (cut_of feed text).1;
          at = omega (arith, long, ap length there.1, length-append there.0 (line ∷ more));
          never = λ other right. there.2 right.0 (cut_of feed other).0 right.1
              (ap (λ c. c.0) (sym (cut_again feed (lines_of right.0) (unfed right.0 right.1)) ∙ ap (cut_of feed) (sym right.2)
              ∙ cut_front feed (there.0 ++ line ∷ []) other clean) ∙ append_assoc there.0 (line ∷ []) (cut_of feed other).0);
        }
