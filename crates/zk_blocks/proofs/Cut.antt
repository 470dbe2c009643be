-- The text of lines is cut into these lines again; and a text is that of the lines that it is cut into, and the piece behind them.
use Rattle.std.proofs.Common.{◌≡◌, ℕ, eqb, ◌==◌, true, false, List, [], ◌∷◌, ◌++◌, append_assoc, append-nil, eq-eqb, eqb-true, refl, sym, ap, subst, inl, inr, ◌∙◌}
use Rattle.std.specs.List.{slice_split, onto_first}
use Rattle.std.proofs.lemmas.Bool.{cases_Bool, cond-true, cond-false}
use Rattle.std.proofs.lemmas.List.Splits.{slice_split-cons_yes, slice_split-cons_no}
use Rattle.zk_blocks.specs.Cut.{fed, fed_lines, put_byte, put_feed, cut_of, IsUnfed, AreUnfed}
use Rattle.zk_blocks.proofs.Blocks.{pair}

module _ (feed : ℕ) where
  cut-feed : (b : ℕ) (bs : List ℕ) → eqb b feed ≡ true → cut_of feed (b ∷ bs) ≡ put_feed (cut_of feed bs)
  cut-feed b bs is = cond-true (eqb b feed) (put_feed (cut_of feed bs)) (put_byte b (cut_of feed bs)) is

  cut-byte : (b : ℕ) (bs : List ℕ) → eqb b feed ≡ false → cut_of feed (b ∷ bs) ≡ put_byte b (cut_of feed bs)
  cut-byte b bs is = cond-false (eqb b feed) (put_feed (cut_of feed bs)) (put_byte b (cut_of feed bs)) is

  cut-line : (line rest : List ℕ) → IsUnfed feed line → cut_of feed (line ++ feed ∷ rest) ≡ (line ∷ (cut_of feed rest).0, (cut_of feed rest).1)
  cut-line [] rest unfed = cut-feed feed rest (eq-eqb feed feed refl)
  cut-line (b ∷ bs) rest unfed = cut-byte b (bs ++ feed ∷ rest) unfed.0 ∙ ap (put_byte b) (cut-line bs rest unfed.1)

  -- the lines at the front of a text are cut off
  pub cut_front : (lines : List (List ℕ)) (rest : List ℕ) → AreUnfed feed lines →
      cut_of feed (fed_lines feed lines ++ rest) ≡ (lines ++ (cut_of feed rest).0, (cut_of feed rest).1)
  cut_front [] rest unfed = refl
  cut_front (line ∷ lines) rest unfed =
      ap (cut_of feed) (append_assoc (fed feed line) (fed_lines feed lines) rest ∙ append_assoc line (feed ∷ []) (fed_lines feed lines ++ rest))
      ∙ cut-line line (fed_lines feed lines ++ rest) unfed.0
      ∙ ap (λ (c : List (List ℕ) × List ℕ). (line ∷ c.0, c.1)) (cut_front lines rest unfed.1)

  -- the text of lines is cut into these lines
  pub cut_again : (lines : List (List ℕ)) → AreUnfed feed lines → cut_of feed (fed_lines feed lines) ≡ (lines, [])
  cut_again lines unfed =
      ap (cut_of feed) (sym (append-nil (fed_lines feed lines))) ∙ cut_front lines [] unfed ∙ pair (append-nil lines) refl

  -- lines without feeds that have one text are the same
  pub same_lines : (lines others : List (List ℕ)) → AreUnfed feed lines → AreUnfed feed others → fed_lines feed lines ≡ fed_lines feed others → lines ≡ others
  same_lines lines others unfed others_unfed same =
      ap (λ c. c.0) (sym (cut_again lines unfed) ∙ ap (cut_of feed) same ∙ cut_again others others_unfed)

  put_spelled : (b : ℕ) (cut : List (List ℕ) × List ℕ) → fed_lines feed (put_byte b cut).0 ++ (put_byte b cut).1 ≡ b ∷ (fed_lines feed cut.0 ++ cut.1)
  put_spelled b ([], piece) = refl
  put_spelled b ((line ∷ lines), piece) = refl

  -- a text is that of its lines, and the piece behind them
  pub cut_spelled : (text : List ℕ) → text ≡ fed_lines feed (cut_of feed text).0 ++ (cut_of feed text).1
  cut_spelled [] = refl
  cut_spelled (b ∷ bs) = elim (cases_Bool (eqb b feed)) [
    | inl is ↦ ap (λ x. x ∷ bs) (eqb-true b feed is) ∙ ap (λ ls. feed ∷ ls) (cut_spelled bs)
        ∙ sym (ap (λ (c : List (List ℕ) × List ℕ). fed_lines feed c.0 ++ c.1) (cut-feed b bs is))
    | inr other ↦ ap (λ ls. b ∷ ls) (cut_spelled bs) ∙ sym (put_spelled b (cut_of feed bs))
        ∙ sym (ap (λ (c : List (List ℕ) × List ℕ). fed_lines feed c.0 ++ c.1) (cut-byte b bs other))
  ]

  -- the pieces between the feeds of a text are its lines, and the piece behind them
  pub cut_pieces : (text : List ℕ) → slice_split (λ b. b == feed) text ≡ (cut_of feed text).0 ++ (cut_of feed text).1 ∷ []
  cut_pieces [] = refl
  cut_pieces (b ∷ bs) = elim (cases_Bool (eqb b feed)) [
    | inl is ↦ slice_split-cons_yes (λ b. b == feed) b bs is ∙ ap (λ ps. [] ∷ ps) (cut_pieces bs)
        ∙ sym (ap (λ (c : List (List ℕ) × List ℕ). c.0 ++ c.1 ∷ []) (cut-feed b bs is))
    | inr other ↦ slice_split-cons_no (λ b. b == feed) b bs other ∙ ap (onto_first b) (cut_pieces bs) ∙ onto (cut_of feed bs)
        ∙ sym (ap (λ (c : List (List ℕ) × List ℕ). c.0 ++ c.1 ∷ []) (cut-byte b bs other))
  ] where
    onto : (cut : List (List ℕ) × List ℕ) → onto_first b (cut.0 ++ cut.1 ∷ []) ≡ (put_byte b cut).0 ++ (put_byte b cut).1 ∷ []
    onto ([], piece) = refl
    onto ((line ∷ lines), piece) = refl

  abbrev IsCut : List (List ℕ) × List ℕ → Type 0
  IsCut cut = AreUnfed feed cut.0 × IsUnfed feed cut.1

  -- no feed is in them
  pub cut_unfed : (text : List ℕ) → AreUnfed feed (cut_of feed text).0 × IsUnfed feed (cut_of feed text).1
  cut_unfed [] = (tt, tt)
  cut_unfed (b ∷ bs) = elim (cases_Bool (eqb b feed)) [
    | inl is ↦ let there = cut_unfed bs in subst IsCut (sym (cut-feed b bs is)) ((tt, there.0), there.1)
    | inr other ↦ subst IsCut (sym (cut-byte b bs other)) (put (cut_of feed bs) other (cut_unfed bs))
  ] where
    put : (cut : List (List ℕ) × List ℕ) → eqb b feed ≡ false → IsCut cut → IsCut (put_byte b cut)
    put ([], piece) other is = (tt, (other, is.1))
    put ((line ∷ lines), piece) other is = (((other, is.0.0), is.0.1), is.1)
