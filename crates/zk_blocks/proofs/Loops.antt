-- How rows, and one thing for each of some, are read one by one, as a loop does: what was read so far stands in front.
use Rattle.std.proofs.Common.{◌≡◌, Option, Some, None, List, [], ◌∷◌, ◌++◌, append_assoc, append-nil, refl, sym, ap, ◌∙◌}
use Rattle.zk_blocks.specs.Blocks.{Reading, onward, beside, made_of}
use Rattle.zk_blocks.specs.Each.{put_first, put_front, each_of}
use Rattle.zk_blocks.specs.Rows.{put_row, rows_of, put_rows}
use Rattle.zk_blocks.proofs.Blocks.{pair}

module _ {L X : Type 0} (says : Option X → L → Option X) where
  -- a line that says a row
  pub rows_on : (front : List X) (last : Option X) (line : L) (lines : List L) (x : X) → says last line ≡ Some x →
      put_rows front (rows_of says last (line ∷ lines)) ≡ put_rows (front ++ x ∷ []) (rows_of says (Some x) lines)
  rows_on front last line lines x is =
      ap (λ o. put_rows front (put_row o line lines (λ x. rows_of says (Some x) lines))) is
      ∙ pair (sym (append_assoc front (x ∷ []) (rows_of says (Some x) lines).0)) refl

  -- a line that says none
  pub rows_over : (front : List X) (last : Option X) (line : L) (lines : List L) → says last line ≡ None →
      put_rows front (rows_of says last (line ∷ lines)) ≡ (front, line ∷ lines)
  rows_over front last line lines is =
      ap (λ o. put_rows front (put_row o line lines (λ x. rows_of says (Some x) lines))) is ∙ pair (append-nil front) refl

  -- no line more
  pub rows_out : (front : List X) (last : Option X) → put_rows front (rows_of says last []) ≡ (front, [])
  rows_out front last = pair (append-nil front) refl

module _ {L D A : Type 0} (read : D → List L → Reading L A) where
  front_on : (front : List A) (a : A) (r : Reading L (List A)) →
      made_of (put_front front) (made_of put_first (beside a r)) ≡ made_of (put_front (front ++ a ∷ [])) r
  front_on front a (None, left) = refl
  front_on front a (Some each, left) = pair (ap Some (sym (append_assoc front (a ∷ []) each))) refl

  -- one of them is read
  pub each_on : (front : List A) (d : D) (ds : List D) (lines left : List L) (a : A) → read d lines ≡ (Some a, left) →
      made_of (put_front front) (each_of read (d ∷ ds) lines) ≡ made_of (put_front (front ++ a ∷ [])) (each_of read ds left)
  each_on front d ds lines left a is =
      ap (λ r. made_of (put_front front) (made_of put_first (onward (each_of read ds) r))) is ∙ front_on front a (each_of read ds left)

  -- one of them isn't
  pub each_over : (front : List A) (d : D) (ds : List D) (lines left : List L) → read d lines ≡ (None, left) →
      made_of (put_front front) (each_of read (d ∷ ds) lines) ≡ (None, left)
  each_over front d ds lines left is = ap (λ r. made_of (put_front front) (made_of put_first (onward (each_of read ds) r))) is

  -- none is left to read
  pub each_out : (front : List A) (lines : List L) → made_of (put_front front) (each_of read [] lines) ≡ (Some front, lines)
  each_out front lines = pair (ap Some (append-nil front)) refl

  -- and nothing was read so far
  pub each_begin : (ds : List D) (lines : List L) → made_of (put_front []) (each_of read ds lines) ≡ each_of read ds lines
  each_begin ds lines = by (each_of read ds lines) where
    by : (r : Reading L (List A)) → made_of (put_front []) r ≡ r
    by (None, left) = refl
    by (Some each, left) = refl
