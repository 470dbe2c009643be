-- Rows that are read one after another.
use Rattle.std.proofs.Common.{◌≡◌, ℕ, ◌+◌, ◌-◌, ◌<◌, ◌≤◌, zero, suc, true, false, Option, Some, None, List, [], ◌∷◌, ◌++◌, append_assoc, append-nil, length, length-append, slice_get, drop, get_or, drop-cons, add-one, arith, refl, sym, ap, inl, inr, ◌∙◌}
use Rattle.std.specs.Prelude.{option_map}
use Rattle.std.proofs.lemmas.Bool.{cases_lt, eqb-true, eqb-false, true≢false}
use Rattle.std.proofs.lemmas.List.{drop_all}
use Rattle.std.proofs.lemmas.Option.{same_Some, none-some}
use Rattle.zk_blocks.specs.Blocks.{Reading, said, line_of, told_by, made_of}
use Rattle.zk_blocks.specs.Each.{each_of, put_front}
use Rattle.zk_blocks.specs.Rows.{put_row, rows_of, put_just, just_rows, counted_rows}
use Rattle.zk_blocks.specs.Sections.{rows_under, titled_of}
use Rattle.zk_blocks.proofs.Blocks.{pair}
use Rattle.zk_blocks.proofs.Loops.{each_on, each_over, each_out}
use Rattle.zk_blocks.proofs.Numbers.{get_stands}
use Rattle.zk_trace.specs.SectionRead.{are_all, where_untold}

-- the last of some
abbrev pub last_of : {X : Type 0} → List X → Option X
last_of xs = slice_get xs (length xs - 1)

pub last-more : {X : Type 0} (xs : List X) (x : X) → last_of (xs ++ x ∷ []) ≡ Some x
last-more xs x =
    get_stands (xs ++ x ∷ []) (length (xs ++ x ∷ []) - 1) x (record { before = xs; more = []; whole = refl; at = omega (arith, length-append xs (x ∷ [])) })

-- how many are still to come, where a number is told
abbrev pub still : Option ℕ → ℕ → Option ℕ
still count rows = option_map (λ n. n - rows) count

-- no more were read than are told
abbrev pub IsWithin : Option ℕ → ℕ → Type 0
IsWithin None rows = Unit {0}
IsWithin (Some n) rows = rows ≤ n

lt_of : (k n : ℕ) → k ≤ n → (k ≡ n → ⊥) → k < n
lt_of k n within other = elim (cases_lt k n) [
  | inl below ↦ below
  | inr above ↦ absurd (other (omega (arith, within, above)))
]

-- as many rows as there are, as a reading
abbrev all_of : {L X : Type 0} → List X × List L → Reading L (List X)
all_of rows = (Some rows.0, rows.1)

-- rows that were read, and those that are still to come
abbrev pub reads_on : {L X : Type 0} → (Option X → L → Option X) → Option ℕ → List X → Option X → List L → Reading L (List X)
reads_on says count xs last lines = made_of (put_front xs) (counted_rows says (still count (length xs)) last lines)

module _ {L X : Type 0} (says : Option X → L → Option X) where
  -- a line that says a row, of just so many
  just_on : (n : ℕ) (last : Option X) (lines left : List L) (x : X) → line_of (says last) lines ≡ (Some x, left) →
      just_rows says (suc n) last lines ≡ made_of (λ xs. x ∷ xs) (just_rows says n (Some x) left)
  just_on n last [] left x is = absurd (none-some x (ap (λ r. r.0) is))
  just_on n last (line ∷ lines) left x is = by (says last line) is where
    by : (o : Option X) → said o line lines ≡ (Some x, left) →
        put_just o line lines (λ y. just_rows says n (Some y) lines) ≡ made_of (λ xs. x ∷ xs) (just_rows says n (Some x) left)
    by None is = absurd (none-some x (ap (λ r. r.0) is))
    by (Some y) is =
        ap (λ z. made_of (λ xs. z ∷ xs) (just_rows says n (Some z) lines)) (same_Some y x (ap (λ r. r.0) is))
        ∙ ap (λ ls. made_of (λ xs. x ∷ xs) (just_rows says n (Some x) ls)) (ap (λ r. r.1) is)

  -- one that says none
  just_over : (n : ℕ) (last : Option X) (lines left : List L) → line_of (says last) lines ≡ (None, left) → just_rows says (suc n) last lines ≡ (None, left)
  just_over n last [] left is = pair refl (ap (λ r. r.1) is)
  just_over n last (line ∷ lines) left is = by (says last line) is where
    by : (o : Option X) → said o line lines ≡ (None, left) → put_just o line lines (λ y. just_rows says n (Some y) lines) ≡ (None, left)
    by None is = pair refl (ap (λ r. r.1) is)
    by (Some y) is = absurd (none-some y (ap (λ r. r.0) (sym is)))

  -- the same of as many as there are
  rows_more : (last : Option X) (lines left : List L) (x : X) → line_of (says last) lines ≡ (Some x, left) →
      counted_rows says None last lines ≡ made_of (λ xs. x ∷ xs) (counted_rows says None (Some x) left)
  rows_more last [] left x is = absurd (none-some x (ap (λ r. r.0) is))
  rows_more last (line ∷ lines) left x is = by (says last line) is where
    by : (o : Option X) → said o line lines ≡ (Some x, left) →
        all_of (put_row o line lines (λ y. rows_of says (Some y) lines)) ≡ made_of (λ xs. x ∷ xs) (counted_rows says None (Some x) left)
    by None is = absurd (none-some x (ap (λ r. r.0) is))
    by (Some y) is =
        ap (λ z. made_of (λ xs. z ∷ xs) (counted_rows says None (Some z) lines)) (same_Some y x (ap (λ r. r.0) is))
        ∙ ap (λ ls. made_of (λ xs. x ∷ xs) (counted_rows says None (Some x) ls)) (ap (λ r. r.1) is)

  rows_past : (last : Option X) (lines left : List L) → line_of (says last) lines ≡ (None, left) → counted_rows says None last lines ≡ (Some [], left)
  rows_past last [] left is = pair refl (ap (λ r. r.1) is)
  rows_past last (line ∷ lines) left is = by (says last line) is where
    by : (o : Option X) → said o line lines ≡ (None, left) → all_of (put_row o line lines (λ y. rows_of says (Some y) lines)) ≡ (Some [], left)
    by None is = pair refl (ap (λ r. r.1) is)
    by (Some y) is = absurd (none-some y (ap (λ r. r.0) (sym is)))

  -- what was read so far stands in front of one more
  front_more : (xs : List X) (x : X) (r : Reading L (List X)) → made_of (put_front xs) (made_of (λ ys. x ∷ ys) r) ≡ made_of (put_front (xs ++ x ∷ [])) r
  front_more xs x (None, left) = refl
  front_more xs x (Some ys, left) = pair (ap Some (sym (append_assoc xs (x ∷ []) ys))) refl

  -- nothing was read so far
  pub counted_begin : (count : Option ℕ) (lines : List L) → counted_rows says count None lines ≡ reads_on says count [] (last_of []) lines
  counted_begin count lines = sym (front_none (counted_rows says (still count 0) None lines) ∙ ap (λ c. counted_rows says c None lines) (all_still count)) where
    front_none : (r : Reading L (List X)) → made_of (put_front []) r ≡ r
    front_none (None, left) = refl
    front_none (Some xs, left) = refl

    all_still : (count : Option ℕ) → still count 0 ≡ count
    all_still None = refl
    all_still (Some n) = ap Some (omega arith)

  -- one more row
  go_more : (count : Option ℕ) (xs : List X) (x : X) (last : Option X) (now left : List L) → are_all count (length xs) ≡ false → IsWithin count (length xs) →
      line_of (says last) now ≡ (Some x, left) → reads_on says count xs last now ≡ reads_on says count (xs ++ x ∷ []) (Some x) left
  go_more None xs x last now left some within is = ap (made_of (put_front xs)) (rows_more last now left x is) ∙ front_more xs x (counted_rows says None (Some x) left)
  go_more (Some n) xs x last now left some within is =
      let less = eqb-false (length xs) n some in
      let one : n - length xs ≡ suc (n - (length xs + 1)) = omega (arith, within, lt_of (length xs) n within less) in
      let rest : n - (length xs + 1) ≡ n - length (xs ++ x ∷ []) = omega (arith, length-append xs (x ∷ [])) in
      ap (λ m. made_of (put_front xs) (just_rows says m last now)) one
      ∙ ap (made_of (put_front xs)) (just_on (n - (length xs + 1)) last now left x is)
      ∙ ap (λ m. made_of (put_front xs) (made_of (λ ys. x ∷ ys) (just_rows says m (Some x) left))) rest
      ∙ front_more xs x (just_rows says (n - length (xs ++ x ∷ [])) (Some x) left)

  pub counted_more : (count : Option ℕ) (xs : List X) (x : X) (last : Option X) (now left : List L) → are_all count (length xs) ≡ false → IsWithin count (length xs) →
      line_of (says last) now ≡ (Some x, left) → reads_on says count xs last now ≡ reads_on says count (xs ++ x ∷ []) (last_of (xs ++ x ∷ [])) left
  counted_more count xs x last now left some within is =
      go_more count xs x last now left some within is ∙ ap (λ l. reads_on says count (xs ++ x ∷ []) l left) (sym (last-more xs x))

  -- there are still no more than are told
  pub within_more : (count : Option ℕ) (xs : List X) (x : X) → are_all count (length xs) ≡ false → IsWithin count (length xs) → IsWithin count (length (xs ++ x ∷ []))
  within_more None xs x some within = tt
  within_more (Some n) xs x some within = omega (arith, within, lt_of (length xs) n within (eqb-false (length xs) n some), length-append xs (x ∷ []))

  -- these are all
  pub counted_all : (count : Option ℕ) (xs : List X) (last : Option X) (now : List L) → are_all count (length xs) ≡ true → reads_on says count xs last now ≡ (Some xs, now)
  counted_all None xs last now all = absurd (true≢false (sym all))
  counted_all (Some n) xs last now all =
      let none : n - length xs ≡ zero = omega (arith, eqb-true (length xs) n all) in
      ap (λ m. made_of (put_front xs) (just_rows says m last now)) none ∙ pair (ap Some (append-nil xs)) refl

  -- no more come: these are all where no number is told, and else too few
  pub counted_over : (count : Option ℕ) (xs : List X) (last : Option X) (now left : List L) → are_all count (length xs) ≡ false → IsWithin count (length xs) →
      line_of (says last) now ≡ (None, left) → reads_on says count xs last now ≡ (where_untold count xs, left)
  counted_over None xs last now left some within is = ap (made_of (put_front xs)) (rows_past last now left is) ∙ pair (ap Some (append-nil xs)) refl
  counted_over (Some n) xs last now left some within is =
      let one : n - length xs ≡ suc (n - (length xs + 1)) = omega (arith, within, lt_of (length xs) n within (eqb-false (length xs) n some)) in
      ap (λ m. made_of (put_front xs) (just_rows says m last now)) one ∙ ap (made_of (put_front xs)) (just_over (n - (length xs + 1)) last now left is)

-- what is seen of all is all that is seen
pub untold-seen : {A B : Type 0} (view : A → B) (count : Option ℕ) (all : A) → option_map view (where_untold count all) ≡ where_untold count (view all)
untold-seen view None all = refl
untold-seen view (Some n) all = refl

-- no more than none were read
pub within_none : (count : Option ℕ) → IsWithin count 0
within_none None = tt
within_none (Some n) = omega arith

-- one more of those for each of some
pub each_more : {L D A : Type 0} (read : D → List L → Reading L A) (ds : List D) (place : ℕ) (d : D) (front : List A) (a : A) (old now new : List L) →
    place < length ds → d ≡ get_or ds place d →
    each_of read ds old ≡ made_of (put_front front) (each_of read (drop place ds) now) → read d now ≡ (Some a, new) →
    each_of read ds old ≡ made_of (put_front (front ++ a ∷ [])) (each_of read (drop (place + 1) ds) new)
each_more read ds place d front a old now new within there before more =
    before
    ∙ ap (λ rest. made_of (put_front front) (each_of read rest now)) (drop-cons ds place d within ∙ ap (λ x. x ∷ drop (suc place) ds) (sym there))
    ∙ each_on read front d (drop (suc place) ds) now new a more
    ∙ ap (λ n. made_of (put_front (front ++ a ∷ [])) (each_of read (drop n ds) new)) (sym (add-one place))

module _ {L D A : Type 0} (read : D → List L → Reading L A) (ds : List D) (place : ℕ) (front : List A) (old now new : List L) (before : each_of read ds old ≡ made_of (put_front front) (each_of read (drop place ds) now)) where
  -- one isn't there
  pub each_less : (d : D) → place < length ds → d ≡ get_or ds place d → read d now ≡ (None, new) → each_of read ds old ≡ (None, new)
  each_less d within there none =
      before
      ∙ ap (λ rest. made_of (put_front front) (each_of read rest now)) (drop-cons ds place d within ∙ ap (λ x. x ∷ drop (suc place) ds) (sym there))
      ∙ each_over read front d (drop (suc place) ds) now new none

  -- all are read
  pub each_end : length ds ≤ place → each_of read ds old ≡ (Some front, now)
  each_end past = before ∙ ap (λ rest. made_of (put_front front) (each_of read rest now)) (drop_all place ds past) ∙ each_out read front now

-- a title and the rows under it
module _ {L S X : Type 0} (title : L → Option (S × Option ℕ)) (says : Option X → L → Option X) (lines : List L) (line : L) (rest left : List L) (s : S) (count : Option ℕ)
    (is : lines ≡ line ∷ rest) (known : title line ≡ Some (s, count)) where
  pub titled_there : (xs : List X) → counted_rows says count None rest ≡ (Some xs, left) → titled_of title says lines ≡ (Some (s, xs), left)
  titled_there xs rows =
      ap (titled_of title says) is ∙ ap (λ o. told_by (rows_under says) o line rest) known ∙ ap (made_of (λ all. (s, all))) rows

  -- too few of them
  pub titled_short : counted_rows says count None rest ≡ (None, left) → titled_of title says lines ≡ (None, left)
  titled_short rows =
      ap (titled_of title says) is ∙ ap (λ o. told_by (rows_under says) o line rest) known ∙ ap (made_of (λ all. (s, all))) rows
