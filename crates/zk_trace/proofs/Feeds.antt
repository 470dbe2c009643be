-- The lines of a text that have their line feed, by the first of them, and how many there are.
use Rattle.std.proofs.Common.{◌≡◌, ℕ, eqb, Bool, true, false, if◌then◌else◌, Option, Some, None, List, [], ◌∷◌, ◌++◌, count_by, append_assoc, append-nil, length, length-append, arith, refl, sym, ap, subst, inl, inr, ◌∙◌}
use Rattle.std.specs.Prelude.{option_map}
use Rattle.std.proofs.lemmas.Bool.{cases_Bool, cond-true, cond-false, ne_eqb}
use Rattle.std.proofs.lemmas.List.Splits.{length-slice_split}
use Rattle.std.proofs.lemmas.Option.{same_Some, none-some}
use Rattle.zk_blocks.specs.Cut.{cut_of, put_byte, put_feed}
use Rattle.zk_blocks.proofs.Cut.{cut_front, cut_pieces}
use Rattle.zk_words.specs.Bytes.{line_feed}
use Rattle.zk_line.proofs.Options.{one_part}
use Rattle.zk_trace.specs.Exact.{Lacks}
use Rattle.zk_trace.specs.Feeds.{lines_in}
use Rattle.zk_trace.specs.Sides.{longer, halves}
use Rattle.zk_trace.proofs.Sides.{halves-spelled}

-- what is in front of the first of a byte lacks it
pub halves-lacks : (byte : ℕ) (text : List ℕ) (h : List ℕ × List ℕ) → halves byte text ≡ Some h → Lacks byte h.0
halves-lacks byte [] h said = absurd (none-some h said)
halves-lacks byte (b ∷ bs) h said = elim (cases_Bool (eqb b byte)) [
  | inl is ↦ subst (λ (k : List ℕ × List ℕ). Lacks byte k.0)
      (same_Some ([], bs) h (sym (cond-true (eqb b byte) (Some ([], bs)) (option_map (longer b) (halves byte bs)) is) ∙ said)) tt
  | inr other ↦
      let k = one_part (longer b) (halves byte bs) h (sym (cond-false (eqb b byte) (Some ([], bs)) (option_map (longer b) (halves byte bs)) other) ∙ said) in
      subst (λ (x : List ℕ × List ℕ). Lacks byte x.0) k.2 (other, halves-lacks byte bs k.0 k.1)
]

-- the first line, and those behind its feed
pub lines-there : (text line rest : List ℕ) → halves line_feed text ≡ Some (line, rest) → lines_in text ≡ line ∷ lines_in rest
lines-there text line rest is =
    let fed : List ℕ = line ++ line_feed ∷ [] in
    ap lines_in (halves-spelled line_feed text line rest is ∙ sym (ap (λ l. l ++ rest) (append-nil fed) ∙ append_assoc line (line_feed ∷ []) rest))
    ∙ ap (λ c. c.0) (cut_front line_feed (line ∷ []) rest (halves-lacks line_feed text (line, rest) is, tt))

-- no line where there is no feed
pub lines-nowhere : (text : List ℕ) → halves line_feed text ≡ None → lines_in text ≡ []
lines-nowhere [] is = refl
lines-nowhere (b ∷ bs) is = elim (cases_Bool (eqb b line_feed)) [
  | inl it ↦ absurd (none-some ([], bs) (sym is ∙ cond-true (eqb b line_feed) (Some ([], bs)) (option_map (longer b) (halves line_feed bs)) it))
  | inr other ↦
      ap (λ c. c.0) (cond-false (eqb b line_feed) (put_feed (cut_of line_feed bs)) (put_byte b (cut_of line_feed bs)) other)
      ∙ by (cut_of line_feed bs) (lines-nowhere bs (none (halves line_feed bs) (sym (cond-false (eqb b line_feed) (Some ([], bs)) (option_map (longer b) (halves line_feed bs)) other) ∙ is)))
] where
  by : (cut : List (List ℕ) × List ℕ) → cut.0 ≡ [] → (put_byte b cut).0 ≡ []
  by ([], piece) none = refl
  by ((line ∷ lines), piece) none = absurd (let longer = ap length none in omega arith)

  none : (o : Option (List ℕ × List ℕ)) → option_map (longer b) o ≡ None → o ≡ None
  none None is = refl
  none (Some h) is = absurd (none-some (longer b h) (sym is))

-- as many lines as feeds
pub lines-count : (text : List ℕ) → length (lines_in text) ≡ count_by (λ b. eqb b line_feed) text
lines-count text =
    omega (arith, length-slice_split (λ b. eqb b line_feed) text, ap length (cut_pieces line_feed text), length-append (lines_in text) ((cut_of line_feed text).1 ∷ []))

-- Nothing is behind the last feed just where a text ends with it.

abbrev HasLine : List (List ℕ) → Type 0
HasLine [] = ⊥
HasLine (line ∷ lines) = Unit {0}

fed-end : (front : List ℕ) → ((cut_of line_feed (front ++ line_feed ∷ [])).1 ≡ []) × HasLine (cut_of line_feed (front ++ line_feed ∷ [])).0
fed-end [] = (refl, tt)
fed-end (b ∷ front) = by (eqb b line_feed) (cut_of line_feed (front ++ line_feed ∷ [])) (fed-end front) where
  by : (is : Bool) (cut : List (List ℕ) × List ℕ) → (cut.1 ≡ []) × HasLine cut.0 → ((if is then put_feed cut else put_byte b cut).1 ≡ []) × HasLine (if is then put_feed cut else put_byte b cut).0
  by true cut there = (there.0, tt)
  by false ([], piece) there = absurd there.1
  by false ((line ∷ lines), piece) there = there

other-end : (front : List ℕ) (b : ℕ) → (b ≡ line_feed → ⊥) → (cut_of line_feed (front ++ b ∷ [])).1 ≡ [] → ⊥
other-end [] b other none = some (sym (ap (λ c. c.1) (cond-false (eqb b line_feed) (put_feed ([], [])) (put_byte b ([], [])) (ne_eqb b line_feed other))) ∙ none) where
  some : b ∷ [] ≡ [] → ⊥
  some is = let longer = ap length is in omega arith
other-end (a ∷ front) b other none = by (eqb a line_feed) (cut_of line_feed (front ++ b ∷ [])) (other-end front b other) none where
  by : (is : Bool) (cut : List (List ℕ) × List ℕ) → (cut.1 ≡ [] → ⊥) → (if is then put_feed cut else put_byte a cut).1 ≡ [] → ⊥
  by true cut some none = some none
  by false ([], piece) some none = let longer = ap length none in omega arith
  by false ((line ∷ lines), piece) some none = some none

pub fed-is : (text front : List ℕ) (last : ℕ) → text ≡ front ++ last ∷ [] → last ≡ line_feed → (cut_of line_feed text).1 ≡ []
fed-is text front last is same = ap (λ t. (cut_of line_feed t).1) (is ∙ ap (λ b. front ++ b ∷ []) same) ∙ (fed-end front).0

pub is-fed : (text front : List ℕ) (last : ℕ) → text ≡ front ++ last ∷ [] → (last ≡ line_feed → ⊥) → (cut_of line_feed text).1 ≡ [] → ⊥
is-fed text front last is other none = other-end front last other (sym (ap (λ t. (cut_of line_feed t).1) is) ∙ none)
