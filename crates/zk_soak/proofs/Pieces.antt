-- The pieces of a text: its lines are told apart again by their feeds, and the words of a line by its spaces.
use Rattle.std.proofs.Common.{◌≡◌, ℕ, ◌*◌, ◌≤◌, Bool, true, not, eqb, nat_le, ◌&&◌, List, [], ◌∷◌, ◌++◌, length, length-append, append_assoc, arith, refl, ap, ◌∙◌}
use Rattle.std.specs.List.{AllByRecursion, list_all, onto_first}
use Rattle.std.proofs.lemmas.Bool.{and_parts, and_from, not-true, leb-true}
use Rattle.std.proofs.lemmas.List.Folds.{list_all-append}
use Rattle.std.proofs.lemmas.List.Splits.{slice_split-cons_yes, slice_split-cons_no}
use Rattle.zk_words.specs.Bytes.{space, line_feed}
use Rattle.zk_words.specs.Pieces.{pieces_between, words_of}
use Rattle.zk_words.specs.Text.{line_text}
use Rattle.zk_scenario.specs.Spelling.{fed, lines_text}

-- whether a byte isn't this one
abbrev pub is_other : ℕ → ℕ → Bool
is_other c b = not (eqb b c)

-- whether a byte may stand in a word: it is no space and no line feed
abbrev pub is_plain : ℕ → Bool
is_plain b = is_other space b && is_other line_feed b

-- each byte of a word may
abbrev pub IsPlain : List ℕ → Type 0
IsPlain word = list_all is_plain word ≡ true

-- a line has no feed in it, and isn't long
pub record IsLine (line : List ℕ) : Type 0 where
  pub unfed : list_all (is_other line_feed) line ≡ true
  pub short : length line ≤ 64

-- the test of it
abbrev pub is_line : List ℕ → Bool
is_line line = list_all (is_other line_feed) line && nat_le (length line) 64

pub lines_by : (lines : List (List ℕ)) → list_all is_line lines ≡ true → AllByRecursion IsLine lines
lines_by [] each = tt
lines_by (line ∷ lines) each =
    let parts = and_parts (is_line line) (list_all is_line lines) each in
    let both = and_parts (list_all (is_other line_feed) line) (nat_le (length line) 64) parts.0 in
    (record { unfed = both.0; short = leb-true (length line) 64 both.1 }, lines_by lines parts.1)

itself : (c : ℕ) → eqb c c ≡ true
itself c = grind arith

-- the piece in front of a separator
pub split_front : (c : ℕ) (front behind : List ℕ) → list_all (is_other c) front ≡ true → pieces_between c (front ++ c ∷ behind) ≡ front ∷ pieces_between c behind
split_front c [] behind lacks = slice_split-cons_yes (λ b. eqb b c) c behind (itself c)
split_front c (b ∷ front) behind lacks =
    let parts = and_parts (is_other c b) (list_all (is_other c) front) lacks in
    slice_split-cons_no (λ x. eqb x c) b (front ++ c ∷ behind) (not-true (eqb b c) parts.0) ∙ ap (onto_first b) (split_front c front behind parts.1)

-- a text with no separator is one piece
pub split_none : (c : ℕ) (text : List ℕ) → list_all (is_other c) text ≡ true → pieces_between c text ≡ text ∷ []
split_none c [] lacks = refl
split_none c (b ∷ text) lacks =
    let parts = and_parts (is_other c b) (list_all (is_other c) text) lacks in
    slice_split-cons_no (λ x. eqb x c) b text (not-true (eqb b c) parts.0) ∙ ap (onto_first b) (split_none c text parts.1)

no_space : (word : List ℕ) → IsPlain word → list_all (is_other space) word ≡ true
no_space [] plain = refl
no_space (b ∷ word) plain =
    let parts = and_parts (is_plain b) (list_all is_plain word) plain in
    and_from (is_other space b) (list_all (is_other space) word) (and_parts (is_other space b) (is_other line_feed b) parts.0).0 (no_space word parts.1)

no_feed : (word : List ℕ) → IsPlain word → list_all (is_other line_feed) word ≡ true
no_feed [] plain = refl
no_feed (b ∷ word) plain =
    let parts = and_parts (is_plain b) (list_all is_plain word) plain in
    and_from (is_other line_feed b) (list_all (is_other line_feed) word) (and_parts (is_other space b) (is_other line_feed b) parts.0).1 (no_feed word parts.1)

-- the words of a line
pub words-line : (word : List ℕ) (words : List (List ℕ)) → IsPlain word → AllByRecursion IsPlain words → words_of (line_text (word ∷ words)) ≡ word ∷ words
words-line word [] first each = split_none space word (no_space word first)
words-line word (next ∷ words) first each =
    split_front space word (line_text (next ∷ words)) (no_space word first) ∙ ap (λ (ws : List (List ℕ)). word ∷ ws) (words-line next words each.0 each.1)

-- a line of such words has no feed
pub unfed-line : (word : List ℕ) (words : List (List ℕ)) → IsPlain word → AllByRecursion IsPlain words → list_all (is_other line_feed) (line_text (word ∷ words)) ≡ true
unfed-line word [] first each = no_feed word first
unfed-line word (next ∷ words) first each =
    list_all-append (is_other line_feed) word (space ∷ line_text (next ∷ words))
    ∙ and_from (list_all (is_other line_feed) word) (list_all (is_other line_feed) (line_text (next ∷ words))) (no_feed word first) (unfed-line next words each.0 each.1)

-- the pieces of lines with their feeds: the lines, and nothing behind the last feed
pub pieces-lines : (lines : List (List ℕ)) → AllByRecursion IsLine lines → pieces_between line_feed (lines_text lines) ≡ lines ++ [] ∷ []
pieces-lines [] each = refl
pieces-lines (line ∷ lines) each =
    ap (pieces_between line_feed) (append_assoc line (line_feed ∷ []) (lines_text lines))
    ∙ split_front line_feed line (lines_text lines) each.0.unfed ∙ ap (λ (ls : List (List ℕ)). line ∷ ls) (pieces-lines lines each.1)

-- lines aren't long
pub length-lines : (lines : List (List ℕ)) → AllByRecursion IsLine lines → length (lines_text lines) ≤ 65 * length lines
length-lines [] each = omega arith
length-lines (line ∷ lines) each =
    let rest = length-lines lines each.1 in
    let short = each.0.short in
    omega (arith, length-append (fed line) (lines_text lines), length-append line (line_feed ∷ []))
