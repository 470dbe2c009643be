-- A line is the text of the form that it is read as, and its words fill the slots of its row.
use Rattle.std.proofs.Common.{◌≡◌, ℕ, Bool, true, false, cond, List, [], ◌∷◌, map, Option, Some, None, refl, sym, ap, ◌∙◌}
use Rattle.std.specs.Prelude.{bytes_eq}
use Rattle.std.specs.List.{list_all}
use Rattle.std.proofs.lemmas.Bool.{and_parts}
use Rattle.std.proofs.lemmas.Slice.Eq.{bytes_eq-Decides}
use Rattle.std.proofs.lemmas.List.Splits.{join_with_byte-slice_split}
use Rattle.zk_base.proofs.Lists.{find-passes}
use Rattle.zk_words.specs.declared.word.Head.{Head}
use Rattle.zk_words.specs.declared.line.Line.TheVariants.{Misspelled, Formed}
use Rattle.zk_words.specs.Bytes.{space}
use Rattle.zk_words.specs.Lines.{head_of, are_behind, line_after, line_of_words, line_of, form_words, IsForm}
use Rattle.zk_words.specs.Parts.{Placed, parts_of, fits}
use Rattle.zk_words.specs.Spelled.{part_is_spelled}
use Rattle.zk_words.specs.Table.{heads, row_of}
use Rattle.zk_words.specs.Text.{line_text}
use Rattle.zk_words.specs.Pieces.{words_of}
use Rattle.zk_words.proofs.Placed.{texts-parts_of}

-- a word that finds a head is the first of its row
pub head_spelled : (first : List ℕ) (head : Head) → head_of first ≡ Some head → first ≡ (row_of head).first
head_spelled first head found =
    (bytes_eq-Decides first (row_of head).first).0 (find-passes (λ h. bytes_eq first (row_of h).first) heads head found)

-- the words are those of the form
abbrev Spells : List (List ℕ) → Head → List Placed → Type 0
Spells words head parts = (words ≡ form_words head parts) × IsForm head parts

after_spelled : (first : List ℕ) (words : List (List ℕ)) (found : Option Head) (head : Head) (parts : List Placed) → head_of first ≡ found
    → line_after found words ≡ Formed head parts → Spells (first ∷ words) head parts
after_spelled first words None head parts is said = absurd (cc)
after_spelled first words (Some h) head parts is said = by_test (are_behind (row_of h) words) refl said where
  ps : List Placed
  ps = parts_of (row_of h).slots (row_of h).rest words

  by_test : (behind : Bool) → are_behind (row_of h) words ≡ behind → cond behind (Formed h ps) Misspelled ≡ Formed head parts → Spells (first ∷ words) head parts
  by_test true here same =
      let are : (h ≡ head) × (ps ≡ parts) = (cc, cc) in
      let both = and_parts (fits (row_of h).slots (row_of h).rest words) (list_all part_is_spelled ps) here in
      let texts = texts-parts_of (row_of h).slots (row_of h).rest words both.0 in
      let spelled : first ≡ (row_of h).first = head_spelled first h is in (
        ap (λ f. f ∷ words) spelled ∙ ap (λ ws. (row_of h).first ∷ ws) (sym texts) ∙ ap (λ ps. (row_of h).first ∷ map (λ p. p.text) ps) are.1 ∙ ap (λ k. form_words k parts) are.0,
        record {
          words = words;
          fitting = ap (λ k. fits (row_of k).slots (row_of k).rest words) (sym are.0) ∙ both.0;
          placed = sym are.1 ∙ ap (λ k. parts_of (row_of k).slots (row_of k).rest words) are.0;
          spelled = ap (list_all part_is_spelled) (sym are.1) ∙ both.1;
        },
      )
  by_test false here same = absurd (cc)

words_spelled : (words : List (List ℕ)) (head : Head) (parts : List Placed) → line_of_words words ≡ Formed head parts → Spells words head parts
words_spelled [] head parts said = absurd (cc)
words_spelled (first ∷ words) head parts said = after_spelled first words (head_of first) head parts refl said

-- a line of a form is the form's text
pub line_spelled : (line : List ℕ) (head : Head) (parts : List Placed) → line_of line ≡ Formed head parts → line ≡ line_text (form_words head parts)
line_spelled line head parts said =
    sym (join_with_byte-slice_split space line) ∙ ap line_text (words_spelled (words_of line) head parts said).0

-- and its words fill the slots of its row, each spelled as its slot asks
pub line_is_form : (line : List ℕ) (head : Head) (parts : List Placed) → line_of line ≡ Formed head parts → IsForm head parts
line_is_form line head parts said = (words_spelled (words_of line) head parts said).1
