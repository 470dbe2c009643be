-- What a line says is read again from its words, where each of them says it in its slot.
use Rattle.std.proofs.Common.{◌≡◌, ℕ, ◌+◌, ◌*◌, ◌≤◌, true, false, ◌&&◌, Option, Some, List, [], ◌∷◌, length, length-append, map, arith, refl, ap, ◌∙◌}
use Rattle.std.specs.Prelude.{option_map, option_and_then}
use Rattle.std.specs.List.{AllByRecursion, list_all}
use Rattle.std.proofs.lemmas.Bool.{and_from, cond-true}
use Rattle.zk_words.specs.declared.line.Line.TheVariants.{Misspelled, Formed}
use Rattle.zk_words.specs.declared.slot.Slot.{Slot}
use Rattle.zk_words.specs.declared.word.Head.{Head}
use Rattle.zk_words.specs.Lines.{head_of, are_behind, line_after, line_of_words, line_of}
use Rattle.zk_words.specs.Parts.{Placed, placed, parts_of, fits}
use Rattle.zk_words.specs.Spelled.{is_spelled_in, part_is_spelled}
use Rattle.zk_words.specs.Table.{row_of}
use Rattle.zk_words.specs.Text.{line_text}
use Rattle.zk_line.specs.declared.types.Arg.{Arg}
use Rattle.zk_line.specs.declared.types.Decl.{Decl}
use Rattle.zk_line.specs.Args.{arg_of, args_of, arg_text}
use Rattle.zk_line.specs.Checks.{size_named, size_said, message_size, is_in_range, each_in_range, go_together, are_in_range, is_well_named, each_well_named, name_once, are_well_named}
use Rattle.zk_soak.proofs.Pieces.{IsPlain, IsLine, words-line, unfed-line}

-- what is said in a slot is read from its text, which nothing speaks against in a line whose messages have so many bytes
pub record IsSaid (decls : List Decl) (size : Option ℕ) (s : Slot) (a : Arg) : Type 0 where
  pub plain : IsPlain (arg_text decls a)
  pub short : length (arg_text decls a) ≤ 8
  pub spelled : is_spelled_in s (arg_text decls a) ≡ true
  pub in_range : is_in_range size s (arg_text decls a) ≡ true
  pub named : is_well_named false decls s (arg_text decls a) ≡ true
  pub said : arg_of decls s (arg_text decls a) ≡ Some a

-- a slot, and what is said in it
abbrev pub Said : Type 0
Said = Slot × Arg

-- each of them is
abbrev pub AreSaid : List Decl → Option ℕ → List Said → Type 0
AreSaid decls size [] = Unit {0}
AreSaid decls size (p ∷ ps) = IsSaid decls size p.0 p.1 × AreSaid decls size ps

-- what is said
abbrev pub args_in : List Said → List Arg
args_in ps = map (λ p. p.1) ps

-- its text
abbrev pub texts_in : List Decl → List Said → List (List ℕ)
texts_in decls ps = map (λ p. arg_text decls p.1) ps

-- the text in its slots
abbrev pub parts_in : List Decl → List Said → List Placed
parts_in decls ps = map (λ p. placed p.0 (arg_text decls p.1)) ps

module _ (decls : List Decl) where
  all_plain : (size : Option ℕ) (ps : List Said) → AreSaid decls size ps → AllByRecursion IsPlain (texts_in decls ps)
  all_plain size [] said = tt
  all_plain size (p ∷ ps) said = (said.0.plain, all_plain size ps said.1)

  all_spelled : (size : Option ℕ) (ps : List Said) → AreSaid decls size ps → list_all part_is_spelled (parts_in decls ps) ≡ true
  all_spelled size [] said = refl
  all_spelled size (p ∷ ps) said =
      and_from (is_spelled_in p.0 (arg_text decls p.1)) (list_all part_is_spelled (parts_in decls ps)) said.0.spelled (all_spelled size ps said.1)

  all_in_range : (size : Option ℕ) (ps : List Said) → AreSaid decls size ps → each_in_range size (parts_in decls ps) ≡ true
  all_in_range size [] said = refl
  all_in_range size (p ∷ ps) said =
      and_from (is_in_range size p.0 (arg_text decls p.1)) (each_in_range size (parts_in decls ps)) said.0.in_range (all_in_range size ps said.1)

  all_named : (size : Option ℕ) (ps : List Said) → AreSaid decls size ps → each_well_named false decls (parts_in decls ps) ≡ true
  all_named size [] said = refl
  all_named size (p ∷ ps) said =
      and_from (is_well_named false decls p.0 (arg_text decls p.1)) (each_well_named false decls (parts_in decls ps)) said.0.named (all_named size ps said.1)

  -- the arguments are read again
  pub all_said : (size : Option ℕ) (ps : List Said) → AreSaid decls size ps → args_of decls (parts_in decls ps) ≡ Some (args_in ps)
  all_said size [] said = refl
  all_said size (p ∷ ps) said =
      ap (option_and_then (λ a. option_map (λ args. a ∷ args) (args_of decls (parts_in decls ps)))) said.0.said
      ∙ ap (option_map (λ args. p.1 ∷ args)) (all_said size ps said.1)

  -- the size of the messages is that of what is named first
  size_is : (size : Option ℕ) (ps : List Said) → AreSaid decls size ps → message_size decls (parts_in decls ps) ≡ size_said decls (args_in ps)
  size_is size [] said = refl
  size_is size (p ∷ ps) said = ap (option_and_then (size_named decls)) said.0.said

  length-words : (size : Option ℕ) (ps : List Said) (word : List ℕ) → AreSaid decls size ps → length (line_text (word ∷ texts_in decls ps)) ≤ length word + 9 * length ps
  length-words size [] word said = omega arith
  length-words size (p ∷ ps) word said =
      let rest = length-words size ps (arg_text decls p.1) said.1 in
      let short = said.0.short in
      omega (arith, length-append word (32 ∷ line_text (arg_text decls p.1 ∷ texts_in decls ps)))

-- the slots are those of a head's row, and its first word is read as it
pub record IsRow (decls : List Decl) (h : Head) (ps : List Said) : Type 0 where
  pub first : head_of (row_of h).first ≡ Some h
  pub fitting : fits (row_of h).slots (row_of h).rest (texts_in decls ps) ≡ true
  pub placed : parts_of (row_of h).slots (row_of h).rest (texts_in decls ps) ≡ parts_in decls ps
  pub once : name_once (parts_in decls ps) ≡ true
  pub together : go_together h (parts_in decls ps) ≡ true
  pub plain : IsPlain (row_of h).first
  pub short : length (row_of h).first + 9 * length ps ≤ 64

-- the line is formed of its words in their slots
pub record IsFormed (decls : List Decl) (h : Head) (ps : List Said) (line : List ℕ) : Type 0 where
  pub formed : line_of line ≡ Formed h (parts_in decls ps)
  pub in_range : are_in_range decls h (parts_in decls ps) ≡ true
  pub named : are_well_named false decls (parts_in decls ps) ≡ true
  pub said : args_of decls (parts_in decls ps) ≡ Some (args_in ps)
  pub is_line : IsLine line

pub formed_by : (decls : List Decl) (h : Head) (ps : List Said) → IsRow decls h ps → AreSaid decls (size_said decls (args_in ps)) ps → IsFormed decls h ps (line_text ((row_of h).first ∷ texts_in decls ps))
formed_by decls h ps row said =
    let size = size_said decls (args_in ps) in
    let first = (row_of h).first in
    let texts = texts_in decls ps in
    let parts = parts_in decls ps in
    let plain = all_plain decls size ps said in
    let spelled : are_behind (row_of h) texts ≡ true =
    and_from (fits (row_of h).slots (row_of h).rest texts) (list_all part_is_spelled (parts_of (row_of h).slots (row_of h).rest texts)) row.fitting
    (ap (list_all part_is_spelled) row.placed ∙ all_spelled decls size ps said) in
    record {
      formed = ap line_of_words (words-line first texts row.plain plain) ∙ ap (λ o. line_after o texts) row.first
          ∙ cond-true (are_behind (row_of h) texts) (Formed h (parts_of (row_of h).slots (row_of h).rest texts)) Misspelled spelled ∙ ap (Formed h) row.placed;
      in_range = ap (λ n. each_in_range n parts && go_together h parts) (size_is decls size ps said)
          ∙ and_from (each_in_range size parts) (go_together h parts) (all_in_range decls size ps said) row.together;
      named = and_from (each_well_named false decls parts) (name_once parts) (all_named decls size ps said) row.once;
      said = all_said decls size ps said;
      is_line = record {
        unfed = unfed-line first texts row.plain plain;
        short = let long = length-words decls size ps first said in let most = row.short in omega arith;
      };
    }
