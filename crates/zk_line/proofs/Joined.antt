-- A line is its first word, and the others each behind a space.
use Rattle.std.proofs.Common.{◌≡◌, ℕ, List, [], ◌∷◌, ◌++◌, map, refl, sym, ap, ◌∙◌, append_assoc}
use Rattle.std.proofs.lemmas.List.{append-nil, map-append}
use Rattle.zk_words.specs.Bytes.{space}
use Rattle.zk_words.specs.declared.word.Head.{Head}
use Rattle.zk_words.specs.Table.{row_of}
use Rattle.zk_words.specs.Text.{line_text}
use Rattle.zk_line.specs.declared.types.Decl.{Decl}
use Rattle.zk_line.specs.declared.types.Arg.{Arg}
use Rattle.zk_line.specs.Args.{arg_text}
use Rattle.zk_line.specs.Text.{said_line, behind}

pub line_text-behind : (first : List ℕ) (words : List (List ℕ)) → line_text (first ∷ words) ≡ first ++ behind words
line_text-behind first [] = sym (append-nil first)
line_text-behind first (word ∷ words) = ap (λ t. first ++ (space ∷ t)) (line_text-behind word words)

behind-append : (first second : List (List ℕ)) → behind (first ++ second) ≡ behind first ++ behind second
behind-append [] second = refl
behind-append (word ∷ first) second = ap (λ t. space ∷ word ++ t) (behind-append first second) ∙ sym (append_assoc (space ∷ word) (behind first) (behind second))

-- a line with further arguments behind those that it has
pub said_line-append : (decls : List Decl) (head : Head) (args more : List Arg) → said_line decls head args ++ behind (map (arg_text decls) more) ≡ said_line decls head (args ++ more)
said_line-append decls head args more =
    let first = (row_of head).first in
    let words = map (arg_text decls) args in
    let others = map (arg_text decls) more in
    ap (λ l. l ++ behind others) (line_text-behind first words) ∙ append_assoc first (behind words) (behind others)
    ∙ ap (λ l. first ++ l) (sym (behind-append words others) ∙ ap behind (sym (map-append (arg_text decls) args more)))
    ∙ sym (line_text-behind first (map (arg_text decls) (args ++ more)))
