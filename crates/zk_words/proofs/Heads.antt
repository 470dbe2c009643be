-- The head of a line is found by its first word alone, since no two rows begin alike.
use Rattle.std.proofs.Common.{◌≡◌, ℕ, true, List, Some, refl, ap, ◌∙◌}
use Rattle.std.specs.Str.{bytes_eq}
use Rattle.std.specs.Cmp.Lexicographic.{bytes_decides}
use Rattle.zk_base.specs.declared.kinds.Kind.TheVariants as kind
use Rattle.zk_words.specs.declared.word.Word.TheVariants as word
use Rattle.zk_words.specs.declared.word.Head.{Head}
use Rattle.zk_words.specs.declared.word.Head.TheVariants.{Declare, Allow, Script, End, Call}
use Rattle.zk_words.specs.Lines.{head_of}
use Rattle.zk_words.specs.Table.{row_of}

-- the first word of a row is that of its own head
head_of_row : (head : Head) → head_of (row_of head).first ≡ Some head
head_of_row (Declare kind.Thread) = refl
head_of_row (Declare k) = refl
head_of_row (Call word.Submit) = refl
head_of_row (Call w) = refl
head_of_row h = refl

-- a word that begins a row is that of the row's head
pub head_of_first : (first : List ℕ) (head : Head) → bytes_eq first (row_of head).first ≡ true → head_of first ≡ Some head
head_of_first first head same = ap head_of ((bytes_decides first (row_of head).first).0 same) ∙ head_of_row head
