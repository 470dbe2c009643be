use Rattle.std.specs.Prelude.{ℕ, List, [], ◌∷◌, ◌++◌, map}
use Rattle.zk_words.specs.Bytes.{space}
use Rattle.zk_words.specs.declared.word.Head.{Head}
use Rattle.zk_words.specs.declared.word.Head.TheVariants as head
use Rattle.zk_words.specs.Table.{row_of}
use Rattle.zk_words.specs.Text.{line_text}
use Rattle.zk_line.specs.declared.types.Decl.{Decl}
use Rattle.zk_line.specs.declared.types.Arg.{Arg}
use Rattle.zk_line.specs.declared.types.Call.{Call}
use Rattle.zk_line.specs.Args.{arg_text}
use Rattle.zk_line.specs.Calls.{said_of}
use Rattle.zk_line.specs.Decls.{permission_said, written_of}

-- the line of a head and what stands behind it
abbrev pub said_line : List Decl → Head → List Arg → List ℕ
said_line decls head args = line_text ((row_of head).first ∷ map (arg_text decls) args)

-- the line of a declaration, which may name objects that are declared
abbrev pub decl_line : List Decl → Decl → List ℕ
decl_line decls decl = let said = written_of decl in said_line decls (head.Declare said.kind) said.args

-- the line of a permission
abbrev pub allow_line : List Decl → ℕ → ℕ → List ℕ
allow_line decls thread object = said_line decls head.Allow (permission_said thread object)

-- the line of a call
abbrev pub call_line : List Decl → Call → List ℕ
call_line decls call = let said = said_of call in said_line decls (head.Call said.word) said.args

-- words behind another, each behind a space
abbrev pub behind : List (List ℕ) → List ℕ
behind [] = []
behind (word ∷ words) = space ∷ word ++ behind words
