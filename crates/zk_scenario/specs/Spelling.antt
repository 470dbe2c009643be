use Rattle.std.specs.Prelude.{ℕ, List, [], ◌∷◌, ◌++◌, take, slice_get, map, codes}
use Rattle.std.specs.List.{flat_map}
use Rattle.std.specs.Option.{option_map_or}
use Rattle.zk_words.specs.Bytes.{line_feed}
use Rattle.zk_words.specs.declared.word.Head.TheVariants as head
use Rattle.zk_line.specs.declared.types.Decl.{Decl}
use Rattle.zk_line.specs.declared.types.Declared.{Declared}
use Rattle.zk_line.specs.declared.types.Declared.TheVariants.{Object, Allow}
use Rattle.zk_line.specs.declared.types.Ref.TheVariants.{Known}
use Rattle.zk_line.specs.declared.types.Arg.TheVariants as arg
use Rattle.zk_line.specs.Text.{said_line, decl_line, allow_line, call_line}
use Rattle.zk_scenario.specs.declared.types.Script.{Script}
use Rattle.zk_scenario.specs.Content.{Content}

-- the line that opens the script of an object
abbrev pub script_line : List Decl → ℕ → List ℕ
script_line decls owner = said_line decls head.Script (arg.Object (Known owner) ∷ [])

-- the line that ends a script
abbrev pub end_line : List ℕ
end_line = said_line [] head.End []

-- the lines of a script without its end
abbrev pub begun_lines : List Decl → Script → List (List ℕ)
begun_lines decls script = script_line decls script.owner ∷ map (call_line decls) script.calls

-- the lines of a script
abbrev pub script_lines : List Decl → Script → List (List ℕ)
script_lines decls script = begun_lines decls script ++ end_line ∷ []

-- the line of an object, by what is declared before it
abbrev pub object_line : List Decl → ℕ → List ℕ
object_line decls object = option_map_or (decl_line (take object decls)) (slice_get decls object) []

-- a line among the declarations: of an object, or of a permission
abbrev pub declared_line : List Decl → Declared → List ℕ
declared_line decls (Object object) = object_line decls object
declared_line decls (Allow thread object) = allow_line decls thread object

-- the lines of a scenario behind the header: the declarations, then the scripts
abbrev pub body_lines : List Decl → List Declared → List Script → List (List ℕ)
body_lines decls written scripts = map (declared_line decls) written ++ flat_map (script_lines decls) scripts

-- the lines of a scenario
abbrev pub lines_of : Content → List (List ℕ)
lines_of p = codes "zk 1" ∷ body_lines p.decls p.written p.scripts

-- a line and its line feed
abbrev pub fed : List ℕ → List ℕ
fed line = line ++ line_feed ∷ []

-- lines, each with its line feed
abbrev pub lines_text : List (List ℕ) → List ℕ
lines_text lines = flat_map fed lines

-- the text of a scenario
abbrev pub text_of : Content → List ℕ
text_of p = lines_text (lines_of p)
