use Rattle.std.specs.Prelude.{Bool, false, ◌||◌, List}
use Rattle.std.specs.List.{list_any}
use Rattle.std.specs.Option.{option_map_or}
use Rattle.zk_words.specs.declared.word.Head.{Head}
use Rattle.zk_words.specs.declared.word.Head.TheVariants.{Call}
use Rattle.zk_line.specs.declared.types.Decl.{Decl}
use Rattle.zk_line.specs.Calls.{is_user_call}
use Rattle.zk_line.specs.Objects.{is_at, is_user}
use Rattle.zk_scenario.specs.declared.types.Script.{Script}
use Rattle.zk_scenario.specs.Reading.{Reading}

-- whether a line behind these calls of a script is free: the script is that of a user, or one of the calls made its
-- caller a user
abbrev pub is_free : List Decl → Script → Bool
is_free decls script = is_at is_user decls script.owner || list_any is_user_call script.calls

-- whether a call in the open script would stand in a free line
abbrev pub next_is_free : Reading → Bool
next_is_free r = option_map_or (is_free r.decls) r.current false

-- whether a line is free
abbrev pub is_free_line : Reading → Head → Bool
is_free_line r (Call word) = next_is_free r
is_free_line r head = false
