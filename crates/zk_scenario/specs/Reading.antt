use Rattle.std.specs.Prelude.{ℕ, Option, None, Some, List, [], ◌∷◌, ◌++◌, length, option_map, option_to_list}
use Rattle.zk_line.specs.declared.types.Decl.{Decl}
use Rattle.zk_line.specs.declared.types.Declared.{Declared}
use Rattle.zk_line.specs.declared.types.Declared.TheVariants.{Object, Allow}
use Rattle.zk_line.specs.declared.types.Call.{Call}
use Rattle.zk_scenario.specs.declared.types.Script.{Script}
use Rattle.zk_scenario.specs.Content.{Content}

-- what the lines so far said: the objects, the lines of their declarations and of permissions, the scripts that have
-- ended, and the one that is open
pub record Reading : Type 0 where
  pub decls : List Decl
  pub written : List Declared
  pub scripts : List Script
  pub current : Option Script

-- nothing, as the header alone says
abbrev pub start : Reading
start = record { decls = []; written = []; scripts = []; current = None }

-- the scripts, with the open one as the last
abbrev pub all_scripts : Reading → List Script
all_scripts r = r.scripts ++ option_to_list r.current

-- one declaration more
abbrev pub declared : Reading → Decl → Reading
declared r decl = record r { decls = r.decls ++ decl ∷ []; written = r.written ++ Object (length r.decls) ∷ [] }

-- one permission more
abbrev pub permitted : Reading → ℕ → ℕ → Reading
permitted r thread object = record r { written = r.written ++ Allow thread object ∷ [] }

-- a script that begins
abbrev pub begun : Reading → Script → Reading
begun r script = record r { current = Some script }

-- a script with one call more
abbrev pub with_call : Call → Script → Script
with_call call script = record script { calls = script.calls ++ call ∷ [] }

-- one call more in the open script
abbrev pub called : Reading → Call → Reading
called r call = record r { current = option_map (with_call call) r.current }

-- the open script has ended
abbrev pub closed : Reading → Reading
closed r = record r { scripts = all_scripts r; current = None }

-- the scenario of what was read
abbrev pub parts_of : Reading → Content
parts_of r = record { decls = r.decls; written = r.written; scripts = all_scripts r }
