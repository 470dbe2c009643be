use Rattle.std.specs.Prelude.{ℕ, zero, suc, ◌+◌, ◌%◌, List, [], ◌∷◌, ◌++◌, map, codes}
use Rattle.std.specs.List.{range_with_len}
use Rattle.zk_line.specs.declared.types.Call.TheVariants.{Give}
use Rattle.zk_line.specs.declared.types.Declared.{Declared}
use Rattle.zk_line.specs.declared.types.Declared.TheVariants.{Object}
use Rattle.zk_line.specs.declared.types.Ref.TheVariants.{Known}
use Rattle.zk_scenario.specs.declared.types.Script.{Script}
use Rattle.zk_scenario.specs.Content.{Content}
use Rattle.zk_scenario.specs.Spelling.{declared_line, lines_text}
use Rattle.zk_soak.specs.Objects.{soak_decls}
use Rattle.zk_soak.specs.Drawn.{calls_drawn, x_behind}

-- the lines of the declarations: of all objects, in their order
abbrev pub soak_written : List Declared
soak_written = map Object (range_with_len 0 40)

-- the text of the header and the declarations
abbrev pub declared_text : List ℕ
declared_text = lines_text (codes "zk 1" ∷ map (declared_line soak_decls) soak_written)

-- the script of thread tK: so many calls, drawn from x on
abbrev pub thread_script : ℕ → ℕ → ℕ → Script
thread_script k calls x = record { owner = k; calls = calls_drawn calls x }

-- the scripts of so many threads, tK and those behind it, of so many calls each, drawn one behind the other
abbrev pub thread_scripts : ℕ → ℕ → ℕ → ℕ → List Script
thread_scripts zero calls k x = []
thread_scripts (suc n) calls k x = thread_script k calls x ∷ thread_scripts n calls (k + 1) (x_behind calls x)

-- the script of item wK: `give sJ`, J being K modulo 4; w0 is object 14, s0 object 30
abbrev pub item_script : ℕ → Script
item_script k = record { owner = 14 + k; calls = Give (Known (30 + k % 4)) ∷ [] }

-- the scripts of the items
abbrev pub item_scripts : List Script
item_scripts = map item_script (range_with_len 0 16)

-- the scenario of `soak N`: x starts as N
abbrev pub soak_scenario : ℕ → Content
soak_scenario number =
    record { decls = soak_decls; written = soak_written; scripts = thread_scripts 12 300 0 number ++ item_scripts }
