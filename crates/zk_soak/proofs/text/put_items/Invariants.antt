use Rattle.std.proofs.Common.{◌≡◌, ◌++◌, ◌-◌, map}
use Rattle.std.specs.List.{flat_map, range_with_len}
use Rattle.zk_scenario.specs.Spelling.{script_lines, lines_text}
use Rattle.zk_soak.specs.Soak.{item_script}
use Rattle.zk_soak.proofs.text.put_items.Given as goal

-- what was written, and the scripts that are left, are all
abbrev pub invariant-loop-item : goal.invariant-loop-item
invariant-loop-item l =
    l.out.items ++ flat_map (λ script. lines_text (script_lines l.decls script)) (map item_script (range_with_len l.item (16 - l.item)))
    ≡ l.initial.out.items ++ flat_map (λ script. lines_text (script_lines l.decls script)) (map item_script (range_with_len 0 16))
