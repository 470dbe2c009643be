use Rattle.std.proofs.Common.{◌≡◌, ◌++◌, ◌-◌}
use Rattle.zk_show_text.specs.Header.{letters_from}
use Rattle.zk_show_text.proofs.header.put_letters_lines.Given as goal

-- the lines so far and those that are left
abbrev pub invariant-loop-place : goal.invariant-loop-place
invariant-loop-place l =
    let decls = l.scenario.decls in
    l.out.items ++ letters_from decls l.width l.place (l.places - l.place) ≡ l.fn.out.items ++ letters_from decls l.width 0 l.places
