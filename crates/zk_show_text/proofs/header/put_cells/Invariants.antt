use Rattle.std.proofs.Common.{◌≡◌, ◌++◌, take}
use Rattle.std.specs.List.{flat_map}
use Rattle.zk_line.specs.Objects.{name_at}
use Rattle.zk_show_text.specs.Header.{name_cell}
use Rattle.zk_show_text.proofs.header.put_cells.Given as goal

abbrev pub invariant-loop-object : goal.invariant-loop-object
invariant-loop-object l =
    l.out.items ≡ l.fn.out.items ++ flat_map (λ object. name_cell l.width (name_at l.decls object)) (take l.object-index l.objects)
