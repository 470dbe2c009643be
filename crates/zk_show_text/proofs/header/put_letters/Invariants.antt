use Rattle.std.proofs.Common.{◌≡◌, ◌++◌, take}
use Rattle.std.specs.List.{flat_map}
use Rattle.zk_line.specs.Objects.{name_at}
use Rattle.zk_show_text.specs.Header.{letter_cell}
use Rattle.zk_show_text.proofs.header.put_letters.Given as goal

abbrev pub invariant-loop-object : goal.invariant-loop-object
invariant-loop-object l =
    l.out.items ≡ l.fn.out.items ++ flat_map (λ object. letter_cell l.width l.place (name_at l.decls object)) (take l.object-index l.objects)
