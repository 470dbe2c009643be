use Rattle.std.proofs.Common.{◌≡◌, map}
use Rattle.std.specs.List.{range_with_len}
use Rattle.zk_worker.specs.Machines.{item_number}
use Rattle.zk_services.proofs.first.item_numbers.Given as goal

abbrev pub invariant-loop-object : goal.invariant-loop-object
invariant-loop-object l = l.numbers.items ≡ map (item_number l.scenario.decls) (range_with_len 0 l.object)
