use Rattle.std.proofs.Common.{◌≡◌, Bool, take, fold}
use Rattle.zk_model_bus.specs.declared.table.TableEntry.{TableEntry}
use Rattle.zk_model_bus.specs.Table.{is_declared, said}
use Rattle.zk_model_bus.proofs.table.TableStore.is_allowed.Given as goal

abbrev pub invariant-loop-entry : goal.invariant-loop-entry
invariant-loop-entry l =
    let word : Bool → TableEntry → Bool = λ before e. said l.self-inside.setup l.player l.object before e.player e.op in
    l.allowed ≡ fold word (is_declared l.self-inside.setup l.player l.object) (take l.entry-index l.entry-items)
