use Rattle.std.proofs.Common.{◌≡◌, ℕ, Some, [], length, slice_get}
use Rattle.zk_model_bus.specs.Table.{new_table}
use Rattle.zk_objects.specs.declared.object.Object.{Object}
use Rattle.zk_objects.specs.First.{allowing}
use Rattle.zk_objects.specs.Kept.{IsObject}
use Rattle.zk_objects.proofs.first.bare_objects.Given as goal

abbrev pub invariant-loop-object : goal.invariant-loop-object
invariant-loop-object l =
    (length l.objects.items ≡ l.object)
    × ((object : ℕ) (x : Object) → slice_get l.objects.items object ≡ Some x →
    IsObject (new_table (allowing [] l.setup)) object x)
