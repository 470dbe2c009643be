use Rattle.std.proofs.Common.{◌≡◌, ◌≤◌, ◌++◌, length, All, vec_len, vec_capacity}
use Rattle.std.specs.Vec.Iter.{into_iter_items}
use Rattle.zk_test_event.specs.Parts.{IsFresh, IsReady}
use Rattle.zk_test_event.proofs.parts.parts_of.Given as goal

abbrev pub invariant-loop-pass : goal.invariant-loop-pass
invariant-loop-pass l = record {
  items : l.yielded ++ into_iter_items l.pass-iterator ≡ l.fn.passes.items;
  new : All (IsFresh l.cell) (into_iter_items l.pass-iterator);
  ready : All (IsReady l.cell) l.parts.items;
  made : vec_len l.parts ≡ length l.yielded;
  room : length l.fn.passes.items ≤ vec_capacity l.parts;
}
