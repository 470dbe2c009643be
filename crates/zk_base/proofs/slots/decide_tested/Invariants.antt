use Rattle.std.proofs.Common.{◌≡◌, ◌≤◌, ◌++◌, Option, take, drop, map, vec_len, vec_capacity}
use Rattle.zk_base.specs.Slots.{Rises, StaysWaitList, decided_where}
use Rattle.zk_base.specs.Tests.{Computes}
use Rattle.zk_base.proofs.slots.decide_tested.Given as goal

abbrev pub invariant-loop-index : goal.invariant-loop-index
invariant-loop-index g l = record {
  slots : (says : g.row.M.Denot → Option g.row.A.Denot) → Computes g.F.Fn says l.test →
      l.slots ≡ map (decided_where l.number says) (take l.index l.fn.slots) ++ drop l.index l.fn.slots;
  stays : StaysWaitList l.number l.fn.slots l.fn.firsts.items l.fn.told l.slots l.firsts.items l.told l.decided;
  ordered : Rises (λ f. f.rank) l.firsts.items;
  fewer : l.decided ≤ l.index;
  len : vec_len l.firsts ≤ vec_len l.fn.firsts;
  capacity : vec_capacity l.firsts ≡ vec_capacity l.fn.firsts;
}
