use Rattle.std.proofs.Common.{◌≡◌, ◌+◌, ◌-◌, ◌≤◌, None, length, take, vec_len, vec_capacity}
use Rattle.zk_model_work.specs.Machine.{submit_arms, expiries}
use Rattle.zk_model_work.proofs.growth.submit_arms.Given as goal

abbrev pub invariant-loop-index : goal.invariant-loop-index
invariant-loop-index l =
    (l.admissions.items ≡ submit_arms l.marks l.queues None (take l.index l.arms) l.fn.admissions.items)
    × (l.told.items ≡ expiries l.marks l.queues (take l.index l.arms) l.fn.admissions.items)
    × (vec_len l.admissions + (length l.arms - l.index) ≤ vec_capacity l.admissions)
    × (vec_len l.told + (length l.arms - l.index) ≤ vec_capacity l.told)
