-- The laws of the engine, over all states and operations.
use Rattle.std.proofs.Common.{◌≡◌, ◌+◌, ◌≤◌, true, false, is_some, refl, arith}
use Rattle.zk_base.specs.declared.ids.Who.{Who}
use Rattle.zk_model_trigger.specs.declared.ops.TriggerOp.{TriggerOp}
use Rattle.zk_model_trigger.specs.Machine.{Triggers, trigger_reply, trigger_next, in_range}

-- each entry is counted
pub counts : (s : Triggers) (who : Who) (op : TriggerOp) → (trigger_next s who op).entries ≡ s.entries + 1
counts s who op = refl

-- what is in range stays so
pub ranges : (s : Triggers) (who : Who) (op : TriggerOp) → in_range (trigger_next s who op) ≡ in_range s
ranges s who op = refl

-- nothing is ever owed
pub adds : (s : Triggers) (who : Who) (op : TriggerOp) → 0 ≤ 0 + 2
adds s who op = omega arith

pub gives : (s : Triggers) (who : Who) (op : TriggerOp) → false ≡ true → is_some (trigger_reply s who op) ≡ true → 1 + 0 ≤ 0
gives s who op closes some = absurd (cc)
