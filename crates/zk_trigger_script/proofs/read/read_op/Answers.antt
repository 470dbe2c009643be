use Rattle.std.proofs.Common.{◌≡◌, true, IfSome, sym, subst}
use Rattle.zk_model_trigger.specs.Machine.{in_range}
use Rattle.zk_trigger_script.proofs.InRange.{arm_in_range}
use Rattle.zk_trigger_script.proofs.read.read_op.Goals as goal

pub returns-then-eq-clause-range : goal.returns-then-eq-clause-range
returns-then-eq-clause-range c = λ s. subst (λ said. IfSome said (λ op. in_range s op ≡ true)) (sym c.read_arm.ensures) (arm_in_range s c.next.new.self)
