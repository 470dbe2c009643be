use Rattle.std.proofs.Common.{◌≡◌, true, IfSome, sym, subst}
use Rattle.zk_event.specs.Event.{event_in_range}
use Rattle.zk_event_script.proofs.InRange.{wait_in_range}
use Rattle.zk_event_script.proofs.read.read_op.Goals as goal

pub returns-then-eq-clause-range : goal.returns-then-eq-clause-range
returns-then-eq-clause-range c = λ s. subst (λ said. IfSome said (λ op. event_in_range s op ≡ true)) (sym c.read_wait.ensures) (wait_in_range s c.next.new.self)
