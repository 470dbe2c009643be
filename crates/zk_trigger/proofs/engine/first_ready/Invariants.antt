use Rattle.std.proofs.Common.{◌≡◌, drop}
use Rattle.std.specs.List.{find}
use Rattle.zk_trigger.specs.Steps.{set_at}
use Rattle.zk_trigger.proofs.engine.first_ready.Given as goal

abbrev pub invariant-loop-event : goal.invariant-loop-event
invariant-loop-event l = find (set_at l.ready) (drop l.event-index l.events) ≡ find (set_at l.ready) l.events
