use Rattle.std.proofs.Common.{◌≡◌, drop}
use Rattle.std.specs.List.{find}
use Rattle.zk_model_trigger.specs.Arms.{is_among}
use Rattle.zk_model_trigger.proofs.questions.first_ready.Given as goal

abbrev pub invariant-loop-event : goal.invariant-loop-event
invariant-loop-event l = find (is_among l.ready) (drop l.event-index l.events) ≡ find (is_among l.ready) l.events
