use Rattle.std.proofs.Common.{◌≡◌, drop}
use Rattle.zk_trigger.specs.Live.{word_from, word_of}
use Rattle.zk_trigger.proofs.live.word_of.Given as goal

abbrev pub invariant-loop-event : goal.invariant-loop-event
invariant-loop-event l = word_from l.word (drop l.event-index l.events) ≡ word_of l.events
