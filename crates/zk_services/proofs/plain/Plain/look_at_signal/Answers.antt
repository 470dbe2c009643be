use Rattle.std.proofs.Common.{Some}
use Rattle.zk_poll.specs.Seen.{signal_start, signal_history}
use Rattle.zk_services.proofs.LookedAt.{there-read, signal-told}
use Rattle.zk_services.proofs.plain.Plain.look_at_signal.Goals as goal

pub returns : goal.returns
returns c = λ who.
    let self = c.args.self.now in
    let there = there-read self.signals.items c.deref.result.now c.args.object c.in-Some-Some.field-0.now (Some c.in-Some-Some.signal) c.deref.ensures.value
    c.in-Some-Some.ensures.lookup.0 c.in-Some-Some.ensures.lookup.1 c.in-Some-Some.field-0-is in
    signal-told signal_start signal_history self.signals.items c.args.object c.args.must c.in-Some-Some.signal c.seen.result _ there c.seen.ensures.seen c.seen.ensures.start c.told.ensures
