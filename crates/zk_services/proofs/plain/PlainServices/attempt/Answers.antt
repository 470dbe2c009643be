use Rattle.std.proofs.Common.{refl}
use Rattle.zk_services.specs.Alone.{plain_machines, plain_shown}
use Rattle.zk_services.proofs.LookedAt.{item-looked, signal-looked}
use Rattle.zk_services.proofs.plain.PlainServices.attempt.Goals as goal

pub returns-in-LookItem-clause-attempted : goal.returns-in-LookItem-clause-attempted
returns-in-LookItem-clause-attempted c =
    let old = plain_shown c.args.self.now in
    item-looked old refl refl (plain_machines c.args.self.now) c.args.who c.args.number c.in-LookItem.object _ c.look_at_item.result
    (c.look_at_item.ensures c.args.who) c.in-LookItem.is

pub returns-in-LookSignal-clause-attempted : goal.returns-in-LookSignal-clause-attempted
returns-in-LookSignal-clause-attempted c =
    let old = plain_shown c.args.self.now in
    signal-looked old refl refl (plain_machines c.args.self.now) c.args.who c.args.number c.in-LookSignal.object c.in-LookSignal.must _ c.look_at_signal.result
    (c.look_at_signal.ensures c.args.who) c.in-LookSignal.is
