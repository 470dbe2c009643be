use Rattle.zk_line.proofs.Inverse.{events_of-many}
use Rattle.zk_line.proofs.shapes.events_of.Goals as goal

pub returns-then-args-gt-MOST_EVENTS : goal.returns-then-args-gt-MOST_EVENTS
returns-then-args-gt-MOST_EVENTS c = events_of-many c.args.args.now c.if-args-gt-MOST_EVENTS.true
