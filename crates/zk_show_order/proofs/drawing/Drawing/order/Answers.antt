use Rattle.std.proofs.Common.{◌<◌, length, arith}
use Rattle.zk_show_order.proofs.Drawn.{drawn-length}
use Rattle.zk_show_order.proofs.Ended.{drawn-all, drawn-stuck}
use Rattle.zk_show_order.proofs.drawing.Drawing.order.Goals as goal

pub returns-then-len-self : goal.returns-then-len-self
returns-then-len-self c =
    let d = c.args.self in
    drawn-all d.lines.now d.lanes.items d.entries.items d.order.items c.requires.standing
    (let long = d.order.ok in let len = c.len.ensures in let same = c.if-len-self.true in omega arith)

pub returns-else-len-self : goal.returns-else-len-self
returns-else-len-self c =
    let d = c.args.self in
    let all = drawn-length d.lines.now d.lanes.items d.entries.items d.order.items c.requires.standing in
    let few : length d.order.items < length d.lines.now =
    let long = d.order.ok in let len = c.len.ensures in let other = c.if-len-self.false in omega arith in
    drawn-stuck d.lines.now d.lanes.items d.entries.items d.order.items c.requires.standing c.requires.stuck few
