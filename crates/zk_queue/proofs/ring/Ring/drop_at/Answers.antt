use Rattle.std.proofs.Common.{◌<◌, None, length, sym, ap, ◌∙◌, arith}
use Rattle.std.proofs.lemmas.List.{get_or_default}
use Rattle.zk_queue.specs.Ring.{RingView}
use Rattle.zk_queue.proofs.Lives.{count-drop}
use Rattle.zk_queue.proofs.Positions.{some-within}
use Rattle.zk_queue.proofs.ring.Ring.drop_at.Goals as goal

pub invariant_of-self : goal.invariant_of-self
invariant_of-self c =
    let i = c.self.inside in
    let inside = some-within c.args.self.now c.args.position c.requires in
    let at = c.index-index.ensures in
    let long = ap (λ (r : RingView). length r.entries) c.self.view_is in
    let within : c.index-index.result < length i.entries.items = omega arith in
    count-drop i.dead c.index-index.result c.in-Some.ticket i.entries.items c.self.invariant
    (get_or_default i.entries.items c.index-index.result None c.index.result.now within ∙ sym c.index.ensures ∙ c.in-Some.is)
