use Rattle.std.proofs.Common.{◌≡◌, ◌+◌, map, sym, ap, ◌∙◌, arith}
use Rattle.zk_model_work.specs.declared.ops.Expiry.{Expiry}
use Rattle.zk_time.specs.Timeouts.{Timeouts, count_due}
use Rattle.zk_work.specs.EngineState.{EngineView}
use Rattle.zk_work.proofs.Due.{due-fits}
use Rattle.zk_work.proofs.engine.WorkEngine.announce.Goals as goal

pub tell_items-requires : goal.tell_items-requires
tell_items-requires c =
    let k = c.args.self.now.state in
    let time = c.self.inside.time + c.from.result in
    let timeouts : c.self.inside.active.timeouts ≡ k.timeouts = ap (λ (h : EngineView). h.state.timeouts) c.self.view_is in
    let count = c.expire.ensures.count ∙ ap (λ (t : Timeouts). count_due t time) timeouts in
    let fits = due-fits k time c.requires.whole in
    let before = ap (λ (h : EngineView). h.state.active.items) c.self.view_is in
    let items = c.expire.ensures.items in
    let after = ap (λ (h : EngineView). h.state.active.items) c.self-2.view_is in
    let room = c.self-2.invariant.touched in
    let long = c.deref.ensures.len in
    omega arith

pub returns-clause-touched : goal.returns-clause-touched
returns-clause-touched c =
    c.set_time.ensures.touched ∙ c.tell_items.ensures.items
    ∙ ap (map (λ (e : Expiry). e.item)) (c.deref.ensures.value ∙ sym c.from_vec.ensures)
