use Rattle.std.proofs.Common.{◌≡◌, ◌∙◌, is_some, ap, arith}
use Rattle.zk_time.specs.Timeouts.{Timeouts, count_due, due_first}
use Rattle.zk_work.specs.EngineState.{EngineState, EngineView}
use Rattle.zk_work.proofs.Announcing.{next-due, entries-expired, items-expired}
use Rattle.zk_work.proofs.engine.WorkEngine.expire.Goals as goal

pub expire_next-expiry-requires-clause-due : goal.expire_next-expiry-requires-clause-due
expire_next-expiry-requires-clause-due c =
    let k = c.args.self.now.state in
    let so_far = c.loop.invariant.0 in
    let timeouts : c.self.inside.active.timeouts ≡ k.timeouts = ap (λ (h : EngineView). h.state.timeouts) c.self.view_is in
    let count : c.count_due-end.result ≡ count_due k.timeouts c.args.time =
    c.count_due-end.ensures ∙ ap (λ (t : Timeouts). count_due t c.args.time) timeouts in
    let within = c.loop-test.true in
    ap (λ (j : EngineState). is_some (due_first c.args.time j.timeouts.live)) so_far
    ∙ next-due c.loop.counter c.args.time k c.requires.whole.ordered.ascends (omega arith)

pub returns-clause-entries : goal.returns-clause-entries
returns-clause-entries c = ap (λ (j : EngineState). j.entries) c.loop.invariant.0
    ∙ entries-expired c.loop.counter c.args.time c.args.self.now.state

pub returns-clause-items : goal.returns-clause-items
returns-clause-items c = ap (λ (j : EngineState). j.active.items) c.loop.invariant.0
    ∙ items-expired c.loop.counter c.args.time c.args.self.now.state
