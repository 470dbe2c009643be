use Rattle.std.proofs.Common.{◌≡◌, length, ap, ◌∙◌, arith}
use Rattle.std.proofs.lemmas.List.Sums.{length-filter}
use Rattle.zk_model_work.specs.declared.parts.Wait.{Wait}
use Rattle.zk_work.specs.EngineState.{EngineView}
use Rattle.zk_work.proofs.engine.WorkEngineEngine.owed.Goals as goal

pub returns : goal.returns
returns c = λ s stands.
    let running : c.self.inside.running ≡ c.args.self.now.state.running =
    ap (λ (h : EngineView). h.state.running) c.self.view_is in
    let waits : length c.self.inside.waits.waits ≡ length c.args.self.now.state.waits =
    ap (λ (h : EngineView). length h.state.waits) c.self.view_is in
    let long : c.len.result ≡ length c.self.inside.waits.waits = c.len.ensures.len in
    let count = stands.admissions.running in
    let open_waits = ap length stands.waits.left
    ∙ length-filter (λ (w : Wait). Rattle.std.proofs.Common.not w.answered) s.waits in
    omega arith
