use Rattle.std.proofs.Common.{◌≡◌, length, ap, ◌∙◌, arith}
use Rattle.zk_work.specs.EngineState.{EngineView}
use Rattle.zk_work.proofs.Words.{word-flags}
use Rattle.zk_work.proofs.engine.WorkEngineEngine.word.Goals as goal

pub returns-clause-word : goal.returns-clause-word
returns-clause-word c = λ s stands.
    let last : length c.self.inside.last.items ≡ length c.args.self.now.state.last =
    ap (λ (h : EngineView). length h.state.last) c.self.view_is in
    let long = c.len.ensures ∙ c.self.inside.last.ok.0 in
    let within = c.if-index-len.false in
    c.from.ensures ∙ c.bits.ensures tt ∙ c.flags.ensures ∙ word-flags c.args.self.now.state s stands c.args.index (omega arith)
