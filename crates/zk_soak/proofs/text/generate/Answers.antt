use Rattle.std.proofs.Common.{◌≡◌, Result, Ok, ◌∙◌, ap, sym}
use Rattle.std.specs.Result.{is_ok}
use Rattle.std.proofs.lemmas.Result.{IfOk-weaker}
use Rattle.zk_scenario.specs.declared.refused.ScenarioRefused.{ScenarioRefused}
use Rattle.zk_scenario.specs.Content.{Content}
use Rattle.zk_soak.specs.Soak.{soak_scenario}
use Rattle.zk_scenario.specs.Grammar.{scenario_of}
use Rattle.zk_soak.proofs.SoakReadable.{declared_readable, soak_readable}
use Rattle.zk_soak.proofs.text.generate.Goals as goal

same_scenario : (p q : Content) → ◌≡◌ {A = Result Content ScenarioRefused} (Ok p) (Ok q) → p ≡ q
same_scenario p q same = cc

pub read-requires : goal.read-requires
read-requires c = ap (λ text. is_ok (scenario_of text)) c.declarations.ensures ∙ ap is_ok declared_readable

pub soak_text-requires : goal.soak_text-requires
soak_text-requires c =
    let read = sym c.in_ok-declared.ensures ∙ ap scenario_of c.declarations.ensures ∙ declared_readable in
    c.decls.ensures.all ∙ ap (λ p. p.decls) (same_scenario c.in_ok-declared.declared _ read)

pub read-requires-2 : goal.read-requires-2
read-requires-2 c = ap (λ text. is_ok (scenario_of text)) (c.deref.ensures.value ∙ c.in_ok-text.ensures) ∙ ap is_ok (soak_readable c.args.number).read_back

pub returns : goal.returns
returns c =
    let written = c.deref.ensures.value ∙ c.in_ok-text.ensures in
    IfOk-weaker c.read-2.result _ _ (λ scenario h. same_scenario scenario (soak_scenario c.args.number) (sym h ∙ ap scenario_of written ∙ (soak_readable c.args.number).read_back)) c.read-2.ensures
