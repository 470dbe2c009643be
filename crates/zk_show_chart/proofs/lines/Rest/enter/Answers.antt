use Rattle.std.proofs.Common.{◌≡◌, ℕ, nat_eq, false, Option, Some, None, sym, refl, ◌∙◌, ap}
use Rattle.std.specs.Option.{option_eq}
use Rattle.std.proofs.lemmas.Bool.{not-true}
use Rattle.zk_show_chart.specs.Lines.{is_its}
use Rattle.zk_show_chart.proofs.TextLines.{entered}
use Rattle.zk_show_chart.proofs.lines.Rest.enter.Goals as goal

-- whether a section is that of a service, as the code tests it
tested : (own : Option ℕ) (service : ℕ) → option_eq nat_eq own (Some service) ≡ is_its own service
tested None service = refl
tested (Some own) service = refl

pub returns-then-ne : goal.returns-then-ne
returns-then-ne c = λ text first p is.
    let other : is_its p.service c.args.service ≡ false =
    sym (tested p.service c.args.service) ∙ ap (λ own. option_eq nat_eq own (Some c.args.service)) (sym is.service)
    ∙ not-true (option_eq nat_eq c.args.self.now.service (Some c.args.service)) (sym c.ne.ensures ∙ c.if-ne.true) in
    entered text first c.args.service p c.args.self.now c.next-self.new.self _ other is c.next-self.ensures.passes refl refl c.next-self.ensures.line refl
