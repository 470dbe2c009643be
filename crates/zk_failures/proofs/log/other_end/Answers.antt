use Rattle.std.proofs.Common.{refl, sym, ◌∙◌}
use Rattle.std.proofs.lemmas.Bool.{false≢true}
use Rattle.zk_failures.proofs.LogsLed.{other-first, other-nowhere}
use Rattle.zk_failures.proofs.PlayedLogs.{log-same, other-end}
use Rattle.zk_failures.proofs.log.other_end.Goals as goal

pub returns-in-Some : goal.returns-in-Some
returns-in-Some c = λ trace led.
    (refl, other-first c.args.scenario.now trace c.args.number c.args.log.now c.args.player.now c.in-Some.place led c.in-Some.ensures)

pub returns-then-stands_so : goal.returns-then-stands_so
returns-then-stands_so c = λ trace led.
    let so = c.stands_so.ensures.0 c.if-stands_so.true in
    log-same c.args.scenario.now trace c.args.number c.args.log.now c.args.player.now led c.in_default.ensures so.0 so.1

pub returns-else-stands_so : goal.returns-else-stands_so
returns-else-stands_so c = λ trace led. (
  refl,
  other-nowhere c.args.scenario.now trace c.args.number c.args.log.now c.args.player.now led c.in_default.ensures,
  other-end c.args.scenario.now trace c.args.number c.args.log.now c.args.player.now led (λ both. false≢true (sym c.if-stands_so.false ∙ c.stands_so.ensures.1 both)),
)
