use Rattle.std.proofs.Common.{sym, ◌∙◌}
use Rattle.zk_trace.specs.Shown.{trace_shown}
use Rattle.zk_failures.proofs.FoundSteps.{found-stands, stands-found, none-stands}
use Rattle.zk_failures.proofs.log.made_at.Goals as goal

pub returns-in-Some-attempt_for : goal.returns-in-Some-attempt_for
returns-in-Some-attempt_for c =
    let both = c.in-Some-attempt_for.ensures in
    let found = sym c.in_ok-step.ensures ∙ c.in-Some.is in
    (found-stands (trace_shown c.args.trace.now) c.args.spot.now (c.in-Some.step, c.in-Some.reply) c.in-Some-attempt_for.attempt found both.1, both.0)

pub returns-in-None : goal.returns-in-None
returns-in-None c = λ made stands ahead.
    c.in-None.ensures made.0 ahead
    (stands-found (trace_shown c.args.trace.now) c.args.spot.now (c.in-Some.step, c.in-Some.reply) made (sym c.in_ok-step.ensures ∙ c.in-Some.is) stands)

pub returns-in_default : goal.returns-in_default
returns-in_default c = λ made stands ahead. none-stands (trace_shown c.args.trace.now) c.args.spot.now made (sym c.in_ok-step.ensures ∙ c.in_default.is) stands
