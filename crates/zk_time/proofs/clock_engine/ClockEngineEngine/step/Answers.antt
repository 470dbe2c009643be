use Rattle.std.proofs.Common.{◌<◌, Some, None, cond, leb, refl, sym, ap, subst, ◌∙◌}
use Rattle.std.specs.Cmp.{second_so}
use Rattle.zk_base.specs.Limits.{most_entries}
use Rattle.zk_model_wait.specs.declared.clock.ClockOp.{ClockOp}
use Rattle.zk_model_wait.specs.declared.clock.ClockReply.TheVariants.{Due}
use Rattle.zk_model_wait.specs.Clock.{has_alarm, clock_reply, clock_next}
use Rattle.zk_time.specs.Alarms.{StandsFor}
use Rattle.zk_time.proofs.AlarmCounts.{due-same, end-stands}
use Rattle.zk_time.proofs.clock_engine.ClockEngineEngine.step.Goals as goal

pub returns-then-not-is_due-clause-step : goal.returns-then-not-is_due-clause-step
returns-then-not-is_due-clause-step c = λ s st.
    let moment = c.in-AlarmEnd.moment in
    let due = sym (due-same c.args.self.now s c.args.who.number moment st c.is_due.ensures.short) ∙ sym c.is_due.ensures.due
    ∙ c.if-not-is_due.true in
    (ap (clock_reply s c.args.who) c.in-AlarmEnd.is ∙ ap (λ b. cond b (Some Due) None) due, st)

pub returns-else-not-is_due-clause-step : goal.returns-else-not-is_due-clause-step
returns-else-not-is_due-clause-step c = λ s st.
    let e = c.args.self.now in
    let moment = c.in-AlarmEnd.moment in
    let due = sym (due-same e s c.args.who.number moment st c.is_due.ensures.short) ∙ sym c.is_due.ensures.due
    ∙ c.if-not-is_due.false in
    let few = subst (λ n. n < most_entries) (sym c.requires.ready.1.entries) c.requires.ready.3 in
    let done = end-stands e c.end_alarm.new.self s c.args.who moment st few c.is_due.ensures.short c.end_alarm.ensures.time
    c.end_alarm.ensures.entries c.end_alarm.ensures.one c.end_alarm.ensures.count
    (second_so (leb moment s.time) (has_alarm s.alarms c.args.who.number moment) due) in (
      ap (clock_reply s c.args.who) c.in-AlarmEnd.is ∙ ap (λ b. cond b (Some Due) None) due,
      refl,
      subst (λ (op : ClockOp). StandsFor c.end_alarm.new.self (clock_next s c.args.who op)) (sym c.in-AlarmEnd.is) done,
    )
