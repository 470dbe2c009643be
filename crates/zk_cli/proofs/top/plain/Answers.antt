use Rattle.std.proofs.Common.{[], Some, ap, sym, ◌∙◌}
use Rattle.zk_forms.specs.declared.form.Form.TheVariants.{Soak}
use Rattle.zk_forms.proofs.Outcomes.{Went-refused, Went-soaked, Went-for, taken-for, taken-none}
use Rattle.zk_cli.proofs.top.plain.Goals as goal

pub returns-in-None-clause-went : goal.returns-in-None-clause-went
returns-in-None-clause-went g c = Went-refused _ _ _ _ _ _ _ _ _ _ (sym c.form_of.ensures ∙ c.in-None.is) c.refuse_words.ensures.refused

pub returns-in-Some-Replay-clause-went : goal.returns-in-Some-Replay-clause-went
returns-in-Some-Replay-clause-went g c =
    Went-for _ _ _ _ _ _ _ _ _ _ _ (sym c.form_of.ensures ∙ c.in-Some-Replay.is ∙ ap Some c.in-Some-Replay.field-0-is) c.answer_replay.ensures.went

pub returns-in-Some-Check-clause-went : goal.returns-in-Some-Check-clause-went
returns-in-Some-Check-clause-went g c =
    Went-for _ _ _ _ _ _ _ _ _ _ _ (sym c.form_of.ensures ∙ c.in-Some-Check.is ∙ ap Some c.in-Some-Check.field-0-is) c.answer_check.ensures.went

pub returns-in-Some-Migrate-clause-went : goal.returns-in-Some-Migrate-clause-went
returns-in-Some-Migrate-clause-went g c =
    Went-for _ _ _ _ _ _ _ _ _ _ _ (sym c.form_of.ensures ∙ c.in-Some-Migrate.is ∙ ap Some c.in-Some-Migrate.field-0-is) c.answer_migrate.ensures.went

pub returns-in-Some-Trigger-clause-went : goal.returns-in-Some-Trigger-clause-went
returns-in-Some-Trigger-clause-went g c =
    Went-for _ _ _ _ _ _ _ _ _ _ _ (sym c.form_of.ensures ∙ c.in-Some-Trigger.is ∙ ap Some c.in-Some-Trigger.field-0-is) c.answer_trigger.ensures.went

pub returns-in-Some-Event-clause-went : goal.returns-in-Some-Event-clause-went
returns-in-Some-Event-clause-went g c =
    Went-for _ _ _ _ _ _ _ _ _ _ _ (sym c.form_of.ensures ∙ c.in-Some-Event.is ∙ ap Some c.in-Some-Event.field-0-is) c.answer_event.ensures.went

pub returns-in-Some-Soak-clause-went : goal.returns-in-Some-Soak-clause-went
returns-in-Some-Soak-clause-went g c =
    Went-soaked _ _ _ _ _ _ _ _ c.in-Some-Soak.number [] (sym c.form_of.ensures ∙ c.in-Some-Soak.is ∙ ap Some c.in-Some-Soak.field-0-is)
    (c.write_made.ensures.answered (Soak c.in-Some-Soak.number) [] c.soak_output.ensures)

pub returns-in-None-clause-most : goal.returns-in-None-clause-most
returns-in-None-clause-most g c = taken-for _ _ _ _ (sym c.form_of.ensures ∙ c.in-None.is) (taken-none 0 (g.S.Source.left c.args.source.now))

pub returns-in-Some-Replay-clause-most : goal.returns-in-Some-Replay-clause-most
returns-in-Some-Replay-clause-most g c =
    taken-for _ _ _ _ (sym c.form_of.ensures ∙ c.in-Some-Replay.is ∙ ap Some c.in-Some-Replay.field-0-is) c.answer_replay.ensures.most

pub returns-in-Some-Check-clause-most : goal.returns-in-Some-Check-clause-most
returns-in-Some-Check-clause-most g c =
    taken-for _ _ _ _ (sym c.form_of.ensures ∙ c.in-Some-Check.is ∙ ap Some c.in-Some-Check.field-0-is) c.answer_check.ensures.most

pub returns-in-Some-Migrate-clause-most : goal.returns-in-Some-Migrate-clause-most
returns-in-Some-Migrate-clause-most g c =
    taken-for _ _ _ _ (sym c.form_of.ensures ∙ c.in-Some-Migrate.is ∙ ap Some c.in-Some-Migrate.field-0-is) c.answer_migrate.ensures.most

pub returns-in-Some-Trigger-clause-most : goal.returns-in-Some-Trigger-clause-most
returns-in-Some-Trigger-clause-most g c =
    taken-for _ _ _ _ (sym c.form_of.ensures ∙ c.in-Some-Trigger.is ∙ ap Some c.in-Some-Trigger.field-0-is) c.answer_trigger.ensures.most

pub returns-in-Some-Event-clause-most : goal.returns-in-Some-Event-clause-most
returns-in-Some-Event-clause-most g c =
    taken-for _ _ _ _ (sym c.form_of.ensures ∙ c.in-Some-Event.is ∙ ap Some c.in-Some-Event.field-0-is) c.answer_event.ensures.most

pub returns-in-Some-Soak-clause-most : goal.returns-in-Some-Soak-clause-most
returns-in-Some-Soak-clause-most g c =
    taken-for _ _ _ _ (sym c.form_of.ensures ∙ c.in-Some-Soak.is ∙ ap Some c.in-Some-Soak.field-0-is) (taken-none 0 (g.S.Source.left c.args.source.now))
