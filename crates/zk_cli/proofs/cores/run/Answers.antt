use Rattle.std.proofs.Common.{[], Some, map, string_bytes, ap, sym, ◌∙◌}
use Rattle.zk_forms.specs.declared.form.Form.TheVariants.{Feed}
use Rattle.zk_forms.proofs.OnCores.{feed-in-range, only-cores, some-cores}
use Rattle.zk_forms.proofs.Outcomes.{Went-fed, Went-refused, Went-for, taken-for, taken-none}
use Rattle.zk_cli.proofs.cores.run.Goals as goal

pub returns-in-None-clause-went : goal.returns-in-None-clause-went
returns-in-None-clause-went g c = Went-refused _ _ _ _ _ _ _ _ _ _ (sym c.cores_form_of.ensures ∙ c.in-None.is) c.refuse_words.ensures.refused

pub returns-in-Run-clause-went : goal.returns-in-Run-clause-went
returns-in-Run-clause-went g c =
    Went-for _ _ _ _ _ _ _ _ _ _ _ (sym c.cores_form_of.ensures ∙ c.in-Some.is ∙ ap Some c.in-Run.is) c.answer_run.ensures.went

pub returns-in-Feed-clause-went : goal.returns-in-Feed-clause-went
returns-in-Feed-clause-went g c =
    Went-fed _ _ _ _ _ _ _ _ c.in-Feed.size [] (sym c.cores_form_of.ensures ∙ c.in-Some.is ∙ ap Some c.in-Feed.is)
    (c.write_made.ensures.answered (Feed c.in-Feed.size) [] c.feed_output.ensures.output)

pub returns-in-None-clause-most : goal.returns-in-None-clause-most
returns-in-None-clause-most g c = taken-for _ _ _ _ (sym c.cores_form_of.ensures ∙ c.in-None.is) (taken-none 0 (g.S.Source.left c.args.source.now))

pub returns-in-Run-clause-most : goal.returns-in-Run-clause-most
returns-in-Run-clause-most g c =
    taken-for _ _ _ _ (sym c.cores_form_of.ensures ∙ c.in-Some.is ∙ ap Some c.in-Run.is) c.answer_run.ensures.most

pub returns-in-Feed-clause-most : goal.returns-in-Feed-clause-most
returns-in-Feed-clause-most g c =
    taken-for _ _ _ _ (sym c.cores_form_of.ensures ∙ c.in-Some.is ∙ ap Some c.in-Feed.is) (taken-none 0 (g.S.Source.left c.args.source.now))

pub answer_run-requires-clause-cores : goal.answer_run-requires-clause-cores
answer_run-requires-clause-cores g c κs within = some-cores (map string_bytes c.args.words.now) c.in-Run.cores
    (sym c.cores_form_of.ensures ∙ c.in-Some.is ∙ ap Some c.in-Run.is)

pub feed_output-requires-clause-range : goal.feed_output-requires-clause-range
feed_output-requires-clause-range g c κs within = feed-in-range (map string_bytes c.args.words.now) c.in-Feed.size
    (sym c.cores_form_of.ensures ∙ c.in-Some.is ∙ ap Some c.in-Feed.is)

pub unreachable-requires : goal.unreachable-requires
unreachable-requires g c = only-cores (map string_bytes c.args.words.now) c.in-Some.form (sym c.cores_form_of.ensures ∙ c.in-Some.is)
    c.in_default.not-Run c.in_default.not-Feed
