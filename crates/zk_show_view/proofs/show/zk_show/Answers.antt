use Rattle.std.proofs.Common.{◌≡◌, sym, subst, ◌∙◌, Some}
use Rattle.zk_base.specs.declared.errors.Status.TheVariants.{Success, Unlawful}
use Rattle.zk_forms.specs.Top.{Prints}
use Rattle.zk_show_view.specs.declared.view.View.{View}
use Rattle.zk_show_view.specs.Shown.{IsShown}
use Rattle.zk_show_view.proofs.Outcomes.{to-success, to-unlawful}
use Rattle.zk_show_view.proofs.show.zk_show.Goals as goal

pub returns-in-Some-clause-success : goal.returns-in-Some-clause-success
returns-in-Some-clause-success g c = λ view named it.
    let both : Some c.in-Some.view ≡ Some view = sym c.in-Some.is ∙ c.view_of.ensures ∙ named in
    let same : c.in-Some.view ≡ view = cc in
    subst (λ (v : View). Prints (g.S.Source.left c.args.source.now) (g.K.Sink.held c.args.sink.now) (g.K.Sink.held c.answer.new.sink) (IsShown v Success)
    × (g.E.Sink.held c.answer.new.errors ≡ g.E.Sink.held c.args.errors.now)) same
    (to-success c.in-Some.view _ _ _ _ _ _ _ _ _ _ _ c.answer.result c.answer.ensures.went it)

pub returns-in-Some-clause-unlawful : goal.returns-in-Some-clause-unlawful
returns-in-Some-clause-unlawful g c = λ view named it.
    let both : Some c.in-Some.view ≡ Some view = sym c.in-Some.is ∙ c.view_of.ensures ∙ named in
    let same : c.in-Some.view ≡ view = cc in
    subst (λ (v : View). Prints (g.S.Source.left c.args.source.now) (g.K.Sink.held c.args.sink.now) (g.K.Sink.held c.answer.new.sink) (IsShown v Unlawful)
    × (g.E.Sink.held c.answer.new.errors ≡ g.E.Sink.held c.args.errors.now)) same
    (to-unlawful c.in-Some.view _ _ _ _ _ _ _ _ _ _ _ c.answer.result c.answer.ensures.went it)
