use Rattle.std.proofs.Common.{ℕ, List, refl, sym, subst, ◌∙◌}
use Rattle.zk_show_view.specs.Shown.{IsShown, shows_err, shows_out, unmade}
use Rattle.zk_show_view.proofs.Outcomes.{keeps-same, other-result, refused-is, refused-not, refused-told, written}
use Rattle.zk_show_view.proofs.show.show.Goals as goal

pub returns-then-is_refused-clause-shows : goal.returns-then-is_refused-clause-shows
returns-then-is_refused-clause-shows g c =
    let view = c.args.view in
    let input = c.args.input.items in
    let status = c.in-Ok.status in
    let result = c.write_made.result in
    let is = refused-is status (sym c.is_refused.ensures ∙ c.if-is_refused.true) in
    let made = subst (λ (l : List ℕ). IsShown view status input l) (sym c.deref.ensures.value) c.in-Ok.ensures in
    shows_err (written view input _ _ _ _ c.deref.result.now status result made c.write_made.ensures.whole c.write_made.ensures.front c.write_made.ensures.fault)
    (refused-told status result is (λ other. (c.write_made.ensures.whole other).0)) refl refl

pub returns-in-Ok-clause-shows : goal.returns-in-Ok-clause-shows
returns-in-Ok-clause-shows g c =
    let view = c.args.view in
    let input = c.args.input.items in
    let status = c.in-Ok.status in
    let wrote = c.write_made-else-is_refused.ensures in
    let result = c.write_made-else-is_refused.result in
    let other = refused-not status (sym c.is_refused.ensures ∙ c.if-is_refused.false) in
    let output = c.deref-else-is_refused.result.now in
    let made = subst (λ (l : List ℕ). IsShown view status input l) (sym c.deref-else-is_refused.ensures.value) c.in-Ok.ensures in
    shows_out (written view input _ _ _ _ output status result made wrote.whole wrote.front wrote.fault)
    (other-result status result other (λ no. (wrote.whole no).0)) refl refl

pub returns-clause-shows : goal.returns-clause-shows
returns-clause-shows g c = shows_out (unmade (keeps-same (g.K.Sink.held c.args.sink.now))) (λ same. absurd (cc)) refl refl
