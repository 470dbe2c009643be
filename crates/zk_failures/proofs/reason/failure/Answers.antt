use Rattle.std.proofs.Common.{◌≡◌, Option, Some, None, sym, subst, ◌∙◌}
use Rattle.std.specs.Prelude.{MatchOption}
use Rattle.std.proofs.lemmas.Bool.{false≢true}
use Rattle.zk_scenario.specs.Content.{Content}
use Rattle.zk_trace.specs.declared.trace.Trace.{Trace}
use Rattle.zk_trace.specs.Ending.{EndsSo}
use Rattle.zk_trace.specs.Form.{IsInForm}
use Rattle.zk_trace.specs.Place.{IsPlaced}
use Rattle.zk_trace.specs.Stood.{stood}
use Rattle.zk_trace.proofs.FewObjects.{form-few}
use Rattle.zk_failures.specs.declared.site.Fail.TheVariants as fails
use Rattle.zk_failures.specs.declared.site.Site.{Site}
use Rattle.zk_failures.specs.declared.site.Site.TheVariants.{Row, Ending}
use Rattle.zk_failures.specs.First.{HoldsNowhere}
use Rattle.zk_failures.specs.PlaceFailure.{IsMisplaced, IsGapped, IsPlaceFailure}
use Rattle.zk_failures.specs.Played.{ArePlayedOut}
use Rattle.zk_failures.proofs.Failures.{failure-unlawful}
use Rattle.zk_failures.proofs.Placed.{placed}
use Rattle.zk_failures.proofs.reason.failure.Goals as goal

-- a trace in which no place is wrong is placed
is-placed : (s : Content) (t : Trace) → IsInForm s t → (found : Option Site) →
    MatchOption found (HoldsNowhere (IsMisplaced (stood t)) × HoldsNowhere (IsGapped s t)) (λ site. IsPlaceFailure s t site) → found ≡ None → IsPlaced s t
is-placed s t form None nowhere same = placed s t form nowhere.0 nowhere.1
is-placed s t form (Some site) failure same = absurd (cc)

pub stood_lines-requires : goal.stood_lines-requires
stood_lines-requires c = form-few c.args.scenario.now c.args.trace.now c.requires.form c.decls-valid.ensures.valid

pub returns-in-Some : goal.returns-in-Some
returns-in-Some c =
    let s = c.args.scenario.now in
    let t = c.args.trace.now in
    let failure : IsPlaceFailure s t c.in-Some.site = rw c.in-Some.is at (c.in_ok-site.ensures t c.requires.form (c.deref.ensures.value ∙ c.in_ok-rows.ensures)) in
    (failure, failure-unlawful s t c.requires.form fails.Place c.in-Some.site failure)

pub history_failure-requires-clause-placed : goal.history_failure-requires-clause-placed
history_failure-requires-clause-placed c =
    let s = c.args.scenario.now in
    let t = c.args.trace.now in
    is-placed s t c.requires.form c.in_ok-site.field-0 (c.in_ok-site.ensures t c.requires.form (c.deref.ensures.value ∙ c.in_ok-rows.ensures)) c.in_default.is

pub returns-in-Some-2 : goal.returns-in-Some-2
returns-in-Some-2 c =
    let s = c.args.scenario.now in
    let t = c.args.trace.now in
    let place = is-placed s t c.requires.form c.in_ok-site.field-0 (c.in_ok-site.ensures t c.requires.form (c.deref.ensures.value ∙ c.in_ok-rows.ensures)) c.in_default.is in
    let first = rw c.in-Some-2.is at c.in_ok-row.ensures.found in
    ((place, first), failure-unlawful s t c.requires.form fails.History (Row c.in-Some-2.row) (place, first))

pub log_failure-requires-clause-placed : goal.log_failure-requires-clause-placed
log_failure-requires-clause-placed c =
    let s = c.args.scenario.now in
    let t = c.args.trace.now in
    is-placed s t c.requires.form c.in_ok-site.field-0 (c.in_ok-site.ensures t c.requires.form (c.deref.ensures.value ∙ c.in_ok-rows.ensures)) c.in_default.is

pub returns-in-Some-3 : goal.returns-in-Some-3
returns-in-Some-3 c =
    let s = c.args.scenario.now in
    let t = c.args.trace.now in
    let place = is-placed s t c.requires.form c.in_ok-site.field-0 (c.in_ok-site.ensures t c.requires.form (c.deref.ensures.value ∙ c.in_ok-rows.ensures)) c.in_default.is in
    let legal = rw c.in_default-2.is at c.in_ok-row.ensures.found in
    let failure = rw c.in-Some-3.is at c.in_ok-site-2.ensures in
    ((place, legal.0, failure), failure-unlawful s t c.requires.form fails.Log c.in-Some-3.site (place, legal.0, failure))

pub look_failure-requires-clause-placed : goal.look_failure-requires-clause-placed
look_failure-requires-clause-placed c =
    let s = c.args.scenario.now in
    let t = c.args.trace.now in
    is-placed s t c.requires.form c.in_ok-site.field-0 (c.in_ok-site.ensures t c.requires.form (c.deref.ensures.value ∙ c.in_ok-rows.ensures)) c.in_default.is

pub returns-in-Some-4 : goal.returns-in-Some-4
returns-in-Some-4 c =
    let s = c.args.scenario.now in
    let t = c.args.trace.now in
    let place = is-placed s t c.requires.form c.in_ok-site.field-0 (c.in_ok-site.ensures t c.requires.form (c.deref.ensures.value ∙ c.in_ok-rows.ensures)) c.in_default.is in
    let legal = rw c.in_default-2.is at c.in_ok-row.ensures.found in
    let logged = rw c.in_default-3.is at c.in_ok-site-2.ensures in
    let first = rw c.in-Some-4.is at c.in_ok-row-2.ensures in
    ((place, legal.0, logged.0, first), failure-unlawful s t c.requires.form fails.Look (Row c.in-Some-4.row) (place, legal.0, logged.0, first))

pub ends_so-requires-clause-placed : goal.ends_so-requires-clause-placed
ends_so-requires-clause-placed c =
    let s = c.args.scenario.now in
    let t = c.args.trace.now in
    is-placed s t c.requires.form c.in_ok-site.field-0 (c.in_ok-site.ensures t c.requires.form (c.deref.ensures.value ∙ c.in_ok-rows.ensures)) c.in_default.is

pub ends_so-requires-clause-players : goal.ends_so-requires-clause-players
ends_so-requires-clause-players c =
    let logged = rw c.in_default-3.is at c.in_ok-site-2.ensures in
    subst (ArePlayedOut c.args.scenario.now c.args.trace.now) (sym c.deref-4.ensures.value) logged.1

pub returns-then-branch : goal.returns-then-branch
returns-then-branch c =
    let s = c.args.scenario.now in
    let t = c.args.trace.now in
    let legal = rw c.in_default-2.is at c.in_ok-row.ensures.found in
    let logged = rw c.in_default-3.is at c.in_ok-site-2.ensures in
    record {
      place = is-placed s t c.requires.form c.in_ok-site.field-0 (c.in_ok-site.ensures t c.requires.form (c.deref.ensures.value ∙ c.in_ok-rows.ensures)) c.in_default.is;
      history = legal.0;
      log = logged.0;
      look = rw c.in_default-4.is at c.in_ok-row-2.ensures;
      ending = c.in_ok-ends_so.ensures.0 c.if-branch.true;
    }

pub returns : goal.returns
returns c =
    let s = c.args.scenario.now in
    let t = c.args.trace.now in
    let place = is-placed s t c.requires.form c.in_ok-site.field-0 (c.in_ok-site.ensures t c.requires.form (c.deref.ensures.value ∙ c.in_ok-rows.ensures)) c.in_default.is in
    let legal = rw c.in_default-2.is at c.in_ok-row.ensures.found in
    let logged = rw c.in_default-3.is at c.in_ok-site-2.ensures in
    let right = rw c.in_default-4.is at c.in_ok-row-2.ensures in
    let never : EndsSo s t → ⊥ = λ so. false≢true (sym c.if-branch.false ∙ c.in_ok-ends_so.ensures.1 so) in
    ((place, legal.0, logged.0, right, never), failure-unlawful s t c.requires.form fails.Ending Ending (place, legal.0, logged.0, right, never))
