use Rattle.std.proofs.Common.{◌≡◌, true, [], ◌∷◌, ◌++◌, length, take, refl, sym, ap, subst, ◌∙◌, arith, length-take}
use Rattle.std.proofs.lemmas.List.{take_all, take_more}
use Rattle.std.proofs.lemmas.Option.{slice_get_read}
use Rattle.zk_base.specs.History.{IsAbove}
use Rattle.zk_base.specs.Legal.{Replays, state_after}
use Rattle.zk_base.proofs.Lists.{All-at}
use Rattle.zk_alike.specs.Answers.{Answers}
use Rattle.zk_failures.proofs.Answered.{above-at, unlike-first, replays-more}
use Rattle.zk_failures.proofs.unlike.first_unlike.Goals as goal

pub loop-place-init : goal.loop-place-init
loop-place-init g c = record { history = c.requires.none; started = refl; stands = tt }

pub answers-requires-clause-later : goal.answers-requires-clause-later
answers-requires-clause-later g c =
    let entries = c.args.entries.now in
    let e = c.index-entries-place.result in
    let here = slice_get_read entries (length entries) c.loop-place.place e refl c.loop-place-test.true c.index-entries-place.is in
    subst (λ h. IsAbove h e.who.number e.step) (sym c.loop-place.invariant.history)
    (above-at g.S.Service.machine entries c.loop-place.place e c.requires.playable.rises here)

pub answers-requires-clause-range : goal.answers-requires-clause-range
answers-requires-clause-range g c =
    let m = g.S.Service.machine in
    let entries = c.args.entries.now in
    let e = c.index-entries-place.result in
    let here = slice_get_read entries (length entries) c.loop-place.place e refl c.loop-place-test.true c.index-entries-place.is in
    ap (λ s. m.in_range s e.op) c.loop-place.invariant.started
    ∙ All-at (λ f. m.in_range (g.S.Service.start c.args.service.now) f.op ≡ true) entries c.loop-place.place e c.requires.playable.range here

pub answers-requires-clause-short : goal.answers-requires-clause-short
answers-requires-clause-short g c =
    let same = ap (λ h. length h) c.loop-place.invariant.history in
    let front = length-take c.loop-place.place c.args.entries.now in
    let short = c.requires.playable.short in
    omega arith

pub returns-in_err-answers-clause-start : goal.returns-in_err-answers-clause-start
returns-in_err-answers-clause-start g c = c.answers.ensures.start ∙ c.loop-place.invariant.started

pub returns-then-not-branch-clause-found : goal.returns-then-not-branch-clause-found
returns-then-not-branch-clause-found g c =
    let m = g.S.Service.machine in
    let entries = c.args.entries.now in
    let e = c.index-entries-place.result in
    let was = c.loop-place.invariant in
    let place = c.loop-place.place in
    let start = g.S.Service.start c.args.service.now in
    let before = g.S.Service.history c.loop-place.service in
    let here = slice_get_read entries (length entries) place e refl c.loop-place-test.true c.index-entries-place.is in
    let said = subst (Answers m (g.S.Service.start c.loop-place.service) before e (g.S.Service.history c.answers.new.service)) c.if-not-branch.true c.in_ok-answers.ensures.answers in
    let same = ap (λ s. m.reply_of (state_after m s before) e.who e.op) was.started ∙ ap (λ h. m.reply_of (state_after m start h) e.who e.op) was.history in
    unlike-first m start entries place e was.stands here (λ is. said (same ∙ is))

pub returns-then-not-branch-clause-start : goal.returns-then-not-branch-clause-start
returns-then-not-branch-clause-start g c = c.answers.ensures.start ∙ c.loop-place.invariant.started

pub loop-place-preserved : goal.loop-place-preserved
loop-place-preserved g c =
    let m = g.S.Service.machine in
    let entries = c.args.entries.now in
    let e = c.index-entries-place.result in
    let was = c.loop-place.invariant in
    let place = c.loop-place.place in
    let start = g.S.Service.start c.args.service.now in
    let before = g.S.Service.history c.loop-place.service in
    let said = subst (Answers m (g.S.Service.start c.loop-place.service) before e (g.S.Service.history c.answers.new.service)) c.if-not-branch.false c.in_ok-answers.ensures.answers in
    let same = ap (λ s. m.reply_of (state_after m s before) e.who e.op) was.started ∙ ap (λ h. m.reply_of (state_after m start h) e.who e.op) was.history in
    let to = take_more entries place e c.loop-place-test.true ∙ ap (λ x. take place entries ++ x ∷ []) (sym c.index-entries-place.is) in
    record {
      history = said.1 ∙ ap (λ h. h ++ e ∷ []) was.history ∙ sym to;
      started = c.answers.ensures.start ∙ was.started;
      stands = subst (Replays m start) (sym to) (replays-more m start (take place entries) e was.stands (sym same ∙ said.0));
    }

pub returns-clause-found : goal.returns-clause-found
returns-clause-found g c =
    subst (Replays g.S.Service.machine (g.S.Service.start c.args.service.now)) (take_all c.loop-place.place c.args.entries.now c.loop-place-test.false)
    c.loop-place.invariant.stands

pub returns-clause-history : goal.returns-clause-history
returns-clause-history g c = λ none. c.loop-place.invariant.history ∙ take_all c.loop-place.place c.args.entries.now c.loop-place-test.false

pub returns-clause-start : goal.returns-clause-start
returns-clause-start g c = c.loop-place.invariant.started
