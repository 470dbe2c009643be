use Rattle.std.proofs.Common.{ℕ, Bool, sym, ap, ◌∙◌, arith}
use Rattle.std.specs.List.{slice_get}
use Rattle.zk_worker.specs.Polls.{ask_step, polling}
use Rattle.zk_worker.proofs.PollSteps.{unasked_within, asked_first, asked_later}
use Rattle.zk_worker.proofs.polls.polling_ahead.Goals as goal

pub offset_bounds-events-place : goal.offset_bounds-events-place
offset_bounds-events-place c =
    let within = unasked_within c.args.events.now c.args.marks.now c.in-Some.place (sym c.unasked_from.ensures ∙ c.in-Some.is) in
    omega (arith, within.0, c.requires)

pub bounds-events-place : goal.bounds-events-place
bounds-events-place c = (unasked_within c.args.events.now c.args.marks.now c.in-Some.place (sym c.unasked_from.ensures ∙ c.in-Some.is)).0

pub returns-in-Some : goal.returns-in-Some
returns-in-Some c =
    let steps = polling c.args.timeout c.args.events.now c.args.alarm c.args.marks.now in
    let event = c.index-events-place.result in
    c.ask_ahead.ensures ∙ ap (λ (registers : Bool). ask_step registers event) c.registers.ensures
    ∙ sym (asked_first c.args.timeout c.args.events.now c.args.alarm c.args.marks.now c.in-Some.place event (sym c.unasked_from.ensures ∙ c.in-Some.is) c.index-events-place.is)
    ∙ ap (λ (k : ℕ). slice_get steps k) (sym c.if-index-eq0.true)

pub returns-in-Some-2 : goal.returns-in-Some-2
returns-in-Some-2 c =
    sym (asked_later c.args.timeout c.args.events.now c.args.alarm c.args.marks.now c.in-Some-2.field-0 c.args.index (sym c.unasked_from.ensures ∙ c.in-Some-2.is) (omega (arith, c.if-index-eq0.false)))
