use Rattle.std.proofs.Common.{◌<◌, Ok, IfSome, ap, subst, ◌∙◌, inr, arith}
use Rattle.zk_turn.specs.Passes.{given_to}
use Rattle.zk_work.specs.Seen.{work_start}
use Rattle.zk_trigger.specs.declared.pump.Owed.{Owed}
use Rattle.zk_trigger.specs.Pumps.{HasNext, HasPaid, HasPumped, room_at}
use Rattle.zk_trigger.proofs.PumpSteps.{err-only, pump-next, pump-paid, next-owes}
use Rattle.zk_trigger.proofs.pump.Pump.step.Goals as goal

pub returns-in_err-owed-clause-pump : goal.returns-in_err-owed-clause-pump
returns-in_err-owed-clause-pump g c = λ who is.
    pump-next c.args.triggers.now c.args.work.now who c.args.self.now c.next_owed.new.self is
    (c.next_owed.ensures.own who is.at_triggers) c.next_owed.result (c.next_owed.ensures.next who is.at_triggers)

pub returns-in_default-clause-pump : goal.returns-in_default-clause-pump
returns-in_default-clause-pump g c = λ who is.
    pump-next c.args.triggers.now c.args.work.now who c.args.self.now c.next_owed.new.self is
    (c.next_owed.ensures.own who is.at_triggers) c.next_owed.result (c.next_owed.ensures.next who is.at_triggers)

pub returns-in_default-clause-pumped : goal.returns-in_default-clause-pumped
returns-in_default-clause-pumped g c = λ who is.
    subst (HasNext who c.args.self.now c.next_owed.new.self) (c.in_ok-owed.was ∙ ap Ok c.in_default.is)
    (c.next_owed.ensures.next who is.at_triggers)

pub pay-requires-clause-own : goal.pay-requires-clause-own
pay-requires-clause-own g c =
    let r = c.requires.pump in
    let mid = pump-next c.args.triggers.now c.args.work.now r.0 c.args.self.now c.next_owed.new.self r.1
    (c.next_owed.ensures.own r.0 r.1.at_triggers) c.next_owed.result (c.next_owed.ensures.next r.0 r.1.at_triggers) in
    (r.0, mid.at_work)

pub pay-requires-clause-room : goal.pay-requires-clause-room
pay-requires-clause-room g c =
    let r = c.requires.pump in
    let found = subst (HasNext r.0 c.args.self.now c.next_owed.new.self) (c.in_ok-owed.was ∙ ap Ok c.in-Some.is)
    (c.next_owed.ensures.next r.0 r.1.at_triggers) in
    let owes = next-owes r.0 c.in-Some.owed c.args.self.now c.next_owed.new.self found in
    let same = ap room_at owes.1 in
    let room = c.requires.room.1 in
    omega arith

pub pay-requires-clause-short : goal.pay-requires-clause-short
pay-requires-clause-short g c =
    let r = c.requires.pump in
    let mid = pump-next c.args.triggers.now c.args.work.now r.0 c.args.self.now c.next_owed.new.self r.1
    (c.next_owed.ensures.own r.0 r.1.at_triggers) c.next_owed.result (c.next_owed.ensures.next r.0 r.1.at_triggers) in
    let short = mid.short in
    omega arith

pub pay-requires-clause-range : goal.pay-requires-clause-range
pay-requires-clause-range g c =
    let r = c.requires.pump in
    let mid = pump-next c.args.triggers.now c.args.work.now r.0 c.args.self.now c.next_owed.new.self r.1
    (c.next_owed.ensures.own r.0 r.1.at_triggers) c.next_owed.result (c.next_owed.ensures.next r.0 r.1.at_triggers) in
    let found = subst (HasNext r.0 c.args.self.now c.next_owed.new.self) (c.in_ok-owed.was ∙ ap Ok c.in-Some.is)
    (c.next_owed.ensures.next r.0 r.1.at_triggers) in
    let owes = next-owes r.0 c.in-Some.owed c.args.self.now c.next_owed.new.self found in
    subst (λ o. IfSome o (λ (x : Owed). (x.item < 256) × (x.queue < 8))) owes.0 mid.range

pub returns-in_err-submitted-clause-pump : goal.returns-in_err-submitted-clause-pump
returns-in_err-submitted-clause-pump g c = λ who is.
    let mid = pump-next c.args.triggers.now c.args.work.now who c.args.self.now c.next_owed.new.self is
    (c.next_owed.ensures.own who is.at_triggers) c.next_owed.result (c.next_owed.ensures.next who is.at_triggers) in
    let found = subst (HasNext who c.args.self.now c.next_owed.new.self) (c.in_ok-owed.was ∙ ap Ok c.in-Some.is)
    (c.next_owed.ensures.next who is.at_triggers) in
    let owes = next-owes who c.in-Some.owed c.args.self.now c.next_owed.new.self found in
    pump-paid c.args.triggers.now c.args.work.now who c.next_owed.new.self c.pay.new.self mid
    (c.pay.ensures.own who mid.at_work) c.in-Some.owed owes.0 (work_start (given_to c.args.work.now)) c.pay.result
    (c.pay.ensures.paid who mid.at_work)

pub returns-in_err-submitted-clause-pumped : goal.returns-in_err-submitted-clause-pumped
returns-in_err-submitted-clause-pumped g c = λ who is.
    let mid = pump-next c.args.triggers.now c.args.work.now who c.args.self.now c.next_owed.new.self is
    (c.next_owed.ensures.own who is.at_triggers) c.next_owed.result (c.next_owed.ensures.next who is.at_triggers) in
    let found = subst (HasNext who c.args.self.now c.next_owed.new.self) (c.in_ok-owed.was ∙ ap Ok c.in-Some.is)
    (c.next_owed.ensures.next who is.at_triggers) in
    let left = subst (HasPaid who (work_start (given_to c.args.work.now)) c.in-Some.owed c.next_owed.new.self c.pay.new.self)
    c.in_err-submitted.was (c.pay.ensures.paid who mid.at_work) in
    err-only (HasPumped who (work_start (given_to c.args.work.now)) c.args.self.now c.pay.new.self)
    c.from_residual-in_err-submitted.result c.from_residual-in_err-submitted.ensures.0
    (λ e. inr (c.next_owed.new.self, c.in-Some.owed, found, left))

pub returns-clause-pump : goal.returns-clause-pump
returns-clause-pump g c = λ who is.
    let mid = pump-next c.args.triggers.now c.args.work.now who c.args.self.now c.next_owed.new.self is
    (c.next_owed.ensures.own who is.at_triggers) c.next_owed.result (c.next_owed.ensures.next who is.at_triggers) in
    let found = subst (HasNext who c.args.self.now c.next_owed.new.self) (c.in_ok-owed.was ∙ ap Ok c.in-Some.is)
    (c.next_owed.ensures.next who is.at_triggers) in
    let owes = next-owes who c.in-Some.owed c.args.self.now c.next_owed.new.self found in
    pump-paid c.args.triggers.now c.args.work.now who c.next_owed.new.self c.pay.new.self mid
    (c.pay.ensures.own who mid.at_work) c.in-Some.owed owes.0 (work_start (given_to c.args.work.now)) c.pay.result
    (c.pay.ensures.paid who mid.at_work)

pub returns-clause-pumped : goal.returns-clause-pumped
returns-clause-pumped g c = λ who is.
    let mid = pump-next c.args.triggers.now c.args.work.now who c.args.self.now c.next_owed.new.self is
    (c.next_owed.ensures.own who is.at_triggers) c.next_owed.result (c.next_owed.ensures.next who is.at_triggers) in
    let found = subst (HasNext who c.args.self.now c.next_owed.new.self) (c.in_ok-owed.was ∙ ap Ok c.in-Some.is)
    (c.next_owed.ensures.next who is.at_triggers) in
    let paid = subst (HasPaid who (work_start (given_to c.args.work.now)) c.in-Some.owed c.next_owed.new.self c.pay.new.self)
    c.in_ok-submitted.was (c.pay.ensures.paid who mid.at_work) in
    (c.next_owed.new.self, c.in-Some.owed, found, paid)
