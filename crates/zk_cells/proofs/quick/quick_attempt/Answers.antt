use Rattle.std.proofs.Common.{refl, subst, arith}
use Rattle.zk_cells.specs.Desks.{desk_shown}
use Rattle.zk_cells.specs.Signals.{WroteAmong, FoundAmong}
use Rattle.zk_worker.proofs.Between.{above-work}
use Rattle.zk_cells.proofs.Attempts.{item-has-word, looked-item}
use Rattle.zk_cells.proofs.SignalSteps.{few-noted}
use Rattle.zk_cells.proofs.Quickly.{attempted-write, kept-write, served-write, fell-write, attempted-looked, kept-look, served-look, fell-look, rose-look, once-look, clear-look, kept-item, fell-item, served-item}
use Rattle.zk_cells.proofs.quick.quick_attempt.Goals as goal

pub write_at-stamp-requires-clause-few : goal.write_at-stamp-requires-clause-few
write_at-stamp-requires-clause-few c =
    let n = few-noted c.args.who c.args.number (desk_shown c.args.passes.now) c.args.passes.now.notes.items c.requires.later c.requires.served.noted in
    let lt = c.requires.number in
    omega arith

pub write_at-stamp-requires-clause-room : goal.write_at-stamp-requires-clause-room
write_at-stamp-requires-clause-room c =
    let n = few-noted c.args.who c.args.number (desk_shown c.args.passes.now) c.args.passes.now.notes.items c.requires.later c.requires.served.noted in
    let lt = c.requires.room in
    let was = c.requires.served.capacity in
    omega arith

pub returns-in-Signal-clause-attempted : goal.returns-in-Signal-clause-attempted
returns-in-Signal-clause-attempted c =
    let w = c.write_at-stamp in
    let wrote = subst (λ ss. WroteAmong ss c.in-Signal.object c.args.who c.args.number c.in-Signal.op w.result c.args.passes.now.signals.items w.new.passes.items c.args.passes.now.notes.items w.new.notes.items) c.deref.ensures.value w.ensures.wrote in
    attempted-write c.args.cells.now c.args.passes.now c.args.who c.args.number c.in-Signal.object c.in-Signal.op w.result w.new.passes w.new.notes c.requires.served wrote _ _ c.in-Signal.is refl

pub returns-in-Signal-clause-elsewhere : goal.returns-in-Signal-clause-elsewhere
returns-in-Signal-clause-elsewhere c =
    let w = c.write_at-stamp in
    let wrote = subst (λ ss. WroteAmong ss c.in-Signal.object c.args.who c.args.number c.in-Signal.op w.result c.args.passes.now.signals.items w.new.passes.items c.args.passes.now.notes.items w.new.notes.items) c.deref.ensures.value w.ensures.wrote in
    kept-write c.args.cells.now c.args.passes.now c.args.who c.args.number c.in-Signal.object c.in-Signal.op w.result w.new.passes w.new.notes c.requires.served wrote _ c.in-Signal.is

pub returns-in-Signal-clause-counts : goal.returns-in-Signal-clause-counts
returns-in-Signal-clause-counts c =
    let w = c.write_at-stamp in
    let wrote = subst (λ ss. WroteAmong ss c.in-Signal.object c.args.who c.args.number c.in-Signal.op w.result c.args.passes.now.signals.items w.new.passes.items c.args.passes.now.notes.items w.new.notes.items) c.deref.ensures.value w.ensures.wrote in
    fell-write c.args.cells.now c.args.passes.now c.args.who c.args.number c.in-Signal.object c.in-Signal.op w.result w.new.passes w.new.notes c.requires.served wrote

pub returns-in-Signal-clause-served : goal.returns-in-Signal-clause-served
returns-in-Signal-clause-served c =
    let w = c.write_at-stamp in
    let wrote = subst (λ ss. WroteAmong ss c.in-Signal.object c.args.who c.args.number c.in-Signal.op w.result c.args.passes.now.signals.items w.new.passes.items c.args.passes.now.notes.items w.new.notes.items) c.deref.ensures.value w.ensures.wrote in
    let was = c.requires.served.capacity in
    let kept = w.ensures.capacity in
    served-write c.args.cells.now c.args.passes.now c.args.who c.args.number c.in-Signal.object c.in-Signal.op w.result w.new.passes w.new.notes c.requires.served wrote c.requires.later (omega arith)

pub returns-in-LookSignal-clause-attempted : goal.returns-in-LookSignal-clause-attempted
returns-in-LookSignal-clause-attempted c =
    let l = c.look_at-seen in
    let found = subst (λ ss. FoundAmong ss c.in-LookSignal.object l.result c.args.passes.now.signals.items l.new.passes.items) c.deref-in-LookSignal.ensures.value l.ensures.found in
    attempted-looked c.args.cells.now c.args.passes.now c.args.who c.args.number c.in-LookSignal.object c.in-LookSignal.must l.result l.new.passes c.requires.served found _ _ c.in-LookSignal.is c.told.ensures

pub returns-in-LookSignal-clause-elsewhere : goal.returns-in-LookSignal-clause-elsewhere
returns-in-LookSignal-clause-elsewhere c =
    let l = c.look_at-seen in
    let found = subst (λ ss. FoundAmong ss c.in-LookSignal.object l.result c.args.passes.now.signals.items l.new.passes.items) c.deref-in-LookSignal.ensures.value l.ensures.found in
    kept-look c.args.cells.now c.args.passes.now c.args.who c.args.number c.in-LookSignal.object c.in-LookSignal.must l.result l.new.passes c.requires.served found _ c.in-LookSignal.is

pub returns-in-LookSignal-clause-counts : goal.returns-in-LookSignal-clause-counts
returns-in-LookSignal-clause-counts c =
    let l = c.look_at-seen in
    let found = subst (λ ss. FoundAmong ss c.in-LookSignal.object l.result c.args.passes.now.signals.items l.new.passes.items) c.deref-in-LookSignal.ensures.value l.ensures.found in
    fell-look c.args.cells.now c.args.passes.now c.args.who c.args.number c.in-LookSignal.object c.in-LookSignal.must l.result l.new.passes c.requires.served found

pub returns-in-LookSignal-clause-rose : goal.returns-in-LookSignal-clause-rose
returns-in-LookSignal-clause-rose c = λ none.
    let l = c.look_at-seen in
    let found = subst (λ ss. FoundAmong ss c.in-LookSignal.object l.result c.args.passes.now.signals.items l.new.passes.items) c.deref-in-LookSignal.ensures.value l.ensures.found in
    rose-look c.args.cells.now c.args.passes.now c.args.who c.args.number c.in-LookSignal.object c.in-LookSignal.must l.result l.new.passes c.requires.served found _ c.in-LookSignal.is

pub returns-in-LookSignal-clause-once : goal.returns-in-LookSignal-clause-once
returns-in-LookSignal-clause-once c = λ none.
    let l = c.look_at-seen in
    let found = subst (λ ss. FoundAmong ss c.in-LookSignal.object l.result c.args.passes.now.signals.items l.new.passes.items) c.deref-in-LookSignal.ensures.value l.ensures.found in
    once-look c.args.cells.now c.args.passes.now c.args.who c.args.number c.in-LookSignal.object c.in-LookSignal.must l.result l.new.passes c.requires.served found _ c.in-LookSignal.is

pub returns-in-LookSignal-clause-none : goal.returns-in-LookSignal-clause-none
returns-in-LookSignal-clause-none c = λ none.
    let l = c.look_at-seen in
    let found = subst (λ ss. FoundAmong ss c.in-LookSignal.object l.result c.args.passes.now.signals.items l.new.passes.items) c.deref-in-LookSignal.ensures.value l.ensures.found in
    clear-look c.args.cells.now c.args.passes.now c.args.who c.args.number c.in-LookSignal.object c.in-LookSignal.must l.result l.new.passes c.requires.served found _ _ c.in-LookSignal.is c.told.ensures none

pub returns-in-LookSignal-clause-served : goal.returns-in-LookSignal-clause-served
returns-in-LookSignal-clause-served c =
    let l = c.look_at-seen in
    let found = subst (λ ss. FoundAmong ss c.in-LookSignal.object l.result c.args.passes.now.signals.items l.new.passes.items) c.deref-in-LookSignal.ensures.value l.ensures.found in
    served-look c.args.cells.now c.args.passes.now c.args.who c.args.number c.in-LookSignal.object c.in-LookSignal.must l.result l.new.passes c.requires.served found

pub look-found-requires-clause-at : goal.look-found-requires-clause-at
look-found-requires-clause-at c = (c.args.passes.now.looked, c.requires.served.work, c.requires.later.looked)

pub look-found-requires-clause-later : goal.look-found-requires-clause-later
look-found-requires-clause-later c = above-work (desk_shown c.args.passes.now) c.args.who.number c.args.number c.requires.later

pub look-found-requires-clause-index : goal.look-found-requires-clause-index
look-found-requires-clause-index c =
    item-has-word c.args.cells.now c.in-LookItem.object c.item_at-item.result c.item_at-item.ensures (rw c.in-LookItem.is at c.requires.range) c.requires.served.items

pub returns-in-LookItem-clause-attempted : goal.returns-in-LookItem-clause-attempted
returns-in-LookItem-clause-attempted c =
    let l = c.look-found in
    looked-item c.args.cells.now c.args.passes.now c.args.who c.args.number c.in-LookItem.object c.item_at-item.result l.result.word l.result.at _ l.new.seat l.ensures.grew
    c.item_at-item.ensures (rw c.in-LookItem.is at c.requires.range) l.ensures.word l.ensures.place c.in-LookItem.is

pub returns-in-LookItem-clause-elsewhere : goal.returns-in-LookItem-clause-elsewhere
returns-in-LookItem-clause-elsewhere c =
    kept-item c.args.cells.now c.args.passes.now c.args.who c.args.number c.look-found.new.seat _ c.in-LookItem.object c.in-LookItem.is

pub returns-in-LookItem-clause-counts : goal.returns-in-LookItem-clause-counts
returns-in-LookItem-clause-counts c =
    fell-item c.args.cells.now c.args.passes.now c.args.who c.args.number c.look-found.new.seat c.look-found.ensures.holds

pub returns-in-LookItem-clause-served : goal.returns-in-LookItem-clause-served
returns-in-LookItem-clause-served c =
    served-item c.args.cells.now c.args.passes.now c.args.who c.args.number c.look-found.new.seat c.requires.served c.look-found.ensures.at
