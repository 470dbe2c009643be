-- A wait is decided at the first moment at which what it waits for is there.
use Rattle.std.proofs.Common.{◌≡◌, ◌<◌, true, false, Some, ◌∷◌, ◌++◌, length, refl, sym, ap, subst, ◌∙◌, arith}
use Rattle.std.specs.List.{Contains}
use Rattle.std.proofs.lemmas.List.{length-append}
use Rattle.std.proofs.lemmas.List.Elements.{All-contains}
use Rattle.zk_base.specs.declared.ids.Who.{Who}
use Rattle.zk_base.specs.declared.ids.Entry.{Entry}
use Rattle.zk_base.specs.declared.waits.Waiter.{Waiter}
use Rattle.zk_base.specs.History.{IsEntry}
use Rattle.zk_base.specs.Legal.{IsLegal}
use Rattle.zk_base.specs.WaitLaws.{WasOpened}
use Rattle.zk_base.proofs.Histories.{state_after-snoc, IsLegal-front}
use Rattle.zk_base.proofs.WaitsHold.{opened-same, each_wait_has_its_opening}
use Rattle.zk_base.proofs.WaitDecisions.{said, decides-said, waited-since}
use Rattle.zk_event.specs.declared.event.Wanted.{Wanted}
use Rattle.zk_event.specs.declared.event.EventOp.{EventOp}
use Rattle.zk_event.specs.declared.event.EventOp.TheVariants as ops
use Rattle.zk_event.specs.declared.event.EventReply.{EventReply}
use Rattle.zk_event.specs.Event.{Event, new_event, holds, told, event_next, event_machine}
use Rattle.zk_event.specs.EventWaits.{wait_decides, waiters}
use Rattle.zk_event.specs.EventLaws.{EventHistory, OfEachEvent, event_after_all, puts, DecidedAtItsMoment, DecidedAtTheFirstMoment}
use Rattle.zk_event.proofs.EventWaits.{has_waiters, first_waiters}
use Rattle.zk_event.proofs.Holding.{none_waits_where_it_holds}

-- an entry that decides puts bits there, and answers those that are there then
decided-so : (s : Event) (who : Who) (op : EventOp) (reply answer : EventReply) (wanted : Wanted) →
    said (wait_decides s op reply) wanted ≡ Some answer →
    (puts op ≡ true) × (told (event_next s who op).bits wanted ≡ Some answer)
decided-so s who (ops.Post bits) reply answer wanted is = (refl, is)
decided-so s who (ops.Set bits) reply answer wanted is = (refl, is)
decided-so s who op reply answer wanted is = absurd (cc)

-- a wait that goes on asked for what its opening says
asked : (h : EventHistory) (w : Waiter Wanted) (who : Who) (wanted : Wanted) → IsLegal event_machine new_event h →
    Contains (event_after_all h).waits.waiting w → WasOpened waiters h w.place who wanted → w.payload ≡ wanted
asked h w who wanted legal held was =
    let own = All-contains (λ (v : Waiter Wanted). WasOpened waiters h v.place v.who v.payload)
    (event_after_all h).waits.waiting w
    (each_wait_has_its_opening event_machine waiters has_waiters new_event h first_waiters legal.0).0 held in
    (opened-same event_machine waiters has_waiters h w.place w.who who w.payload wanted own was).1

front-legal : (h front : EventHistory) (e : Entry EventOp EventReply) → IsLegal event_machine new_event h →
    IsEntry h front e → IsLegal event_machine new_event front
front-legal h front e legal at =
    IsLegal-front event_machine new_event front (e ∷ at.rest) (subst (IsLegal event_machine new_event) at.whole legal)

pub decided_at_its_moment : OfEachEvent DecidedAtItsMoment
decided_at_its_moment h legal front e d at decides who wanted was =
    let new = decides-said event_machine waiters has_waiters new_event h legal.0 front e d at decides in
    let w = new.0 in
    let same = asked front w who wanted (front-legal h front e legal at) new.1
    (subst (λ p. WasOpened waiters front p who wanted) (sym new.2) was) in
    let s = event_after_all front in
    let so = decided-so s e.who e.op e.reply d.answer wanted
    (ap (said (wait_decides s e.op e.reply)) (sym same) ∙ new.3) in
    record {
      puts_bits = so.0;
      answers = ap (λ (t : Event). told t.bits wanted) (state_after-snoc event_machine new_event front e) ∙ so.1;
    }

pub decided_at_the_first_moment : OfEachEvent DecidedAtTheFirstMoment
decided_at_the_first_moment h legal front early later e d at decides parts who wanted was =
    let new = decides-said event_machine waiters has_waiters new_event h legal.0 front e d at decides in
    let w = new.0 in
    let whole = front-legal h front e legal at in
    let start = IsLegal-front event_machine new_event early later (subst (IsLegal event_machine new_event) parts whole) in
    let long : length early ≡ length (was.front ++ was.e ∷ was.at.rest) = ap length was.at.whole in
    let split = length-append was.front (was.e ∷ was.at.rest) in
    let there = was.there in
    let place = new.2 in
    let before : w.place < length early = omega arith in
    let held = waited-since event_machine waiters has_waiters new_event front early later w first_waiters whole.0 parts new.1
    before in
    let same = asked early w who wanted start held (subst (λ p. WasOpened waiters early p who wanted) (sym new.2) was) in
    subst (λ (x : Wanted). holds (event_after_all early).bits x ≡ false) same
    (All-contains (λ (v : Waiter Wanted). holds (event_after_all early).bits v.payload ≡ false)
    (event_after_all early).waits.waiting w (none_waits_where_it_holds early start) held)
