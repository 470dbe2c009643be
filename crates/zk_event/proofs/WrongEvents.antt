-- Wrong event objects. Of each a short history that it lets stand, and the law that is false of it.
use Rattle.std.proofs.Common.{◌≡◌, refl}
use Rattle.std.specs.Prelude.{pos, true, false, Option, Some, [], ◌∷◌}
use Rattle.zk_base.specs.declared.ids.Who.{Who}
use Rattle.zk_base.specs.History.{entry}
use Rattle.zk_base.specs.Legal.{Machine, Replays}
use Rattle.zk_event.specs.declared.event.EventOp.{EventOp}
use Rattle.zk_event.specs.declared.event.EventOp.TheVariants as ops
use Rattle.zk_event.specs.declared.event.EventReply.{EventReply}
use Rattle.zk_event.specs.declared.event.EventReply.TheVariants.{Was, Bits}
use Rattle.zk_event.specs.Event.{Event, new_event, told, found, wait_reply, event_reply, event_next, event_machine}
use Rattle.zk_event.specs.EventLaws.{EventHistory, AnswersWhatIsThere}

abbrev pub one : Who
one = record { number = 0; prio = pos 0 }

-- all of a mask read as any of it
abbrev pub reply_any : Event → Who → EventOp → Option EventReply
reply_any s who (ops.Wait mask all reset waits) = event_reply s who (ops.Wait mask false reset waits)
reply_any s who op = event_reply s who op

abbrev pub next_any : Event → Who → EventOp → Event
next_any s who (ops.Wait mask all reset waits) = event_next s who (ops.Wait mask false reset waits)
next_any s who op = event_next s who op

abbrev pub reads_all_as_any : Machine Event EventOp EventReply
reads_all_as_any = record event_machine { reply_of = reply_any; next = next_any }

abbrev pub one_of_two : EventHistory
one_of_two = entry one 0 (ops.Post 1) (Was 0) ∷ entry one 1 (ops.Wait 3 true false false) (Bits 1) ∷ []

pub one_of_two-replays : Replays reads_all_as_any new_event one_of_two
one_of_two-replays = (refl, (refl, tt))

pub one_of_two-refused : AnswersWhatIsThere one_of_two → ⊥
one_of_two-refused answers =
    let is : ◌≡◌ {A = EventReply} (Bits 1) (Bits 0) =
    answers (entry one 0 (ops.Post 1) (Was 0) ∷ []) (entry one 1 (ops.Wait 3 true false false) (Bits 1)) (Bits 0)
    (record { rest = []; whole = refl }) refl in
    cc is

-- a reset behind the test: the bits that it takes away are found
abbrev pub reply_early : Event → Who → EventOp → Option EventReply
reply_early s who (ops.Wait mask all reset waits) = Some (wait_reply (told s.bits (record { mask = mask; all = all })) waits)
reply_early s who op = event_reply s who op

abbrev pub next_early : Event → Who → EventOp → Event
next_early s who (ops.Wait mask all reset waits) =
    let after = event_next s who (ops.Wait mask all false waits) in record after { bits = found reset s.bits }
next_early s who op = event_next s who op

abbrev pub resets_behind_the_test : Machine Event EventOp EventReply
resets_behind_the_test = record event_machine { reply_of = reply_early; next = next_early }

abbrev pub found_before : EventHistory
found_before = entry one 0 (ops.Post 4) (Was 0) ∷ entry one 1 (ops.Wait 4 false true false) (Bits 4) ∷ []

pub found_before-replays : Replays resets_behind_the_test new_event found_before
found_before-replays = (refl, (refl, tt))

pub found_before-refused : AnswersWhatIsThere found_before → ⊥
found_before-refused answers =
    let is : ◌≡◌ {A = EventReply} (Bits 4) (Bits 0) =
    answers (entry one 0 (ops.Post 4) (Was 0) ∷ []) (entry one 1 (ops.Wait 4 false true false) (Bits 4)) (Bits 0)
    (record { rest = []; whole = refl }) refl in
    cc is
