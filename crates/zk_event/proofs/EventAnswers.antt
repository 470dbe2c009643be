-- What an event object answers, by the bits before the entry.
use Rattle.std.proofs.Common.{◌≡◌, Some, ◌∷◌, sym, subst, ◌∙◌}
use Rattle.std.proofs.lemmas.Option.{same_Some}
use Rattle.zk_base.specs.declared.ids.Who.{Who}
use Rattle.zk_base.specs.declared.ids.Entry.{Entry}
use Rattle.zk_base.specs.History.{IsEntry}
use Rattle.zk_base.specs.Legal.{Replays}
use Rattle.zk_base.proofs.Histories.{Replays-rest}
use Rattle.zk_event.specs.declared.event.EventOp.{EventOp}
use Rattle.zk_event.specs.declared.event.EventOp.TheVariants as ops
use Rattle.zk_event.specs.declared.event.EventReply.{EventReply}
use Rattle.zk_event.specs.Event.{Event, new_event, event_reply, event_machine}
use Rattle.zk_event.specs.EventLaws.{EventHistory, OfEachEvent, event_after_all, answered_by, AnswersWhatIsThere}

-- the reply of an entry is the machine's
replied : (h front : EventHistory) (e : Entry EventOp EventReply) → Replays event_machine new_event h → IsEntry h front e →
    event_reply (event_after_all front) e.who e.op ≡ Some e.reply
replied h front e replays at =
    (Replays-rest event_machine new_event front (e ∷ at.rest) (subst (Replays event_machine new_event) at.whole replays)).0

answers-so : (s : Event) (who : Who) (op : EventOp) (reply : EventReply) → answered_by s.bits op ≡ Some reply →
    event_reply s who op ≡ Some reply
answers-so s who (ops.Post bits) reply is = is
answers-so s who (ops.Set bits) reply is = is
answers-so s who (ops.Clear bits) reply is = is
answers-so s who (ops.Wait mask all reset waits) reply is = is
answers-so s who (ops.WaitEnd place) reply is = absurd (cc)
answers-so s who (ops.WaitQuit place) reply is = absurd (cc)

pub answers_what_is_there : OfEachEvent AnswersWhatIsThere
answers_what_is_there h legal front e reply at is =
    same_Some e.reply reply
    (sym (replied h front e legal.0 at) ∙ answers-so (event_after_all front) e.who e.op reply is)
