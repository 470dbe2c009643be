-- What one entry does, by itself.
use Rattle.std.proofs.Common.{◌≡◌, ◌+◌, Some, ◌∷◌, ◌++◌, refl, sym, subst, add-zero}
use Rattle.zk_base.specs.declared.ids.Who.{Who}
use Rattle.zk_base.specs.declared.ids.Entry.{Entry}
use Rattle.zk_base.specs.Legal.{state_after, IsLegal}
use Rattle.zk_base.proofs.Histories.{IsLegal-front, state_after-snoc, Replays-rest}
use Rattle.zk_model_work.specs.declared.ops.WorkOp.{WorkOp}
use Rattle.zk_model_work.specs.declared.ops.WorkOp.TheVariants.{Submit, Cancel, CancelStart, CancelDone, FlushStart, FlushDone, Schedule, Reschedule, Remaining, Start, DrainStart, DrainDone, Unplug, Stop, Announce, Begin, End}
use Rattle.zk_model_work.specs.declared.ops.WorkReply.{WorkReply}
use Rattle.zk_model_work.specs.State.{State}
use Rattle.zk_model_work.specs.Machine.{work_reply, work_next, work_machine, disarm}
use Rattle.zk_model_work.specs.Histories.{WorkHistory, AtEach, IsFreshHistory, OfEach, ticks_of}
use Rattle.zk_model_work.specs.Laws.{OnlyAnnouncesPassTime}
use Rattle.zk_model_work.proofs.Moves.{schedule-keeps, delayed-keeps}
use Rattle.zk_model_work.proofs.Begins.{Replays-parts}

-- an entry of a history has the reply of the machine
pub entry-replied : (start : State) (h front rest : WorkHistory) (e : Entry WorkOp WorkReply) → IsFreshHistory start h →
    h ≡ front ++ e ∷ rest →
    work_reply (state_after work_machine start front) e.who e.op ≡ Some e.reply
entry-replied start h front rest e fresh parts =
    (Replays-rest work_machine start front (e ∷ rest) (Replays-parts start h (front ++ e ∷ rest) fresh parts)).0

-- what holds of each step of the machine holds of each entry
pub at_each : (P : State → Entry WorkOp WorkReply → State → Type 0) →
    ((s : State) (e : Entry WorkOp WorkReply) → work_reply s e.who e.op ≡ Some e.reply → P s e (work_next s e.who e.op)) →
    OfEach (AtEach P)
at_each P each start h fresh = record {
  each = λ front rest e parts.
      subst (P (state_after work_machine start front) e) (sym (state_after-snoc work_machine start front e))
      (each (state_after work_machine start front) e (entry-replied start h front rest e fresh parts));
}

-- a front of a history is one
pub fresh-front : (start : State) (h front rest : WorkHistory) → IsFreshHistory start h → h ≡ front ++ rest →
    IsFreshHistory start front
fresh-front start h front rest fresh parts = record {
  work = record {
    fresh = fresh.work.fresh;
    legal = IsLegal-front work_machine start front rest (subst (IsLegal work_machine start) parts fresh.work.legal);
  };
  first = fresh.first;
  arms = fresh.arms;
  marks = fresh.marks;
  waits = fresh.waits;
  undrained = fresh.undrained;
}

-- and where something holds in every state, it may be used of the state before
pub at_each_in : (Holds : State → Type 0) →
    ((start : State) (h : WorkHistory) → IsFreshHistory start h → Holds (state_after work_machine start h)) →
    (P : State → Entry WorkOp WorkReply → State → Type 0) →
    ((s : State) (e : Entry WorkOp WorkReply) → Holds s → work_reply s e.who e.op ≡ Some e.reply →
    P s e (work_next s e.who e.op)) → OfEach (AtEach P)
at_each_in Holds always P each start h fresh = record {
  each = λ front rest e parts.
      let s = state_after work_machine start front in
      subst (P s e) (sym (state_after-snoc work_machine start front e))
      (each s e (always start front (fresh-front start h front (e ∷ rest) fresh parts))
      (entry-replied start h front rest e fresh parts));
}

time-next : (s : State) (who : Who) (op : WorkOp) → (work_next s who op).time ≡ s.time + ticks_of op
time-next s who (Submit item named) = sym (add-zero s.time)
time-next s who (Cancel item) = sym (add-zero s.time)
time-next s who (CancelStart item) = sym (add-zero s.time)
time-next s who (CancelDone place) = sym (add-zero s.time)
time-next s who (FlushStart item) = sym (add-zero s.time)
time-next s who (FlushDone place) = sym (add-zero s.time)
time-next s who (Schedule item queue delay) =
    schedule-keeps (λ t. t.time ≡ s.time + 0) s who item queue delay (sym (add-zero s.time)) (sym (add-zero s.time))
    (λ free later. sym (add-zero s.time))
time-next s who (Reschedule item queue delay) =
    delayed-keeps (λ t. t.time ≡ s.time + 0) (record s { arms = disarm s.arms item }) who item queue delay
    (sym (add-zero s.time)) (λ later. sym (add-zero s.time))
time-next s who (Remaining item) = sym (add-zero s.time)
time-next s who (Start queue) = sym (add-zero s.time)
time-next s who (DrainStart queue plug) = sym (add-zero s.time)
time-next s who (DrainDone place) = sym (add-zero s.time)
time-next s who (Unplug queue) = sym (add-zero s.time)
time-next s who (Stop queue) = sym (add-zero s.time)
time-next s who (Announce ticks) = refl
time-next s who (Begin queue) = sym (add-zero s.time)
time-next s who (End queue) = sym (add-zero s.time)

pub only_announces_pass_time : OfEach OnlyAnnouncesPassTime
only_announces_pass_time = at_each _ (λ s e is. time-next s e.who e.op)
