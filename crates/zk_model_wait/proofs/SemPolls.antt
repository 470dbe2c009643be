-- Polls at a semaphore.
use Rattle.std.proofs.Common.{◌≡◌, ℕ, zero, suc, Bool, true, false, Some, None, List, [], ◌∷◌, refl, sym, ap, subst, ◌∙◌, arith}
use Rattle.std.proofs.lemmas.Option.{same_Some}
use Rattle.zk_base.specs.declared.ids.Who.{Who}
use Rattle.zk_base.specs.declared.ids.Entry.{Entry}
use Rattle.zk_base.specs.declared.waits.Waiter.{Waiter}
use Rattle.zk_base.specs.WaitLaws.{nobody, after_decision, after_entry, HasWaits, IsFirst, KeepsWaits}
use Rattle.zk_base.proofs.Histories.{state_after-snoc}
use Rattle.zk_base.proofs.WaitDecisions.{said, decides-said}
use Rattle.zk_base.proofs.WaitsKept.{keeps_waits}
use Rattle.zk_model_wait.specs.declared.sem.SemOp.{SemOp}
use Rattle.zk_model_wait.specs.declared.sem.SemOp.TheVariants as ops
use Rattle.zk_model_wait.specs.declared.sem.SemReply.{SemReply}
use Rattle.zk_model_wait.specs.declared.sem.SemReply.TheVariants.{Noted}
use Rattle.zk_model_wait.specs.Polls.{NotesOne}
use Rattle.zk_model_wait.specs.Sem.{Sem, new_sem, poll_reply, arm_at, give_to, sem_reply, sem_next, sem_machine}
use Rattle.zk_model_wait.specs.SemWaits.{poll_opens, give_notifies, poll_decides, pollers}
use Rattle.zk_model_wait.specs.SemLaws.{SemHistory, OfEachSem, sem_after_all, PollIsTold, IsChance, polls, PollArmAnswers, NotedAtAChance, EachChanceNotesOne, PollingTakesNothing}
use Rattle.zk_model_wait.proofs.Polls.{one-noted}
use Rattle.zk_model_wait.proofs.SemCounts.{take-polls, replied}

arm-moves : (n : ℕ) (s : Sem) (who : Who) (waits : Bool) (reply : SemReply) → poll_reply n waits ≡ reply →
    arm_at n s who waits ≡ after_entry s.pollers s.entries who nobody (poll_opens (ops.PollArm waits) reply) None None
arm-moves n s who waits reply told =
    subst (λ (r : SemReply). arm_at n s who waits ≡ after_entry s.pollers s.entries who nobody
    (poll_opens (ops.PollArm waits) r) None None) told (by n waits) where
      by : (n : ℕ) (waits : Bool) →
          arm_at n s who waits ≡ after_entry s.pollers s.entries who nobody
          (poll_opens (ops.PollArm waits) (poll_reply n waits)) None None
      by zero false = refl
      by zero true = refl
      by (suc n) waits = refl

give-polls : (waiting : List (Waiter Unit)) (s : Sem) →
    (give_to waiting s).pollers ≡ after_decision (give_notifies waiting) s.pollers
give-polls [] s = refl
give-polls (w ∷ ws) s = refl

poll-moves : (s : Sem) (who : Who) (op : SemOp) (reply : SemReply) → sem_reply s who op ≡ Some reply →
    (sem_next s who op).pollers ≡ after_entry s.pollers s.entries who (pollers.decides s op reply)
    (pollers.opens op reply) (pollers.ends op) (pollers.quits op)
poll-moves s who (ops.Take waits) reply is = take-polls s.count s who waits
poll-moves s who (ops.TakeEnd place) reply is = refl
poll-moves s who (ops.TakeQuit place) reply is = refl
poll-moves s who ops.Give reply is = give-polls s.takers.waiting s
poll-moves s who ops.Reset reply is = refl
poll-moves s who ops.Count reply is = refl
poll-moves s who (ops.PollArm waits) reply is =
    arm-moves s.count s who waits reply (same_Some (poll_reply s.count waits) reply is)
poll-moves s who (ops.PollEnd place) reply is = refl
poll-moves s who (ops.PollQuit place) reply is = refl

poll-ends : (s : Sem) (who : Who) (op : SemOp) (place : ℕ) → pollers.ends op ≡ Some place →
    sem_reply s who op ≡ sem_reply s who (ops.PollEnd place)
poll-ends s who (ops.PollEnd at) place is = ap (λ (p : ℕ). sem_reply s who (ops.PollEnd p)) (same_Some at place is)
poll-ends s who op place is = absurd (cc)

poll-quits : (s : Sem) (who : Who) (op : SemOp) (place : ℕ) → pollers.quits op ≡ Some place →
    sem_reply s who op ≡ sem_reply s who (ops.PollQuit place)
poll-quits s who (ops.PollQuit at) place is = ap (λ (p : ℕ). sem_reply s who (ops.PollQuit p)) (same_Some at place is)
poll-quits s who op place is = absurd (cc)

poll-opens_alone : (op : SemOp) (reply : SemReply) (payload : Unit) → pollers.opens op reply ≡ Some payload →
    (pollers.ends op ≡ None) × (pollers.quits op ≡ None)
poll-opens_alone (ops.PollArm waits) reply payload is = (refl, refl)
poll-opens_alone op reply payload is = absurd (cc)

poll-ends_alone : (op : SemOp) (place : ℕ) → pollers.ends op ≡ Some place → pollers.quits op ≡ None
poll-ends_alone (ops.PollEnd at) place is = refl
poll-ends_alone op place is = absurd (cc)

-- polls are waits: those for a note
pub has_pollers : HasWaits sem_machine pollers
has_pollers = record {
  counts = λ s who op. refl;
  moves = poll-moves;
  ends = poll-ends;
  quits = poll-quits;
  opens_alone = poll-opens_alone;
  ends_alone = poll-ends_alone;
}

first_pollers : (initial limit : ℕ) → IsFirst pollers (new_sem initial limit)
first_pollers initial limit = record { none = refl; new = refl }

pub pollers_hold : OfEachSem (KeepsWaits sem_machine pollers)
pollers_hold initial limit low h legal = keeps_waits sem_machine pollers has_pollers (new_sem initial limit) h
    (first_pollers initial limit) legal.0

poll-told : (count : ℕ) (waits : Bool) → PollIsTold count waits (poll_reply count waits)
poll-told zero true = record { ready = λ some. absurd (omega arith); armed = λ none is. refl; not_ready = λ none is. absurd (cc) }
poll-told zero false = record {
  ready = λ some. absurd (omega arith);
  armed = λ none is. absurd (cc);
  not_ready = λ none is. refl;
}
poll-told (suc n) waits = record {
  ready = λ some. refl;
  armed = λ none is. absurd (omega arith);
  not_ready = λ none is. absurd (omega arith);
}

pub poll_arm_answers : OfEachSem PollArmAnswers
poll_arm_answers initial limit low h legal front e waits at op =
    let s = sem_after_all (new_sem initial limit) front in
    subst (PollIsTold s.count waits) (same_Some (poll_reply s.count waits) e.reply (ap (sem_reply s e.who) (sym op)
    ∙ replied (new_sem initial limit) h front e legal.0 at)) (poll-told s.count waits)

notified-so : (waiting : List (Waiter Unit)) (answer : SemReply) (for : Unit {0}) →
    said (give_notifies waiting) for ≡ Some answer →
    (waiting ≡ []) × (answer ≡ Noted)
notified-so [] answer for is = (refl, sym (same_Some Noted answer is))
notified-so (w ∷ ws) answer for is = absurd (cc)

noted-so : (s : Sem) (e : Entry SemOp SemReply) (own : SemOp) (reply answer : SemReply) (for : Unit {0}) → e.op ≡ own →
    said (poll_decides s own reply) for ≡ Some answer → IsChance s e × (answer ≡ Noted)
noted-so s e ops.Give reply answer for same is =
    let so = notified-so s.takers.waiting answer for is in
    (record { give = same; nobody = so.0 }, so.1)
noted-so s e own reply answer for same is = absurd (cc)

pub noted_at_a_chance : OfEachSem NotedAtAChance
noted_at_a_chance initial limit low h legal front e d at decides =
    let s = new_sem initial limit in
    let whose = decides-said sem_machine pollers has_pollers s h legal.0 front e d at decides in
    noted-so (sem_after_all s front) e e.op e.reply d.answer whose.0.payload refl whose.3

given-notes : (waiting : List (Waiter Unit)) (s : Sem) → waiting ≡ [] → NotesOne s.pollers (give_to waiting s).pollers
given-notes [] s none = one-noted Noted s.pollers.waiting s.pollers.decided
given-notes (w ∷ ws) s none = absurd (cc)

pub each_chance_notes_one : OfEachSem EachChanceNotesOne
each_chance_notes_one initial limit low h legal front e at chance =
    let s = sem_after_all (new_sem initial limit) front in
    let after = state_after-snoc sem_machine (new_sem initial limit) front e ∙ ap (sem_next s e.who) chance.give in
    subst (NotesOne s.pollers) (ap (λ (t : Sem). t.pollers) (sym after)) (given-notes s.takers.waiting s chance.nobody)

polled-count : (s : Sem) (who : Who) (op : SemOp) → polls op ≡ true → (sem_next s who op).count ≡ s.count
polled-count s who (ops.PollArm waits) is = refl
polled-count s who (ops.PollEnd place) is = refl
polled-count s who (ops.PollQuit place) is = refl
polled-count s who op is = absurd (cc)

pub polling_takes_nothing : (s : Sem) (h : SemHistory) → PollingTakesNothing s h
polling_takes_nothing s h front e at is =
    ap (λ (t : Sem). t.count) (state_after-snoc sem_machine s front e) ∙ polled-count (sem_after_all s front) e.who e.op is
