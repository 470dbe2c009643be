-- A semaphore has waits.
use Rattle.std.proofs.Common.{◌≡◌, ℕ, zero, suc, Bool, true, false, Some, None, List, [], ◌∷◌, refl, sym, ap, subst}
use Rattle.std.proofs.lemmas.Option.{same_Some}
use Rattle.zk_base.specs.declared.ids.Who.{Who}
use Rattle.zk_base.specs.declared.waits.Waiter.{Waiter}
use Rattle.zk_base.specs.Waits.{Waits, decides_first}
use Rattle.zk_base.specs.WaitLaws.{nobody, first, after_decision, after_entry, HasWaits, IsFirst, KeepsWaits}
use Rattle.zk_base.proofs.WaitsKept.{keeps_waits}
use Rattle.zk_model_wait.specs.declared.sem.SemOp.{SemOp}
use Rattle.zk_model_wait.specs.declared.sem.SemOp.TheVariants as ops
use Rattle.zk_model_wait.specs.declared.sem.SemReply.{SemReply}
use Rattle.zk_model_wait.specs.declared.sem.SemReply.TheVariants.{Got}
use Rattle.zk_model_wait.specs.Sem.{Sem, new_sem, take_reply, take_at, give_to, sem_reply, sem_next, sem_machine}
use Rattle.zk_model_wait.specs.SemWaits.{take_opens, takers}
use Rattle.zk_model_wait.specs.SemLaws.{OfEachSem}

take-moves : (n : ℕ) (s : Sem) (who : Who) (waits : Bool) (reply : SemReply) → take_reply n waits ≡ reply →
    (take_at n s who waits).takers ≡ after_entry s.takers s.entries who nobody (take_opens (ops.Take waits) reply) None None
take-moves n s who waits reply told =
    subst (λ (r : SemReply). (take_at n s who waits).takers ≡ after_entry s.takers s.entries who nobody
    (take_opens (ops.Take waits) r) None None) told (by n waits) where
      by : (n : ℕ) (waits : Bool) →
          (take_at n s who waits).takers ≡ after_entry s.takers s.entries who nobody
          (take_opens (ops.Take waits) (take_reply n waits)) None None
      by zero false = refl
      by zero true = refl
      by (suc n) waits = refl

-- where nobody waits, the first is nobody
first-none : (ws : Waits Unit SemReply) → ws.waiting ≡ [] → ws ≡ decides_first Got ws.waiting ws.decided
first-none ws none =
    let P : List (Waiter Unit) → Type 0 =
    λ l. ◌≡◌ {A = Waits Unit SemReply} (record { waiting = l; decided = ws.decided }) (decides_first Got l ws.decided) in
    subst P (sym none) refl

give-moves : (waiting : List (Waiter Unit)) (s : Sem) → s.takers.waiting ≡ waiting →
    (give_to waiting s).takers ≡ after_decision (first Got) s.takers
give-moves [] s none = first-none s.takers none
give-moves (w ∷ ws) s some = refl

sem-moves : (s : Sem) (who : Who) (op : SemOp) (reply : SemReply) → sem_reply s who op ≡ Some reply →
    (sem_next s who op).takers ≡ after_entry s.takers s.entries who (takers.decides s op reply) (takers.opens op reply)
    (takers.ends op) (takers.quits op)
sem-moves s who (ops.Take waits) reply is = take-moves s.count s who waits reply (same_Some (take_reply s.count waits) reply is)
sem-moves s who (ops.TakeEnd place) reply is = refl
sem-moves s who (ops.TakeQuit place) reply is = refl
sem-moves s who ops.Give reply is = give-moves s.takers.waiting s refl
sem-moves s who ops.Reset reply is = refl
sem-moves s who ops.Count reply is = refl
sem-moves s who (ops.PollArm waits) reply is = refl
sem-moves s who (ops.PollEnd place) reply is = refl
sem-moves s who (ops.PollQuit place) reply is = refl

sem-ends : (s : Sem) (who : Who) (op : SemOp) (place : ℕ) → takers.ends op ≡ Some place →
    sem_reply s who op ≡ sem_reply s who (ops.TakeEnd place)
sem-ends s who (ops.TakeEnd at) place is = ap (λ (p : ℕ). sem_reply s who (ops.TakeEnd p)) (same_Some at place is)
sem-ends s who op place is = absurd (cc)

sem-quits : (s : Sem) (who : Who) (op : SemOp) (place : ℕ) → takers.quits op ≡ Some place →
    sem_reply s who op ≡ sem_reply s who (ops.TakeQuit place)
sem-quits s who (ops.TakeQuit at) place is = ap (λ (p : ℕ). sem_reply s who (ops.TakeQuit p)) (same_Some at place is)
sem-quits s who op place is = absurd (cc)

sem-opens_alone : (op : SemOp) (reply : SemReply) (payload : Unit) → takers.opens op reply ≡ Some payload →
    (takers.ends op ≡ None) × (takers.quits op ≡ None)
sem-opens_alone (ops.Take waits) reply payload is = (refl, refl)
sem-opens_alone op reply payload is = absurd (cc)

sem-ends_alone : (op : SemOp) (place : ℕ) → takers.ends op ≡ Some place → takers.quits op ≡ None
sem-ends_alone (ops.TakeEnd at) place is = refl
sem-ends_alone op place is = absurd (cc)

-- a semaphore has waits: those who take
pub has_takers : HasWaits sem_machine takers
has_takers = record {
  counts = λ s who op. refl;
  moves = sem-moves;
  ends = sem-ends;
  quits = sem-quits;
  opens_alone = sem-opens_alone;
  ends_alone = sem-ends_alone;
}

first_takers : (initial limit : ℕ) → IsFirst takers (new_sem initial limit)
first_takers initial limit = record { none = refl; new = refl }

pub takers_hold : OfEachSem (KeepsWaits sem_machine takers)
takers_hold initial limit low h legal = keeps_waits sem_machine takers has_takers (new_sem initial limit) h
    (first_takers initial limit) legal.0
