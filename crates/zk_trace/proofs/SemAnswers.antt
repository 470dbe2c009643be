-- The replies of a semaphore are of their operations.
use Rattle.std.proofs.Common.{◌≡◌, ℕ, zero, suc, Bool, true, false, inl, inr, Some, List, [], ◌∷◌, refl, sym, subst}
use Rattle.std.specs.List.{AllByRecursion}
use Rattle.std.proofs.lemmas.Option.{same_Some}
use Rattle.zk_base.specs.declared.ids.Who.{Who}
use Rattle.zk_base.specs.declared.ids.Entry.{Entry}
use Rattle.zk_base.specs.declared.waits.Waiter.{Waiter}
use Rattle.zk_base.specs.Legal.{Replays}
use Rattle.zk_line.specs.declared.types.Decl.{Decl}
use Rattle.zk_model_wait.specs.declared.sem.SemOp.{SemOp}
use Rattle.zk_model_wait.specs.declared.sem.SemOp.TheVariants as ops
use Rattle.zk_model_wait.specs.declared.sem.SemReply.{SemReply}
use Rattle.zk_model_wait.specs.declared.sem.SemReply.TheVariants.{Got, Again, Done, Number, Noted, Plain}
use Rattle.zk_model_wait.specs.Sem.{Sem, new_sem, take_reply, poll_reply, sem_reply, take_at, arm_at, give_to, sem_changed, sem_next, sem_machine}
use Rattle.zk_blocks.specs.Choices.{IsIn}
use Rattle.zk_trace.specs.Sem.{said_of, reply_parts}
use Rattle.zk_trace.specs.SemRead.{AnswersTo}
use Rattle.zk_trace.specs.Sized.{AreSized}
use Rattle.zk_trace.proofs.DecidedWaits.{DecidedBy, none-decided, first_decided-by, all_decided-by, ended-by, quitted-by, decision-by, quit-by}
use Rattle.zk_trace.proofs.Kept.{answers-along, of-any}

module _ (decls : List Decl) where
  -- it is of its operation, if its numbers are within their types
  abbrev Says : SemOp → SemReply → Type 0
  Says op r = AreSized (reply_parts r) → AnswersTo decls (said_of op).0 r

  abbrev Taken : SemReply → Type 0
  Taken r = IsIn r (Got ∷ Again ∷ [])

  abbrev Told : SemReply → Type 0
  Told r = IsIn r (Noted ∷ [])

  record Keeps (s : Sem) : Type 0 where
    takers : DecidedBy Taken s.takers
    pollers : DecidedBy Told s.pollers

  -- A reply.

  take-says : (count : ℕ) (waits : Bool) → Says (ops.Take waits) (take_reply count waits)
  take-says zero false sized = inl (inr (inl refl))
  take-says zero true sized = inl (inr (inr (inl refl)))
  take-says (suc n) waits sized = inl (inl refl)

  poll-says : (count : ℕ) (waits : Bool) → Says (ops.PollArm waits) (poll_reply count waits)
  poll-says zero false sized = inl (inr (inl refl))
  poll-says zero true sized = inl (inr (inr (inl refl)))
  poll-says (suc n) waits sized = inl (inl refl)

  told-too : (r : SemReply) → Told r → IsIn r (Noted ∷ Plain ∷ [])
  told-too r (inl is) = inl is
  told-too r (inr none) = absurd none

  says : (s : Sem) (who : Who) (op : SemOp) (r : SemReply) → Keeps s → Unit {0} → sem_reply s who op ≡ Some r → Says op r
  says s who (ops.Take waits) r kept fits is = subst (Says (ops.Take waits)) (same_Some (take_reply s.count waits) r is) (take-says s.count waits)
  says s who (ops.TakeEnd place) r kept fits is = λ sized. inl (decision-by Taken s.takers who.number place r kept.takers is)
  says s who (ops.TakeQuit place) r kept fits is = λ sized. inl (quit-by Taken Taken (λ r is. is) Again s.takers who.number place r (inr (inl refl)) kept.takers is)
  says s who ops.Give r kept fits is = λ sized. inl (inl (sym (same_Some Done r is)))
  says s who ops.Reset r kept fits is = λ sized. inl (inl (sym (same_Some Done r is)))
  says s who ops.Count r kept fits is = subst (Says ops.Count) (same_Some (Number s.count) r is) (λ sized. inr sized.0)
  says s who (ops.PollArm waits) r kept fits is = subst (Says (ops.PollArm waits)) (same_Some (poll_reply s.count waits) r is) (poll-says s.count waits)
  says s who (ops.PollEnd place) r kept fits is = λ sized. inl (decision-by Told s.pollers who.number place r kept.pollers is)
  says s who (ops.PollQuit place) r kept fits is = λ sized. inl (quit-by Told (λ r. IsIn r (Noted ∷ Plain ∷ [])) told-too Plain s.pollers who.number place r (inr (inl refl)) kept.pollers is)

  -- The state.

  take-keeps : (count : ℕ) (s : Sem) (who : Who) (waits : Bool) → Keeps s → Keeps (take_at count s who waits)
  take-keeps zero s who false kept = kept
  take-keeps zero s who true kept = record { takers = kept.takers; pollers = kept.pollers }
  take-keeps (suc n) s who waits kept = record { takers = kept.takers; pollers = kept.pollers }

  arm-keeps : (count : ℕ) (s : Sem) (who : Who) (waits : Bool) → Keeps s → DecidedBy Told (arm_at count s who waits)
  arm-keeps zero s who false kept = kept.pollers
  arm-keeps zero s who true kept = kept.pollers
  arm-keeps (suc n) s who waits kept = kept.pollers

  give-keeps : (waiting : List (Waiter Unit)) (s : Sem) → Keeps s → Keeps (give_to waiting s)
  give-keeps [] s kept = record { takers = kept.takers; pollers = first_decided-by Told Noted s.pollers (inl refl) kept.pollers }
  give-keeps (w ∷ ws) s kept = record { takers = first_decided-by Taken Got s.takers (inl refl) kept.takers; pollers = kept.pollers }

  changed-keeps : (s : Sem) (who : Who) (op : SemOp) → Keeps s → Keeps (sem_changed s who op)
  changed-keeps s who (ops.Take waits) kept = take-keeps s.count s who waits kept
  changed-keeps s who (ops.TakeEnd place) kept = record { takers = ended-by Taken s.takers who.number place kept.takers; pollers = kept.pollers }
  changed-keeps s who (ops.TakeQuit place) kept = record { takers = quitted-by Taken s.takers who.number place kept.takers; pollers = kept.pollers }
  changed-keeps s who ops.Give kept = give-keeps s.takers.waiting s kept
  changed-keeps s who ops.Reset kept = record { takers = all_decided-by Taken Again s.takers (inr (inl refl)) kept.takers; pollers = kept.pollers }
  changed-keeps s who ops.Count kept = kept
  changed-keeps s who (ops.PollArm waits) kept = record { takers = kept.takers; pollers = arm-keeps s.count s who waits kept }
  changed-keeps s who (ops.PollEnd place) kept = record { takers = kept.takers; pollers = ended-by Told s.pollers who.number place kept.pollers }
  changed-keeps s who (ops.PollQuit place) kept = record { takers = kept.takers; pollers = quitted-by Told s.pollers who.number place kept.pollers }

  keeps : (s : Sem) (who : Who) (op : SemOp) → Keeps s → Unit {0} → Keeps (sem_next s who op)
  keeps s who op kept fits = let after = changed-keeps s who op kept in record { takers = after.takers; pollers = after.pollers }

  -- each reply of a history is of its operation
  pub sem-answers : (initial limit : ℕ) (h : List (Entry SemOp SemReply)) → Replays sem_machine (new_sem initial limit) h →
      AllByRecursion (λ e. AreSized (reply_parts e.reply) → AnswersTo decls (said_of e.op).0 e.reply) h
  sem-answers initial limit h replays =
      answers-along sem_machine Keeps (λ op. Unit {0}) Says says keeps (new_sem initial limit) h
      (record { takers = none-decided Taken; pollers = none-decided Told }) replays (of-any h)
