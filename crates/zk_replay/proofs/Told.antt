-- Behind a step the steps of other services are answered as before, and what a channel doesn't let others do it doesn't still
-- where the step didn't free it.
use Rattle.std.proofs.Common.{◌≡◌, ◌≢◌, ◌⊎◌, inl, inr, ℕ, zero, suc, ◌+◌, ◌-◌, Bool, true, false, Option, Some, None, List, [], ◌∷◌, ◌++◌, length, slice_get, option_map, option_and_then, refl, sym, ap, subst, ◌∙◌, arith}
use Rattle.std.specs.Option.{option_map_or}
use Rattle.std.proofs.lemmas.List.{length_push}
use Rattle.std.proofs.lemmas.Bool.{cases_eq}
use Rattle.zk_base.specs.declared.ids.Who.{Who}
use Rattle.zk_base.specs.declared.ids.Entry.{Entry}
use Rattle.zk_base.specs.History.{entry}
use Rattle.zk_base.specs.Legal.{Machine, state_after}
use Rattle.zk_base.proofs.Histories.{state_after-snoc}
use Rattle.zk_model_bus.specs.declared.channel.ChanOp.{ChanOp}
use Rattle.zk_model_bus.specs.declared.channel.ChanReply.{ChanReply}
use Rattle.zk_model_bus.specs.Channel.{Channel, chan_reply, chan_machine}
use Rattle.zk_model_bus.specs.declared.observer.ObsOp.{ObsOp}
use Rattle.zk_model_bus.specs.declared.observer.ObsReply.{ObsReply}
use Rattle.zk_model_bus.specs.declared.table.TableOp.{TableOp}
use Rattle.zk_model_bus.specs.declared.table.TableReply.{TableReply}
use Rattle.zk_model_wait.specs.declared.clock.ClockOp.{ClockOp}
use Rattle.zk_model_wait.specs.declared.clock.ClockReply.{ClockReply}
use Rattle.zk_model_wait.specs.declared.msgq.MsgqOp.{MsgqOp}
use Rattle.zk_model_wait.specs.declared.msgq.MsgqReply.{MsgqReply}
use Rattle.zk_model_wait.specs.declared.sem.SemOp.{SemOp}
use Rattle.zk_model_wait.specs.declared.sem.SemReply.{SemReply}
use Rattle.zk_model_wait.specs.declared.signal.SignalOp.{SignalOp}
use Rattle.zk_model_wait.specs.declared.signal.SignalReply.{SignalReply}
use Rattle.zk_model_work.specs.declared.ops.WorkOp.{WorkOp}
use Rattle.zk_model_work.specs.declared.ops.WorkReply.{WorkReply}
use Rattle.zk_worker.specs.declared.steps.Step.{Step}
use Rattle.zk_worker.specs.declared.steps.Step.TheVariants as steps
use Rattle.zk_worker.specs.declared.steps.StepReply.{StepReply}
use Rattle.zk_worker.specs.declared.steps.StepReply.TheVariants as step_replies
use Rattle.zk_worker.specs.Attempt.{reply_in}
use Rattle.zk_worker.specs.Families.{Family, start_of, with_entry, answer_at}
use Rattle.zk_worker.specs.Looks.{look_reply, look_at, looks_at, found_by}
use Rattle.zk_worker.specs.Machines.{Machines}
use Rattle.zk_worker.specs.Protocol.{spot_of}
use Rattle.zk_worker.specs.Shown.{Shown, shown_after}
use Rattle.zk_worker.specs.Single.{answer_in}
use Rattle.zk_worker.proofs.Lists.{there-behind}
use Rattle.zk_services.specs.declared.counted.ServiceId.{ServiceId}
use Rattle.zk_services.specs.declared.counted.ServiceId.TheVariants as ids
use Rattle.zk_services.specs.Counted.{service_of, frees, freed_last, may_serve}
use Rattle.zk_replay.specs.Sleeping.{entered_at}
use Rattle.zk_replay.proofs.Unfreed.{unfreed}

module _ {O R : Type 0} where
  -- an entry more of an object leaves the histories of the others
  with-other : (hs : List (List (Entry O R))) (entered object : ℕ) (e : Entry O R) → (entered ≡ object → ⊥) → slice_get (with_entry hs entered e) object ≡ slice_get hs object
  with-other [] entered object e other = refl
  with-other (h ∷ hs) zero zero e other = absurd (other refl)
  with-other (h ∷ hs) zero (suc object) e other = refl
  with-other (h ∷ hs) (suc entered) zero e other = refl
  with-other (h ∷ hs) (suc entered) (suc object) e other = with-other hs entered object e (λ same. other (ap suc same))

  -- and stands in its own
  pub with-here : (hs : List (List (Entry O R))) (object : ℕ) (e : Entry O R) →
      slice_get (with_entry hs object e) object ≡ option_map (λ h. h ++ e ∷ []) (slice_get hs object)
  with-here [] object e = refl
  with-here (h ∷ hs) zero e = refl
  with-here (h ∷ hs) (suc object) e = with-here hs object e

-- so an operation of an object is answered as before, unless the entry is of that object
told-at : {S O R : Type 0} (family : Family S O R) (hs : List (List (Entry O R))) (entered : ℕ) (e : Entry O R) (step_reply : ℕ → R → ℕ → StepReply) (who : Who) (object : ℕ) (op : O) →
    (entered ≡ object) ⊎ (answer_at family (with_entry hs entered e) step_reply who object op ≡ answer_at family hs step_reply who object op)
told-at {O = O} {R = R} family hs entered e step_reply who object op = by (cases_eq entered object) where
  by : (entered ≡ object) ⊎ (entered ≡ object → ⊥) →
      (entered ≡ object) ⊎ (answer_at family (with_entry hs entered e) step_reply who object op ≡ answer_at family hs step_reply who object op)
  by (inl same) = inl same
  by (inr other) =
      inr (ap (λ (o : Option (List (Entry O R))). option_and_then (λ start. option_and_then (λ h. answer_in family.machine start h (step_reply object) who op) o) (start_of family object))
      (with-other hs entered object e other))

-- the last entry of a channel is that which was made
freed-here : (hs : List (List (Entry ChanOp ChanReply))) (object : ℕ) (e : Entry ChanOp ChanReply) →
    freed_last (with_entry hs object e) object ≡ false → frees e.op ≡ false
freed-here hs object e isnt = by (slice_get hs object) refl where
  freed : List (Entry ChanOp ChanReply) → Bool
  freed h = option_map_or (λ (x : Entry ChanOp ChanReply). frees x.op) (slice_get h (length h - 1)) true

  last : (h : List (Entry ChanOp ChanReply)) → freed (h ++ e ∷ []) ≡ frees e.op
  last h =
      let place : length (h ++ e ∷ []) - 1 ≡ length h = omega (arith, length_push h e) in
      ap (λ (k : ℕ). option_map_or (λ (x : Entry ChanOp ChanReply). frees x.op) (slice_get (h ++ e ∷ []) k) true) place
      ∙ ap (λ (o : Option (Entry ChanOp ChanReply)). option_map_or (λ (x : Entry ChanOp ChanReply). frees x.op) o true) (there-behind h e)

  told_of : (o : Option (List (Entry ChanOp ChanReply))) → slice_get hs object ≡ o →
      option_map_or freed (option_map (λ h. h ++ e ∷ []) o) true ≡ false
  told_of o is =
      sym (ap (λ (x : Option (List (Entry ChanOp ChanReply))). option_map_or freed (option_map (λ h. h ++ e ∷ []) x) true) is)
      ∙ sym (ap (λ (x : Option (List (Entry ChanOp ChanReply))). option_map_or freed x true) (with-here hs object e)) ∙ isnt

  by : (o : Option (List (Entry ChanOp ChanReply))) → slice_get hs object ≡ o → frees e.op ≡ false
  by None is = absurd (let no : true ≡ false = told_of None is in cc)
  by (Some h) is = sym (last h) ∙ told_of (Some h) is

some-not : {A B : Type 0} (f : A → B) (o : Option A) → option_map f o ≡ None → o ≡ None
some-not f None none = refl
some-not f (Some x) none = absurd (cc)

-- what a channel doesn't let another player do it doesn't behind an entry that doesn't free it
module _ (hs : List (List (Entry ChanOp ChanReply))) (e : Entry ChanOp ChanReply) (step_reply : ℕ → ChanReply → ℕ → StepReply) (who : Who) (object : ℕ) (op : ChanOp)
    (apart : e.who.number ≢ who.number) (stays : frees e.op ≡ false) where
  abbrev via : Machine Channel ChanOp ChanReply → Channel → List (Entry ChanOp ChanReply) → Option StepReply
  via machine start h = answer_in machine start h (step_reply object) who op

  abbrev at : Machine Channel ChanOp ChanReply → List (List (Entry ChanOp ChanReply)) → Option Channel → Option StepReply
  at machine histories o = option_and_then (λ start. option_and_then (via machine start) (slice_get histories object)) o

  one-more : (start : Channel) (h : List (Entry ChanOp ChanReply)) → via chan_machine start h ≡ None → via chan_machine start (h ++ e ∷ []) ≡ None
  one-more start h none =
      ap (option_map (λ (r : ChanReply). step_reply object r (length (h ++ e ∷ []))))
      (ap (λ (s : Channel). chan_reply s who op) (state_after-snoc chan_machine start h e)
      ∙ unfreed (state_after chan_machine start h) e.who who apart e.op op stays
      (some-not (λ (r : ChanReply). step_reply object r (length h)) (chan_reply (state_after chan_machine start h) who op) none))

  by-history : (start : Channel) (o : Option (List (Entry ChanOp ChanReply))) → option_and_then (via chan_machine start) o ≡ None →
      option_and_then (via chan_machine start) (option_map (λ h. h ++ e ∷ []) o) ≡ None
  by-history start None none = refl
  by-history start (Some h) none = one-more start h none

  by-start : (o : Option Channel) → at chan_machine hs o ≡ None → at chan_machine (with_entry hs object e) o ≡ None
  by-start None none = refl
  by-start (Some start) none =
      ap (option_and_then (via chan_machine start)) (with-here hs object e) ∙ by-history start (slice_get hs object) none

  unfreed-at : (family : Family Channel ChanOp ChanReply) → family.machine ≡ chan_machine → answer_at family hs step_reply who object op ≡ None →
      answer_at family (with_entry hs object e) step_reply who object op ≡ None
  unfreed-at family is =
      subst (λ (machine : Machine Channel ChanOp ChanReply). at machine hs (start_of family object) ≡ None →
      at machine (with_entry hs object e) (start_of family object) ≡ None) (sym is) (by-start (start_of family object))

-- the first of two, by a function
first_by : {A B C : Type 0} (f : A → B) (x y : A) → (x ≡ y) ⊎ C → (f x ≡ f y) ⊎ C
first_by f x y (inl same) = inl (ap f same)
first_by f x y (inr other) = inr other

module _ (m : Machines) (shown : Shown) (who : Who) where
  -- this service has a further entry: a step asks that service, or is answered as before
  abbrev Told : ServiceId → Shown → Step → Type 0
  Told service new x = (service ≡ service_of x) ⊎ (reply_in m new who x ≡ reply_in m shown who x)

  told-work : (h : List (Entry WorkOp WorkReply)) (x : Step) → Told ids.Work (record shown { work = h }) x
  told-work h (steps.Work op) = inl refl
  told-work h (steps.LookItem object) = inl refl
  told-work h x = inr refl

  told-clock : (h : List (Entry ClockOp ClockReply)) (x : Step) → Told ids.Clock (record shown { clock = h }) x
  told-clock h (steps.Clock op) = inl refl
  told-clock h x = inr refl

  told-table : (h : List (Entry TableOp TableReply)) (x : Step) → Told ids.Table (record shown { table = h }) x
  told-table h (steps.Table op) = inl refl
  told-table h x = inr refl

  told-sem : (entered : ℕ) (e : Entry SemOp SemReply) (x : Step) → Told (ids.Sem entered) (record shown { sems = with_entry shown.sems entered e }) x
  told-sem entered e (steps.Sem object op) = first_by ids.Sem entered object (told-at m.sems shown.sems entered e step_replies.Sem who object op)
  told-sem entered e x = inr refl

  told-msgq : (entered : ℕ) (e : Entry MsgqOp MsgqReply) (x : Step) → Told (ids.Msgq entered) (record shown { msgqs = with_entry shown.msgqs entered e }) x
  told-msgq entered e (steps.Msgq object op) = first_by ids.Msgq entered object (told-at m.msgqs shown.msgqs entered e step_replies.Msgq who object op)
  told-msgq entered e x = inr refl

  told-signal : (entered : ℕ) (e : Entry SignalOp SignalReply) (x : Step) → Told (ids.Signal entered) (record shown { signals = with_entry shown.signals entered e }) x
  told-signal entered e (steps.Signal object op) = first_by ids.Signal entered object (told-at m.signals shown.signals entered e step_replies.Signal who object op)
  told-signal entered e (steps.LookSignal object must) = by (cases_eq entered object) where
    by : (entered ≡ object) ⊎ (entered ≡ object → ⊥) →
        (ids.Signal entered ≡ ids.Signal object) ⊎ (look_at shown.looks (with_entry shown.signals entered e) object must ≡ look_at shown.looks shown.signals object must)
    by (inl same) = inl (ap ids.Signal same)
    by (inr other) =
        inr (ap (λ (o : Option (List (Entry SignalOp SignalReply))). option_and_then (λ h. option_and_then (look_reply must) (found_by (looks_at shown.looks object) h)) o)
        (with-other shown.signals entered object e other))
  told-signal entered e x = inr refl

  told-chan : (entered : ℕ) (e : Entry ChanOp ChanReply) (x : Step) → Told (ids.Chan entered) (record shown { chans = with_entry shown.chans entered e }) x
  told-chan entered e (steps.Chan object op) = first_by ids.Chan entered object (told-at m.chans shown.chans entered e step_replies.Chan who object op)
  told-chan entered e x = inr refl

  told-obs : (entered : ℕ) (e : Entry ObsOp ObsReply) (x : Step) → Told (ids.Obs entered) (record shown { observers = with_entry shown.observers entered e }) x
  told-obs entered e (steps.Obs object op) = first_by ids.Obs entered object (told-at m.observers shown.observers entered e step_replies.Obs who object op)
  told-obs entered e x = inr refl

  told-looked : (looked : Option ℕ) (x : Step) → reply_in m (record shown { looked = looked }) who x ≡ reply_in m shown who x
  told-looked looked (steps.Work op) = refl
  told-looked looked x = refl

  -- behind a step another one asks the service that has its entry, or is answered as before
  pub told : (by : Who) (n : ℕ) (step : Step) (reply : StepReply) (x : Step) →
      (entered_at (spot_of step reply) ≡ Some (service_of x)) ⊎ (reply_in m (shown_after shown by n step reply) who x ≡ reply_in m shown who x)
  told by n (steps.Work op) (step_replies.Work r place) x = first_by (λ (s : ServiceId). Some s) ids.Work (service_of x) (told-work (shown.work ++ entry by n op r ∷ []) x)
  told by n (steps.Clock op) (step_replies.Clock r place) x = first_by (λ (s : ServiceId). Some s) ids.Clock (service_of x) (told-clock (shown.clock ++ entry by n op r ∷ []) x)
  told by n (steps.Table op) (step_replies.Table r place) x = first_by (λ (s : ServiceId). Some s) ids.Table (service_of x) (told-table (shown.table ++ entry by n op r ∷ []) x)
  told by n (steps.Sem object op) (step_replies.Sem at r place) x = first_by (λ (s : ServiceId). Some s) (ids.Sem object) (service_of x) (told-sem object (entry by n op r) x)
  told by n (steps.Msgq object op) (step_replies.Msgq at r place) x = first_by (λ (s : ServiceId). Some s) (ids.Msgq object) (service_of x) (told-msgq object (entry by n op r) x)
  told by n (steps.Signal object op) (step_replies.Signal at r place) x = first_by (λ (s : ServiceId). Some s) (ids.Signal object) (service_of x) (told-signal object (entry by n op r) x)
  told by n (steps.Chan object op) (step_replies.Chan at r place) x = first_by (λ (s : ServiceId). Some s) (ids.Chan object) (service_of x) (told-chan object (entry by n op r) x)
  told by n (steps.Obs object op) (step_replies.Obs at r place) x = first_by (λ (s : ServiceId). Some s) (ids.Obs object) (service_of x) (told-obs object (entry by n op r) x)
  told by n (steps.LookItem object) (step_replies.Flags flags at) x = inr (told-looked (option_map (λ (k : ℕ). n + 1) shown.looked) x)
  told by n step reply x = inr refl

  same-chan : (entered object : ℕ) → Some (ids.Chan entered) ≡ Some (ids.Chan object) → entered ≡ object
  same-chan entered object same = cc

  -- a step of a channel that doesn't serve others leaves what wasn't possible there as it was
  unserved-chan : m.chans.machine ≡ chan_machine → (by : Who) (n entered : ℕ) (op : ChanOp) (reply : StepReply) (object : ℕ) (x : ChanOp) → by.number ≢ who.number → entered ≡ object →
      freed_last (shown_after shown by n (steps.Chan entered op) reply).chans object ≡ false → reply_in m shown who (steps.Chan object x) ≡ None →
      reply_in m (shown_after shown by n (steps.Chan entered op) reply) who (steps.Chan object x) ≡ None
  unserved-chan is by n entered op (step_replies.Chan at r place) object x apart same isnt none =
      let e = entry by n op r in
      let Goes : ℕ → Type 0 = λ k. freed_last (with_entry shown.chans k e) object ≡ false →
      answer_at m.chans (with_entry shown.chans k e) step_replies.Chan who object x ≡ None in
      subst Goes (sym same) (λ freed. unfreed-at shown.chans e step_replies.Chan who object x apart (freed-here shown.chans object e freed) m.chans is none) isnt
  unserved-chan is by n entered op reply object x apart same isnt none = none

  pub unserved : m.chans.machine ≡ chan_machine → (by : Who) (n : ℕ) (step : Step) (reply : StepReply) (x : Step) → by.number ≢ who.number →
      entered_at (spot_of step reply) ≡ Some (service_of x) → may_serve (shown_after shown by n step reply) (service_of x) ≡ false →
      reply_in m shown who x ≡ None → reply_in m (shown_after shown by n step reply) who x ≡ None
  unserved is by n (steps.Chan entered op) reply (steps.Chan object x) apart here isnt none =
      unserved-chan is by n entered op reply object x apart (same-chan entered object here) isnt none
  unserved is by n (steps.Work op) reply (steps.Chan object x) apart here isnt none = absurd (cc)
  unserved is by n (steps.Clock op) reply (steps.Chan object x) apart here isnt none = absurd (cc)
  unserved is by n (steps.Table op) reply (steps.Chan object x) apart here isnt none = absurd (cc)
  unserved is by n (steps.Sem entered op) reply (steps.Chan object x) apart here isnt none = absurd (cc)
  unserved is by n (steps.Msgq entered op) reply (steps.Chan object x) apart here isnt none = absurd (cc)
  unserved is by n (steps.Signal entered op) reply (steps.Chan object x) apart here isnt none = absurd (cc)
  unserved is by n (steps.Obs entered op) reply (steps.Chan object x) apart here isnt none = absurd (cc)
  unserved is by n (steps.LookItem entered) reply (steps.Chan object x) apart here isnt none = absurd (cc)
  unserved is by n (steps.LookSignal entered must) reply (steps.Chan object x) apart here isnt none = absurd (cc)
  unserved is by n step reply (steps.Work op) apart here isnt none = absurd (cc)
  unserved is by n step reply (steps.Clock op) apart here isnt none = absurd (cc)
  unserved is by n step reply (steps.Table op) apart here isnt none = absurd (cc)
  unserved is by n step reply (steps.Sem object op) apart here isnt none = absurd (cc)
  unserved is by n step reply (steps.Msgq object op) apart here isnt none = absurd (cc)
  unserved is by n step reply (steps.Signal object op) apart here isnt none = absurd (cc)
  unserved is by n step reply (steps.Obs object op) apart here isnt none = absurd (cc)
  unserved is by n step reply (steps.LookItem object) apart here isnt none = absurd (cc)
  unserved is by n step reply (steps.LookSignal object must) apart here isnt none = absurd (cc)
