-- What others' entries leave of a player's own requests, and whose request an entry is.
use Rattle.std.proofs.Common.{◌≡◌, ◌≢◌, ◌⊎◌, inl, inr, ℕ, zero, suc, ◌+◌, Bool, true, false, Option, Some, List, [], ◌∷◌, length, sym, ap, ◌∙◌}
use Rattle.std.specs.List.{slice_get}
use Rattle.std.specs.Option.{option_map}
use Rattle.std.proofs.lemmas.Option.{none-some}
use Rattle.zk_base.specs.declared.ids.Entry.{Entry}
use Rattle.zk_base.proofs.Lists.{All-at}
use Rattle.zk_worker.specs.declared.steps.Step.{Step}
use Rattle.zk_worker.specs.declared.steps.Step.TheVariants as steps
use Rattle.zk_worker.specs.declared.steps.Spot.{Spot}
use Rattle.zk_worker.specs.declared.steps.Spot.TheVariants as spots
use Rattle.zk_worker.specs.Families.{entry_at, EachGrew}
use Rattle.zk_worker.specs.Shown.{Shown, shown_at, AllGrew, OnlyOthersCame}
use Rattle.zk_worker.specs.Single.{step_of, OthersGrew}
use Rattle.zk_worker.proofs.Lists.{known-back, known-there}
use Rattle.zk_worker.proofs.ShownSteps.{made-of}
use Rattle.zk_world.specs.Requests.{Request, request, request_at}

module _ {O R : Type 0} (step : O → Step) where
  abbrev asks : Entry O R → Request
  asks e = request e.who (step e.op)

  -- what a player asked stood before entries of others came
  still-asked : (number : ℕ) (old new : List (Entry O R)) (place : ℕ) (x : Request) → OthersGrew number old new → option_map asks (slice_get new place) ≡ Some x →
      x.who.number ≡ number → option_map asks (slice_get old place) ≡ Some x
  still-asked number old new place x grew is mine =
      by (known-back asks old grew.more place x (ap (λ (h : List (Entry O R)). option_map asks (slice_get h place)) (sym grew.longer) ∙ is))
    where
      by : (option_map asks (slice_get old place) ≡ Some x) ⊎ ((k : ℕ) × (place ≡ length old + k) × (option_map asks (slice_get grew.more k) ≡ Some x)) →
          option_map asks (slice_get old place) ≡ Some x
      by (inl before) = before
      by (inr later) =
          let e = known-there asks grew.more later.0 x later.2 in
          let Other : Entry O R → Type 0 = λ e. e.who.number ≢ number in
          absurd (All-at Other grew.more later.0 e.0 grew.others e.1 (ap (λ (r : Request). r.who.number) e.2 ∙ mine))

  still-asked_each : (number : ℕ) (old new : List (List (Entry O R))) (object place : ℕ) (x : Request) → EachGrew number old new → option_map asks (entry_at new object place) ≡ Some x →
      x.who.number ≡ number → option_map asks (entry_at old object place) ≡ Some x
  still-asked_each number [] [] object place x grew is mine = is
  still-asked_each number [] (n ∷ ns) object place x grew is mine = absurd grew
  still-asked_each number (o ∷ os) [] object place x grew is mine = absurd grew
  still-asked_each number (o ∷ os) (n ∷ ns) zero place x grew is mine = still-asked number o n place x grew.0 is mine
  still-asked_each number (o ∷ os) (n ∷ ns) (suc object) place x grew is mine = still-asked_each number os ns object place x grew.1 is mine

  -- whose step it is
  asked-by : (entry : Option (Entry O R)) (x : Request) → option_map asks entry ≡ Some x → (n : ℕ) × (option_map step_of entry ≡ Some (x.who.number, n))
  asked-by entry x is =
      let from = made-of asks entry x is in
      (from.0.step, ap (option_map step_of) from.1 ∙ ap (λ (r : Request). Some (r.who.number, from.0.step)) from.2)

request-grew : (number : ℕ) (old new : Shown) (spot : Spot) (x : Request) → AllGrew number old new → request_at new spot ≡ Some x → x.who.number ≡ number → request_at old spot ≡ Some x
request-grew number old new (spots.Work place) x grew is mine = still-asked steps.Work number old.work new.work place x grew.work is mine
request-grew number old new (spots.Clock place) x grew is mine = still-asked steps.Clock number old.clock new.clock place x grew.clock is mine
request-grew number old new (spots.Table place) x grew is mine = still-asked steps.Table number old.table new.table place x grew.table is mine
request-grew number old new (spots.Sem object place) x grew is mine = still-asked_each (steps.Sem object) number old.sems new.sems object place x grew.sems is mine
request-grew number old new (spots.Msgq object place) x grew is mine = still-asked_each (steps.Msgq object) number old.msgqs new.msgqs object place x grew.msgqs is mine
request-grew number old new (spots.Signal object place) x grew is mine = still-asked_each (steps.Signal object) number old.signals new.signals object place x grew.signals is mine
request-grew number old new (spots.Chan object place) x grew is mine = still-asked_each (steps.Chan object) number old.chans new.chans object place x grew.chans is mine
request-grew number old new (spots.Obs object place) x grew is mine = still-asked_each (steps.Obs object) number old.observers new.observers object place x grew.observers is mine
request-grew number old new (spots.LookItem object flags at) x grew is mine = is
request-grew number old new (spots.LookSignal object seen) x grew is mine = is

-- a player's request stood before what others did
pub request-between : (alone : Bool) (number : ℕ) (old new : Shown) (spot : Spot) (x : Request) → OnlyOthersCame alone number old new → request_at new spot ≡ Some x → x.who.number ≡ number →
    request_at old spot ≡ Some x
request-between true number old new spot x nothing is mine = ap (λ (h : Shown). request_at h spot) (sym nothing) ∙ is
request-between false number old new spot x grew is mine = request-grew number old new spot x grew is mine

-- what is asked at a spot is the step of the player that asks it
pub request-shown : (shown : Shown) (spot : Spot) (x : Request) → request_at shown spot ≡ Some x → (n : ℕ) × (shown_at shown spot ≡ Some (x.who.number, n))
request-shown shown (spots.Work place) x is = asked-by steps.Work (slice_get shown.work place) x is
request-shown shown (spots.Clock place) x is = asked-by steps.Clock (slice_get shown.clock place) x is
request-shown shown (spots.Table place) x is = asked-by steps.Table (slice_get shown.table place) x is
request-shown shown (spots.Sem object place) x is = asked-by (steps.Sem object) (entry_at shown.sems object place) x is
request-shown shown (spots.Msgq object place) x is = asked-by (steps.Msgq object) (entry_at shown.msgqs object place) x is
request-shown shown (spots.Signal object place) x is = asked-by (steps.Signal object) (entry_at shown.signals object place) x is
request-shown shown (spots.Chan object place) x is = asked-by (steps.Chan object) (entry_at shown.chans object place) x is
request-shown shown (spots.Obs object place) x is = asked-by (steps.Obs object) (entry_at shown.observers object place) x is
request-shown shown (spots.LookItem object flags at) x is = absurd (none-some x is)
request-shown shown (spots.LookSignal object seen) x is = absurd (none-some x is)
