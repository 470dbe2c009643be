-- What the laws of polls refuse: attempts of a poll that waits, and a step that lets time pass.
use Rattle.std.proofs.Common.{◌≡◌, ℕ, true, false, Some, List, [], ◌∷◌, ◌++◌, refl, ap, ◌∙◌, ⊎_elim}
use Rattle.zk_line.specs.declared.types.Ref.{Ref}
use Rattle.zk_line.specs.declared.events.Event.{Event}
use Rattle.zk_line.specs.declared.events.Event.TheVariants.{Sem, Sig}
use Rattle.zk_model_wait.specs.declared.clock.ClockOp.TheVariants as clock_ops
use Rattle.zk_model_wait.specs.declared.sem.SemOp.TheVariants as sem_ops
use Rattle.zk_model_wait.specs.declared.sem.SemReply.TheVariants as sem_replies
use Rattle.zk_model_wait.specs.Signal.{clear_at}
use Rattle.zk_worker.specs.declared.steps.Spot.{Spot}
use Rattle.zk_worker.specs.declared.steps.Spot.TheVariants as spots
use Rattle.zk_worker.specs.declared.steps.Step.{Step}
use Rattle.zk_worker.specs.declared.steps.Step.TheVariants as steps
use Rattle.zk_worker.specs.declared.steps.StepReply.{StepReply}
use Rattle.zk_worker.specs.declared.steps.StepReply.TheVariants as step_replies
use Rattle.zk_worker.specs.Follows.{StepMade}
use Rattle.zk_worker.specs.Refs.{ref_object}
use Rattle.zk_player_laws.specs.PollLaws.{IsRegistered, IsDue, EachIsForOne, WaitsForAll, end_of}

-- the look that waits for a signal, and the end of an alarm
abbrev look : Ref → Step
look signal = steps.LookSignal (ref_object signal) true

abbrev alarm_end : ℕ → Step
alarm_end moment = steps.Clock (clock_ops.AlarmEnd moment)

-- the end of a registration is no look
no-look : (spot : Spot) (signal : Ref) → end_of spot ≡ Some (look signal) → ⊥
no-look (spots.Sem object place) signal is = cc
no-look (spots.Msgq object place) signal is = cc
no-look spot signal is = cc

-- `poll 2 sig:g`: the end of the alarm first, whatever comes behind it
pub alarm_first-refused : (signal : Ref) (play : List StepMade) (moment : ℕ) (more : List Step) →
    WaitsForAll (Sig signal ∷ []) play (alarm_end moment ∷ more) → ⊥
alarm_first-refused signal play moment more (own, others, whole, is, ends) =
    let so : alarm_end moment ∷ more ≡ look signal ∷ others = whole ∙ ap (λ (xs : List Step). xs ++ others) is in cc

-- the same, and its look twice
pub twice-refused : (signal : Ref) (play : List StepMade) (more : List Step) →
    WaitsForAll (Sig signal ∷ []) play (look signal ∷ look signal ∷ more) → ⊥
twice-refused signal play more (own, others, whole, is, ends) =
    let so : look signal ∷ look signal ∷ more ≡ look signal ∷ others = whole ∙ ap (λ (xs : List Step). xs ++ others) is in
    ⊎_elim
    (λ (due : (moment : ℕ) × IsDue play moment × (others ≡ alarm_end moment ∷ [])). let end = due.2 in cc)
    (λ (none : ((moment : ℕ) → IsDue play moment → ⊥) × (others ≡ [])). let end = none.1 in cc)
    ends

-- `poll forever sem:s sig:g` that has registered and looked
abbrev registered_and_looked : Ref → Ref → ℕ → List StepMade
registered_and_looked sem signal place =
    (steps.Sem (ref_object sem) (sem_ops.PollArm true), step_replies.Sem (ref_object sem) sem_replies.Armed place)
    ∷ (steps.LookSignal (ref_object signal) false, step_replies.Seen (clear_at 0)) ∷ []

-- it looks at the signal first, whatever comes behind that: the end of its registration, or all of it in order
pub signal_first-refused : (sem signal : Ref) (place : ℕ) (more : List Step) →
    WaitsForAll (Sem sem ∷ Sig signal ∷ []) (registered_and_looked sem signal place) (look signal ∷ more) → ⊥
signal_first-refused sem signal place more (own, others, whole, is, ends) =
    let events : List Event = Sem sem ∷ Sig signal ∷ [] in
    let play = registered_and_looked sem signal place in
    let asked : IsRegistered events play (spots.Sem (ref_object sem) place) 0 = record {
      before = [];
      ask = (steps.Sem (ref_object sem) (sem_ops.PollArm true), step_replies.Sem (ref_object sem) sem_replies.Armed place);
      stands = record { rest = (steps.LookSignal (ref_object signal) false, step_replies.Seen (clear_at 0)) ∷ []; whole = refl };
      at = refl;
      for = (Sem sem, refl);
    } in
    ⊎_elim
    (λ (by : (spot : Spot) × (step : Step) × IsRegistered events play spot 0 × (end_of spot ≡ Some step) × (own ≡ step ∷ [])).
    let so : look signal ∷ more ≡ by.1 ∷ others = whole ∙ ap (λ (xs : List Step). xs ++ others) by.4 in
    let same : by.1 ≡ look signal = cc in
    no-look by.0 signal (by.3 ∙ ap (λ (x : Step). Some x) same))
    (λ (none : ((spot : Spot) → IsRegistered events play spot 0 → ⊥) × (own ≡ [])). none.0 (spots.Sem (ref_object sem) place) asked)
    is

-- a poll lets no time pass: a play with an announcement, wherever it stands
pub announce-refused : (events : List Event) (before rest : List StepMade) (ticks : ℕ) (reply : StepReply) →
    EachIsForOne events (before ++ (steps.Clock (clock_ops.Announce ticks), reply) ∷ rest) → ⊥
announce-refused events before rest ticks reply each =
    (each before (steps.Clock (clock_ops.Announce ticks), reply) (record { rest = rest; whole = refl }) refl).for
