-- The channels that the open scripts of a player hold, and the one that the innermost waits for, while others make their entries.
use Rattle.std.proofs.Common.{◌≡◌, ◌⊎◌, inl, inr, ℕ, zero, suc, ◌+◌, ◌≤◌, Bool, true, false, eqb, Option, Some, None, is_some, option_to_list, List, [], ◌∷◌, ◌++◌, length, length-append, All, refl, sym, ap, subst, ◌∙◌, arith}
use Rattle.std.specs.List.{slice_get, list_any, IsDistinct}
use Rattle.std.specs.Option.{option_map, option_and_then}
use Rattle.std.proofs.lemmas.Option.{option_and_then_some, same_Some}
use Rattle.zk_base.specs.Legal.{state_after}
use Rattle.zk_base.proofs.Histories.{state_after-append}
use Rattle.zk_line.specs.declared.types.Call.{Call}
use Rattle.zk_scenario.specs.Content.{Content}
use Rattle.zk_scenario.specs.Players.{calls_of}
use Rattle.zk_model_bus.specs.declared.channel.Manner.{Manner}
use Rattle.zk_model_bus.specs.Channel.{Channel, is_claim, chan_machine}
use Rattle.zk_model_bus.specs.ChannelLaws.{ChanHistory}
use Rattle.zk_model_bus.proofs.ChannelKept.{IsHeldAs, IsOther, IsAwaitedAs, IsUndecided, held-others, undecided-others, awaited-others}
use Rattle.zk_worker.specs.declared.frames.Frame.{Frame}
use Rattle.zk_worker.specs.declared.frames.Plan.{Plan}
use Rattle.zk_worker.specs.declared.frames.Plan.TheVariants as plans
use Rattle.zk_worker.specs.declared.frames.Role.{Role}
use Rattle.zk_worker.specs.declared.frames.Role.TheVariants.{Script, Worker}
use Rattle.zk_worker.specs.declared.frames.Stage.{Stage}
use Rattle.zk_worker.specs.declared.frames.Stage.TheVariants as stages
use Rattle.zk_worker.specs.declared.frames.Progress.{Progress}
use Rattle.zk_worker.specs.declared.frames.Progress.TheVariants.{Goes, Answers, Enters}
use Rattle.zk_worker.specs.Calls.{plan_of}
use Rattle.zk_worker.specs.Families.{start_of, EachGrew}
use Rattle.zk_worker.specs.Machines.{machines_of}
use Rattle.zk_player_laws.specs.StackLaws.{ChanHistories}

-- the channel that a call holds at a stage
abbrev pub plan_got : Plan → Stage → Option ℕ
plan_got (plans.Channel chan using timeout) stages.Holds = Some chan
plan_got (plans.Channel chan using timeout) (stages.Visits left full) = Some chan
plan_got (plans.Channel chan using timeout) (stages.Reads message) = Some chan
plan_got plan stage = None

-- the channel that it waits for, and the place of the entry since which it does
abbrev pub plan_waits : Plan → Stage → Option (ℕ × ℕ)
plan_waits (plans.Channel chan using timeout) (stages.Waits place) = Some (chan, place)
plan_waits (plans.Channel chan using timeout) (stages.WaitsUntil place moment) = Some (chan, place)
plan_waits (plans.Channel chan using timeout) (stages.Quits place) = Some (chan, place)
plan_waits plan stage = None

-- what is known of the next call of an open script; a worker has none
abbrev pub of_call : {A : Type 0} → (Plan → Stage → Option A) → Content → Role → ℕ → Stage → Option A
of_call known s (Script owner) next stage =
    option_and_then (λ (call : Call). known (plan_of s.decls call) stage) (slice_get (calls_of s.scripts owner) next)
of_call known s (Worker queue) next stage = None

-- the channel that an open script holds
abbrev pub frame_got : Content → Frame → Option ℕ
frame_got s frame = of_call plan_got s frame.role frame.next frame.stage

-- and the wait that it is in
abbrev pub frame_waits : Content → Frame → Option (ℕ × ℕ)
frame_waits s frame = of_call plan_waits s frame.role frame.next frame.stage

-- the channels that the open scripts hold, that of the innermost first
abbrev pub got : Content → List Frame → List ℕ
got s [] = []
got s (frame ∷ below) = option_to_list (frame_got s frame) ++ got s below

abbrev pub is_worker : Role → Bool
is_worker (Worker queue) = true
is_worker (Script owner) = false

-- each script but the innermost holds a channel, or is the run of a worker that stands alone below
abbrev pub AreLayered : Content → List Frame → Type 0
AreLayered s [] = Unit {0}
AreLayered s (frame ∷ []) = Unit {0}
AreLayered s (frame ∷ next ∷ below) =
    (is_worker frame.role ≡ false)
    × (((is_worker next.role ≡ true) × (below ≡ [])) ⊎ ((is_some (frame_got s next) ≡ true) × AreLayered s (next ∷ below)))

-- the state of a channel behind these histories
abbrev pub chan_state : Content → ChanHistories → ℕ → Option Channel
chan_state s chans chan =
    option_and_then (λ (start : Channel). option_map (state_after chan_machine start) (slice_get chans chan)) (start_of (machines_of s).chans chan)

-- the player holds the channel, by an offer or by entering
pub record IsHeld (s : Content) (chans : ChanHistories) (number chan : ℕ) : Type 0 where
  pub state : Channel
  pub manner : Manner
  pub is_state : chan_state s chans chan ≡ Some state
  pub entered : is_claim manner ≡ false
  pub holds : IsHeldAs state number manner

-- the player waits for the channel since a place, and is given it so; and one that its scripts hold it isn't given
pub record IsAwaited (s : Content) (chans : ChanHistories) (number : ℕ) (held : List ℕ) (wait : ℕ × ℕ) : Type 0 where
  pub state : Channel
  pub manner : Manner
  pub is_state : chan_state s chans wait.0 ≡ Some state
  pub entered : is_claim manner ≡ false
  pub awaits : IsAwaitedAs state number wait.1 manner
  pub once : list_any (eqb wait.0) held ≡ true → IsUndecided state number wait.1

-- the player holds each of these channels
abbrev pub HoldsAll : Content → ChanHistories → ℕ → List ℕ → Type 0
HoldsAll s chans number held = (chan : ℕ) → list_any (eqb chan) held ≡ true → IsHeld s chans number chan

-- what the innermost script holds and waits for, beside what those below it hold: all that is held is held once
pub record IsKept (s : Content) (chans : ChanHistories) (number : ℕ) (below : List ℕ) (holds : Option ℕ) (waits : Option (ℕ × ℕ)) : Type 0 where
  pub apart : IsDistinct eqb (option_to_list holds ++ below)
  pub held : HoldsAll s chans number (option_to_list holds ++ below)
  pub awaited : (wait : ℕ × ℕ) → waits ≡ Some wait → IsAwaited s chans number (option_to_list holds ++ below) wait

-- and so of the open scripts of a player
abbrev pub AreKept : Content → ChanHistories → ℕ → List Frame → Type 0
AreKept s chans number [] = Unit {0}
AreKept s chans number (frame ∷ below) =
    AreLayered s (frame ∷ below) × IsKept s chans number (got s below) (frame_got s frame) (frame_waits s frame)

-- what is kept of a call that makes this progress, by what it holds and waits for at each stage
abbrev pub IsKeptBy : Content → ChanHistories → ℕ → List ℕ → (Stage → Option ℕ) → (Stage → Option (ℕ × ℕ)) → Progress → Type 0
IsKeptBy s chans number below holds waits (Goes stage) = IsKept s chans number below (holds stage) (waits stage)
IsKeptBy s chans number below holds waits (Answers word answer) = IsKept s chans number below None None
IsKeptBy s chans number below holds waits (Enters owner stage) = IsKept s chans number below (holds stage) None × (is_some (holds stage) ≡ true)

-- the history of an object after entries of others
each-at : (number : ℕ) (old new : ChanHistories) (object : ℕ) (h : ChanHistory) → EachGrew number old new → slice_get old object ≡ Some h →
    (more : ChanHistory) × (slice_get new object ≡ Some (h ++ more)) × All (IsOther number) more
each-at number [] new object h grew there = absurd (cc)
each-at number (o ∷ os) [] object h grew there = absurd grew
each-at number (o ∷ os) (n ∷ ns) zero h grew there =
    let same : o ≡ h = same_Some o h there in
    (grew.0.more, ap Some grew.0.longer ∙ ap (λ (x : ChanHistory). Some (x ++ grew.0.more)) same, grew.0.others)
each-at number (o ∷ os) (n ∷ ns) (suc object) h grew there = each-at number os ns object h grew.1 there

-- the state of a channel after entries of others
state-others : (s : Content) (number : ℕ) (old new : ChanHistories) (chan : ℕ) (c : Channel) → EachGrew number old new → chan_state s old chan ≡ Some c →
    (more : ChanHistory) × (chan_state s new chan ≡ Some (state_after chan_machine c more)) × All (IsOther number) more
state-others s number old new chan c grew is =
    let Q : Type 0 = (more : ChanHistory) × (chan_state s new chan ≡ Some (state_after chan_machine c more)) × All (IsOther number) more in
    option_and_then_some {P = Q} (λ (start : Channel). option_map (state_after chan_machine start) (slice_get old chan)) (start_of (machines_of s).chans chan) c is
    (λ start started after. by_history start started (slice_get old chan) refl after)
  where
    by_history : (start : Channel) → start_of (machines_of s).chans chan ≡ Some start → (o : Option ChanHistory) → slice_get old chan ≡ o →
        option_map (state_after chan_machine start) o ≡ Some c →
        (more : ChanHistory) × (chan_state s new chan ≡ Some (state_after chan_machine c more)) × All (IsOther number) more
    by_history start started None there after = absurd (cc)
    by_history start started (Some h) there after =
        let found = each-at number old new chan h grew there in
        let state : state_after chan_machine start h ≡ c = same_Some (state_after chan_machine start h) c after in (
          found.0,
          ap (option_and_then (λ (start : Channel). option_map (state_after chan_machine start) (slice_get new chan))) started
              ∙ ap (option_map (state_after chan_machine start)) found.1
              ∙ ap (λ (d : Channel). Some d) (state_after-append chan_machine start h found.0 ∙ ap (λ (d : Channel). state_after chan_machine d found.0) state),
          found.2,
        )

held-still : (s : Content) (number : ℕ) (old new : ChanHistories) (chan : ℕ) → EachGrew number old new → IsHeld s old number chan → IsHeld s new number chan
held-still s number old new chan grew was =
    let after = state-others s number old new chan was.state grew was.is_state in
    record {
      state = state_after chan_machine was.state after.0;
      manner = was.manner;
      is_state = after.1;
      entered = was.entered;
      holds = held-others was.state after.0 number was.manner was.holds after.2;
    }

awaited-still : (s : Content) (number : ℕ) (old new : ChanHistories) (held : List ℕ) (wait : ℕ × ℕ) → EachGrew number old new → HoldsAll s old number held →
    IsAwaited s old number held wait → IsAwaited s new number held wait
awaited-still s number old new held wait grew all was =
    let after = state-others s number old new wait.0 was.state grew was.is_state in
    record {
      state = state_after chan_machine was.state after.0;
      manner = was.manner;
      is_state = after.1;
      entered = was.entered;
      awaits = awaited-others was.state after.0 number wait.1 was.manner was.awaits after.2;
      once = λ among.
          let own = all wait.0 among in
          let same : own.state ≡ was.state = same_Some own.state was.state (sym own.is_state ∙ was.is_state) in
          undecided-others was.state after.0 number wait.1 own.manner (subst (λ (c : Channel). IsHeldAs c number own.manner) same own.holds) after.2 (was.once among);
    }

-- entries of others leave what is kept
kept-still : (s : Content) (number : ℕ) (old new : ChanHistories) (below : List ℕ) (holds : Option ℕ) (waits : Option (ℕ × ℕ)) → EachGrew number old new →
    IsKept s old number below holds waits → IsKept s new number below holds waits
kept-still s number old new below holds waits grew was = record {
  apart = was.apart;
  held = λ chan among. held-still s number old new chan grew (was.held chan among);
  awaited = λ wait is. awaited-still s number old new (option_to_list holds ++ below) wait grew was.held (was.awaited wait is);
}

pub kept-among : (s : Content) (number : ℕ) (old new : ChanHistories) (frames : List Frame) → EachGrew number old new → AreKept s old number frames → AreKept s new number frames
kept-among s number old new [] grew was = tt
kept-among s number old new (frame ∷ below) grew was = (was.0, kept-still s number old new (got s below) (frame_got s frame) (frame_waits s frame) grew was.1)

-- an option that holds something is a list of one
pub length-one : (o : Option ℕ) → is_some o ≡ true → length (option_to_list o) ≡ 1
length-one None is = absurd (cc)
length-one (Some x) is = refl

-- at most two open scripts hold no channel: the run of a worker, and the innermost
pub layered-length : (s : Content) (frame : Frame) (below : List Frame) → AreLayered s (frame ∷ below) → length (frame ∷ below) ≤ length (got s below) + 2
layered-length s frame [] layers = omega arith
layered-length s frame (next ∷ below) layers = by_side (λ more. layered-length s next below more) layers.1
  where
    by_side : (AreLayered s (next ∷ below) → length (next ∷ below) ≤ length (got s below) + 2) →
        ((is_worker next.role ≡ true) × (below ≡ [])) ⊎ ((is_some (frame_got s next) ≡ true) × AreLayered s (next ∷ below)) →
        length (frame ∷ next ∷ below) ≤ length (got s (next ∷ below)) + 2
    by_side rest (inl run) = omega (arith, ap (λ (l : List Frame). length l) run.1)
    by_side rest (inr more) =
        omega (arith, rest more.1, length-one (frame_got s next) more.0, length-append (option_to_list (frame_got s next)) (got s below))
