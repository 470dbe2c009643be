-- Inner: no contract of a top call is made of this file.
use Rattle.std.specs.Prelude.{◌≡◌, ℕ, true, false, Some, None, List, slice_get}
use Rattle.zk_base.specs.declared.ids.Entry.{Entry}
use Rattle.zk_base.specs.Legal.{state_after}
use Rattle.zk_base.specs.Waits.{decision_of}
use Rattle.zk_model_wait.specs.declared.clock.ClockOp.TheVariants as clock_ops
use Rattle.zk_model_wait.specs.declared.sem.SemOp.TheVariants as sem_ops
use Rattle.zk_model_wait.specs.declared.msgq.MsgqOp.TheVariants as msgq_ops
use Rattle.zk_model_bus.specs.declared.channel.ChanOp.TheVariants as chan_ops
use Rattle.zk_model_bus.specs.declared.observer.ObsOp.TheVariants as obs_ops
use Rattle.zk_model_bus.specs.Channel.{Channel}
use Rattle.zk_model_bus.specs.Observer.{Observer}
use Rattle.zk_model_wait.specs.declared.signal.SignalOp.{SignalOp}
use Rattle.zk_model_wait.specs.declared.signal.SignalReply.{SignalReply}
use Rattle.zk_model_wait.specs.Clock.{new_clock, clock_reply, clock_machine}
use Rattle.zk_model_wait.specs.Sem.{Sem}
use Rattle.zk_model_wait.specs.Msgq.{Msgq}
use Rattle.zk_scenario.specs.Content.{Content}
use Rattle.zk_worker.specs.declared.steps.Step.TheVariants as steps
use Rattle.zk_worker.specs.Families.{Family, start_of}
use Rattle.zk_worker.specs.Looks.{seen_after}
use Rattle.zk_worker.specs.Places.{PlayerPlace}
use Rattle.zk_worker.specs.Protocol.{IsAhead}
use Rattle.zk_worker.specs.Machines.{machines_of}
use Rattle.zk_worker.specs.Choosing.{chosen}
use Rattle.zk_world.specs.World.{World, is_spent}
use Rattle.zk_replay.specs.RoundRobin.{IsRun}

-- a scenario has at most one round robin run
abbrev pub HasOneRun : Type 0
HasOneRun =
    (s : Content) (v w : World) → IsRun (machines_of s) s v → IsRun (machines_of s) s w → v ≡ w

-- at the end of a run in which no player is spent, no player has a possible attempt
abbrev pub NoneGoesOn : Type 0
NoneGoesOn = (s : Content) (w : World) → IsRun (machines_of s) s w → is_spent s w ≡ false →
    (player : ℕ) (at : PlayerPlace) → slice_get w.players player ≡ Some at →
    chosen (machines_of s) s w.shown at ≡ None

-- an object of a kind is in this state as its history leaves it
abbrev pub StandsIn : {S O R : Type 0} → Family S O R → List (List (Entry O R)) → ℕ → S → Type 0
StandsIn {S} {O} {R} family histories object state = (start : S) × (h : List (Entry O R)) ×
    (start_of family object ≡ Some start) × (slice_get histories object ≡ Some h) ×
    (state ≡ state_after family.machine start h)

-- a semaphore as its history leaves it
abbrev pub IsSemAt : Content → World → ℕ → Sem → Type 0
IsSemAt s w object sem = StandsIn (machines_of s).sems w.shown.sems object sem

-- a message queue as its history leaves it
abbrev pub IsMsgqAt : Content → World → ℕ → Msgq → Type 0
IsMsgqAt s w object queue = StandsIn (machines_of s).msgqs w.shown.msgqs object queue

-- a channel as its history leaves it
abbrev pub IsChanAt : Content → World → ℕ → Channel → Type 0
IsChanAt s w object channel = StandsIn (machines_of s).chans w.shown.chans object channel

-- an observer as its history leaves it
abbrev pub IsObserverAt : Content → World → ℕ → Observer → Type 0
IsObserverAt s w object observer = StandsIn (machines_of s).observers w.shown.observers object observer

-- a player that may only end a wait hasn't been served; one that polls hasn't been noted, nor is a signal raised that
-- it polls; and where it may end an alarm the moment of that hasn't come
pub record IsUnserved (s : Content) (w : World) (at : PlayerPlace) : Type 0 where
  pub takes : (object place : ℕ) (sem : Sem) → IsAhead s at (steps.Sem object (sem_ops.TakeEnd place)) →
      IsSemAt s w object sem → decision_of sem.takers at.who.number place ≡ None
  pub puts : (object place : ℕ) (queue : Msgq) → IsAhead s at (steps.Msgq object (msgq_ops.PutEnd place)) →
      IsMsgqAt s w object queue → decision_of queue.puts at.who.number place ≡ None
  pub gets : (object place : ℕ) (queue : Msgq) → IsAhead s at (steps.Msgq object (msgq_ops.GetEnd place)) →
      IsMsgqAt s w object queue → decision_of queue.gets at.who.number place ≡ None
  pub claims : (object place : ℕ) (channel : Channel) → IsAhead s at (steps.Chan object (chan_ops.ClaimEnd place)) →
      IsChanAt s w object channel → decision_of channel.waits at.who.number place ≡ None
  pub sub_takes : (object place : ℕ) (observer : Observer) → IsAhead s at (steps.Obs object (obs_ops.TakeEnd place)) →
      IsObserverAt s w object observer → decision_of observer.takers at.who.number place ≡ None
  pub sem_polls : (object place : ℕ) (sem : Sem) → IsAhead s at (steps.Sem object (sem_ops.PollEnd place)) →
      IsSemAt s w object sem → decision_of sem.pollers at.who.number place ≡ None
  pub msgq_polls : (object place : ℕ) (queue : Msgq) → IsAhead s at (steps.Msgq object (msgq_ops.PollEnd place)) →
      IsMsgqAt s w object queue → decision_of queue.pollers at.who.number place ≡ None
  pub signals : (object : ℕ) (h : List (Entry SignalOp SignalReply)) → IsAhead s at (steps.LookSignal object true) →
      slice_get w.shown.signals object ≡ Some h → (seen_after h).raised ≡ false
  pub alarms : (moment : ℕ) → IsAhead s at (steps.Clock (clock_ops.AlarmEnd moment)) →
      clock_reply (state_after clock_machine new_clock w.shown.clock) at.who (clock_ops.AlarmEnd moment) ≡ None

-- at the end of a run in which no player is spent, whoever waits does so since nobody has served it, and whoever polls
-- since nothing that it polls has come
abbrev pub NoneIsServed : Type 0
NoneIsServed = (s : Content) (w : World) → IsRun (machines_of s) s w → is_spent s w ≡ false →
    (player : ℕ) (at : PlayerPlace) → slice_get w.players player ≡ Some at → IsUnserved s w at
