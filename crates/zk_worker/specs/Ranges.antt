-- Inner: no contract of a top call is made of this file.
use Rattle.std.specs.Prelude.{◌≡◌, ℕ, Bool, true, false, ◌||◌, Option, Some, None, List, [], ◌∷◌, length, take, slice_get, All}
use Rattle.std.specs.List.{list_any}
use Rattle.std.specs.Option.{option_map_or}
use Rattle.zk_line.specs.declared.types.Decl.{Decl}
use Rattle.zk_line.specs.declared.types.Call.{Call}
use Rattle.zk_line.specs.Calls.{is_user_call}
use Rattle.zk_line.specs.Fits.{call_fits}
use Rattle.zk_line.specs.Needs.{needs_of, IsMet}
use Rattle.zk_line.specs.Objects.{places, is_at, is_met, is_user, is_queue, is_item}
use Rattle.zk_base.specs.declared.kinds.Need.{Need}
use Rattle.zk_model_bus.specs.declared.table.TableOp.TheVariants as table_ops
use Rattle.zk_scenario.specs.Content.{Content}
use Rattle.zk_scenario.specs.Players.{calls_of}
use Rattle.zk_scenario.specs.Steps.{steps_of}
use Rattle.zk_worker.specs.declared.checks.Mode.{Mode}
use Rattle.zk_worker.specs.declared.checks.Mode.TheVariants.{User}
use Rattle.zk_worker.specs.Checks.{oops_in}
use Rattle.zk_worker.specs.Places.{PlayerPlace}
use Rattle.zk_model_bus.specs.declared.channel.ChanReply.TheVariants as chan_replies
use Rattle.zk_model_work.specs.Machine.{is_among}
use Rattle.zk_worker.specs.declared.steps.Step.{Step}
use Rattle.zk_worker.specs.declared.steps.Step.TheVariants as steps
use Rattle.zk_worker.specs.declared.steps.StepReply.{StepReply}
use Rattle.zk_worker.specs.declared.steps.StepReply.TheVariants as step_replies
use Rattle.zk_worker.specs.declared.frames.Stage.{Stage}
use Rattle.zk_worker.specs.declared.frames.Stage.TheVariants.{Start, Visits}
use Rattle.zk_worker.specs.declared.frames.Role.{Role}
use Rattle.zk_worker.specs.declared.frames.Role.TheVariants.{Script, Worker}
use Rattle.zk_worker.specs.declared.frames.Frame.{Frame}
use Rattle.zk_worker.specs.Families.{is_declared}
use Rattle.zk_worker.specs.TableSetup.{names_declared}
use Rattle.zk_worker.specs.Machines.{sem_start, msgq_start, signal_start, chan_start, observer_start}

-- whether the objects of a step are declared
abbrev pub step_fits : List Decl → Step → Bool
step_fits decls (steps.Work op) =
    is_among (length (places is_item decls)) (length (places is_queue decls)) op
step_fits decls (steps.Clock op) = true
step_fits decls (steps.Table op) = names_declared decls op
step_fits decls (steps.Sem object op) = is_declared sem_start decls object
step_fits decls (steps.Msgq object op) = is_declared msgq_start decls object
step_fits decls (steps.Signal object op) = is_declared signal_start decls object
step_fits decls (steps.Chan object op) = is_declared chan_start decls object
step_fits decls (steps.Obs object op) = is_declared observer_start decls object
step_fits decls (steps.LookItem object) = is_at is_item decls object
step_fits decls (steps.LookSignal object must) = is_declared signal_start decls object

-- whether a worker's queue is declared as one
abbrev pub role_fits : List Decl → Role → Bool
role_fits decls (Script owner) = true
role_fits decls (Worker queue) = option_map_or is_queue (slice_get decls queue) false

-- these are declared as observers
abbrev pub AreObservers : List Decl → List ℕ → Type 0
AreObservers decls observers = All (λ observer. is_declared observer_start decls observer ≡ true) observers

-- the observers that a call has yet to visit are declared as such
abbrev pub StageFits : List Decl → Stage → Type 0
StageFits decls (Visits left full) = AreObservers decls left
StageFits decls stage = Unit {0}

-- the queue of an open run is declared as one, and so are the observers that a call of a script visits
abbrev pub FrameFits : List Decl → Frame → Type 0
FrameFits decls frame = (role_fits decls frame.role ≡ true) × StageFits decls frame.stage

-- so it is of each open script and run
abbrev pub FramesFit : List Decl → List Frame → Type 0
FramesFit decls frames = All (FrameFits decls) frames

-- the next call of a script has the objects that it needs
abbrev pub HasObjects : Content → Role → ℕ → Type 0
HasObjects s (Script owner) next =
    (call : Call) → slice_get (calls_of s.scripts owner) next ≡ Some call → call_fits false s.decls call ≡ true
HasObjects s (Worker queue) next = Unit {0}

-- whether nothing of a call or run was done but checks
abbrev pub is_start : Stage → Bool
is_start Start = true
is_start stage = false

-- a call that has begun has the objects that it needs
abbrev pub HasBegun : Content → Frame → Type 0
HasBegun s frame = is_start frame.stage ≡ false → HasObjects s frame.role frame.next

-- whether the next call of a script stands in a free line
abbrev pub is_free_at : Content → Role → ℕ → Bool
is_free_at s (Script owner) next =
    is_at is_user s.decls owner || list_any is_user_call (take next (calls_of s.scripts owner))
is_free_at s (Worker queue) next = false

-- such a call is a user's
abbrev pub IsUsers : Content → Mode → Frame → Type 0
IsUsers s mode frame = is_free_at s frame.role frame.next ≡ true → mode ≡ User

-- the objects whose checks a call has passed are what it needs
abbrev pub ArePassedAt : Content → ℕ → Role → ℕ → Type 0
ArePassedAt s passed (Script owner) next =
    (call : Call) → slice_get (calls_of s.scripts owner) next ≡ Some call →
    All (IsMet s.decls) (take passed (needs_of call))
ArePassedAt s passed (Worker queue) next = Unit {0}

-- and so they are of the innermost open script's next call
abbrev pub ArePassed : Content → ℕ → List Frame → Type 0
ArePassed s passed [] = Unit {0}
ArePassed s passed (frame ∷ below) = ArePassedAt s passed frame.role frame.next

-- a player has room for the steps that it may make in a scenario
abbrev pub HasRoomIn : Content → PlayerPlace → Type 0
HasRoomIn s at = at.most ≡ steps_of s

-- what is open fits, calls in free lines are a user's, and each call has the objects that it needs when it has begun: so all that
-- the player attempts is in range. And there is room for its steps
pub record IsFit (s : Content) (at : PlayerPlace) : Type 0 where
  pub frames : FramesFit s.decls at.frames
  pub free : All (IsUsers s at.mode) at.frames
  pub begun : All (HasBegun s) at.frames
  pub passed : ArePassed s at.passed at.frames
  pub room : HasRoomIn s at

-- what a check asks for is an object, and what it has to be
abbrev pub IsAsked : List Decl → Option ℕ → Need → Type 0
IsAsked decls None need = ⊥
IsAsked decls (Some object) need = is_at (is_met need) decls object ≡ true

-- where a check is passed it is so
abbrev pub PassesFit : List Decl → Step → StepReply → Type 0
PassesFit decls (steps.Table (table_ops.Check object need)) reply = oops_in reply ≡ None → IsAsked decls object need
PassesFit decls step reply = Unit {0}

-- the observers of which a channel tells are declared as such, and so is one that is visited
abbrev pub ReplyFits : List Decl → StepReply → Type 0
ReplyFits decls (step_replies.Chan chan (chan_replies.Observers told) place) = AreObservers decls told
ReplyFits decls (step_replies.Obs observer reply place) = is_declared observer_start decls observer ≡ true
ReplyFits decls reply = Unit {0}
