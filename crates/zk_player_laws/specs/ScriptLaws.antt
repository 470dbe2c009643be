use Rattle.std.specs.Prelude.{◌≡◌, ◌⊎◌, ℕ, ◌+◌, Bool, true, false, Option, Some, None, List, [], ◌∷◌, ◌++◌, slice_get, All}
use Rattle.zk_line.specs.Objects.{places, is_at, is_item, is_queue}
use Rattle.zk_line.specs.declared.types.Decl.{Decl}
use Rattle.zk_model_bus.specs.declared.observer.ObsOp.TheVariants as obs_ops
use Rattle.zk_model_bus.specs.declared.observer.ObsReply.TheVariants as obs_replies
use Rattle.zk_model_work.specs.declared.ops.WorkOp.TheVariants as work_ops
use Rattle.zk_model_work.specs.declared.ops.WorkReply.TheVariants as work_replies
use Rattle.zk_scenario.specs.Content.{Content}
use Rattle.zk_scenario.specs.Players.{players, who_of, calls_of}
use Rattle.zk_scenario.specs.Valid.{IsValid}
use Rattle.zk_worker.specs.declared.answers.Answered.{Answered}
use Rattle.zk_worker.specs.declared.frames.Frame.{Frame}
use Rattle.zk_worker.specs.declared.frames.Role.{Role}
use Rattle.zk_worker.specs.declared.frames.Role.TheVariants.{Script, Worker}
use Rattle.zk_worker.specs.declared.frames.Stage.{Stage}
use Rattle.zk_worker.specs.declared.frames.Stage.TheVariants.{Start}
use Rattle.zk_worker.specs.declared.steps.Step.TheVariants as steps
use Rattle.zk_worker.specs.declared.steps.StepReply.TheVariants as step_replies
use Rattle.zk_worker.specs.Checks.{oops_in}
use Rattle.zk_worker.specs.Follows.{StepMade, IsFollowing}
use Rattle.zk_worker.specs.Places.{PlayerPlace}
use Rattle.zk_worker.specs.Protocol.{after}
use Rattle.zk_worker.specs.Shown.{Shown, ShowsLog}
use Rattle.zk_player_laws.specs.CheckLaws.{is_check, fails}
use Rattle.zk_player_laws.specs.StackLogs.{ShowsLegalClock, ShowsLegalChans}

-- a script has no call left; a worker always has a run to come
abbrev pub HasNoneLeft : Content → Role → ℕ → Type 0
HasNoneLeft s (Script owner) next = slice_get (calls_of s.scripts owner) next ≡ None
HasNoneLeft s (Worker queue) next = ⊥

-- what is open is through
abbrev pub IsThrough : Content → Frame → Type 0
IsThrough s frame = HasNoneLeft s frame.role frame.next

-- the innermost that is open isn't
abbrev pub HasCallsLeft : Content → List Frame → Type 0
HasCallsLeft s [] = Unit {0}
HasCallsLeft s (frame ∷ below) = IsThrough s frame → ⊥

-- what is left of what was open: those that are through are closed, from the innermost out, and no others
pub record AreLeft (s : Content) (opened left : List Frame) : Type 0 where
  pub closed : List Frame
  pub whole : opened ≡ closed ++ left
  pub through : All (IsThrough s) closed
  pub stands : HasCallsLeft s left

-- a script at its first call, of which nothing is made
abbrev pub from_its_start : ℕ → Frame
from_its_start owner = record { role = Script owner; next = 0; stage = Start }

-- whose script a step opens: a worker that begins a run that of its item, if it has one, and a visit that of a listener
abbrev pub opened_by : List Decl → Role → StepMade → Option ℕ
opened_by decls (Worker queue) (steps.Work (work_ops.Begin number), step_replies.Work (work_replies.Run item admission) place) =
    slice_get (places is_item decls) item
opened_by decls (Script owner) (steps.Obs observer (obs_ops.Visit chan), step_replies.Obs at obs_replies.Run place) =
    Some observer
opened_by decls role made = None

-- with this script, or none, on what is open
abbrev pub with_script : Option ℕ → List Frame → List Frame
with_script None frames = frames
with_script (Some owner) frames = from_its_start owner ∷ frames

-- the call of a script is under way: its player doesn't stand at its beginning
abbrev pub IsUnderWay : Role → Stage → Type 0
IsUnderWay (Script owner) Start = ⊥
IsUnderWay role stage = Unit {0}

-- where the step has answered nothing, the next call is the same, and under way; where it has, it has answered a call of a script,
-- and the next is the one behind, at its beginning
abbrev pub GoesOn : Frame → Frame → List Answered → List Answered → Type 0
GoesOn old now earlier answers =
    ((answers ≡ earlier) × (now.next ≡ old.next) × IsUnderWay now.role now.stage)
    ⊎ ((a : Answered) × (answers ≡ earlier ++ a ∷ []) × (owner : ℕ) × (now.role ≡ Script owner)
    × (now.next ≡ old.next + 1) × (now.stage ≡ Start))

-- a step of the innermost open script or run changes that alone; it opens the script that it is to open, and no other; and what
-- is through is closed
pub record IsPlayedOn (s : Content) (frame : Frame) (below : List Frame) (made : StepMade) (earlier answers : List Answered)
    (after : List Frame) : Type 0 where
  pub now : Frame
  pub same : now.role ≡ frame.role
  pub goes : GoesOn frame now earlier answers
  pub left : AreLeft s (with_script (opened_by s.decls frame.role made) (now ∷ below)) after

-- a player stays who it is; a passed check changes nothing that is open, and answers nothing; behind one that fails nothing is
-- open; and each other step is of the innermost open script or run
pub record IsPlayedTo (s : Content) (at : PlayerPlace) (made : StepMade) (next : PlayerPlace) : Type 0 where
  pub who : next.who ≡ at.who
  pub passes : is_check made.0 ≡ true → oops_in made.1 ≡ None → (next.frames ≡ at.frames) × (next.answers ≡ at.answers)
  pub ends : fails made ≡ true → next.frames ≡ []
  pub plays : is_check made.0 ≡ false → (frame : Frame) × (below : List Frame) × (at.frames ≡ frame ∷ below)
      × IsPlayedOn s frame below made at.answers next.answers next.frames

-- so it is with each of these steps, which go on from a place of the player
abbrev pub ArePlayedOn : Content → PlayerPlace → List StepMade → Type 0
ArePlayedOn s at [] = Unit {0}
ArePlayedOn s at (made ∷ more) = IsPlayedTo s at made (after s at made.0 made.1) × ArePlayedOn s (after s at made.0 made.1) more

-- what a player plays of its own: its queue, as a worker, or its script
abbrev pub own_role : Bool → ℕ → Role
own_role true object = Worker object
own_role false object = Script object

-- a player of this number stands where it starts: it is who is declared; its own script or queue is open, from its start on, if
-- that isn't through before it begins; and it has made no step and answered nothing
pub record IsFirstPlace (s : Content) (number : ℕ) (at : PlayerPlace) : Type 0 where
  pub object : ℕ
  pub is_player : slice_get (players s.decls) number ≡ Some object
  pub left : AreLeft s (record { role = own_role (is_at is_queue s.decls object) object; next = 0; stage = Start } ∷ []) at.frames
  pub who : who_of s.decls number ≡ Some at.who
  pub passed : at.passed ≡ 0
  pub answers : at.answers ≡ []
  pub steps : at.spots ≡ []

-- of each player that follows a valid scenario, by what is shown with legal histories of the clock and of channels: it starts
-- with its own script or queue, and its scripts are played on by each of its steps
abbrev pub EachScriptIsPlayed : Type 0
EachScriptIsPlayed = (s : Content) (number : ℕ) (shown : Shown) (at : PlayerPlace) (is : IsFollowing s number shown at) →
    IsValid s → ShowsLog shown number at.spots → ShowsLegalClock shown → ShowsLegalChans s shown →
    IsFirstPlace s number is.start × ArePlayedOn s is.start is.made
