-- Inner: no contract of a top call is made of this file.
-- A player within a call of its script.
use Rattle.std.specs.Prelude.{◌≡◌, ◌⊎◌, ℕ, ◌-◌, Bool, true, false, ◌&&◌, ◌||◌, nat_lt, if◌then◌else◌, option_map, Option, Some, None, Result, List, [], ◌∷◌, ◌++◌, length, slice_get, All}
use Rattle.zk_line.specs.declared.types.Call.{Call}
use Rattle.zk_scenario.specs.Content.{Content}
use Rattle.zk_scenario.specs.Players.{calls_of}
use Rattle.zk_worker.specs.declared.frames.Frame.{Frame}
use Rattle.zk_worker.specs.declared.frames.Role.TheVariants.{Script}
use Rattle.zk_worker.specs.declared.frames.Stage.{Stage}
use Rattle.zk_worker.specs.Follows.{is_dead}
use Rattle.zk_worker.specs.Places.{PlayerPlace}
use Rattle.zk_worker.specs.Ranges.{is_start}
use Rattle.zk_worker.specs.declared.answers.Answer.{Answer}
use Rattle.zk_kernel.specs.declared.stop.Stop.{Stop}
use Rattle.zk_kernel.specs.Calling.{Moment, CameBy, HasCalled, is_checking}
use Rattle.zk_cells.specs.Kernels.{Shared}

-- the call at which an open script stands
pub record IsCallOf (s : Content) (frame : Frame) (call : Call) : Type 0 where
  pub owner : ℕ
  pub script : frame.role ≡ Script owner
  pub there : slice_get (calls_of s.scripts owner) frame.next ≡ Some call

-- a player is within the call of this script: what it entered is open above it, and behind the call's beginning alone
pub record IsWithin (frame : Frame) (below : List Frame) (at : PlayerPlace) : Type 0 where
  pub inner : List Frame
  pub stage : Stage
  pub stands : at.frames ≡ inner ++ record frame { stage = stage } ∷ below
  pub lives : is_dead at.mode ≡ false
  pub fresh : is_start stage ≡ true → inner ≡ []

-- a moment is over at which a check came next, or the player stands where it stood then
abbrev pub IsCheckedOrSame : Content → PlayerPlace → Moment → Type 0
IsCheckedOrSame s now m = (is_checking s m.place ≡ true) ⊎ (m.place ≡ now)

-- a call that began at one moment isn't answered yet at another; where it is at its beginning still, all it did were checks
pub record IsUnderWay (k : Shared) (call : Call) (old now : Moment) : Type 0 where
  pub frame : Frame
  pub below : List Frame
  pub began : old.place.frames ≡ frame ∷ below
  pub is : IsCallOf k.scenario frame call
  pub within : IsWithin frame below now.place
  pub earlier : List Moment
  pub came : CameBy k (length old.place.frames) old earlier now
  pub only : is_start within.stage ≡ true → All (IsCheckedOrSame k.scenario now.place) earlier

-- a call isn't over yet, or has come to what it gives
abbrev pub GoesOrGives : Shared → Call → Moment → Moment → Option (Result Answer Stop) → Type 0
GoesOrGives k call old now None = IsUnderWay k call old now
GoesOrGives k call old now (Some given) = HasCalled k call old now given

-- what a step answered to a call, which was of the call's own script or of one that it entered: the last answer, if it is new
abbrev pub answer_since : PlayerPlace → ℕ → Bool → Option Answer
answer_since at before own =
    if nat_lt before (length at.answers) && (own || is_dead at.mode)
    then option_map (λ a. a.answer) (slice_get at.answers (length at.answers - 1)) else None
