use Rattle.std.specs.Prelude.{◌≡◌, ℕ, ◌&&◌, ◌||◌, Bool, true, false, is_some, None, Some, List, [], ◌∷◌, ◌++◌, map, take, length, slice_get}
use Rattle.std.specs.List.{AllZip, list_any}
use Rattle.std.specs.Option.{option_map_or}
use Rattle.zk_line.specs.Calls.{word_of}
use Rattle.zk_line.specs.Needs.{needs_of}
use Rattle.zk_line.specs.Objects.{is_at, is_user}
use Rattle.zk_line.specs.declared.types.Call.{Call}
use Rattle.zk_model_bus.specs.declared.table.OopsWhy.{OopsWhy}
use Rattle.zk_model_bus.specs.declared.table.TableOp.TheVariants as table_ops
use Rattle.zk_scenario.specs.Content.{Content}
use Rattle.zk_scenario.specs.Players.{players, calls_of}
use Rattle.zk_worker.specs.declared.answers.Answer.TheVariants.{Oops}
use Rattle.zk_worker.specs.declared.answers.Answered.{Answered}
use Rattle.zk_worker.specs.declared.checks.Check.{Check}
use Rattle.zk_worker.specs.declared.checks.Mode.TheVariants.{Dead}
use Rattle.zk_worker.specs.declared.frames.Frame.{Frame}
use Rattle.zk_worker.specs.declared.frames.Role.{Role}
use Rattle.zk_worker.specs.declared.frames.Role.TheVariants.{Script, Worker}
use Rattle.zk_worker.specs.declared.frames.Stage.TheVariants.{Start}
use Rattle.zk_worker.specs.declared.steps.Step.{Step}
use Rattle.zk_worker.specs.declared.steps.Step.TheVariants as steps
use Rattle.zk_worker.specs.Checks.{check_of, check_step, oops_in, is_oops}
use Rattle.zk_worker.specs.Follows.{StepMade, IsPlayed, IsFollowing, is_dead}
use Rattle.zk_worker.specs.Places.{PlayerPlace}
use Rattle.zk_worker.specs.Protocol.{after, start_at}
use Rattle.zk_worker.specs.Shown.{Shown}

-- the checks of a call, one for each of its needs, in order
abbrev pub checks_of : Call → List Check
checks_of call = map (check_of call) (needs_of call)

-- the step makes the check, which is passed
abbrev pub Passes : StepMade → Check → Type 0
Passes made check = (made.0 ≡ check_step check) × (oops_in made.1 ≡ None)

-- these steps make these checks, one each, and all are passed
abbrev pub ChecksArePassed : List StepMade → List Check → Type 0
ChecksArePassed made checks = AllZip Passes made checks

-- the step is a check
abbrev pub is_check : Step → Bool
is_check (steps.Table (table_ops.Check object need)) = true
is_check step = false

-- the step is a check, which failed
abbrev pub fails : StepMade → Bool
fails made = is_check made.0 && is_some (oops_in made.1)

-- the step makes its player a user
abbrev pub enters_user : Step → Bool
enters_user (steps.Table table_ops.EnterUser) = true
enters_user step = false

-- the player of a number is declared as a user
abbrev pub starts_as_user : Content → ℕ → Bool
starts_as_user s number = option_map_or (is_at is_user s.decls) (slice_get (players s.decls) number) false

-- behind these steps it is one: it was declared so, or one of them made it a user
abbrev pub is_user_behind : Content → ℕ → List StepMade → Bool
is_user_behind s number made = starts_as_user s number || list_any (λ m. enters_user m.0) made

-- these steps lead the player of a number from its start to a place
abbrev pub IsLed : Content → ℕ → List StepMade → PlayerPlace → Type 0
IsLed s number made at = (start : PlayerPlace) × (start_at s number ≡ Some start) × IsPlayed s start made at

-- behind these steps a player stands at the beginning of the next call of a script, below which this is open
pub record BeginsCall (s : Content) (number : ℕ) (before : List StepMade) (owner next : ℕ) (call : Call) (below : List Frame) :
    Type 0 where
  pub at : PlayerPlace
  pub led : IsLed s number before at
  pub is_call : slice_get (calls_of s.scripts owner) next ≡ Some call
  pub stood : at.frames ≡ record { role = Script owner; next = next; stage = Start } ∷ below

-- the last of these steps is a check
abbrev pub ends_in_check : List StepMade → Bool
ends_in_check [] = false
ends_in_check (made ∷ []) = is_check made.0
ends_in_check (made ∷ next ∷ more) = ends_in_check (next ∷ more)

-- and none of that call's checks is made yet: the player has passed none, and the last of these steps is none
pub record BeginsUnchecked (s : Content) (number : ℕ) (before : List StepMade) (owner next : ℕ) (call : Call) (below : List Frame) :
    Type 0 where
  pub begins : BeginsCall s number before owner next call below
  pub fresh : begins.at.passed ≡ 0
  pub unchecked : ends_in_check before ≡ false

-- behind these steps this one makes the next check of a user's call: since the call began nothing was made but its
-- earlier checks, in their order, each passed
pub record IsNextCheck (s : Content) (number : ℕ) (front : List StepMade) (owner next : ℕ) (below : List Frame) (made : StepMade) :
    Type 0 where
  pub before : List StepMade
  pub checks : List StepMade
  pub whole : front ≡ before ++ checks
  pub call : Call
  pub begins : BeginsUnchecked s number before owner next call below
  pub user : is_user_behind s number before ≡ true
  pub passed : ChecksArePassed checks (take (length checks) (checks_of call))
  pub check : Check
  pub comes : slice_get (checks_of call) (length checks) ≡ Some check
  pub makes : made.0 ≡ check_step check

-- these steps end behind all checks of a user's call, one for each need, each passed, which were its first steps
pub record IsBehindChecks (s : Content) (number : ℕ) (front : List StepMade) (owner next : ℕ) (below : List Frame) : Type 0 where
  pub before : List StepMade
  pub since : List StepMade
  pub whole : front ≡ before ++ since
  pub call : Call
  pub begins : BeginsUnchecked s number before owner next call below
  pub checked : is_user_behind s number before ≡ true →
      (checks : List StepMade) × (rest : List StepMade) × (since ≡ checks ++ rest) × ChecksArePassed checks (checks_of call)

-- a worker makes no check. A script makes one only where it is the next one of a user's call, and another step only
-- behind all checks of its call, where its caller was a user when it began
abbrev pub IsCheckedIn : Content → ℕ → List StepMade → Role → ℕ → List Frame → StepMade → Type 0
IsCheckedIn s number front (Worker queue) next below made = is_check made.0 ≡ false
IsCheckedIn s number front (Script owner) next below made =
    (is_check made.0 ≡ true → IsNextCheck s number front owner next below made)
    × (is_check made.0 ≡ false → IsBehindChecks s number front owner next below)

-- so it is with the step of a player's innermost open script or run; who has none open makes no step
abbrev pub IsChecked : Content → ℕ → List StepMade → List Frame → StepMade → Type 0
IsChecked s number front [] made = ⊥
IsChecked s number front (frame ∷ below) made = IsCheckedIn s number front frame.role frame.next below made

-- and so it is with each of these steps, which go on from a place of the player, behind those in front
abbrev pub AreChecked : Content → ℕ → List StepMade → PlayerPlace → List StepMade → Type 0
AreChecked s number front at [] = Unit {0}
AreChecked s number front at (made ∷ more) =
    IsChecked s number front at.frames made × AreChecked s number (front ++ made ∷ []) (after s at made.0 made.1) more

-- the answer is that of a failed check
abbrev pub tells_oops : Answered → Bool
tells_oops answered = is_oops answered.answer

-- something says that a check has ended a player: a step, an answer, or its mode
abbrev pub has_oops : List StepMade → PlayerPlace → Bool
has_oops made end = list_any fails made || (list_any tells_oops end.answers || is_dead end.mode)

-- the last of these steps is the next check of a user's call, which failed, and the first that did. The last answer
-- is that of this call and says why; it is the first such answer; and the player has ended, with all that it had open
pub record EndedByOops (s : Content) (number : ℕ) (made : List StepMade) (end : PlayerPlace) : Type 0 where
  pub front : List StepMade
  pub last : StepMade
  pub whole : made ≡ front ++ last ∷ []
  pub owner : ℕ
  pub next : ℕ
  pub below : List Frame
  pub checks : IsNextCheck s number front owner next below last
  pub why : OopsWhy
  pub failed : oops_in last.1 ≡ Some why
  pub first : list_any fails front ≡ false
  pub earlier : List Answered
  pub told : list_any tells_oops earlier ≡ false
  pub answered : end.answers ≡ earlier ++ record { step = length front; word = word_of checks.call; answer = Oops why } ∷ []
  pub dead : end.mode ≡ Dead
  pub over : end.frames ≡ []

-- of each player that follows a scenario, whatever is shown: each check is one that a user's call has to make next,
-- each other step of a user's call comes behind all its checks; and wherever something says that a check has ended
-- the player, one has: as its last step, which its last answer tells
abbrev pub EachUserIsChecked : Type 0
EachUserIsChecked = (s : Content) (number : ℕ) (shown : Shown) (at : PlayerPlace) (is : IsFollowing s number shown at) →
    AreChecked s number [] is.start is.made × (has_oops is.made at ≡ true → EndedByOops s number is.made at)
