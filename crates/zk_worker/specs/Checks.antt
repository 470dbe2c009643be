use Rattle.std.specs.Prelude.{ℕ, Bool, true, false, Option, Some, None, List, [], ◌∷◌, slice_get, option_map, option_and_then}
use Rattle.zk_line.specs.declared.needs.Needed.{Needed}
use Rattle.zk_line.specs.declared.types.Call.{Call}
use Rattle.zk_line.specs.declared.types.Decl.{Decl}
use Rattle.zk_line.specs.declared.types.Decl.TheVariants.{Thread}
use Rattle.zk_line.specs.Calls.{word_of}
use Rattle.zk_line.specs.Needs.{needs_of}
use Rattle.zk_model_bus.specs.declared.table.OopsWhy.{OopsWhy}
use Rattle.zk_model_bus.specs.declared.table.TableOp.TheVariants as table_ops
use Rattle.zk_model_bus.specs.declared.table.TableReply.TheVariants as table_replies
use Rattle.zk_scenario.specs.Content.{Content}
use Rattle.zk_scenario.specs.Players.{calls_of}
use Rattle.zk_worker.specs.declared.answers.Answer.{Answer}
use Rattle.zk_worker.specs.declared.answers.Answer.TheVariants.{Oops}
use Rattle.zk_worker.specs.declared.checks.Check.{Check}
use Rattle.zk_worker.specs.declared.checks.Mode.{Mode}
use Rattle.zk_worker.specs.declared.checks.Mode.TheVariants.{Supervisor, User}
use Rattle.zk_worker.specs.declared.frames.Frame.{Frame}
use Rattle.zk_worker.specs.declared.frames.Role.{Role}
use Rattle.zk_worker.specs.declared.frames.Role.TheVariants.{Script}
use Rattle.zk_worker.specs.declared.frames.Stage.{Stage}
use Rattle.zk_worker.specs.declared.frames.Stage.TheVariants.{Start}
use Rattle.zk_worker.specs.declared.steps.Step.{Step}
use Rattle.zk_worker.specs.declared.steps.Step.TheVariants as steps
use Rattle.zk_worker.specs.declared.steps.StepReply.{StepReply}
use Rattle.zk_worker.specs.declared.steps.StepReply.TheVariants as step_replies
use Rattle.zk_worker.specs.Refs.{ref_declared}

-- what a call asks of the object table for one of its needs
abbrev pub check_of : Call → Needed → Check
check_of call needed =
    record { word = word_of call; object = ref_declared needed.object; need = needed.need }

-- the check that comes next in a call that has passed so many
abbrev pub call_check : ℕ → Call → Option Check
call_check passed call = option_map (check_of call) (slice_get (needs_of call) passed)

-- it comes before all other steps of the call
abbrev pub role_check : Content → ℕ → Role → ℕ → Stage → Option Check
role_check s passed (Script owner) next Start =
    option_and_then (call_check passed) (slice_get (calls_of s.scripts owner) next)
role_check s passed role next stage = None

-- it is that of the innermost open script
abbrev pub top_check : Content → ℕ → List Frame → Option Check
top_check s passed [] = None
top_check s passed (frame ∷ below) = role_check s passed frame.role frame.next frame.stage

-- and only users are checked
abbrev pub next_check : Content → Mode → ℕ → List Frame → Option Check
next_check s User passed frames = top_check s passed frames
next_check s mode passed frames = None

-- the step that makes a check
abbrev pub check_step : Check → Step
check_step check = steps.Table (table_ops.Check check.object check.need)

-- why a check failed, if it did
abbrev pub oops_in : StepReply → Option OopsWhy
oops_in (step_replies.Table (table_replies.Oops why) place) = Some why
oops_in reply = None

-- whether an answer is that of a failed check
abbrev pub is_oops : Answer → Bool
is_oops (Oops why) = true
is_oops answer = false

-- the mode after a step that isn't a check
abbrev pub mode_after : Mode → Step → Mode
mode_after mode (steps.Table table_ops.EnterUser) = User
mode_after mode made = mode

-- the mode of a player at first
abbrev pub start_mode : Decl → Mode
start_mode (Thread name prio true) = User
start_mode decl = Supervisor
