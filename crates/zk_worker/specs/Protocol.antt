use Rattle.std.specs.Prelude.{◌≡◌, ℕ, ◌+◌, Bool, false, nat_lt, nat_le, if◌then◌else◌, Option, Some, None, List, [], ◌∷◌, ◌++◌, length, slice_get, option_map, option_and_then}
use Rattle.zk_base.specs.declared.seen.Seen.{Seen}
use Rattle.zk_line.specs.declared.types.Decl.{Decl}
use Rattle.zk_line.specs.declared.types.Decl.TheVariants as decls
use Rattle.zk_line.specs.declared.types.Call.{Call}
use Rattle.zk_scenario.specs.Content.{Content}
use Rattle.zk_line.specs.Objects.{places, is_item, number_of}
use Rattle.zk_scenario.specs.Players.{players, prio_of, calls_of}
use Rattle.zk_model_wait.specs.Signal.{clear_at}
use Rattle.zk_model_work.specs.declared.ops.WorkOp.TheVariants as ops
use Rattle.zk_model_work.specs.declared.ops.WorkReply.TheVariants as replies
use Rattle.zk_scenario.specs.Steps.{steps_of}
use Rattle.zk_worker.specs.declared.frames.TheConstants.{MOST_FRAMES}
use Rattle.zk_worker.specs.declared.steps.Step.{Step}
use Rattle.zk_worker.specs.declared.steps.Step.TheVariants as steps
use Rattle.zk_worker.specs.declared.steps.StepReply.{StepReply}
use Rattle.zk_worker.specs.declared.steps.StepReply.TheVariants as step_replies
use Rattle.zk_worker.specs.declared.steps.Spot.{Spot}
use Rattle.zk_worker.specs.declared.steps.Spot.TheVariants as spots
use Rattle.zk_worker.specs.declared.answers.Answered.{Answered}
use Rattle.zk_worker.specs.declared.frames.Stage.{Stage}
use Rattle.zk_worker.specs.declared.frames.Stage.TheVariants.{Start, Runs}
use Rattle.zk_worker.specs.declared.frames.Role.{Role}
use Rattle.zk_worker.specs.declared.frames.Role.TheVariants.{Script, Worker}
use Rattle.zk_worker.specs.declared.frames.Frame.{Frame}
use Rattle.zk_worker.specs.declared.frames.Progress.{Progress}
use Rattle.zk_worker.specs.declared.frames.Progress.TheVariants.{Goes, Answers, Enters}
use Rattle.zk_line.specs.Calls.{word_of}
use Rattle.zk_model_bus.specs.declared.table.OopsWhy.{OopsWhy}
use Rattle.zk_words.specs.declared.word.Word.{Word}
use Rattle.zk_worker.specs.declared.answers.Answer.TheVariants.{Oops}
use Rattle.zk_worker.specs.declared.checks.Check.{Check}
use Rattle.zk_worker.specs.declared.checks.Mode.TheVariants.{Dead}
use Rattle.zk_worker.specs.Calls.{plan_of, plan_attempts, plan_progress}
use Rattle.zk_worker.specs.Checks.{next_check, check_step, oops_in, mode_after, start_mode}
use Rattle.zk_worker.specs.Places.{PlayerPlace}

-- the next attempts of a worker: between two runs the Begin of its queue, in a run whose script is over the End
abbrev pub worker_attempts : ℕ → Stage → List Step
worker_attempts queue Start = steps.Work (ops.Begin queue) ∷ []
worker_attempts queue Runs = steps.Work (ops.End queue) ∷ []
worker_attempts queue stage = []

-- the next attempts of a script, at its next call
abbrev pub call_attempts : List Decl → Option Call → Stage → List Step
call_attempts decls None stage = []
call_attempts decls (Some call) stage = plan_attempts (plan_of decls call) stage

-- the next attempts of an open script or run
abbrev pub role_attempts : Content → Role → ℕ → Stage → List Step
role_attempts s (Script owner) next stage =
    call_attempts s.decls (slice_get (calls_of s.scripts owner) next) stage
role_attempts s (Worker queue) next stage = worker_attempts (number_of s.decls queue) stage

-- the next attempts: those of the innermost open script or run
abbrev pub frames_attempts : Content → List Frame → List Step
frames_attempts s [] = []
frames_attempts s (frame ∷ below) = role_attempts s frame.role frame.next frame.stage

-- a check that comes next is made before all else
abbrev pub checks_first : Option Check → List Step → List Step
checks_first (Some check) own = check_step check ∷ []
checks_first None own = own

-- the next attempts of a player in order: none where it is through or has made all its steps
abbrev pub attempts : Content → PlayerPlace → List Step
attempts s at =
    if nat_lt (length at.spots) (steps_of s)
    then checks_first (next_check s at.mode at.passed at.frames) (frames_attempts s at.frames) else []

-- the step is one of the player's next attempts
abbrev pub IsAhead : Content → PlayerPlace → Step → Type 0
IsAhead s at step = (k : ℕ) × (slice_get (attempts s at) k ≡ Some step)

-- a worker that took up an item enters its script
abbrev pub run_progress : Option ℕ → Progress
run_progress None = Goes Runs
run_progress (Some owner) = Enters owner Runs

-- what the reply to a step does to a worker
abbrev pub worker_progress : List Decl → Stage → StepReply → Progress
worker_progress decls Start (step_replies.Work (replies.Run item admission) place) =
    run_progress (slice_get (places is_item decls) item)
worker_progress decls stage reply = Goes Start

-- what the reply to a step does to the call of a script
abbrev pub call_progress : List Decl → Option Call → Stage → Step → StepReply → Progress
call_progress decls None stage made reply = Goes stage
call_progress decls (Some call) stage made reply =
    plan_progress (word_of call) (plan_of decls call) stage made reply

-- what the reply to a step does to an open script or run
abbrev pub role_progress : Content → Role → ℕ → Stage → Step → StepReply → Progress
role_progress s (Script owner) next stage made reply =
    call_progress s.decls (slice_get (calls_of s.scripts owner) next) stage made reply
role_progress s (Worker queue) next stage made reply = worker_progress s.decls stage reply

-- whether all calls of a script are answered; a worker is never through
abbrev pub is_over : Content → Role → ℕ → Bool
is_over s (Script owner) next = nat_le (length (calls_of s.scripts owner)) next
is_over s (Worker queue) next = false

-- the open scripts and runs, without the innermost scripts that are over
abbrev pub settled : Content → List Frame → List Frame
settled s [] = []
settled s (frame ∷ below) =
    if is_over s frame.role frame.next then settled s below else frame ∷ below

-- what is played from its start
abbrev pub first_frame : Role → Frame
first_frame role = record { role = role; next = 0; stage = Start }

-- a script more is open. Where as many are open as there may be, it isn't entered
abbrev pub entered : List Frame → ℕ → List Frame
entered frames owner =
    if nat_lt (length frames) MOST_FRAMES then first_frame (Script owner) ∷ frames else frames

-- what the reply to a step does to the innermost open script or run
abbrev pub frames_progress : Content → List Frame → Step → StepReply → Progress
frames_progress s [] made reply = Goes Start
frames_progress s (frame ∷ below) made reply =
    role_progress s frame.role frame.next frame.stage made reply

-- the open scripts and runs after a step
abbrev pub frames_after : Content → List Frame → Progress → List Frame
frames_after s [] progress = []
frames_after s (frame ∷ below) (Goes stage) = record frame { stage = stage } ∷ below
frames_after s (frame ∷ below) (Answers word answer) =
    settled s (record frame { next = frame.next + 1; stage = Start } ∷ below)
frames_after s (frame ∷ below) (Enters owner stage) =
    settled s (entered (record frame { stage = stage } ∷ below) owner)

-- the answers after the step of this number
abbrev pub answers_after : List Answered → ℕ → Progress → List Answered
answers_after answers number (Answers word answer) =
    answers ++ record { step = number; word = word; answer = answer } ∷ []
answers_after answers number progress = answers

-- the place of the entry of a step, in the history of its service; of a look, after how many entries it was
abbrev pub place_of : StepReply → ℕ
place_of (step_replies.Work reply place) = place
place_of (step_replies.Clock reply place) = place
place_of (step_replies.Table reply place) = place
place_of (step_replies.Sem object reply place) = place
place_of (step_replies.Msgq object reply place) = place
place_of (step_replies.Signal object reply place) = place
place_of (step_replies.Chan object reply place) = place
place_of (step_replies.Obs object reply place) = place
place_of (step_replies.Flags flags at) = at
place_of (step_replies.Seen seen) = seen.stamp

-- the flags that a look at an item found; no other reply comes there
abbrev pub found_flags : StepReply → ℕ
found_flags (step_replies.Flags flags at) = flags
found_flags reply = 0

-- what a look at a signal found; no other reply comes there
abbrev pub found_seen : StepReply → Seen
found_seen (step_replies.Seen seen) = seen
found_seen reply = clear_at 0

-- where a step is recorded
abbrev pub spot_of : Step → StepReply → Spot
spot_of (steps.Work op) reply = spots.Work (place_of reply)
spot_of (steps.Clock op) reply = spots.Clock (place_of reply)
spot_of (steps.Table op) reply = spots.Table (place_of reply)
spot_of (steps.Sem object op) reply = spots.Sem object (place_of reply)
spot_of (steps.Msgq object op) reply = spots.Msgq object (place_of reply)
spot_of (steps.Signal object op) reply = spots.Signal object (place_of reply)
spot_of (steps.Chan object op) reply = spots.Chan object (place_of reply)
spot_of (steps.Obs object op) reply = spots.Obs object (place_of reply)
spot_of (steps.LookItem object) reply = spots.LookItem object (found_flags reply) (place_of reply)
spot_of (steps.LookSignal object must) reply = spots.LookSignal object (found_seen reply)

-- where a player stands after a step of a call or run, which is recorded there
abbrev pub moved : Content → PlayerPlace → Step → Progress → Spot → PlayerPlace
moved s at made progress spot = record at {
  mode = mode_after at.mode made;
  passed = 0;
  frames = frames_after s at.frames progress;
  answers = answers_after at.answers (length at.spots) progress;
  spots = at.spots ++ spot ∷ [];
}

-- where a player stands after a check: where it is passed the call goes on, and where it fails the call answers why, and the
-- player has ended with all that it had open
abbrev pub checked : PlayerPlace → Word → Option OopsWhy → Spot → PlayerPlace
checked at word None spot = record at { passed = at.passed + 1; spots = at.spots ++ spot ∷ [] }
checked at word (Some why) spot = record at {
  mode = Dead;
  passed = 0;
  frames = [];
  answers = at.answers ++ record { step = length at.spots; word = word; answer = Oops why } ∷ [];
  spots = at.spots ++ spot ∷ [];
}

-- where a player stands after a step and its reply, by the check that came next, if one did
abbrev pub after_by : Content → PlayerPlace → Step → StepReply → Option Check → PlayerPlace
after_by s at made reply (Some check) = checked at check.word (oops_in reply) (spot_of made reply)
after_by s at made reply None =
    moved s at made (frames_progress s at.frames made reply) (spot_of made reply)

-- where a player stands after a step and its reply
abbrev pub after : Content → PlayerPlace → Step → StepReply → PlayerPlace
after s at made reply =
    after_by s at made reply (next_check s at.mode at.passed at.frames)

-- what a player plays: the worker of a queue its runs, a thread its script
abbrev pub role_at : Decl → ℕ → Role
role_at (decls.Queue name prio on) object = Worker object
role_at decl object = Script object

-- a player that has made no step
abbrev pub starting : Content → ℕ → ℕ → Decl → PlayerPlace
starting s number object decl = record {
  who = record { number = number; prio = prio_of decl };
  most = steps_of s;
  mode = start_mode decl;
  passed = 0;
  frames = settled s (first_frame (role_at decl object) ∷ []);
  answers = [];
  spots = [];
}

-- where the player of a number stands at first, if there is one
abbrev pub start_at : Content → ℕ → Option PlayerPlace
start_at s number =
    option_and_then (λ object. option_map (starting s number object) (slice_get s.decls object))
    (slice_get (players s.decls) number)
