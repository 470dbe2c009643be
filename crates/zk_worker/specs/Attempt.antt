use Rattle.std.specs.Prelude.{◌≡◌, ℕ, ◌-◌, ◌^◌, ◌≤◌, Bool, false, Option, Some, None, is_some, Result, Ok, Err, [], set, length, slice_get, option_map}
use Rattle.std.specs.Option.{option_map_or}
use Rattle.zk_base.specs.declared.ids.Who.{Who}
use Rattle.zk_base.specs.declared.errors.NoMemory.{NoMemory}
use Rattle.zk_model_work.specs.declared.ops.WorkOp.TheVariants as work_ops
use Rattle.zk_worker.specs.declared.steps.Step.{Step}
use Rattle.zk_worker.specs.declared.steps.Step.TheVariants as steps
use Rattle.zk_worker.specs.declared.steps.StepReply.{StepReply}
use Rattle.zk_worker.specs.declared.steps.StepReply.TheVariants as step_replies
use Rattle.zk_worker.specs.Single.{answer_in}
use Rattle.zk_worker.specs.Families.{start_of, answer_at, takes_at}
use Rattle.zk_worker.specs.Looks.{look_at}
use Rattle.zk_worker.specs.Machines.{Machines, item_of, flags_after}
use Rattle.zk_worker.specs.Shown.{Shown, shown_after, OnlyOthersCame}

-- what is answered to a step where this is shown, if it is possible
abbrev pub reply_in : Machines → Shown → Who → Step → Option StepReply
reply_in m shown who (steps.Work op) =
    answer_in m.work m.work_start shown.work step_replies.Work who op
reply_in m shown who (steps.Clock op) =
    answer_in m.clock m.clock_start shown.clock step_replies.Clock who op
reply_in m shown who (steps.Table op) =
    answer_in m.table m.table_start shown.table step_replies.Table who op
reply_in m shown who (steps.Sem object op) =
    answer_at m.sems shown.sems step_replies.Sem who object op
reply_in m shown who (steps.Msgq object op) =
    answer_at m.msgqs shown.msgqs step_replies.Msgq who object op
reply_in m shown who (steps.Signal object op) =
    answer_at m.signals shown.signals step_replies.Signal who object op
reply_in m shown who (steps.Chan object op) =
    answer_at m.chans shown.chans step_replies.Chan who object op
reply_in m shown who (steps.Obs object op) =
    answer_at m.observers shown.observers step_replies.Obs who object op
reply_in m shown who (steps.LookItem object) =
    option_map (λ flags. step_replies.Flags flags (length shown.work))
    (flags_after m shown.work object)
reply_in m shown who (steps.LookSignal object must) =
    look_at shown.looks shown.signals object must

-- whether the ids in a step are in range at its service: that of an item which is looked at as in an operation that names it
abbrev pub is_in_range : Machines → Step → Bool
is_in_range m (steps.Work op) = m.work.in_range m.work_start op
is_in_range m (steps.Clock op) = m.clock.in_range m.clock_start op
is_in_range m (steps.Table op) = m.table.in_range m.table_start op
is_in_range m (steps.Sem object op) = takes_at m.sems object op
is_in_range m (steps.Msgq object op) = takes_at m.msgqs object op
is_in_range m (steps.Signal object op) = takes_at m.signals object op
is_in_range m (steps.Chan object op) = takes_at m.chans object op
is_in_range m (steps.Obs object op) = takes_at m.observers object op
is_in_range m (steps.LookItem object) =
    option_map_or (λ item. m.work.in_range m.work_start (work_ops.Remaining item)) (item_of m object) false
is_in_range m (steps.LookSignal object must) = is_some (start_of m.signals object)

-- the same players are served
abbrev pub SamePlayers : (Who → Type 0) → (Who → Type 0) → Type 0
SamePlayers old new = (who : Who) → (old who → new who) × (new who → old who)

-- how many attempts were made at the service of a step, as far as they are counted
abbrev pub Counts : Type 0
Counts = Step → ℕ

-- no count fell, and each is one that 64 bits hold
abbrev pub NoneFell : Counts → Counts → Type 0
NoneFell old new = (step : Step) → (old step ≤ new step) × (new step ≤ 2 ^ 64 - 1)

-- what is shown elsewhere than at the object of a step: there is nothing of its history here, nor of what a look adds to
abbrev pub elsewhere : Step → Shown → Shown
elsewhere (steps.Work op) shown = record shown { work = [] }
elsewhere (steps.Clock op) shown = record shown { clock = [] }
elsewhere (steps.Table op) shown = record shown { table = [] }
elsewhere (steps.Sem object op) shown = record shown { sems = set shown.sems object [] }
elsewhere (steps.Msgq object op) shown = record shown { msgqs = set shown.msgqs object [] }
elsewhere (steps.Signal object op) shown = record shown { signals = set shown.signals object [] }
elsewhere (steps.Chan object op) shown = record shown { chans = set shown.chans object [] }
elsewhere (steps.Obs object op) shown = record shown { observers = set shown.observers object [] }
elsewhere (steps.LookItem object) shown = record shown { work = []; looked = None }
elsewhere (steps.LookSignal object must) shown = record shown {
  signals = set shown.signals object [];
  looks = option_map (λ looks. set looks object []) shown.looks;
}

-- an attempt at a step leaves all that is shown elsewhere as it was
abbrev pub KeepsElsewhere : Step → Shown → Shown → Type 0
KeepsElsewhere step old new = elsewhere step new ≡ elsewhere step old

-- a look at a signal reads at the end of what is shown: its stamp is the number of writes; other steps say nothing of it
abbrev pub ReadsAt : Shown → Step → StepReply → Type 0
ReadsAt shown (steps.LookSignal object must) (step_replies.Seen seen) =
    option_map length (slice_get shown.signals object) ≡ Some seen.stamp
ReadsAt shown step reply = Unit {0}

-- a step was made: in between something was shown, its reply is the machine's there, and its entry is all that came then
pub record IsMade (alone : Bool) (m : Machines) (who : Who) (number : ℕ) (step : Step)
    (reply : StepReply) (old new : Shown) : Type 0 where
  pub found : Shown
  pub since : OnlyOthersCame alone who.number old found
  pub replied : reply_in m found who step ≡ Some reply
  pub read_at : ReadsAt found step reply
  pub shown : new ≡ shown_after found who number step reply

-- what an attempt answers, and what it leaves: no entry of this player but that of the step made
abbrev pub Attempted : Bool → Machines → Who → ℕ → Step → Shown → Shown →
    Result (Option StepReply) NoMemory → Type 0
Attempted alone m who number step old new (Ok (Some reply)) =
    IsMade alone m who number step reply old new
Attempted alone m who number step old new (Ok None) =
    OnlyOthersCame alone who.number old new × (reply_in m new who step ≡ None)
Attempted alone m who number step old new (Err e) = OnlyOthersCame alone who.number old new
