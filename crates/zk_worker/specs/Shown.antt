use Rattle.zk_base.specs.Limits.{most_entries}
use Rattle.std.specs.Prelude.{◌≡◌, ℕ, ◌+◌, ◌<◌, Bool, true, false, Option, Some, None, List, [], ◌∷◌, ◌++◌, length, slice_get, option_map, All}
use Rattle.std.specs.List.{sum_by}
use Rattle.zk_base.specs.declared.ids.Who.{Who}
use Rattle.zk_base.specs.declared.ids.Entry.{Entry}
use Rattle.zk_base.specs.declared.seen.Seen.{Seen}
use Rattle.zk_base.specs.History.{entry}
use Rattle.zk_line.specs.declared.types.Decl.{Decl}
use Rattle.zk_model_bus.specs.declared.channel.ChanOp.{ChanOp}
use Rattle.zk_model_bus.specs.declared.channel.ChanReply.{ChanReply}
use Rattle.zk_model_bus.specs.declared.observer.ObsOp.{ObsOp}
use Rattle.zk_model_bus.specs.declared.observer.ObsReply.{ObsReply}
use Rattle.zk_model_bus.specs.declared.table.TableOp.{TableOp}
use Rattle.zk_model_bus.specs.declared.table.TableReply.{TableReply}
use Rattle.zk_model_wait.specs.declared.clock.ClockOp.{ClockOp}
use Rattle.zk_model_wait.specs.declared.clock.ClockReply.{ClockReply}
use Rattle.zk_model_wait.specs.declared.msgq.MsgqOp.{MsgqOp}
use Rattle.zk_model_wait.specs.declared.msgq.MsgqReply.{MsgqReply}
use Rattle.zk_model_wait.specs.declared.sem.SemOp.{SemOp}
use Rattle.zk_model_wait.specs.declared.sem.SemReply.{SemReply}
use Rattle.zk_model_wait.specs.declared.signal.SignalOp.{SignalOp}
use Rattle.zk_model_wait.specs.declared.signal.SignalReply.{SignalReply}
use Rattle.zk_model_work.specs.declared.ops.WorkOp.{WorkOp}
use Rattle.zk_model_work.specs.declared.ops.WorkReply.{WorkReply}
use Rattle.zk_worker.specs.declared.steps.Step.{Step}
use Rattle.zk_worker.specs.declared.steps.Step.TheVariants as steps
use Rattle.zk_worker.specs.declared.steps.StepReply.{StepReply}
use Rattle.zk_worker.specs.declared.steps.StepReply.TheVariants as step_replies
use Rattle.zk_worker.specs.declared.steps.Spot.{Spot}
use Rattle.zk_worker.specs.declared.steps.Spot.TheVariants as spots
use Rattle.zk_worker.specs.Single.{step_of, OthersGrew}
use Rattle.zk_worker.specs.Families.{no_entries, entry_at, with_entry, EachGrew}
use Rattle.zk_worker.specs.Looks.{LooksGrew, LookedBelow}

-- what the services show: the history of each, and by object number that of each semaphore, of each message queue, of
-- each signal, of each channel and of each observer; the looks of this player at each signal, where signals are shared
-- without a turn; and, where looks at items are shown, the first number above those of this player's
pub record Shown : Type 0 where
  pub work : List (Entry WorkOp WorkReply)
  pub clock : List (Entry ClockOp ClockReply)
  pub table : List (Entry TableOp TableReply)
  pub sems : List (List (Entry SemOp SemReply))
  pub msgqs : List (List (Entry MsgqOp MsgqReply))
  pub signals : List (List (Entry SignalOp SignalReply))
  pub chans : List (List (Entry ChanOp ChanReply))
  pub observers : List (List (Entry ObsOp ObsReply))
  pub looks : Option (List (List Seen))
  pub looked : Option ℕ

-- how many entries are shown
abbrev pub entry_count : Shown → ℕ
entry_count shown =
    length shown.work + length shown.clock + length shown.table + sum_by length shown.sems
    + sum_by length shown.msgqs + sum_by length shown.signals + sum_by length shown.chans + sum_by length shown.observers

-- nothing was shown of the services of these declarations, which show whole histories
abbrev pub nothing_shown : List Decl → Shown
nothing_shown decls = record {
  work = [];
  clock = [];
  table = [];
  sems = no_entries decls;
  msgqs = no_entries decls;
  signals = no_entries decls;
  chans = no_entries decls;
  observers = no_entries decls;
  looks = None;
  looked = None;
}

-- what is shown with the entry of a step, in the history of its service; a look at an item is counted where such looks are shown
abbrev pub shown_after : Shown → Who → ℕ → Step → StepReply → Shown
shown_after shown who number (steps.Work op) (step_replies.Work reply place) =
    record shown { work = shown.work ++ entry who number op reply ∷ [] }
shown_after shown who number (steps.Clock op) (step_replies.Clock reply place) =
    record shown { clock = shown.clock ++ entry who number op reply ∷ [] }
shown_after shown who number (steps.Table op) (step_replies.Table reply place) =
    record shown { table = shown.table ++ entry who number op reply ∷ [] }
shown_after shown who number (steps.Sem object op) (step_replies.Sem at reply place) =
    record shown { sems = with_entry shown.sems object (entry who number op reply) }
shown_after shown who number (steps.Msgq object op) (step_replies.Msgq at reply place) =
    record shown { msgqs = with_entry shown.msgqs object (entry who number op reply) }
shown_after shown who number (steps.Signal object op) (step_replies.Signal at reply place) =
    record shown { signals = with_entry shown.signals object (entry who number op reply) }
shown_after shown who number (steps.Chan object op) (step_replies.Chan at reply place) =
    record shown { chans = with_entry shown.chans object (entry who number op reply) }
shown_after shown who number (steps.Obs object op) (step_replies.Obs at reply place) =
    record shown { observers = with_entry shown.observers object (entry who number op reply) }
shown_after shown who number (steps.LookItem object) (step_replies.Flags flags at) =
    record shown { looked = option_map (λ n. number + 1) shown.looked }
shown_after shown who number step reply = shown

-- whose step is shown at a spot, and the step of which number
abbrev pub shown_at : Shown → Spot → Option (ℕ × ℕ)
shown_at shown (spots.Work place) = option_map step_of (slice_get shown.work place)
shown_at shown (spots.Clock place) = option_map step_of (slice_get shown.clock place)
shown_at shown (spots.Table place) = option_map step_of (slice_get shown.table place)
shown_at shown (spots.Sem object place) = option_map step_of (entry_at shown.sems object place)
shown_at shown (spots.Msgq object place) = option_map step_of (entry_at shown.msgqs object place)
shown_at shown (spots.Signal object place) = option_map step_of (entry_at shown.signals object place)
shown_at shown (spots.Chan object place) = option_map step_of (entry_at shown.chans object place)
shown_at shown (spots.Obs object place) = option_map step_of (entry_at shown.observers object place)
shown_at shown (spots.LookItem object flags at) = None
shown_at shown (spots.LookSignal object seen) = None

-- whether a spot is that of a look, which has no entry
abbrev pub is_look : Spot → Bool
is_look (spots.LookItem object flags at) = true
is_look (spots.LookSignal object seen) = true
is_look spot = false

-- of the player of this number just the steps of a log are shown: each at its spot, but for looks, and no other
pub record ShowsLog (shown : Shown) (number : ℕ) (log : List Spot) : Type 0 where
  pub each : (step : ℕ) (spot : Spot) → slice_get log step ≡ Some spot → is_look spot ≡ false →
      shown_at shown spot ≡ Some (number, step)
  pub no_other : (step : ℕ) (spot : Spot) → shown_at shown spot ≡ Some (number, step) →
      slice_get log step ≡ Some spot
  pub looked : LookedBelow shown.looked (length log)

-- the step is above all that are shown of this player: those with an entry, and the looks
pub record IsLater (shown : Shown) (number next : ℕ) : Type 0 where
  pub entries : (step : ℕ) (spot : Spot) → shown_at shown spot ≡ Some (number, step) → step < next
  pub looked : LookedBelow shown.looked next

-- each history has room for an entry
pub record AreShort (shown : Shown) : Type 0 where
  pub work : length shown.work < most_entries
  pub clock : length shown.clock < most_entries
  pub table : length shown.table < most_entries
  pub sems : All (λ h. length h < most_entries) shown.sems
  pub msgqs : All (λ h. length h < most_entries) shown.msgqs
  pub signals : All (λ h. length h < most_entries) shown.signals
  pub chans : All (λ h. length h < most_entries) shown.chans
  pub observers : All (λ h. length h < most_entries) shown.observers

-- each history grew by entries of other players than the one of this number, and looks at signals at most were added
pub record AllGrew (number : ℕ) (old new : Shown) : Type 0 where
  pub work : OthersGrew number old.work new.work
  pub clock : OthersGrew number old.clock new.clock
  pub table : OthersGrew number old.table new.table
  pub sems : EachGrew number old.sems new.sems
  pub msgqs : EachGrew number old.msgqs new.msgqs
  pub signals : EachGrew number old.signals new.signals
  pub chans : EachGrew number old.chans new.chans
  pub observers : EachGrew number old.observers new.observers
  pub looks : LooksGrew old.looks new.looks
  pub looked : new.looked ≡ old.looked

-- what came between two moments beside the steps of this player: nothing where it is alone, else entries of other players
abbrev pub OnlyOthersCame : Bool → ℕ → Shown → Shown → Type 0
OnlyOthersCame true number old new = new ≡ old
OnlyOthersCame false number old new = AllGrew number old new
