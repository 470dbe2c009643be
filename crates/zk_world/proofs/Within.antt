-- How long the histories are that are shown.
use Rattle.std.proofs.Common.{ℕ, zero, suc, ◌+◌, ◌*◌, ◌<◌, ◌≤◌, List, [], ◌∷◌, ◌++◌, length, All, arith, length-append}
use Rattle.std.proofs.lemmas.List.Elements.{All-nil, All-cons, All-head, All-tail, All-weaker}
use Rattle.std.proofs.lemmas.List.Sums.{sum_by-le}
use Rattle.zk_base.specs.Limits.{most_entries, most_players}
use Rattle.zk_base.specs.declared.ids.Who.{Who}
use Rattle.zk_base.specs.declared.ids.Entry.{Entry}
use Rattle.zk_base.specs.History.{entry}
use Rattle.zk_line.specs.declared.types.Decl.{Decl}
use Rattle.zk_model_bus.specs.declared.channel.ChanOp.{ChanOp}
use Rattle.zk_model_bus.specs.declared.channel.ChanReply.{ChanReply}
use Rattle.zk_model_bus.specs.declared.observer.ObsOp.{ObsOp}
use Rattle.zk_model_bus.specs.declared.observer.ObsReply.{ObsReply}
use Rattle.zk_model_bus.specs.declared.table.TableOp.{TableOp}
use Rattle.zk_model_bus.specs.declared.table.TableReply.{TableReply}
use Rattle.zk_model_wait.specs.declared.clock.ClockOp.{ClockOp}
use Rattle.zk_model_wait.specs.declared.clock.ClockReply.{ClockReply}
use Rattle.zk_model_wait.specs.declared.msgq.MsgqOp.{MsgqOp}
use Rattle.zk_model_wait.specs.declared.msgq.MsgqReply.{MsgqReply}
use Rattle.zk_model_wait.specs.declared.sem.SemOp.{SemOp}
use Rattle.zk_model_wait.specs.declared.sem.SemReply.{SemReply}
use Rattle.zk_model_wait.specs.declared.signal.SignalOp.{SignalOp}
use Rattle.zk_model_wait.specs.declared.signal.SignalReply.{SignalReply}
use Rattle.zk_model_work.specs.declared.ops.WorkOp.{WorkOp}
use Rattle.zk_model_work.specs.declared.ops.WorkReply.{WorkReply}
use Rattle.zk_scenario.specs.declared.scenario.TheConstants.{MOST_STEPS}
use Rattle.zk_worker.specs.declared.steps.Step.{Step}
use Rattle.zk_worker.specs.declared.steps.Step.TheVariants as steps
use Rattle.zk_worker.specs.declared.steps.StepReply.{StepReply}
use Rattle.zk_worker.specs.declared.steps.StepReply.TheVariants as step_replies
use Rattle.zk_worker.specs.Families.{no_entries, with_entry}
use Rattle.zk_worker.specs.Places.{PlayerPlace}
use Rattle.zk_worker.specs.Shown.{Shown, nothing_shown, shown_after, AreShort}
use Rattle.zk_world.specs.Ready.{all_made, most_shown}
use Rattle.zk_world.specs.Within.{AreWithin}

module _ {E : Type 0} where
  -- what is within a bound is within a greater one
  each-more : (hs : List (List E)) (few most : ℕ) → few ≤ most → All (λ h. length h ≤ few) hs → All (λ h. length h ≤ most) hs
  each-more hs few most le each =
      let P : List E → Type 0 = λ h. length h ≤ few in
      let Q : List E → Type 0 = λ h. length h ≤ most in
      All-weaker P Q (λ h short. omega (arith, le, short)) hs each

  -- and below any that is above it
  each-below : (hs : List (List E)) (few most : ℕ) → few < most → All (λ h. length h ≤ few) hs → All (λ h. length h < most) hs
  each-below hs few most less each =
      let P : List E → Type 0 = λ h. length h ≤ few in
      let Q : List E → Type 0 = λ h. length h < most in
      All-weaker P Q (λ h short. omega (arith, less, short)) hs each

  one-longer : (h : List E) (e : E) (most : ℕ) → length h ≤ most → length (h ++ e ∷ []) ≤ most + 1
  one-longer h e most short = omega (arith, length-append h (e ∷ []), short)

module _ {O R : Type 0} where
  -- an entry more makes a history longer by one
  with-longer : (hs : List (List (Entry O R))) (object : ℕ) (e : Entry O R) (most : ℕ) → All (λ h. length h ≤ most) hs → All (λ h. length h ≤ most + 1) (with_entry hs object e)
  with-longer [] object e most each = let Q : List (Entry O R) → Type 0 = λ h. length h ≤ most + 1 in All-nil Q
  with-longer (h ∷ hs) zero e most each =
      let P : List (Entry O R) → Type 0 = λ h. length h ≤ most in
      let Q : List (Entry O R) → Type 0 = λ h. length h ≤ most + 1 in
      All-cons Q (h ++ e ∷ []) hs (one-longer h e most (All-head P h hs each)) (each-more hs most (most + 1) (omega arith) (All-tail P h hs each))
  with-longer (h ∷ hs) (suc object) e most each =
      let P : List (Entry O R) → Type 0 = λ h. length h ≤ most in
      let Q : List (Entry O R) → Type 0 = λ h. length h ≤ most + 1 in
      let head = All-head P h hs each in
      All-cons Q h (with_entry hs object e) (omega (arith, head)) (with-longer hs object e most (All-tail P h hs each))

  -- no history of nothing done has an entry
  none-long : {A : Type 0} (objects : List A) (most : ℕ) → All (λ h. length h ≤ most) (no_entries {A = A} {O = O} {R = R} objects)
  none-long [] most = let Q : List (Entry O R) → Type 0 = λ h. length h ≤ most in All-nil Q
  none-long (o ∷ os) most = let Q : List (Entry O R) → Type 0 = λ h. length h ≤ most in All-cons Q [] (no_entries os) (omega arith) (none-long os most)

-- histories within a bound are within a greater one
pub within-more : (shown : Shown) (few most : ℕ) → few ≤ most → AreWithin shown few → AreWithin shown most
within-more shown few most le within = record {
  work = omega (arith, le, within.work);
  clock = omega (arith, le, within.clock);
  table = omega (arith, le, within.table);
  sems = each-more shown.sems few most le within.sems;
  msgqs = each-more shown.msgqs few most le within.msgqs;
  signals = each-more shown.signals few most le within.signals;
  chans = each-more shown.chans few most le within.chans;
  observers = each-more shown.observers few most le within.observers;
}

module _ (shown : Shown) (most : ℕ) (within : AreWithin shown most) where
  -- one of them is one longer at most
  work-longer : (h : List (Entry WorkOp WorkReply)) → length h ≤ most + 1 → AreWithin (record shown { work = h }) (most + 1)
  work-longer h new = let more = within-more shown most (most + 1) (omega arith) within in record { work = new; clock = more.clock; table = more.table; sems = more.sems; msgqs = more.msgqs; signals = more.signals; chans = more.chans; observers = more.observers }

  clock-longer : (h : List (Entry ClockOp ClockReply)) → length h ≤ most + 1 → AreWithin (record shown { clock = h }) (most + 1)
  clock-longer h new = let more = within-more shown most (most + 1) (omega arith) within in record { work = more.work; clock = new; table = more.table; sems = more.sems; msgqs = more.msgqs; signals = more.signals; chans = more.chans; observers = more.observers }

  table-longer : (h : List (Entry TableOp TableReply)) → length h ≤ most + 1 → AreWithin (record shown { table = h }) (most + 1)
  table-longer h new = let more = within-more shown most (most + 1) (omega arith) within in record { work = more.work; clock = more.clock; table = new; sems = more.sems; msgqs = more.msgqs; signals = more.signals; chans = more.chans; observers = more.observers }

  sems-longer : (h : List (List (Entry SemOp SemReply))) → All (λ h. length h ≤ most + 1) h → AreWithin (record shown { sems = h }) (most + 1)
  sems-longer h new = let more = within-more shown most (most + 1) (omega arith) within in record { work = more.work; clock = more.clock; table = more.table; sems = new; msgqs = more.msgqs; signals = more.signals; chans = more.chans; observers = more.observers }

  msgqs-longer : (h : List (List (Entry MsgqOp MsgqReply))) → All (λ h. length h ≤ most + 1) h → AreWithin (record shown { msgqs = h }) (most + 1)
  msgqs-longer h new = let more = within-more shown most (most + 1) (omega arith) within in record { work = more.work; clock = more.clock; table = more.table; sems = more.sems; msgqs = new; signals = more.signals; chans = more.chans; observers = more.observers }

  signals-longer : (h : List (List (Entry SignalOp SignalReply))) → All (λ h. length h ≤ most + 1) h → AreWithin (record shown { signals = h }) (most + 1)
  signals-longer h new = let more = within-more shown most (most + 1) (omega arith) within in record { work = more.work; clock = more.clock; table = more.table; sems = more.sems; msgqs = more.msgqs; signals = new; chans = more.chans; observers = more.observers }

  chans-longer : (h : List (List (Entry ChanOp ChanReply))) → All (λ h. length h ≤ most + 1) h → AreWithin (record shown { chans = h }) (most + 1)
  chans-longer h new = let more = within-more shown most (most + 1) (omega arith) within in record { work = more.work; clock = more.clock; table = more.table; sems = more.sems; msgqs = more.msgqs; signals = more.signals; chans = new; observers = more.observers }

  observers-longer : (h : List (List (Entry ObsOp ObsReply))) → All (λ h. length h ≤ most + 1) h → AreWithin (record shown { observers = h }) (most + 1)
  observers-longer h new = let more = within-more shown most (most + 1) (omega arith) within in record { work = more.work; clock = more.clock; table = more.table; sems = more.sems; msgqs = more.msgqs; signals = more.signals; chans = more.chans; observers = new }

-- a step makes one history longer by one
pub within-after : (shown : Shown) (most : ℕ) (who : Who) (number : ℕ) (step : Step) (reply : StepReply) → AreWithin shown most → AreWithin (shown_after shown who number step reply) (most + 1)
within-after shown most who number (steps.Work op) (step_replies.Work reply place) within =
    let e = entry who number op reply in
    work-longer shown most within (shown.work ++ e ∷ []) (one-longer shown.work e most within.work)
within-after shown most who number (steps.Clock op) (step_replies.Clock reply place) within =
    let e = entry who number op reply in
    clock-longer shown most within (shown.clock ++ e ∷ []) (one-longer shown.clock e most within.clock)
within-after shown most who number (steps.Table op) (step_replies.Table reply place) within =
    let e = entry who number op reply in
    table-longer shown most within (shown.table ++ e ∷ []) (one-longer shown.table e most within.table)
within-after shown most who number (steps.Sem object op) (step_replies.Sem at reply place) within =
    let e = entry who number op reply in
    sems-longer shown most within (with_entry shown.sems object e) (with-longer shown.sems object e most within.sems)
within-after shown most who number (steps.Msgq object op) (step_replies.Msgq at reply place) within =
    let e = entry who number op reply in
    msgqs-longer shown most within (with_entry shown.msgqs object e) (with-longer shown.msgqs object e most within.msgqs)
within-after shown most who number (steps.Signal object op) (step_replies.Signal at reply place) within =
    let e = entry who number op reply in
    signals-longer shown most within (with_entry shown.signals object e) (with-longer shown.signals object e most within.signals)
within-after shown most who number (steps.Chan object op) (step_replies.Chan at reply place) within =
    let e = entry who number op reply in
    chans-longer shown most within (with_entry shown.chans object e) (with-longer shown.chans object e most within.chans)
within-after shown most who number (steps.Obs object op) (step_replies.Obs at reply place) within =
    let e = entry who number op reply in
    observers-longer shown most within (with_entry shown.observers object e) (with-longer shown.observers object e most within.observers)
within-after shown most who number (steps.LookItem object) (step_replies.Flags flags at) within =
    let more = within-more shown most (most + 1) (omega arith) within in
    record { work = more.work; clock = more.clock; table = more.table; sems = more.sems; msgqs = more.msgqs; signals = more.signals; chans = more.chans; observers = more.observers }
within-after shown most who number step reply within = within-more shown most (most + 1) (omega arith) within

-- at first all are within any bound
pub within-first : (decls : List Decl) (most : ℕ) → AreWithin (nothing_shown decls) most
within-first decls most = record {
  work = omega arith;
  clock = omega arith;
  table = omega arith;
  sems = none-long decls most;
  msgqs = none-long decls most;
  signals = none-long decls most;
  chans = none-long decls most;
  observers = none-long decls most;
}

-- players that make no more steps than they may leave room in each history
pub short-within : (shown : Shown) (players : List PlayerPlace) → length players ≤ most_players → All (λ at. length at.spots ≤ MOST_STEPS) players → AreWithin shown (most_shown players) → AreShort shown
short-within shown players few short within =
    let count : PlayerPlace → ℕ = λ at. length at.spots in
    let most : all_made players ≤ length players * MOST_STEPS = sum_by-le count MOST_STEPS players short in
    let below : most_shown players < most_entries = omega (arith, few, most) in
    record {
      work = omega (arith, below, within.work);
      clock = omega (arith, below, within.clock);
      table = omega (arith, below, within.table);
      sems = each-below shown.sems (most_shown players) most_entries below within.sems;
      msgqs = each-below shown.msgqs (most_shown players) most_entries below within.msgqs;
      signals = each-below shown.signals (most_shown players) most_entries below within.signals;
      chans = each-below shown.chans (most_shown players) most_entries below within.chans;
      observers = each-below shown.observers (most_shown players) most_entries below within.observers;
    }
