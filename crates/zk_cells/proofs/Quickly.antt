-- What a step without a turn leaves of a caller's passes: whom they serve, and what they count.
use Rattle.std.proofs.Common.{◌≡◌, ℕ, ◌+◌, ◌-◌, ◌≤◌, Bool, false, List, [], ◌∷◌, ◌++◌, Option, Some, None, Ok, set, refl, sym, subst, arith}
use native.Mathlib.Decide.{ℕ_discrete}
use Rattle.std.specs.Prelude.{Vec, vec_capacity}
use Rattle.std.specs.declared.alloc.Global.{Global}
use Rattle.zk_base.specs.Causes.{Rose, counted}
use Rattle.zk_base.specs.History.{entry}
use Rattle.zk_base.specs.Legal.{IsLegal}
use Rattle.zk_base.specs.declared.ids.Who.{Who}
use Rattle.zk_base.specs.declared.seen.Seen.{Seen}
use Rattle.zk_model_wait.specs.declared.signal.SignalOp.{SignalOp}
use Rattle.zk_model_wait.specs.declared.signal.SignalReply.TheVariants.{Stamp}
use Rattle.zk_model_work.specs.declared.ops.WorkOp.{WorkOp}
use Rattle.zk_model_work.specs.declared.ops.WorkReply.{WorkReply}
use Rattle.zk_model_work.specs.Machine.{work_machine}
use Rattle.zk_model_work.specs.State.{State}
use Rattle.zk_signal.specs.declared.pass.SigPass.{SigPass}
use Rattle.zk_turn.specs.declared.pass.Pass.{Pass}
use Rattle.zk_work.specs.declared.work.Work.{Work}
use Rattle.zk_work.specs.Seen.{work_start}
use Rattle.zk_worker.specs.declared.steps.Step.{Step}
use Rattle.zk_worker.specs.declared.steps.Step.TheVariants as steps
use Rattle.zk_worker.specs.declared.steps.StepReply.{StepReply}
use Rattle.zk_worker.specs.declared.steps.StepReply.TheVariants as step_replies
use Rattle.zk_worker.specs.Attempt.{IsMade, Attempted, KeepsElsewhere, NoneFell}
use Rattle.zk_worker.specs.Looks.{look_reply}
use Rattle.zk_worker.specs.Shown.{IsLater}
use Rattle.zk_cells.specs.declared.cells.Cells.{Cells}
use Rattle.zk_cells.specs.declared.notes.Note.{Note}
use Rattle.zk_cells.specs.declared.passes.Passes.{Passes}
use Rattle.zk_cells.specs.Desks.{capped, cells_machines, IsServed, desk_shown, desk_counts}
use Rattle.zk_cells.specs.Notes.{writes_at}
use Rattle.zk_cells.specs.Rows.{holds_in}
use Rattle.zk_visit.specs.Seats.{IsAt, holds_at}
use Rattle.zk_cells.specs.Quick.{FoundClear}
use Rattle.zk_cells.specs.Signals.{signals_by, all_looks, looks_in, HaveOwn, AreNoted, WroteAmong, FoundAmong}
use Rattle.zk_cells.proofs.SignalSteps.{shows, made-write, elsewhere-write, have-write, noted-write, looks-write, capped-up, capped-rose, capped-once}
use Rattle.zk_cells.proofs.SignalLooks.{attempted-look, elsewhere-look, found-clear, have-look, noted-look, looks-look, looks-else}

-- they serve their player still
pub served-quick : (k : Cells) (p : Passes) (who : Who) (signals : Vec (Option SigPass) Global) (notes : Vec Note Global) → IsServed k p who → HaveOwn who (writes_at notes.items) k.signals.items signals.items →
    AreNoted who notes.items (signals_by (writes_at notes.items) signals.items) → k.most ≤ vec_capacity notes → IsServed k (record p { signals = signals; notes = notes }) who
served-quick k p who signals notes served have noted capacity = record {
  work = served.work;
  clock = served.clock;
  table = served.table;
  sems = served.sems;
  msgqs = served.msgqs;
  signals = have;
  chans = served.chans;
  observers = served.observers;
  noted = noted;
  capacity = capacity;
  number = served.number;
  items = served.items;
}

-- no count fell
pub fell-quick : (p : Passes) (seat : Option (Pass Work WorkOp WorkReply State)) (looked : ℕ) (signals : Vec (Option SigPass) Global) (notes : Vec Note Global) →
    holds_at seat ≡ holds_at p.work → ((k : ℕ) → looks_in p.signals.items k ≤ looks_in signals.items k) →
    NoneFell (desk_counts p) (desk_counts (record p { work = seat; looked = looked; signals = signals; notes = notes }))
fell-quick p seat looked signals notes held up (steps.Work op) = capped-up (holds_at p.work) (holds_at seat) (omega arith)
fell-quick p seat looked signals notes held up (steps.Clock op) = capped-up (holds_at p.clock) (holds_at p.clock) (omega arith)
fell-quick p seat looked signals notes held up (steps.Table op) = capped-up (holds_at p.table) (holds_at p.table) (omega arith)
fell-quick p seat looked signals notes held up (steps.Sem object op) = capped-up (holds_in p.sems.items object) (holds_in p.sems.items object) (omega arith)
fell-quick p seat looked signals notes held up (steps.Msgq object op) = capped-up (holds_in p.msgqs.items object) (holds_in p.msgqs.items object) (omega arith)
fell-quick p seat looked signals notes held up (steps.Signal object op) = capped-up (looks_in p.signals.items object) (looks_in signals.items object) (up object)
fell-quick p seat looked signals notes held up (steps.Chan object op) = capped-up (holds_in p.chans.items object) (holds_in p.chans.items object) (omega arith)
fell-quick p seat looked signals notes held up (steps.Obs object op) = capped-up (holds_in p.observers.items object) (holds_in p.observers.items object) (omega arith)
fell-quick p seat looked signals notes held up (steps.LookItem object) = capped-up (holds_at p.work) (holds_at seat) (omega arith)
fell-quick p seat looked signals notes held up (steps.LookSignal object must) = capped-up (looks_in p.signals.items object) (looks_in signals.items object) (up object)

-- a write, with a caller's passes
module _ (k : Cells) (p : Passes) (who : Who) (number object : ℕ) (op : SignalOp) (stamp : ℕ) (signals : Vec (Option SigPass) Global) (notes : Vec Note Global)
    (served : IsServed k p who) (wrote : WroteAmong k.signals.items object who number op stamp p.signals.items signals.items p.notes.items notes.items) where
  abbrev written : Passes
  written = record p { signals = signals; notes = notes }

  abbrev noted : List Note
  noted = p.notes.items ++ record { signal = object; entry = entry who number op (Stamp stamp) } ∷ []

  abbrev moved : List (Option SigPass)
  moved = set p.signals.items object (Some wrote.used.after)

  on-lists : (P : List (Option SigPass) → List Note → Type 0) → P moved noted → P signals.items notes.items
  on-lists P made = subst (λ (ns : List Note). P signals.items ns) (sym wrote.noted) (subst (λ (ps : List (Option SigPass)). P ps noted) (sym wrote.used.is) made)

  pub attempted-write : (step : Step) (reply : StepReply) → step ≡ steps.Signal object op → reply ≡ step_replies.Signal object (Stamp stamp) (stamp - 1) →
      Attempted false (cells_machines k) who number step (desk_shown p) (desk_shown written) (Ok (Some reply))
  attempted-write step reply asked told =
      subst (λ (s : Step). IsMade false (cells_machines k) who number s reply (desk_shown p) (desk_shown written)) (sym asked)
      (subst (λ (r : StepReply). IsMade false (cells_machines k) who number (steps.Signal object op) r (desk_shown p) (desk_shown written)) (sym told)
      (on-lists (λ ps ns. IsMade false (cells_machines k) who number (steps.Signal object op) (step_replies.Signal object (Stamp stamp) (stamp - 1)) (desk_shown p) (shows (desk_shown p) (signals_by (writes_at ns) ps) (all_looks ps)))
      (made-write (cells_machines k) who number object op stamp (desk_shown p) k.signals.items p.signals.items p.notes.items refl served.number served.signals
      wrote.used.signal wrote.used.before wrote.used.after wrote.used.there wrote.used.was wrote.made)))

  pub kept-write : (step : Step) → step ≡ steps.Signal object op → KeepsElsewhere step (desk_shown p) (desk_shown written)
  kept-write step asked =
      subst (λ (s : Step). KeepsElsewhere s (desk_shown p) (desk_shown written)) (sym asked)
      (on-lists (λ ps ns. KeepsElsewhere (steps.Signal object op) (desk_shown p) (shows (desk_shown p) (signals_by (writes_at ns) ps) (all_looks ps)))
      (elsewhere-write (cells_machines k) who number object op stamp (desk_shown p) k.signals.items p.signals.items p.notes.items refl served.number served.signals
      wrote.used.signal wrote.used.before wrote.used.after wrote.used.there wrote.used.was wrote.made))

  pub served-write : IsLater (desk_shown p) who.number number → k.most ≤ vec_capacity notes → IsServed k written who
  served-write later capacity = served-quick k p who signals notes served
      (on-lists (λ ps ns. HaveOwn who (writes_at ns) k.signals.items ps)
      (have-write (cells_machines k) who number object op stamp (desk_shown p) k.signals.items p.signals.items p.notes.items refl served.number served.signals
      wrote.used.signal wrote.used.before wrote.used.after wrote.used.there wrote.used.was wrote.made))
      (on-lists (λ ps ns. AreNoted who ns (signals_by (writes_at ns) ps))
      (noted-write (cells_machines k) who number object op stamp (desk_shown p) k.signals.items p.signals.items p.notes.items refl served.number served.signals
      wrote.used.signal wrote.used.before wrote.used.after wrote.used.there wrote.used.was wrote.made later served.noted))
      capacity

  pub fell-write : NoneFell (desk_counts p) (desk_counts written)
  fell-write = fell-quick p p.work p.looked signals notes refl (λ j.
      let same = on-lists (λ ps ns. looks_in ps j ≡ looks_in p.signals.items j)
      (looks-write (cells_machines k) who number object op stamp (desk_shown p) k.signals.items p.signals.items p.notes.items refl served.number served.signals
      wrote.used.signal wrote.used.before wrote.used.after wrote.used.there wrote.used.was wrote.made j) in
      omega (arith, same))

-- a look
module _ (k : Cells) (p : Passes) (who : Who) (number object : ℕ) (must : Bool) (seen : Seen) (signals : Vec (Option SigPass) Global)
    (served : IsServed k p who) (found : FoundAmong k.signals.items object seen p.signals.items signals.items) where
  abbrev looked : Passes
  looked = record p { signals = signals }

  abbrev after : List (Option SigPass)
  after = set p.signals.items object (Some found.used.after)

  on-passes : (P : List (Option SigPass) → Type 0) → P after → P signals.items
  on-passes P made = subst P (sym found.used.is) made

  pub attempted-looked : (step : Step) (told : Option StepReply) → step ≡ steps.LookSignal object must → told ≡ look_reply must seen →
      Attempted false (cells_machines k) who number step (desk_shown p) (desk_shown looked) (Ok told)
  attempted-looked step told asked tells =
      subst (λ (s : Step). Attempted false (cells_machines k) who number s (desk_shown p) (desk_shown looked) (Ok told)) (sym asked)
      (on-passes (λ ps. Attempted false (cells_machines k) who number (steps.LookSignal object must) (desk_shown p) (shows (desk_shown p) (signals_by (writes_at p.notes.items) ps) (all_looks ps)) (Ok told))
      (attempted-look (cells_machines k) who number object must seen (desk_shown p) k.signals.items p.signals.items p.notes.items served.number served.signals
      found.used.signal found.used.before found.used.after found.used.there found.used.was found.made told tells))

  pub kept-look : (step : Step) → step ≡ steps.LookSignal object must → KeepsElsewhere step (desk_shown p) (desk_shown looked)
  kept-look step asked =
      subst (λ (s : Step). KeepsElsewhere s (desk_shown p) (desk_shown looked)) (sym asked)
      (on-passes (λ ps. KeepsElsewhere (steps.LookSignal object must) (desk_shown p) (shows (desk_shown p) (signals_by (writes_at p.notes.items) ps) (all_looks ps)))
      (elsewhere-look (cells_machines k) who number object must seen (desk_shown p) k.signals.items p.signals.items p.notes.items served.number served.signals
      found.used.signal found.used.before found.used.after found.used.there found.used.was found.made))

  pub served-look : IsServed k looked who
  served-look = served-quick k p who signals p.notes served
      (on-passes (λ ps. HaveOwn who (writes_at p.notes.items) k.signals.items ps)
      (have-look (cells_machines k) who number object must seen (desk_shown p) k.signals.items p.signals.items p.notes.items served.number served.signals
      found.used.signal found.used.before found.used.after found.used.there found.used.was found.made))
      (on-passes (λ ps. AreNoted who p.notes.items (signals_by (writes_at p.notes.items) ps))
      (noted-look (cells_machines k) who number object must seen (desk_shown p) k.signals.items p.signals.items p.notes.items served.number served.signals
      found.used.signal found.used.before found.used.after found.used.there found.used.was found.made served.noted))
      served.capacity

  more-here : looks_in signals.items object ≡ looks_in p.signals.items object + 1
  more-here = on-passes (λ ps. looks_in ps object ≡ looks_in p.signals.items object + 1)
      (looks-look (cells_machines k) who number object must seen (desk_shown p) k.signals.items p.signals.items p.notes.items served.number served.signals
      found.used.signal found.used.before found.used.after found.used.there found.used.was found.made)

  pub fell-look : NoneFell (desk_counts p) (desk_counts looked)
  fell-look = fell-quick p p.work p.looked signals p.notes refl up
    where
      up : (j : ℕ) → looks_in p.signals.items j ≤ looks_in signals.items j
      up j = by (ℕ_discrete j object)
        where
          by : Dec (j ≡ object) → looks_in p.signals.items j ≤ looks_in signals.items j
          by (yes same) =
              subst (λ (i : ℕ). looks_in p.signals.items i ≤ looks_in signals.items i) (sym same) (let more = more-here in omega (arith, more))
          by (no differ) =
              let same = on-passes (λ ps. looks_in ps j ≡ looks_in p.signals.items j)
              (looks-else (cells_machines k) who number object must seen (desk_shown p) k.signals.items p.signals.items p.notes.items served.number served.signals
              found.used.signal found.used.before found.used.after found.used.there found.used.was found.made j differ) in
              omega (arith, same)

  pub rose-look : (step : Step) → step ≡ steps.LookSignal object must → Rose (desk_counts p step) (desk_counts looked step)
  rose-look step asked =
      subst (λ (s : Step). Rose (desk_counts p s) (desk_counts looked s)) (sym asked)
      (subst (λ (n : ℕ). Rose (capped (looks_in p.signals.items object)) (capped n)) (sym more-here) (capped-rose (looks_in p.signals.items object)))

  pub once-look : (step : Step) → step ≡ steps.LookSignal object must → desk_counts looked step ≡ counted (desk_counts p step)
  once-look step asked =
      subst (λ (s : Step). desk_counts looked s ≡ counted (desk_counts p s)) (sym asked)
      (capped-once (looks_in p.signals.items object) (looks_in signals.items object) more-here)

  pub clear-look : (step : Step) (told : Option StepReply) → step ≡ steps.LookSignal object must → told ≡ look_reply must seen → told ≡ None → FoundClear step (desk_shown p) (desk_shown looked)
  clear-look step told asked tells none =
      subst (λ (s : Step). FoundClear s (desk_shown p) (desk_shown looked)) (sym asked)
      (on-passes (λ ps. FoundClear (steps.LookSignal object must) (desk_shown p) (shows (desk_shown p) (signals_by (writes_at p.notes.items) ps) (all_looks ps)))
      (found-clear (cells_machines k) who number object must seen (desk_shown p) k.signals.items p.signals.items p.notes.items served.number served.signals
      found.used.signal found.used.before found.used.after found.used.there found.used.was found.made told tells none))

-- a look at an item, with a caller's passes
module _ (k : Cells) (p : Passes) (who : Who) (number : ℕ) (seat : Option (Pass Work WorkOp WorkReply State)) where
  abbrev glanced : Passes
  glanced = record p { work = seat; looked = number + 1 }

  pub served-item : IsServed k p who → IsAt (IsLegal work_machine) work_start k.work who (number + 1) seat → IsServed k glanced who
  served-item served at = record {
    work = at;
    clock = served.clock;
    table = served.table;
    sems = served.sems;
    msgqs = served.msgqs;
    signals = served.signals;
    chans = served.chans;
    observers = served.observers;
    noted = served.noted;
    capacity = served.capacity;
    number = served.number;
    items = served.items;
  }

  pub kept-item : (step : Step) (object : ℕ) → step ≡ steps.LookItem object → KeepsElsewhere step (desk_shown p) (desk_shown glanced)
  kept-item step object asked = subst (λ (s : Step). KeepsElsewhere s (desk_shown p) (desk_shown glanced)) (sym asked) refl

  pub fell-item : holds_at seat ≡ holds_at p.work → NoneFell (desk_counts p) (desk_counts glanced)
  fell-item held = fell-quick p seat (number + 1) p.signals p.notes held (λ j. omega arith)
