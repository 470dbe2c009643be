-- A trace that is in form and placed can be played at the services.
use Rattle.std.proofs.Common.{◌≡◌, append_assoc, ℕ, ◌+◌, ◌<◌, Bool, true, false, Option, Some, None, is_some, List, [], ◌∷◌, ◌++◌, length, map, length-append, All, refl, sym, ap, ◌∙◌, arith}
use Rattle.std.specs.List.{AllByRecursion, AllZip}
use Rattle.std.proofs.lemmas.List.{length-map}
use Rattle.std.proofs.lemmas.List.Elements.{All-head, All-tail}
use Rattle.zk_base.specs.declared.ids.Entry.{Entry}
use Rattle.zk_base.specs.History.{Rises}
use Rattle.zk_base.specs.Legal.{Machine}
use Rattle.zk_base.specs.Limits.{most_entries}
use Rattle.zk_blocks.specs.Blocks.{FitsGiven}
use Rattle.zk_blocks.specs.Each.{EachFits}
use Rattle.zk_line.specs.declared.types.Decl.{Decl}
use Rattle.zk_line.specs.declared.types.Decl.TheVariants as decls_of
use Rattle.zk_line.specs.Objects.{is_sem, is_msgq, is_signal, is_chan, is_observer}
use Rattle.zk_scenario.specs.Content.{Content}
use Rattle.zk_model_bus.specs.Channel.{chan_machine}
use Rattle.zk_model_bus.specs.Observer.{obs_machine}
use Rattle.zk_model_wait.specs.Clock.{new_clock, clock_machine}
use Rattle.zk_model_wait.specs.Msgq.{msgq_machine}
use Rattle.zk_model_wait.specs.Sem.{sem_machine}
use Rattle.zk_model_wait.specs.Signal.{signal_machine}
use Rattle.zk_worker.specs.Machines.{machines_of, sem_start, msgq_start, signal_start, chan_start, observer_start}
use Rattle.zk_worker.specs.Shown.{AreShort}
use Rattle.zk_trace.specs.declared.stood.Family.{Family}
use Rattle.zk_trace.specs.declared.stood.Family.TheVariants as families
use Rattle.zk_trace.specs.declared.stood.Home.TheVariants as homes
use Rattle.zk_trace.specs.declared.stood.Stood.{Stood}
use Rattle.zk_trace.specs.declared.trace.Trace.{Trace}
use Rattle.zk_trace.specs.EntryKinds.{IsClock, IsSem, IsMsgq, IsSignal, IsChan, IsObs}
use Rattle.zk_trace.specs.Form.{IsInForm}
use Rattle.zk_trace.specs.Place.{EachRises}
use Rattle.zk_trace.specs.Shown.{trace_shown}
use Rattle.zk_trace.specs.Stood.{stood, entries_stood, histories_stood, signals_stood, item_look_stood}
use Rattle.zk_failures.specs.Answering.{line_count, single_lines, waited_lines, bus_lines}
use Rattle.zk_failures.specs.Playable.{IsPlayableAt, ArePlayable}
use Rattle.zk_failures.proofs.InRange.{each-range, work-range, table-range}
use Rattle.zk_failures.proofs.PlacedFew.{entries-long}
use Rattle.zk_failures.proofs.UnlikeLines.{length-objects, histories-objects, signals-objects}

-- The lines of a trace, part by part.

parts : (w l c t s m g h o : List Stood) → w ++ l ++ c ++ t ++ s ++ m ++ g ++ h ++ o ≡ (w ++ (l ++ (c ++ t))) ++ ((s ++ (m ++ g)) ++ (h ++ o))
parts w l c t s m g h o = simp append_assoc

pub lines-parts : (t : Trace) → stood t ≡ single_lines t ++ (waited_lines t ++ bus_lines t)
lines-parts t =
    parts (entries_stood homes.Work 0 t.work) (map item_look_stood t.looks.items) (entries_stood homes.Clock 0 t.clock) (entries_stood homes.Table 0 t.table)
    (histories_stood families.Sem 0 t.sems) (histories_stood families.Msgq 0 t.msgqs) (signals_stood t.looks.signals 0 t.signals)
    (histories_stood families.Chan 0 t.chans) (histories_stood families.Obs 0 t.observers)

pub length-histories : {O R : Type 0} (family : Family) (hs : List (List (Entry O R))) → length (histories_stood family 0 hs) ≡ line_count [] 0 hs
length-histories family hs = ap (λ (l : List Stood). length l) (sym (histories-objects family 0 hs)) ∙ length-objects family [] 0 hs

-- how many lines each part has
pub length-single : (t : Trace) → length (single_lines t) ≡ length t.work + length t.looks.items + (length t.clock + length t.table)
length-single t =
    let w = entries_stood homes.Work 0 t.work in
    let l = map item_look_stood t.looks.items in
    let c = entries_stood homes.Clock 0 t.clock in
    let b = entries_stood homes.Table 0 t.table in
    let whole = length-append w (l ++ (c ++ b)) in
    let behind = length-append l (c ++ b) in
    let last = length-append c b in
    let work = entries-long homes.Work 0 t.work in
    let looks = length-map t.looks.items item_look_stood in
    let clock = entries-long homes.Clock 0 t.clock in
    let table = entries-long homes.Table 0 t.table in
    omega arith

pub length-waited : (t : Trace) → length (waited_lines t) ≡ line_count [] 0 t.sems + line_count [] 0 t.msgqs + line_count t.looks.signals 0 t.signals
length-waited t =
    let a = histories_stood families.Sem 0 t.sems in
    let b = histories_stood families.Msgq 0 t.msgqs in
    let c = signals_stood t.looks.signals 0 t.signals in
    let whole = length-append a (b ++ c) in
    let behind = length-append b c in
    let sems = length-histories families.Sem t.sems in
    let msgqs = length-histories families.Msgq t.msgqs in
    let signals : length c ≡ line_count t.looks.signals 0 t.signals =
    ap (λ (l : List Stood). length l) (sym (signals-objects t.looks.signals 0 t.signals)) ∙ length-objects families.Signal t.looks.signals 0 t.signals in
    omega arith

pub length-bus : (t : Trace) → length (bus_lines t) ≡ line_count [] 0 t.chans + line_count [] 0 t.observers
length-bus t =
    let a = histories_stood families.Chan 0 t.chans in
    let b = histories_stood families.Obs 0 t.observers in
    let whole = length-append a b in
    let chans = length-histories families.Chan t.chans in
    let observers = length-histories families.Obs t.observers in
    omega arith

pub length-parts : (t : Trace) → length (stood t) ≡ length (single_lines t) + (length (waited_lines t) + length (bus_lines t))
length-parts t =
    ap (λ (l : List Stood). length l) (lines-parts t) ∙ length-append (single_lines t) (waited_lines t ++ bus_lines t)
    ∙ ap (λ (n : ℕ). length (single_lines t) + n) (length-append (waited_lines t) (bus_lines t))

-- how many lines the parts have together
pub record FewLines (t : Trace) : Type 0 where
  pub single : length (single_lines t) + (length (waited_lines t) + length (bus_lines t)) < most_entries
  pub histories : length t.work + length t.looks.items + (length t.clock + length t.table) < most_entries
  pub waited : line_count [] 0 t.sems + line_count [] 0 t.msgqs + line_count t.looks.signals 0 t.signals < most_entries
  pub bus : line_count [] 0 t.chans + line_count [] 0 t.observers < most_entries

pub few-lines : (t : Trace) → length (stood t) < most_entries → FewLines t
few-lines t few =
    let all = length-parts t in
    let single = length-single t in
    let waited = length-waited t in
    let bus = length-bus t in
    record { single = omega arith; histories = omega arith; waited = omega arith; bus = omega arith }

-- The histories of the objects of a kind.

-- an object is of a kind just where it starts in a state
sem-kind : (d : Decl) → is_some (sem_start d) ≡ is_sem d
sem-kind (decls_of.Sem name initial limit raw) = refl
sem-kind d = refl

msgq-kind : (d : Decl) → is_some (msgq_start d) ≡ is_msgq d
msgq-kind (decls_of.Msgq name size capacity raw) = refl
msgq-kind d = refl

signal-kind : (d : Decl) → is_some (signal_start d) ≡ is_signal d
signal-kind (decls_of.Signal name raw) = refl
signal-kind d = refl

chan-kind : (d : Decl) → is_some (chan_start d) ≡ is_chan d
chan-kind (decls_of.Chan name message valid observers) = refl
chan-kind d = refl

observer-kind : (d : Decl) → is_some (observer_start d) ≡ is_observer d
observer-kind (decls_of.Listener name) = refl
observer-kind (decls_of.Sub name capacity) = refl
observer-kind d = refl

module _ {S O R : Type 0} (m : Machine S O R) (always : (s : S) (op : O) → m.in_range s op ≡ true) (start : Decl → Option S) (of_kind : Decl → Bool)
    (kind : (d : Decl) → is_some (start d) ≡ of_kind d) (Fits : Entry O R → Type 0) where
  one-playable : (o : Option S) (b : Bool) (h : List (Entry O R)) → is_some o ≡ b → FitsGiven b [] (AllByRecursion Fits) h → Rises h → length h < most_entries → IsPlayableAt m o h
  one-playable None true h is fits rises short = absurd (cc)
  one-playable None false h is fits rises short = fits
  one-playable (Some s) true h is fits rises short = record { rises = rises; range = each-range m s Fits (λ e fit. always s e.op) h fits; short = short }
  one-playable (Some s) false h is fits rises short = absurd (cc)

  each-playable : (ds : List Decl) (hs : List (List (Entry O R))) → EachFits (λ d. FitsGiven (of_kind d) [] (AllByRecursion Fits)) ds hs → All Rises hs →
      All (λ h. length h < most_entries) hs → AllZip (IsPlayableAt m) (map start ds) hs
  each-playable [] [] fit rise short = tt
  each-playable [] (h ∷ hs) fit rise short = absurd fit
  each-playable (d ∷ ds) [] fit rise short = absurd fit
  each-playable (d ∷ ds) (h ∷ hs) fit rise short =
      let P : List (Entry O R) → Type 0 = λ l. length l < most_entries in (
        one-playable (start d) (of_kind d) h (kind d) fit.0 (All-head Rises h hs rise) (All-head P h hs short),
        each-playable ds hs fit.1 (All-tail Rises h hs rise) (All-tail P h hs short),
      )

-- a trace in form whose histories rise and are short can be played
pub playable : (s : Content) (t : Trace) → IsInForm s t → EachRises t → AreShort (trace_shown t) → length (stood t) < most_entries → ArePlayable (machines_of s) t
playable s t form rises short few =
    record {
      work = record { rises = rises.work; range = work-range s t.work form.work; short = short.work };
      clock = record { rises = rises.clock; range = each-range clock_machine new_clock (IsClock s.decls) (λ e fit. refl) t.clock form.clock; short = short.clock };
      table = record { rises = rises.table; range = table-range s t.table form.table; short = short.table };
      sems = each-playable sem_machine (λ state op. refl) sem_start is_sem sem-kind (IsSem s.decls) s.decls t.sems form.sems rises.sems short.sems;
      msgqs = each-playable msgq_machine (λ state op. refl) msgq_start is_msgq msgq-kind (IsMsgq s.decls) s.decls t.msgqs form.msgqs rises.msgqs short.msgqs;
      signals = each-playable signal_machine (λ state op. refl) signal_start is_signal signal-kind (IsSignal s.decls) s.decls t.signals form.signals rises.signals short.signals;
      chans = each-playable chan_machine (λ state op. refl) chan_start is_chan chan-kind (IsChan s.decls) s.decls t.chans form.chans rises.chans short.chans;
      observers = each-playable obs_machine (λ state op. refl) observer_start is_observer observer-kind (IsObs s.decls) s.decls t.observers form.observers rises.observers short.observers;
      few = few;
    }
