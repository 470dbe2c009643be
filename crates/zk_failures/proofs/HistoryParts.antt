-- The first line that isn't answered so, by the parts of a trace; and where there is none, the histories stand.
use Rattle.std.proofs.Common.{◌≡◌, ℕ, ◌+◌, Option, Some, None, List, [], ◌∷◌, ◌++◌, length, map, All, refl, sym, ap, subst, ◌∙◌, arith}
use Rattle.std.specs.List.{AllZip}
use Rattle.std.proofs.lemmas.List.{length-map}
use Rattle.std.proofs.lemmas.List.Elements.{All-nil, All-cons}
use Rattle.zk_base.specs.declared.ids.Entry.{Entry}
use Rattle.zk_base.specs.declared.seen.Seen.{Seen}
use Rattle.zk_base.specs.Legal.{Machine, Replays}
use Rattle.zk_line.specs.declared.types.Decl.{Decl}
use Rattle.zk_scenario.specs.Content.{Content}
use Rattle.zk_worker.specs.declared.steps.Spot.{Spot}
use Rattle.zk_worker.specs.declared.steps.Spot.TheVariants as spots
use Rattle.zk_worker.specs.Families.{Family as Objects, no_entries}
use Rattle.zk_worker.specs.Shown.{Shown, nothing_shown}
use Rattle.zk_worker.specs.Machines.{Machines, machines_of}
use Rattle.zk_trace.specs.declared.looks.SignalLook.{SignalLook}
use Rattle.zk_trace.specs.declared.stood.Family.{Family}
use Rattle.zk_trace.specs.declared.stood.Family.TheVariants as families
use Rattle.zk_trace.specs.declared.stood.Home.TheVariants as homes
use Rattle.zk_trace.specs.declared.stood.Stood.{Stood}
use Rattle.zk_trace.specs.declared.trace.Trace.{Trace}
use Rattle.zk_trace.specs.History.{IsAnsweredAt, AreLegal}
use Rattle.zk_trace.specs.Shown.{trace_shown}
use Rattle.zk_trace.specs.Stood.{stood, spot_in, entries_stood, histories_stood, signals_stood, item_look_stood}
use Rattle.zk_failures.specs.Answering.{StandsAt, EachStands, FirstAmong, IsFoundAt, line_count, single_lines, waited_lines, bus_lines, SinglesStand, WaitedStand, BusStands}
use Rattle.zk_failures.specs.First.{IsFirst}
use Rattle.zk_failures.specs.HistoryFailure.{IsUnlike, IsUnlikeAt, IsUnlikeIn, IsUnanswered}
use Rattle.zk_failures.specs.Playable.{IsPlayableAt, ArePlayable}
use Rattle.zk_failures.proofs.PlacedFew.{entries-long}
use Rattle.zk_failures.proofs.PlayableTraces.{lines-parts, length-histories}
use Rattle.zk_failures.proofs.UnlikeLines.{NoneUnlike, none-append, found-front, found-behind, found-there, found-first, item_looks-none, history-none, history-found, objects_stood, histories-objects, signals-objects, Means, objects-none, objects-found}

-- The objects of a kind.
module _ (Unlike : Spot → Type 0) (look : (object : ℕ) (seen : Seen) → Unlike (spots.LookSignal object seen) → ⊥) {S O R : Type 0} (objects : Objects S O R) (family : Family)
    (hs : List (List (Entry O R))) (there : (k place : ℕ) → Unlike (spot_in family k place) → IsUnlikeAt objects hs k place)
    (back : (k place : ℕ) → IsUnlikeAt objects hs k place → Unlike (spot_in family k place)) where
  means : (looks : List (List SignalLook)) → Means Unlike objects.machine family looks look 0 objects.starts hs
  means looks = record {
    there = λ k place unlike. there k place (subst (λ (n : ℕ). Unlike (spot_in family n place)) (omega arith) unlike);
    back = λ k place is. subst (λ (n : ℕ). Unlike (spot_in family n place)) (omega arith) (back k place is);
  }

  kind-none : EachStands objects hs → NoneUnlike Unlike (histories_stood family 0 hs)
  kind-none stand =
      subst (NoneUnlike Unlike) (histories-objects family 0 hs) (objects-none Unlike objects.machine family [] look 0 objects.starts hs (means []) stand)

  kind-found : (row : ℕ) → FirstAmong objects.machine [] 0 objects.starts hs (Some row) → IsFoundAt Unlike (histories_stood family 0 hs) row
  kind-found row found =
      subst (λ (lines : List Stood). IsFoundAt Unlike lines row) (histories-objects family 0 hs)
      (objects-found Unlike objects.machine family [] look 0 objects.starts hs row (means []) found)

  looked-none : (looks : List (List SignalLook)) → EachStands objects hs → NoneUnlike Unlike (objects_stood family looks 0 hs)
  looked-none looks stand = objects-none Unlike objects.machine family looks look 0 objects.starts hs (means looks) stand

  looked-found : (looks : List (List SignalLook)) (row : ℕ) → FirstAmong objects.machine looks 0 objects.starts hs (Some row) → IsFoundAt Unlike (objects_stood family looks 0 hs) row
  looked-found looks row found = objects-found Unlike objects.machine family looks look 0 objects.starts hs row (means looks) found

module _ (m : Machines) (t : Trace) where
  abbrev Bad : Spot → Type 0
  Bad = IsUnlikeIn m t

  no_look : (object : ℕ) (seen : Seen) → Bad (spots.LookSignal object seen) → ⊥
  no_look object seen bad = bad

  -- The services of which there is one.

  work-none : Replays m.work m.work_start t.work → NoneUnlike Bad (entries_stood homes.Work 0 t.work)
  work-none stands = history-none Bad m.work homes.Work m.work_start t.work (λ k bad. bad) (λ k bad. bad) stands

  clock-none : Replays m.clock m.clock_start t.clock → NoneUnlike Bad (entries_stood homes.Clock 0 t.clock)
  clock-none stands = history-none Bad m.clock homes.Clock m.clock_start t.clock (λ k bad. bad) (λ k bad. bad) stands

  table-none : Replays m.table m.table_start t.table → NoneUnlike Bad (entries_stood homes.Table 0 t.table)
  table-none stands = history-none Bad m.table homes.Table m.table_start t.table (λ k bad. bad) (λ k bad. bad) stands

  looks-none : NoneUnlike Bad (map item_look_stood t.looks.items)
  looks-none = item_looks-none Bad (λ item flags at bad. bad) t.looks.items

  single-none : SinglesStand m t → NoneUnlike Bad (single_lines t)
  single-none stand =
      none-append Bad (entries_stood homes.Work 0 t.work) _ (work-none stand.0)
      (none-append Bad (map item_look_stood t.looks.items) _ looks-none
      (none-append Bad (entries_stood homes.Clock 0 t.clock) (entries_stood homes.Table 0 t.table) (clock-none stand.1) (table-none stand.2)))

  pub work-first : (row : ℕ) → IsFirst (IsUnlike m.work m.work_start t.work) row → IsFoundAt Bad (single_lines t) row
  work-first row first =
      found-front Bad (entries_stood homes.Work 0 t.work) _ row (history-found Bad m.work homes.Work m.work_start t.work (λ k bad. bad) (λ k bad. bad) row first)

  behind-work : (lines : List Stood) (row place : ℕ) → Replays m.work m.work_start t.work → row ≡ length t.work + length t.looks.items + place → IsFoundAt Bad lines place →
      IsFoundAt Bad (entries_stood homes.Work 0 t.work ++ (map item_look_stood t.looks.items ++ lines)) row
  behind-work lines row place stands is found =
      let work = entries_stood homes.Work 0 t.work in
      let looks = map item_look_stood t.looks.items in
      let long = entries-long homes.Work 0 t.work in
      let looked = length-map t.looks.items item_look_stood in
      subst (λ (n : ℕ). IsFoundAt Bad (work ++ (looks ++ lines)) n) (omega arith)
      (found-behind Bad work (looks ++ lines) (length looks + place) (work-none stands) (found-behind Bad looks lines place looks-none found))

  pub clock-first : (row place : ℕ) → Replays m.work m.work_start t.work → row ≡ length t.work + length t.looks.items + place →
      IsFirst (IsUnlike m.clock m.clock_start t.clock) place → IsFoundAt Bad (single_lines t) row
  clock-first row place stands is first =
      behind-work (entries_stood homes.Clock 0 t.clock ++ entries_stood homes.Table 0 t.table) row place stands is
      (found-front Bad (entries_stood homes.Clock 0 t.clock) (entries_stood homes.Table 0 t.table) place
      (history-found Bad m.clock homes.Clock m.clock_start t.clock (λ k bad. bad) (λ k bad. bad) place first))

  pub table-first : (row place : ℕ) → Replays m.work m.work_start t.work → Replays m.clock m.clock_start t.clock →
      row ≡ length t.work + length t.looks.items + length t.clock + place → IsFirst (IsUnlike m.table m.table_start t.table) place → IsFoundAt Bad (single_lines t) row
  table-first row place stands ticks is first =
      let clock = entries_stood homes.Clock 0 t.clock in
      let table = entries_stood homes.Table 0 t.table in
      let long = entries-long homes.Clock 0 t.clock in
      behind-work (clock ++ table) row (length clock + place) stands (omega arith)
      (found-behind Bad clock table place (clock-none ticks)
      (history-found Bad m.table homes.Table m.table_start t.table (λ k bad. bad) (λ k bad. bad) place first))

  -- What players wait for.

  sems-none : EachStands m.sems t.sems → NoneUnlike Bad (histories_stood families.Sem 0 t.sems)
  sems-none stand = kind-none Bad no_look m.sems families.Sem t.sems (λ k place bad. bad) (λ k place bad. bad) stand

  msgqs-none : EachStands m.msgqs t.msgqs → NoneUnlike Bad (histories_stood families.Msgq 0 t.msgqs)
  msgqs-none stand = kind-none Bad no_look m.msgqs families.Msgq t.msgqs (λ k place bad. bad) (λ k place bad. bad) stand

  signals-none : EachStands m.signals t.signals → NoneUnlike Bad (signals_stood t.looks.signals 0 t.signals)
  signals-none stand =
      subst (NoneUnlike Bad) (signals-objects t.looks.signals 0 t.signals)
      (looked-none Bad no_look m.signals families.Signal t.signals (λ k place bad. bad) (λ k place bad. bad) t.looks.signals stand)

  waited-none : WaitedStand m t → NoneUnlike Bad (waited_lines t)
  waited-none stand =
      none-append Bad (histories_stood families.Sem 0 t.sems) _ (sems-none stand.0)
      (none-append Bad (histories_stood families.Msgq 0 t.msgqs) (signals_stood t.looks.signals 0 t.signals) (msgqs-none stand.1) (signals-none stand.2))

  pub sems-first : (row : ℕ) → FirstAmong m.sems.machine [] 0 m.sems.starts t.sems (Some row) → IsFoundAt Bad (waited_lines t) row
  sems-first row first =
      found-front Bad (histories_stood families.Sem 0 t.sems) _ row (kind-found Bad no_look m.sems families.Sem t.sems (λ k place bad. bad) (λ k place bad. bad) row first)

  behind-sems : (lines : List Stood) (row place : ℕ) → EachStands m.sems t.sems → row ≡ line_count [] 0 t.sems + place → IsFoundAt Bad lines place →
      IsFoundAt Bad (histories_stood families.Sem 0 t.sems ++ lines) row
  behind-sems lines row place stand is found =
      let sems = histories_stood families.Sem 0 t.sems in
      let long = length-histories families.Sem t.sems in
      subst (λ (n : ℕ). IsFoundAt Bad (sems ++ lines) n) (omega arith) (found-behind Bad sems lines place (sems-none stand) found)

  pub msgqs-first : (row place : ℕ) → EachStands m.sems t.sems → row ≡ line_count [] 0 t.sems + place → FirstAmong m.msgqs.machine [] 0 m.msgqs.starts t.msgqs (Some place) →
      IsFoundAt Bad (waited_lines t) row
  msgqs-first row place stand is first =
      behind-sems (histories_stood families.Msgq 0 t.msgqs ++ signals_stood t.looks.signals 0 t.signals) row place stand is
      (found-front Bad (histories_stood families.Msgq 0 t.msgqs) (signals_stood t.looks.signals 0 t.signals) place
      (kind-found Bad no_look m.msgqs families.Msgq t.msgqs (λ k place bad. bad) (λ k place bad. bad) place first))

  pub signals-first : (row place : ℕ) → EachStands m.sems t.sems → EachStands m.msgqs t.msgqs → row ≡ line_count [] 0 t.sems + line_count [] 0 t.msgqs + place →
      FirstAmong m.signals.machine t.looks.signals 0 m.signals.starts t.signals (Some place) → IsFoundAt Bad (waited_lines t) row
  signals-first row place stand held is first =
      let msgqs = histories_stood families.Msgq 0 t.msgqs in
      let signals = signals_stood t.looks.signals 0 t.signals in
      let long = length-histories families.Msgq t.msgqs in
      behind-sems (msgqs ++ signals) row (length msgqs + place) stand (omega arith)
      (found-behind Bad msgqs signals place (msgqs-none held)
      (subst (λ (lines : List Stood). IsFoundAt Bad lines place) (signals-objects t.looks.signals 0 t.signals)
      (looked-found Bad no_look m.signals families.Signal t.signals (λ k place bad. bad) (λ k place bad. bad) t.looks.signals place first)))

  -- The bus.

  chans-none : EachStands m.chans t.chans → NoneUnlike Bad (histories_stood families.Chan 0 t.chans)
  chans-none stand = kind-none Bad no_look m.chans families.Chan t.chans (λ k place bad. bad) (λ k place bad. bad) stand

  pub chans-first : (row : ℕ) → FirstAmong m.chans.machine [] 0 m.chans.starts t.chans (Some row) → IsFoundAt Bad (bus_lines t) row
  chans-first row first =
      found-front Bad (histories_stood families.Chan 0 t.chans) (histories_stood families.Obs 0 t.observers) row
      (kind-found Bad no_look m.chans families.Chan t.chans (λ k place bad. bad) (λ k place bad. bad) row first)

  pub observers-first : (row place : ℕ) → EachStands m.chans t.chans → row ≡ line_count [] 0 t.chans + place → FirstAmong m.observers.machine [] 0 m.observers.starts t.observers (Some place) →
      IsFoundAt Bad (bus_lines t) row
  observers-first row place stand is first =
      let chans = histories_stood families.Chan 0 t.chans in
      let observers = histories_stood families.Obs 0 t.observers in
      let long = length-histories families.Chan t.chans in
      subst (λ (n : ℕ). IsFoundAt Bad (chans ++ observers) n) (omega arith)
      (found-behind Bad chans observers place (chans-none stand)
      (kind-found Bad no_look m.observers families.Obs t.observers (λ k place bad. bad) (λ k place bad. bad) place first))

  -- All parts.

  pub single-first : (row : ℕ) → IsFoundAt Bad (single_lines t) row → IsFoundAt Bad (stood t) row
  single-first row found =
      subst (λ (lines : List Stood). IsFoundAt Bad lines row) (sym (lines-parts t)) (found-front Bad (single_lines t) (waited_lines t ++ bus_lines t) row found)

  pub waited-first : (row place : ℕ) → SinglesStand m t → row ≡ length (single_lines t) + place → IsFoundAt Bad (waited_lines t) place → IsFoundAt Bad (stood t) row
  waited-first row place stand is found =
      subst (λ (lines : List Stood). IsFoundAt Bad lines row) (sym (lines-parts t))
      (subst (λ (n : ℕ). IsFoundAt Bad (single_lines t ++ (waited_lines t ++ bus_lines t)) n) (sym is)
      (found-behind Bad (single_lines t) (waited_lines t ++ bus_lines t) place (single-none stand) (found-front Bad (waited_lines t) (bus_lines t) place found)))

  pub bus-first : (row place : ℕ) → SinglesStand m t → WaitedStand m t → row ≡ length (single_lines t) + length (waited_lines t) + place → IsFoundAt Bad (bus_lines t) place →
      IsFoundAt Bad (stood t) row
  bus-first row place stand wait is found =
      subst (λ (lines : List Stood). IsFoundAt Bad lines row) (sym (lines-parts t))
      (subst (λ (n : ℕ). IsFoundAt Bad (single_lines t ++ (waited_lines t ++ bus_lines t)) n) (omega arith)
      (found-behind Bad (single_lines t) (waited_lines t ++ bus_lines t) (length (waited_lines t) + place) (single-none stand)
      (found-behind Bad (waited_lines t) (bus_lines t) place (waited-none wait) found)))

-- What the services show.

-- nothing was done at any object at first
pub none-entries : {A O R : Type 0} (objects : List A) → All (λ (h : List (Entry O R)). h ≡ []) (no_entries objects)
none-entries {A} {O} {R} [] = let P : List (Entry O R) → Type 0 = λ h. h ≡ [] in All-nil P
none-entries {A} {O} {R} (x ∷ xs) = let P : List (Entry O R) → Type 0 = λ h. h ≡ [] in All-cons P [] (no_entries xs) refl (none-entries xs)

-- and in the end all of the trace was
pub shown-all : (decls : List Decl) (t : Trace) (old one two three : Shown) → old ≡ nothing_shown decls → one ≡ record old { work = t.work; clock = t.clock; table = t.table } →
    two ≡ record one { sems = t.sems; msgqs = t.msgqs; signals = t.signals } → three ≡ record two { chans = t.chans; observers = t.observers } → three ≡ trace_shown t
shown-all decls t old one two three first second third last =
    last ∙ ap (λ (x : Shown). record x { chans = t.chans; observers = t.observers })
    (third ∙ ap (λ (x : Shown). record x { sems = t.sems; msgqs = t.msgqs; signals = t.signals })
    (second ∙ ap (λ (x : Shown). record x { work = t.work; clock = t.clock; table = t.table }) first))

-- the first line is the first that isn't answered so
pub unanswered-first : (s : Content) (t : Trace) (row : ℕ) → IsFoundAt (IsUnlikeIn (machines_of s) t) (stood t) row → IsFirst (IsUnanswered s t) row
unanswered-first s t row found =
    let Bad : Spot → Type 0 = IsUnlikeIn (machines_of s) t in
    record {
      fails = record { line = found.line; there = found-there Bad (stood t) row found; unlike = found.unlike };
      none_before = λ earlier less other. found-first Bad (stood t) row found earlier other.line less other.there other.unlike;
    }

-- Where no line is so, all histories are answered.

module _ {S O R : Type 0} (m : Machine S O R) where
  answered-one : (start : Option S) (h : List (Entry O R)) → IsPlayableAt m start h → StandsAt m start h → IsAnsweredAt m start h
  answered-one None h playable stands = stands
  answered-one (Some s) h playable stands = (stands, playable.range)

  answered-each : (starts : List (Option S)) (hs : List (List (Entry O R))) → AllZip (IsPlayableAt m) starts hs → AllZip (StandsAt m) starts hs →
      AllZip (IsAnsweredAt m) starts hs
  answered-each [] [] playable stand = tt
  answered-each [] (h ∷ hs) playable stand = absurd stand
  answered-each (s ∷ ss) [] playable stand = absurd stand
  answered-each (s ∷ ss) (h ∷ hs) playable stand = (answered-one s h playable.0 stand.0, answered-each ss hs playable.1 stand.1)

pub all-answered : (s : Content) (t : Trace) → ArePlayable (machines_of s) t → SinglesStand (machines_of s) t → WaitedStand (machines_of s) t → BusStands (machines_of s) t → AreLegal s t
all-answered s t playable single waited bus =
    let m = machines_of s in
    record {
      work = (single.0, playable.work.range);
      clock = (single.1, playable.clock.range);
      table = (single.2, playable.table.range);
      sems = answered-each m.sems.machine m.sems.starts t.sems playable.sems waited.0;
      msgqs = answered-each m.msgqs.machine m.msgqs.starts t.msgqs playable.msgqs waited.1;
      signals = answered-each m.signals.machine m.signals.starts t.signals playable.signals waited.2;
      chans = answered-each m.chans.machine m.chans.starts t.chans playable.chans bus.0;
      observers = answered-each m.observers.machine m.observers.starts t.observers playable.observers bus.1;
    }
