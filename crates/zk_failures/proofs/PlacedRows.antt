-- The lines of a trace: what holds of each, and those of the entries that are shown and of the looks.
use Rattle.std.proofs.Common.{◌≡◌, ℕ, zero, suc, ◌+◌, ◌<◌, false, Some, List, [], ◌∷◌, ◌++◌, length, map, refl, ap, subst, ◌∙◌, arith}
use Rattle.std.specs.List.{AllByRecursion, slice_get}
use Rattle.std.specs.Option.{option_map}
use Rattle.std.proofs.lemmas.Bool.{true≢false}
use Rattle.std.proofs.lemmas.Option.{same_Some, none-some}
use Rattle.zk_base.specs.declared.ids.Entry.{Entry}
use Rattle.zk_line.proofs.Options.{one_part}
use Rattle.zk_worker.specs.declared.steps.Spot.{Spot}
use Rattle.zk_worker.specs.declared.steps.Spot.TheVariants as spots
use Rattle.zk_worker.specs.Families.{entry_at}
use Rattle.zk_worker.specs.Shown.{shown_at, is_look}
use Rattle.zk_worker.specs.Single as single
use Rattle.zk_trace.specs.declared.looks.ItemLook.{ItemLook}
use Rattle.zk_trace.specs.declared.looks.SignalLook.{SignalLook}
use Rattle.zk_trace.specs.declared.stood.Family.{Family}
use Rattle.zk_trace.specs.declared.stood.Family.TheVariants as families
use Rattle.zk_trace.specs.declared.stood.Home.{Home}
use Rattle.zk_trace.specs.declared.stood.Home.TheVariants as homes
use Rattle.zk_trace.specs.declared.stood.Stood.{Stood}
use Rattle.zk_trace.specs.declared.trace.Trace.{Trace}
use Rattle.zk_trace.specs.Shown.{trace_shown}
use Rattle.zk_trace.specs.Stood.{spot_in, spot_at, entries_stood, histories_stood, item_look_stood, signal_look_stood, signals_stood, stood}
use Rattle.zk_trace.specs.Text.{looks_at}
use Rattle.zk_trace.proofs.LinesOnce.{line_at, entries-each, histories-each, mapped-each, signals-each}
use Rattle.zk_trace.proofs.LooksFit.{all-append}
use Rattle.zk_failures.proofs.PlacedLists.{IsIn, in-first, in-rest, in-front, in-back, in-map, each-of}

-- the line of an entry at a place of a home
abbrev pub entry_line : {O R : Type 0} → Home → ℕ → Entry O R → Stood
entry_line home place e = line_at e.who.number e.step (spot_at home place)

-- Each entry and look has its line.

in-entries : {O R : Type 0} (home : Home) (from : ℕ) (h : List (Entry O R)) (p place : ℕ) (e : Entry O R) → from + p ≡ place → slice_get h p ≡ Some e →
    IsIn (entries_stood home from h) (entry_line home place e)
in-entries home from [] p place e is there = absurd (none-some e there)
in-entries {O = O} {R = R} home from (x ∷ xs) zero place e is there =
    let rest = entries_stood home (from + 1) xs in
    let same : from ≡ place = omega arith in
    subst (λ (n : ℕ). IsIn (entry_line home from x ∷ rest) (entry_line home n e)) same
    (subst (λ (y : Entry O R). IsIn (entry_line home from x ∷ rest) (entry_line home from y)) (same_Some x e there) (in-first (entry_line home from x) rest))
in-entries home from (x ∷ xs) (suc p) place e is there =
    in-rest (entry_line home from x) (entry_line home place e) (entries_stood home (from + 1) xs) (in-entries home (from + 1) xs p place e (omega arith) there)

in-histories : {O R : Type 0} (family : Family) (from : ℕ) (hs : List (List (Entry O R))) (o object p : ℕ) (e : Entry O R) → from + o ≡ object → entry_at hs o p ≡ Some e →
    IsIn (histories_stood family from hs) (entry_line (homes.Object family object) p e)
in-histories family from [] o object p e is there = absurd (none-some e there)
in-histories family from (h ∷ hs) zero object p e is there =
    let same : from ≡ object = omega arith in
    in-front (entries_stood (homes.Object family from) 0 h) (histories_stood family (from + 1) hs) (entry_line (homes.Object family object) p e)
    (subst (λ (n : ℕ). IsIn (entries_stood (homes.Object family from) 0 h) (entry_line (homes.Object family n) p e)) same (in-entries (homes.Object family from) 0 h p p e (omega arith) there))
in-histories family from (h ∷ hs) (suc o) object p e is there =
    in-back (entries_stood (homes.Object family from) 0 h) (histories_stood family (from + 1) hs) (entry_line (homes.Object family object) p e)
    (in-histories family (from + 1) hs o object p e (omega arith) there)

-- the lines of one signal
abbrev writes_and_looks : {O R : Type 0} → List (List SignalLook) → ℕ → List (Entry O R) → List Stood
writes_and_looks looks object h = entries_stood (homes.Object families.Signal object) 0 h ++ map (signal_look_stood object) (looks_at looks object)

in-writes : {O R : Type 0} (looks : List (List SignalLook)) (from : ℕ) (hs : List (List (Entry O R))) (o object p : ℕ) (e : Entry O R) → from + o ≡ object → entry_at hs o p ≡ Some e →
    IsIn (signals_stood looks from hs) (entry_line (homes.Object families.Signal object) p e)
in-writes looks from [] o object p e is there = absurd (none-some e there)
in-writes looks from (h ∷ hs) zero object p e is there =
    let line = entry_line (homes.Object families.Signal object) p e in
    let writes = entries_stood (homes.Object families.Signal from) 0 h in
    let same : from ≡ object = omega arith in
    in-front (writes_and_looks looks from h) (signals_stood looks (from + 1) hs) line
    (in-front writes (map (signal_look_stood from) (looks_at looks from)) line
    (subst (λ (n : ℕ). IsIn writes (entry_line (homes.Object families.Signal n) p e)) same (in-entries (homes.Object families.Signal from) 0 h p p e (omega arith) there)))
in-writes looks from (h ∷ hs) (suc o) object p e is there =
    in-back (writes_and_looks looks from h) (signals_stood looks (from + 1) hs) (entry_line (homes.Object families.Signal object) p e)
    (in-writes looks (from + 1) hs o object p e (omega arith) there)

in-looks : {O R : Type 0} (looks : List (List SignalLook)) (from : ℕ) (hs : List (List (Entry O R))) (o object : ℕ) (l : SignalLook) → from + o ≡ object → o < length hs →
    IsIn (looks_at looks object) l → IsIn (signals_stood looks from hs) (signal_look_stood object l)
in-looks looks from [] o object l is within there = absurd (omega arith)
in-looks looks from (h ∷ hs) zero object l is within there =
    let same : object ≡ from = omega arith in
    in-front (writes_and_looks looks from h) (signals_stood looks (from + 1) hs) (signal_look_stood object l)
    (in-back (entries_stood (homes.Object families.Signal from) 0 h) (map (signal_look_stood from) (looks_at looks from)) (signal_look_stood object l)
    (subst (λ (n : ℕ). IsIn (map (signal_look_stood n) (looks_at looks n)) (signal_look_stood object l)) same (in-map (signal_look_stood object) (looks_at looks object) l there)))
in-looks looks from (h ∷ hs) (suc o) object l is within there =
    in-back (writes_and_looks looks from h) (signals_stood looks (from + 1) hs) (signal_look_stood object l)
    (in-looks looks (from + 1) hs o object l (omega arith) (omega arith) there)

begin : (n : ℕ) → 0 + n ≡ n
begin n = omega arith

module _ (t : Trace) where
  -- The parts of the text, and all up to one.

  abbrev pub works : List Stood
  works = entries_stood homes.Work 0 t.work

  abbrev pub items : List Stood
  items = map item_look_stood t.looks.items

  abbrev pub clocks : List Stood
  clocks = entries_stood homes.Clock 0 t.clock

  abbrev pub tables : List Stood
  tables = entries_stood homes.Table 0 t.table

  abbrev pub sems : List Stood
  sems = histories_stood families.Sem 0 t.sems

  abbrev pub msgqs : List Stood
  msgqs = histories_stood families.Msgq 0 t.msgqs

  abbrev pub signals : List Stood
  signals = signals_stood t.looks.signals 0 t.signals

  abbrev pub chans : List Stood
  chans = histories_stood families.Chan 0 t.chans

  abbrev pub observers : List Stood
  observers = histories_stood families.Obs 0 t.observers

  abbrev pub upto_items : List Stood
  upto_items = works ++ items

  abbrev pub upto_clocks : List Stood
  upto_clocks = upto_items ++ clocks

  abbrev pub upto_tables : List Stood
  upto_tables = upto_clocks ++ tables

  abbrev pub upto_sems : List Stood
  upto_sems = upto_tables ++ sems

  abbrev pub upto_msgqs : List Stood
  upto_msgqs = upto_sems ++ msgqs

  abbrev pub upto_signals : List Stood
  upto_signals = upto_msgqs ++ signals

  abbrev pub upto_chans : List Stood
  upto_chans = upto_signals ++ chans

  module _ (line : Stood) where
    within_chans : IsIn upto_chans line → IsIn (stood t) line
    within_chans is = in-front upto_chans observers line is

    within_signals : IsIn upto_signals line → IsIn (stood t) line
    within_signals is = within_chans (in-front upto_signals chans line is)

    within_msgqs : IsIn upto_msgqs line → IsIn (stood t) line
    within_msgqs is = within_signals (in-front upto_msgqs signals line is)

    within_sems : IsIn upto_sems line → IsIn (stood t) line
    within_sems is = within_msgqs (in-front upto_sems msgqs line is)

    within_tables : IsIn upto_tables line → IsIn (stood t) line
    within_tables is = within_sems (in-front upto_tables sems line is)

    within_clocks : IsIn upto_clocks line → IsIn (stood t) line
    within_clocks is = within_tables (in-front upto_clocks tables line is)

    within_items : IsIn upto_items line → IsIn (stood t) line
    within_items is = within_clocks (in-front upto_items clocks line is)

  -- a look at an item has its line
  pub row-of-item : (l : ItemLook) → IsIn t.looks.items l → IsIn (stood t) (item_look_stood l)
  row-of-item l is = within_items (item_look_stood l) (in-back works items (item_look_stood l) (in-map item_look_stood t.looks.items l is))

  -- a look at a signal has its line
  pub row-of-look : (object : ℕ) (l : SignalLook) → object < length t.signals → IsIn (looks_at t.looks.signals object) l → IsIn (stood t) (signal_look_stood object l)
  row-of-look object l within is =
      let line = signal_look_stood object l in
      within_signals line (in-back upto_msgqs signals line (in-looks t.looks.signals 0 t.signals object object l (omega arith) within is))

  -- an entry that is shown somewhere has its line
  shown-line : {O R : Type 0} (e : Entry O R) (spot : Spot) (number step : ℕ) → ◌≡◌ {A = ℕ × ℕ} (single.step_of e) (number, step) →
      IsIn (stood t) (line_at e.who.number e.step spot) → IsIn (stood t) (line_at number step spot)
  shown-line e spot number step is there = subst (λ (b : ℕ × ℕ). IsIn (stood t) (line_at b.0 b.1 spot)) is there

  pub row-of-shown : (spot : Spot) (number step : ℕ) → shown_at (trace_shown t) spot ≡ Some (number, step) → IsIn (stood t) (line_at number step spot)
  row-of-shown (spots.Work p) number step is =
      let e = one_part single.step_of (slice_get t.work p) (number, step) is in
      let line = entry_line homes.Work p e.0 in
      shown-line e.0 (spots.Work p) number step e.2 (within_items line (in-front works items line (in-entries homes.Work 0 t.work p p e.0 (omega arith) e.1)))
  row-of-shown (spots.Clock p) number step is =
      let e = one_part single.step_of (slice_get t.clock p) (number, step) is in
      let line = entry_line homes.Clock p e.0 in
      shown-line e.0 (spots.Clock p) number step e.2 (within_clocks line (in-back upto_items clocks line (in-entries homes.Clock 0 t.clock p p e.0 (omega arith) e.1)))
  row-of-shown (spots.Table p) number step is =
      let e = one_part single.step_of (slice_get t.table p) (number, step) is in
      let line = entry_line homes.Table p e.0 in
      shown-line e.0 (spots.Table p) number step e.2 (within_tables line (in-back upto_clocks tables line (in-entries homes.Table 0 t.table p p e.0 (omega arith) e.1)))
  row-of-shown (spots.Sem o p) number step is =
      let e = one_part single.step_of (entry_at t.sems o p) (number, step) is in
      let line = entry_line (homes.Object families.Sem o) p e.0 in
      shown-line e.0 (spots.Sem o p) number step e.2 (within_sems line (in-back upto_tables sems line (in-histories families.Sem 0 t.sems o o p e.0 (omega arith) e.1)))
  row-of-shown (spots.Msgq o p) number step is =
      let e = one_part single.step_of (entry_at t.msgqs o p) (number, step) is in
      let line = entry_line (homes.Object families.Msgq o) p e.0 in
      shown-line e.0 (spots.Msgq o p) number step e.2 (within_msgqs line (in-back upto_sems msgqs line (in-histories families.Msgq 0 t.msgqs o o p e.0 (omega arith) e.1)))
  row-of-shown (spots.Signal o p) number step is =
      let e = one_part single.step_of (entry_at t.signals o p) (number, step) is in
      let line = entry_line (homes.Object families.Signal o) p e.0 in
      shown-line e.0 (spots.Signal o p) number step e.2 (within_signals line (in-back upto_msgqs signals line (in-writes t.looks.signals 0 t.signals o o p e.0 (omega arith) e.1)))
  row-of-shown (spots.Chan o p) number step is =
      let e = one_part single.step_of (entry_at t.chans o p) (number, step) is in
      let line = entry_line (homes.Object families.Chan o) p e.0 in
      shown-line e.0 (spots.Chan o p) number step e.2 (within_chans line (in-back upto_signals chans line (in-histories families.Chan 0 t.chans o o p e.0 (omega arith) e.1)))
  row-of-shown (spots.Obs o p) number step is =
      let e = one_part single.step_of (entry_at t.observers o p) (number, step) is in
      let line = entry_line (homes.Object families.Obs o) p e.0 in
      shown-line e.0 (spots.Obs o p) number step e.2 (in-back upto_chans observers line (in-histories families.Obs 0 t.observers o o p e.0 (omega arith) e.1))
  row-of-shown (spots.LookItem item flags at) number step is = absurd (none-some (number, step) is)
  row-of-shown (spots.LookSignal object seen) number step is = absurd (none-some (number, step) is)

  -- What holds of what is shown somewhere, and of each look, holds of each line.

  module _ (P : Stood → Type 0) (entries : (spot : Spot) (number step : ℕ) → shown_at (trace_shown t) spot ≡ Some (number, step) → P (line_at number step spot)) where
    home-each : {O R : Type 0} (home : Home) (h : List (Entry O R)) → ((p : ℕ) → shown_at (trace_shown t) (spot_at home p) ≡ option_map single.step_of (slice_get h p)) →
        AllByRecursion P (entries_stood home 0 h)
    home-each home h shows =
        entries-each P home 0 h (λ p e there.
        entries (spot_at home (0 + p)) e.who.number e.step (ap (λ (n : ℕ). shown_at (trace_shown t) (spot_at home n)) (begin p) ∙ shows p ∙ ap (option_map single.step_of) there))

    family-each : {O R : Type 0} (family : Family) (hs : List (List (Entry O R))) →
        ((o p : ℕ) → shown_at (trace_shown t) (spot_in family o p) ≡ option_map single.step_of (entry_at hs o p)) → AllByRecursion P (histories_stood family 0 hs)
    family-each family hs shows =
        histories-each P family 0 hs (λ o p e there.
        entries (spot_in family (0 + o) p) e.who.number e.step (ap (λ (n : ℕ). shown_at (trace_shown t) (spot_in family n p)) (begin o) ∙ shows o p ∙ ap (option_map single.step_of) there))

    looks-each : ((o : ℕ) → o < length t.signals → AllByRecursion (λ l. P (signal_look_stood o l)) (looks_at t.looks.signals o)) → AllByRecursion P signals
    looks-each looked =
        signals-each P t.looks.signals 0 t.signals
        (λ o p e there. entries (spots.Signal (0 + o) p) e.who.number e.step (ap (λ (n : ℕ). option_map single.step_of (entry_at t.signals n p)) (begin o) ∙ ap (option_map single.step_of) there))
        (λ o within. looked (0 + o) (let it = begin o in omega arith))

    pub stood-each : AllByRecursion (λ l. P (item_look_stood l)) t.looks.items →
        ((o : ℕ) → o < length t.signals → AllByRecursion (λ l. P (signal_look_stood o l)) (looks_at t.looks.signals o)) → AllByRecursion P (stood t)
    stood-each seen looked =
        all-append P upto_chans observers
        (all-append P upto_signals chans
        (all-append P upto_msgqs signals
        (all-append P upto_sems msgqs
        (all-append P upto_tables sems
        (all-append P upto_clocks tables
        (all-append P upto_items clocks
        (all-append P works items (home-each homes.Work t.work (λ p. refl)) (mapped-each P item_look_stood t.looks.items seen))
        (home-each homes.Clock t.clock (λ p. refl)))
        (home-each homes.Table t.table (λ p. refl)))
        (family-each families.Sem t.sems (λ o p. refl)))
        (family-each families.Msgq t.msgqs (λ o p. refl)))
        (looks-each looked))
        (family-each families.Chan t.chans (λ o p. refl)))
        (family-each families.Obs t.observers (λ o p. refl))

  -- what is no look is shown where its line says
  pub rows-shown : AllByRecursion (λ l. is_look l.spot ≡ false → shown_at (trace_shown t) l.spot ≡ Some (l.player, l.step)) (stood t)
  rows-shown =
      let Shows : Stood → Type 0 = λ l. is_look l.spot ≡ false → shown_at (trace_shown t) l.spot ≡ Some (l.player, l.step) in
      stood-each Shows (λ spot number step is entry. is)
      (each-of (λ (l : ItemLook). Shows (item_look_stood l)) (λ l entry. absurd (true≢false entry)) t.looks.items)
      (λ o within. each-of (λ (l : SignalLook). Shows (signal_look_stood o l)) (λ l entry. absurd (true≢false entry)) (looks_at t.looks.signals o))
