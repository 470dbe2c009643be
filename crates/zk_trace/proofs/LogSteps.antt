-- The steps of each log of a lawful trace are where its lines stand, by step.
use Rattle.std.proofs.Common.{◌≡◌, ℕ, zero, suc, ◌+◌, ◌==◌, ◌<◌, ◌≤◌, Bool, true, false, ◌&&◌, cond, eqb, Option, Some, None, option_to_list, List, [], ◌∷◌, ◌++◌, length, map, All, refl, sym, ap, subst, ◌∙◌, arith}
use Rattle.std.specs.List.{AllByRecursion, filter, range_with_len, slice_get}
use Rattle.std.specs.Option.{option_map, option_map_or, option_and_then}
use Rattle.std.proofs.lemmas.Bool.{and_parts, and_from, eqb-true, eq-eqb, ne_eqb, cond-true, cond-false}
use Rattle.std.proofs.lemmas.List.Elements.{All-nil, All-cons, filter-append}
use Rattle.std.proofs.lemmas.Option.{same_Some, none-some, slice_get-map}
use Rattle.zk_base.specs.declared.ids.Entry.{Entry}
use Rattle.zk_base.specs.declared.seen.Seen.{Seen}
use Rattle.zk_base.specs.Order.{Ascends, by_key}
use Rattle.zk_scenario.specs.Content.{Content}
use Rattle.zk_worker.specs.declared.log.Log.{Log}
use Rattle.zk_worker.specs.declared.steps.Spot.{Spot}
use Rattle.zk_worker.specs.declared.steps.Spot.TheVariants as spots
use Rattle.zk_worker.specs.Families.{entry_at}
use Rattle.zk_worker.specs.Shown.{shown_at, is_look}
use Rattle.zk_worker.specs.Single as single
use Rattle.zk_trace.specs.declared.looks.ItemLook.{ItemLook}
use Rattle.zk_trace.specs.declared.looks.SignalLook.{SignalLook}
use Rattle.zk_trace.specs.declared.stood.Family.{Family}
use Rattle.zk_trace.specs.declared.stood.Family.TheVariants as families
use Rattle.zk_trace.specs.declared.stood.Home.{Home}
use Rattle.zk_trace.specs.declared.stood.Home.TheVariants as homes
use Rattle.zk_trace.specs.declared.stood.Stood.{Stood}
use Rattle.zk_trace.specs.declared.trace.Trace.{Trace}
use Rattle.zk_trace.specs.Looked.{item_look_at, signal_look_at, all_looks, signal_looks_of}
use Rattle.zk_trace.specs.LookRead.{item_step, signal_step}
use Rattle.zk_trace.specs.Place.{IsPlaced}
use Rattle.zk_trace.specs.Shown.{trace_shown}
use Rattle.zk_trace.specs.Stood.{spot_in, spot_at, entries_stood, histories_stood, item_look_stood, signal_look_stood, signals_stood, stood, is_of, steps_of}
use Rattle.zk_trace.specs.Text.{looks_at}
use Rattle.zk_trace.proofs.LinesOnce.{line_at, part_of, home-part, entries-each, histories-each, mapped-each, signals-each, filter-both, none-mine, entries-one, Stays, none-by, histories-one, signals-write, signals-look, logs-one}
use Rattle.zk_trace.proofs.LooksFit.{logs-each, item-own, signal-own}
use Rattle.zk_trace.proofs.Stable.{of_key, ascends-same, of_key-by_key, ascends-by_key}

begin : (p : ℕ) → 0 + p ≡ p
begin p = omega arith

-- what a look says of its line
item-law : (number step : ℕ) (spot : Spot) (l : ItemLook) → item_look_at number step spot ≡ Some l → item_look_stood l ≡ line_at number step spot
item-law number step (spots.LookItem item flags at) l is =
    ap item_look_stood (sym (same_Some (record { player = number; step = step; item = item; flags = flags; at = at }) l is))
item-law number step spot l is = absurd (none-some l is)

signal-law : (object number step : ℕ) (spot : Spot) (l : SignalLook) → signal_look_at object number step spot ≡ Some l → signal_look_stood object l ≡ line_at number step spot
signal-law object number step (spots.LookSignal at seen) l is = by (at == object) refl is where
  by : (b : Bool) → (at == object) ≡ b → cond b (Some (record { player = number; step = step; seen = seen })) None ≡ Some l → signal_look_stood object l ≡ line_at number step (spots.LookSignal at seen)
  by true one is =
      ap (signal_look_stood object) (sym (same_Some (record { player = number; step = step; seen = seen }) l is))
      ∙ ap (λ (o : ℕ). line_at number step (spots.LookSignal o seen)) (sym (eqb-true at object one))
  by false one is = absurd (none-some l is)
signal-law object number step spot l is = absurd (none-some l is)

-- the looks at the signal of an object are those of the logs
slice_get-range : (from many k : ℕ) → k < many → slice_get (range_with_len from many) k ≡ Some (from + k)
slice_get-range from zero k below = absurd (omega arith)
slice_get-range from (suc many) zero below = ap (λ (n : ℕ). Some n) (omega arith)
slice_get-range from (suc many) (suc k) below = slice_get-range (from + 1) many k (omega arith) ∙ ap (λ (n : ℕ). Some n) (omega arith)

looks-at : (many : ℕ) (logs : List Log) (object : ℕ) → object < many → looks_at (signal_looks_of many logs) object ≡ all_looks (signal_look_at object) 0 logs
looks-at many logs object below =
    let f : ℕ → List SignalLook = λ object. all_looks (signal_look_at object) 0 logs in
    ap (λ (o : Option (List SignalLook)). option_map_or (λ looks. looks) o [])
    (slice_get-map f (range_with_len 0 many) object ∙ ap (option_map f) (slice_get-range 0 many object below) ∙ ap (λ (n : ℕ). Some (f n)) (begin object))

module _ (s : Content) (t : Trace) (placed : IsPlaced s t)
    (looked : (number : ℕ) (log : Log) (k object : ℕ) (seen : Seen) → slice_get t.logs number ≡ Some log → slice_get log.steps k ≡ Some (spots.LookSignal object seen) → object < length t.signals) where
  -- a line is where the log of its player says
  abbrev Known : Stood → Type 0
  Known l = option_and_then (λ (log : Log). slice_get log.steps l.step) (slice_get t.logs l.player) ≡ Some l.spot

  home-known : {O R : Type 0} (home : Home) (h : List (Entry O R)) → ((p : ℕ) → shown_at (trace_shown t) (spot_at home p) ≡ option_map single.step_of (slice_get h p)) → AllByRecursion Known (entries_stood home 0 h)
  home-known home h shows =
      entries-each Known home 0 h (λ p e there.
      placed.each (spot_at home (0 + p)) e.who.number e.step (ap (λ (n : ℕ). shown_at (trace_shown t) (spot_at home n)) (begin p) ∙ shows p ∙ ap (option_map single.step_of) there))

  family-known : {O R : Type 0} (family : Family) (hs : List (List (Entry O R))) → ((o p : ℕ) → shown_at (trace_shown t) (spot_in family o p) ≡ option_map single.step_of (entry_at hs o p)) →
      AllByRecursion Known (histories_stood family 0 hs)
  family-known family hs shows =
      histories-each Known family 0 hs (λ o p e there.
      placed.each (spot_in family (0 + o) p) e.who.number e.step (ap (λ (n : ℕ). shown_at (trace_shown t) (spot_in family n p)) (begin o) ∙ shows o p ∙ ap (option_map single.step_of) there))

  look-known : (number : ℕ) (log : Log) (k : ℕ) (spot : Spot) (line : Stood) → slice_get t.logs number ≡ Some log → slice_get log.steps k ≡ Some spot → line ≡ line_at (0 + number) k spot → Known line
  look-known number log k spot line at there is =
      subst Known (sym is)
      (ap (λ (n : ℕ). option_and_then (λ (log : Log). slice_get log.steps k) (slice_get t.logs n)) (begin number) ∙ ap (option_and_then (λ (log : Log). slice_get log.steps k)) at ∙ there)

  items-known : AllByRecursion Known (map item_look_stood t.looks.items)
  items-known =
      mapped-each Known item_look_stood t.looks.items
      (subst (AllByRecursion (λ l. Known (item_look_stood l))) (sym placed.item_looks)
      (logs-each item_look_at item_step item-own (λ l. Known (item_look_stood l)) 0 t.logs
      (λ number log k spot l at there is. look-known number log k spot (item_look_stood l) at there (item-law (0 + number) k spot l is))))

  signals-known : AllByRecursion Known (signals_stood t.looks.signals 0 t.signals)
  signals-known =
      signals-each Known t.looks.signals 0 t.signals
      (λ o p e there. placed.each (spots.Signal (0 + o) p) e.who.number e.step (ap (λ (n : ℕ). option_map single.step_of (entry_at t.signals n p)) (begin o) ∙ ap (option_map single.step_of) there))
      (λ o within.
      let same : looks_at t.looks.signals (0 + o) ≡ all_looks (signal_look_at (0 + o)) 0 t.logs =
      ap (λ (ls : List (List SignalLook)). looks_at ls (0 + o)) placed.signal_looks ∙ looks-at (length t.signals) t.logs (0 + o) (let it = begin o in omega arith) in
      subst (AllByRecursion (λ l. Known (signal_look_stood (0 + o) l))) (sym same)
      (logs-each (signal_look_at (0 + o)) signal_step (signal-own (0 + o)) (λ l. Known (signal_look_stood (0 + o) l)) 0 t.logs
      (λ number log k spot l at there is. look-known number log k spot (signal_look_stood (0 + o) l) at there (signal-law (0 + o) (0 + number) k spot l is))))

  -- The parts of the text.

  abbrev works : List Stood
  works = entries_stood homes.Work 0 t.work

  abbrev items : List Stood
  items = map item_look_stood t.looks.items

  abbrev clocks : List Stood
  clocks = entries_stood homes.Clock 0 t.clock

  abbrev tables : List Stood
  tables = entries_stood homes.Table 0 t.table

  abbrev sems : List Stood
  sems = histories_stood families.Sem 0 t.sems

  abbrev msgqs : List Stood
  msgqs = histories_stood families.Msgq 0 t.msgqs

  abbrev signals : List Stood
  signals = signals_stood t.looks.signals 0 t.signals

  abbrev chans : List Stood
  chans = histories_stood families.Chan 0 t.chans

  abbrev observers : List Stood
  observers = histories_stood families.Obs 0 t.observers

  -- what holds of each line of each
  record Each (P : Stood → Type 0) : Type 0 where
    work : AllByRecursion P works
    item : AllByRecursion P items
    clock : AllByRecursion P clocks
    table : AllByRecursion P tables
    sem : AllByRecursion P sems
    msgq : AllByRecursion P msgqs
    signal : AllByRecursion P signals
    chan : AllByRecursion P chans
    observer : AllByRecursion P observers

  known : Each Known
  known = record {
    work = home-known homes.Work t.work (λ p. refl);
    item = items-known;
    clock = home-known homes.Clock t.clock (λ p. refl);
    table = home-known homes.Table t.table (λ p. refl);
    sem = family-known families.Sem t.sems (λ o p. refl);
    msgq = family-known families.Msgq t.msgqs (λ o p. refl);
    signal = signals-known;
    chan = family-known families.Chan t.chans (λ o p. refl);
    observer = family-known families.Obs t.observers (λ o p. refl);
  }

  weaker : (P Q : Stood → Type 0) → ((l : Stood) → P l → Q l) → (xs : List Stood) → AllByRecursion P xs → AllByRecursion Q xs
  weaker P Q follows [] all = tt
  weaker P Q follows (x ∷ xs) all = (follows x all.0, weaker P Q follows xs all.1)

  all-weaker : (P Q : Stood → Type 0) → ((l : Stood) → P l → Q l) → Each P → Each Q
  all-weaker P Q follows each = record {
    work = weaker P Q follows works each.work;
    item = weaker P Q follows items each.item;
    clock = weaker P Q follows clocks each.clock;
    table = weaker P Q follows tables each.table;
    sem = weaker P Q follows sems each.sem;
    msgq = weaker P Q follows msgqs each.msgq;
    signal = weaker P Q follows signals each.signal;
    chan = weaker P Q follows chans each.chan;
    observer = weaker P Q follows observers each.observer;
  }

  looks-part : (object : ℕ) (ls : List SignalLook) → AllByRecursion (λ l. part_of (signal_look_stood object l).spot ≡ 6) ls
  looks-part object [] = tt
  looks-part object (l ∷ ls) = (refl, looks-part object ls)

  items-part : (ls : List ItemLook) → AllByRecursion (λ l. part_of (item_look_stood l).spot ≡ 1) ls
  items-part [] = tt
  items-part (l ∷ ls) = (refl, items-part ls)

  abbrev InPart : ℕ → Stood → Type 0
  InPart n l = part_of l.spot ≡ n

  -- A line and its part.

  module _ (player : ℕ) (log : Log) (there : slice_get t.logs player ≡ Some log) where
    -- a line of the player and of one step
    abbrev mine : ℕ → Stood → Bool
    mine k l = is_of player l && eqb k l.step

    own-line : (k : ℕ) (l : Stood) → mine k l ≡ true → (l.player ≡ player) × (l.step ≡ k)
    own-line k l passes =
        let both = and_parts (is_of player l) (eqb k l.step) passes in
        (eqb-true l.player player both.0, sym (eqb-true k l.step both.1))

    -- it stands where the log says
    own-spot : (k : ℕ) (l : Stood) → Known l → mine k l ≡ true → slice_get log.steps k ≡ Some l.spot
    own-spot k l is passes =
        let at = own-line k l passes in
        ap (slice_get log.steps) (sym at.1) ∙ ap (option_and_then (λ (log : Log). slice_get log.steps l.step)) (sym there)
        ∙ ap (λ (n : ℕ). option_and_then (λ (log : Log). slice_get log.steps l.step) (slice_get t.logs n)) (sym at.0) ∙ is

    module _ (k : ℕ) (spot : Spot) (here : slice_get log.steps k ≡ Some spot) where
      abbrev line : Stood
      line = line_at player k spot

      is_mine : mine k line ≡ true
      is_mine = and_from (is_of player line) (eqb k line.step) (eq-eqb player player refl) (eq-eqb k k refl)

      stays : Each (Stays (mine k) line is_mine)
      stays = all-weaker Known (Stays (mine k) line is_mine) (λ l is passes. same_Some l.spot spot (sym (own-spot k l is passes) ∙ here)) known

      -- what a part has of it
      abbrev given : Bool → List Stood
      given b = cond b (line ∷ []) []

      none-in : (n : ℕ) (xs : List Stood) → AllByRecursion (InPart n) xs → AllByRecursion (Stays (mine k) line is_mine) xs → (part_of spot ≡ n → ⊥) → filter (mine k) xs ≡ []
      none-in n xs part stay other = none-by (mine k) line is_mine (InPart n) xs part stay (λ l is same. other (ap part_of (sym same) ∙ is))

    -- an entry that is the line's
    entry-line : {O R : Type 0} (k : ℕ) (spot : Spot) (e : Entry O R) → ◌≡◌ {A = ℕ × ℕ} (single.step_of e) (player, k) → line_at e.who.number e.step spot ≡ line_at player k spot
    entry-line k spot e is = ap (λ (b : ℕ × ℕ). line_at b.0 b.1 spot) is

    entry-there : {O R : Type 0} (k : ℕ) (o : Option (Entry O R)) → option_map single.step_of o ≡ Some (player, k) → (e : Entry O R) × (o ≡ Some e) × (◌≡◌ {A = ℕ × ℕ} (single.step_of e) (player, k))
    entry-there k None is = absurd (none-some (player, k) is)
    entry-there k (Some e) is = (e, refl, same_Some (single.step_of e) (player, k) is)

    works-has : (k : ℕ) (spot : Spot) (here : slice_get log.steps k ≡ Some spot) → filter (mine k) works ≡ given k spot here (eqb (part_of spot) 0)
    works-has k (spots.Work p) here =
        let found = entry-there k (slice_get t.work p) (placed.stands player k (spots.Work p) log there here refl) in
        entries-one (mine k) (line k (spots.Work p) here) (is_mine k (spots.Work p) here) homes.Work 0 t.work p found.0 found.1
        (ap (λ (n : ℕ). line_at found.0.who.number found.0.step (spots.Work n)) (begin p) ∙ entry-line k (spots.Work p) found.0 found.2) (stays k (spots.Work p) here).work
    works-has k spot here =
        none-in k spot here 0 works (entries-each (InPart 0) homes.Work 0 t.work (λ p e at. home-part homes.Work (0 + p))) (stays k spot here).work (λ is. absurd (omega (arith, is)))

    items-has : (k : ℕ) (spot : Spot) (here : slice_get log.steps k ≡ Some spot) → filter (mine k) items ≡ given k spot here (eqb (part_of spot) 1)
    items-has k (spots.LookItem item flags at) here =
        let spot : Spot = spots.LookItem item flags at in
        let look : ItemLook = record { player = 0 + player; step = k; item = item; flags = flags; at = at } in
        ap (λ (ls : List ItemLook). filter (mine k) (map item_look_stood ls)) placed.item_looks
        ∙ logs-one (mine k) (line k spot here) (is_mine k spot here) (own-line k) item_look_at item_step item-own item_look_stood item-law 0 t.logs player log k spot look there here refl
        (ap (λ (n : ℕ). line_at n k spot) (begin player))
    items-has k spot here =
        none-in k spot here 1 items (mapped-each (InPart 1) item_look_stood t.looks.items (items-part t.looks.items)) (stays k spot here).item (λ is. absurd (omega (arith, is)))

    clocks-has : (k : ℕ) (spot : Spot) (here : slice_get log.steps k ≡ Some spot) → filter (mine k) clocks ≡ given k spot here (eqb (part_of spot) 2)
    clocks-has k (spots.Clock p) here =
        let found = entry-there k (slice_get t.clock p) (placed.stands player k (spots.Clock p) log there here refl) in
        entries-one (mine k) (line k (spots.Clock p) here) (is_mine k (spots.Clock p) here) homes.Clock 0 t.clock p found.0 found.1
        (ap (λ (n : ℕ). line_at found.0.who.number found.0.step (spots.Clock n)) (begin p) ∙ entry-line k (spots.Clock p) found.0 found.2) (stays k (spots.Clock p) here).clock
    clocks-has k spot here =
        none-in k spot here 2 clocks (entries-each (InPart 2) homes.Clock 0 t.clock (λ p e at. home-part homes.Clock (0 + p))) (stays k spot here).clock (λ is. absurd (omega (arith, is)))

    tables-has : (k : ℕ) (spot : Spot) (here : slice_get log.steps k ≡ Some spot) → filter (mine k) tables ≡ given k spot here (eqb (part_of spot) 3)
    tables-has k (spots.Table p) here =
        let found = entry-there k (slice_get t.table p) (placed.stands player k (spots.Table p) log there here refl) in
        entries-one (mine k) (line k (spots.Table p) here) (is_mine k (spots.Table p) here) homes.Table 0 t.table p found.0 found.1
        (ap (λ (n : ℕ). line_at found.0.who.number found.0.step (spots.Table n)) (begin p) ∙ entry-line k (spots.Table p) found.0 found.2) (stays k (spots.Table p) here).table
    tables-has k spot here =
        none-in k spot here 3 tables (entries-each (InPart 3) homes.Table 0 t.table (λ p e at. home-part homes.Table (0 + p))) (stays k spot here).table (λ is. absurd (omega (arith, is)))

    -- an entry of an object
    family-has : {O R : Type 0} (family : Family) (hs : List (List (Entry O R))) (k o p : ℕ) (here : slice_get log.steps k ≡ Some (spot_in family o p)) →
        shown_at (trace_shown t) (spot_in family o p) ≡ option_map single.step_of (entry_at hs o p) → is_look (spot_in family o p) ≡ false →
        AllByRecursion (Stays (mine k) (line k (spot_in family o p) here) (is_mine k (spot_in family o p) here)) (histories_stood family 0 hs) →
        filter (mine k) (histories_stood family 0 hs) ≡ line k (spot_in family o p) here ∷ []
    family-has family hs k o p here shows entry stay =
        let spot : Spot = spot_in family o p in
        let found = entry-there k (entry_at hs o p) (sym shows ∙ placed.stands player k spot log there here entry) in
        histories-one (mine k) (line k spot here) (is_mine k spot here) family 0 hs o p found.0 found.1
        (ap (λ (n : ℕ). line_at found.0.who.number found.0.step (spot_in family n p)) (begin o) ∙ entry-line k spot found.0 found.2) stay

    family-part : {O R : Type 0} (family : Family) (n : ℕ) (hs : List (List (Entry O R))) → ((o p : ℕ) → part_of (spot_in family o p) ≡ n) → AllByRecursion (InPart n) (histories_stood family 0 hs)
    family-part family n hs part = histories-each (InPart n) family 0 hs (λ o p e at. part (0 + o) p)

    sems-has : (k : ℕ) (spot : Spot) (here : slice_get log.steps k ≡ Some spot) → filter (mine k) sems ≡ given k spot here (eqb (part_of spot) 4)
    sems-has k (spots.Sem o p) here = family-has families.Sem t.sems k o p here refl refl (stays k (spots.Sem o p) here).sem
    sems-has k spot here = none-in k spot here 4 sems (family-part families.Sem 4 t.sems (λ o p. refl)) (stays k spot here).sem (λ is. absurd (omega (arith, is)))

    msgqs-has : (k : ℕ) (spot : Spot) (here : slice_get log.steps k ≡ Some spot) → filter (mine k) msgqs ≡ given k spot here (eqb (part_of spot) 5)
    msgqs-has k (spots.Msgq o p) here = family-has families.Msgq t.msgqs k o p here refl refl (stays k (spots.Msgq o p) here).msgq
    msgqs-has k spot here = none-in k spot here 5 msgqs (family-part families.Msgq 5 t.msgqs (λ o p. refl)) (stays k spot here).msgq (λ is. absurd (omega (arith, is)))

    signals-has : (k : ℕ) (spot : Spot) (here : slice_get log.steps k ≡ Some spot) → filter (mine k) signals ≡ given k spot here (eqb (part_of spot) 6)
    signals-has k (spots.Signal o p) here =
        let spot : Spot = spots.Signal o p in
        let found = entry-there k (entry_at t.signals o p) (placed.stands player k spot log there here refl) in
        signals-write (mine k) (line k spot here) (is_mine k spot here) t.looks.signals 0 t.signals o p found.0 found.1
        (ap (λ (n : ℕ). line_at found.0.who.number found.0.step (spots.Signal n p)) (begin o) ∙ entry-line k spot found.0 found.2) (stays k spot here).signal
    signals-has k (spots.LookSignal o seen) here =
        let spot : Spot = spots.LookSignal o seen in
        let within = looked player log k o seen there here in
        let look : SignalLook = record { player = 0 + player; step = k; seen = seen } in
        let at : signal_look_at (0 + o) (0 + player) k spot ≡ Some look = cond-true (o == (0 + o)) (Some look) None (eq-eqb o (0 + o) (sym (begin o))) in
        let looks : looks_at t.looks.signals (0 + o) ≡ all_looks (signal_look_at (0 + o)) 0 t.logs =
        ap (λ (ls : List (List SignalLook)). looks_at ls (0 + o)) placed.signal_looks ∙ looks-at (length t.signals) t.logs (0 + o) (let it = begin o in omega arith) in
        signals-look (mine k) (line k spot here) (is_mine k spot here) t.looks.signals 0 t.signals o within refl (sym (begin o))
        (ap (λ (ls : List SignalLook). filter (mine k) (map (signal_look_stood (0 + o)) ls)) looks
        ∙ logs-one (mine k) (line k spot here) (is_mine k spot here) (own-line k) (signal_look_at (0 + o)) signal_step (signal-own (0 + o)) (signal_look_stood (0 + o)) (signal-law (0 + o)) 0 t.logs
        player log k spot look there here at (ap (λ (n : ℕ). line_at n k spot) (begin player)))
        (stays k spot here).signal
    signals-has k spot here =
        none-in k spot here 6 signals
        (signals-each (InPart 6) t.looks.signals 0 t.signals (λ o p e at. refl) (λ o within. looks-part (0 + o) (looks_at t.looks.signals (0 + o)))) (stays k spot here).signal (λ is. absurd (omega (arith, is)))

    chans-has : (k : ℕ) (spot : Spot) (here : slice_get log.steps k ≡ Some spot) → filter (mine k) chans ≡ given k spot here (eqb (part_of spot) 7)
    chans-has k (spots.Chan o p) here = family-has families.Chan t.chans k o p here refl refl (stays k (spots.Chan o p) here).chan
    chans-has k spot here = none-in k spot here 7 chans (family-part families.Chan 7 t.chans (λ o p. refl)) (stays k spot here).chan (λ is. absurd (omega (arith, is)))

    observers-has : (k : ℕ) (spot : Spot) (here : slice_get log.steps k ≡ Some spot) → filter (mine k) observers ≡ given k spot here (eqb (part_of spot) 8)
    observers-has k (spots.Obs o p) here = family-has families.Obs t.observers k o p here refl refl (stays k (spots.Obs o p) here).observer
    observers-has k spot here = none-in k spot here 8 observers (family-part families.Obs 8 t.observers (λ o p. refl)) (stays k spot here).observer (λ is. absurd (omega (arith, is)))

    -- All parts.

    more : (p : Stood → Bool) (xs ys us vs : List Stood) → filter p xs ≡ us → filter p ys ≡ vs → filter p (xs ++ ys) ≡ us ++ vs
    more p xs ys us vs first second = filter-append p xs ys ∙ ap (λ (l : List Stood). l ++ filter p ys) first ∙ ap (λ (l : List Stood). us ++ l) second

    all-parts : (p : Stood → Bool) (w i c tb s m sg ch ob : List Stood) → filter p works ≡ w → filter p items ≡ i → filter p clocks ≡ c → filter p tables ≡ tb → filter p sems ≡ s → filter p msgqs ≡ m →
        filter p signals ≡ sg → filter p chans ≡ ch → filter p observers ≡ ob → filter p (stood t) ≡ w ++ i ++ c ++ tb ++ s ++ m ++ sg ++ ch ++ ob
    all-parts p w i c tb s m sg ch ob hw hi hc ht hs hm hg hh ho =
        let one = more p works items w i hw hi in
        let two = more p (works ++ items) clocks (w ++ i) c one hc in
        let three = more p (works ++ items ++ clocks) tables (w ++ i ++ c) tb two ht in
        let four = more p (works ++ items ++ clocks ++ tables) sems (w ++ i ++ c ++ tb) s three hs in
        let five = more p (works ++ items ++ clocks ++ tables ++ sems) msgqs (w ++ i ++ c ++ tb ++ s) m four hm in
        let six = more p (works ++ items ++ clocks ++ tables ++ sems ++ msgqs) signals (w ++ i ++ c ++ tb ++ s ++ m) sg five hg in
        let seven = more p (works ++ items ++ clocks ++ tables ++ sems ++ msgqs ++ signals) chans (w ++ i ++ c ++ tb ++ s ++ m ++ sg) ch six hh in
        more p (works ++ items ++ clocks ++ tables ++ sems ++ msgqs ++ signals ++ chans) observers (w ++ i ++ c ++ tb ++ s ++ m ++ sg ++ ch) ob seven ho

    abbrev shares : (k : ℕ) (spot : Spot) → slice_get log.steps k ≡ Some spot → ℕ → List Stood
    shares k spot here n = given k spot here (eqb (part_of spot) n)

    only : (k : ℕ) (spot : Spot) (here : slice_get log.steps k ≡ Some spot) → shares k spot here 0 ++ shares k spot here 1 ++ shares k spot here 2 ++ shares k spot here 3 ++ shares k spot here 4
        ++ shares k spot here 5 ++ shares k spot here 6 ++ shares k spot here 7 ++ shares k spot here 8 ≡ line k spot here ∷ []
    only k (spots.Work p) here = refl
    only k spot here = refl

    one-line : (k : ℕ) (spot : Spot) → slice_get log.steps k ≡ Some spot → filter (mine k) (stood t) ≡ line_at player k spot ∷ []
    one-line k spot here =
        let at : ℕ → List Stood = shares k spot here in
        all-parts (mine k) (at 0) (at 1) (at 2) (at 3) (at 4) (at 5) (at 6) (at 7) (at 8) (works-has k spot here) (items-has k spot here) (clocks-has k spot here) (tables-has k spot here) (sems-has k spot here)
        (msgqs-has k spot here) (signals-has k spot here) (chans-has k spot here) (observers-has k spot here) ∙ only k spot here

    no-line : (k : ℕ) → slice_get log.steps k ≡ None → filter (mine k) (stood t) ≡ []
    no-line k none =
        let never = all-weaker Known (λ l. mine k l ≡ true → ⊥) (λ l is passes. none-some l.spot (sym none ∙ own-spot k l is passes)) known in
        all-parts (mine k) [] [] [] [] [] [] [] [] [] (none-mine (mine k) works never.work) (none-mine (mine k) items never.item) (none-mine (mine k) clocks never.clock) (none-mine (mine k) tables never.table)
        (none-mine (mine k) sems never.sem) (none-mine (mine k) msgqs never.msgq) (none-mine (mine k) signals never.signal) (none-mine (mine k) chans never.chan) (none-mine (mine k) observers never.observer)

    -- The lines of the player, by step.

    abbrev rows_from : ℕ → List Spot → List Stood
    rows_from k [] = []
    rows_from k (spot ∷ more) = line_at player k spot ∷ rows_from (k + 1) more

    abbrev step_of : Stood → ℕ
    step_of l = l.step

    spots-of : (k : ℕ) (all : List Spot) → map (λ (l : Stood). l.spot) (rows_from k all) ≡ all
    spots-of k [] = refl
    spots-of k (spot ∷ more) = ap (λ (l : List Spot). spot ∷ l) (spots-of (k + 1) more)

    rows-above : (from k : ℕ) (all : List Spot) → from ≤ k → All (λ (l : Stood). from ≤ l.step) (rows_from k all)
    rows-above from k [] above = All-nil (λ (l : Stood). from ≤ l.step)
    rows-above from k (spot ∷ more) above = All-cons (λ (l : Stood). from ≤ l.step) (line_at player k spot) (rows_from (k + 1) more) above (rows-above from (k + 1) more (omega arith))

    rows-ascend : (k : ℕ) (all : List Spot) → Ascends step_of (rows_from k all)
    rows-ascend k [] = tt
    rows-ascend k (spot ∷ more) = (rows-above k (k + 1) more (omega arith), rows-ascend (k + 1) more)

    rows-none : (j k : ℕ) (all : List Spot) → j < k → of_key step_of j (rows_from k all) ≡ []
    rows-none j k [] below = refl
    rows-none j k (spot ∷ more) below =
        cond-false (eqb j k) (line_at player k spot ∷ of_key step_of j (rows_from (k + 1) more)) (of_key step_of j (rows_from (k + 1) more)) (ne_eqb j k (λ same. absurd (omega arith)))
        ∙ rows-none j (k + 1) more (omega arith)

    rows-key : (k i : ℕ) (all : List Spot) → of_key step_of (k + i) (rows_from k all) ≡ map (line_at player (k + i)) (option_to_list (slice_get all i))
    rows-key k zero [] = refl
    rows-key k (suc i) [] = refl
    rows-key k zero (spot ∷ more) =
        let here : k + zero ≡ k = omega arith in
        cond-true (eqb (k + zero) k) (line_at player k spot ∷ of_key step_of (k + zero) (rows_from (k + 1) more)) (of_key step_of (k + zero) (rows_from (k + 1) more)) (eq-eqb (k + zero) k here)
        ∙ ap (λ (l : List Stood). line_at player k spot ∷ l) (rows-none (k + zero) (k + 1) more (omega arith)) ∙ ap (λ (n : ℕ). line_at player n spot ∷ []) (sym here)
    rows-key k (suc i) (spot ∷ more) =
        let next : (k + 1) + i ≡ k + suc i = omega arith in
        cond-false (eqb (k + suc i) k) (line_at player k spot ∷ of_key step_of (k + suc i) (rows_from (k + 1) more)) (of_key step_of (k + suc i) (rows_from (k + 1) more)) (ne_eqb (k + suc i) k (λ same. absurd (omega arith)))
        ∙ subst (λ (n : ℕ). of_key step_of n (rows_from (k + 1) more) ≡ map (line_at player n) (option_to_list (slice_get more i))) next (rows-key (k + 1) i more)

    abbrev own : List Stood
    own = filter (is_of player) (stood t)

    keys-same : (k : ℕ) → of_key step_of k own ≡ of_key step_of k (rows_from 0 log.steps)
    keys-same k = filter-both (λ (l : Stood). eqb k l.step) (is_of player) (stood t) ∙ by (slice_get log.steps k) refl
        ∙ sym (ap (λ (n : ℕ). of_key step_of n (rows_from 0 log.steps)) (sym (begin k)) ∙ rows-key 0 k log.steps
        ∙ ap (λ (n : ℕ). map (line_at player n) (option_to_list (slice_get log.steps k))) (begin k))
      where
        by : (o : Option Spot) → slice_get log.steps k ≡ o → filter (mine k) (stood t) ≡ map (line_at player k) (option_to_list (slice_get log.steps k))
        by None here = no-line k here ∙ sym (ap (λ (o : Option Spot). map (line_at player k) (option_to_list o)) here)
        by (Some spot) here = one-line k spot here ∙ sym (ap (λ (o : Option Spot). map (line_at player k) (option_to_list o)) here)

    -- they are what the log says
    pub log-steps : steps_of (stood t) player ≡ log.steps
    log-steps =
        ap (map (λ (l : Stood). l.spot))
        (ascends-same step_of (by_key step_of own) (rows_from 0 log.steps) (ascends-by_key step_of own) (rows-ascend 0 log.steps) (λ of. of_key-by_key step_of (step_of of) own ∙ keys-same (step_of of)))
        ∙ spots-of 0 log.steps
