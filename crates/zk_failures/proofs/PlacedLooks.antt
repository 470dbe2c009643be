-- The looks of a trace are those of its logs, where the steps of each are numbered.
use Rattle.std.proofs.Common.{◌≡◌, ◌⊎◌, ℕ, zero, suc, ◌+◌, ◌<◌, ◌≤◌, ◌==◌, Bool, true, false, ◌&&◌, cond, Option, Some, None, is_some, List, [], ◌∷◌, ◌++◌, append-nil, length, map, get_or, All, refl, sym, ap, subst, ◌∙◌, inl, inr, arith}
use Rattle.std.specs.List.{AllByRecursion, filter, filter_map, range_with_len, slice_get, cons_option}
use Rattle.std.specs.Option.{option_map, option_map_or}
use Rattle.std.proofs.lemmas.Bool.{cases_eq, cond-true, cond-false, eq-eqb, ne_eqb, eqb-true}
use Rattle.std.proofs.lemmas.Bool.Decides.{nat_tests}
use Rattle.std.proofs.lemmas.List.{length-map}
use Rattle.std.proofs.lemmas.List.Elements.{All-from_recursion, filter-append, filter_agree}
use Rattle.std.proofs.lemmas.List.FromFn.{fill_by_all}
use Rattle.std.proofs.lemmas.Option.{slice_get_within, slice_get-get_or}
use Rattle.zk_base.specs.declared.ids.Entry.{Entry}
use Rattle.zk_base.specs.Order.{Ascends, by_key}
use Rattle.zk_base.proofs.Order.{map-by_key, filter-by_key, by_key-ascending, filter_all, filter_none}
use Rattle.zk_blocks.specs.Blocks.{FitsGiven}
use Rattle.zk_blocks.specs.Rows.{AllFit}
use Rattle.zk_blocks.proofs.Each.{each_fits-length}
use Rattle.zk_line.specs.Objects.{is_signal}
use Rattle.zk_scenario.specs.Content.{Content}
use Rattle.zk_worker.specs.declared.log.Log.{Log}
use Rattle.zk_worker.specs.declared.steps.Spot.{Spot}
use Rattle.zk_trace.specs.declared.looks.ItemLook.{ItemLook}
use Rattle.zk_trace.specs.declared.looks.SignalLook.{SignalLook}
use Rattle.zk_trace.specs.declared.stood.Family.{Family}
use Rattle.zk_trace.specs.declared.stood.Family.TheVariants as families
use Rattle.zk_trace.specs.declared.stood.Home.{Home}
use Rattle.zk_trace.specs.declared.stood.Home.TheVariants as homes
use Rattle.zk_trace.specs.declared.stood.Stood.{Stood}
use Rattle.zk_trace.specs.declared.trace.Trace.{Trace}
use Rattle.zk_trace.specs.EntryKinds.{IsSignal}
use Rattle.zk_trace.specs.Form.{IsInForm}
use Rattle.zk_trace.specs.Looked.{item_look_at, signal_look_at, looks_from, all_looks, item_looks_of, signal_looks_of}
use Rattle.zk_trace.specs.LookRead.{may_stand, item_may_stand, FitsItemLook, signal_may_stand, FitsSignalLook}
use Rattle.zk_trace.specs.Stood.{spot_at, is_of, entries_stood, histories_stood, item_look_stood, signal_look_stood, signals_stood, steps_of, stood}
use Rattle.zk_trace.specs.Text.{looks_at}
use Rattle.zk_trace.proofs.LinesOnce.{line_at, entries-each, histories-each, mapped-each, signals-each, filter-both}
use Rattle.zk_trace.proofs.LooksFit.{all-append}
use Rattle.zk_failures.specs.PlaceFailure.{IsNumbered, step_numbers}
use Rattle.zk_failures.proofs.PlacedLater.{Later}
use Rattle.zk_failures.proofs.PlacedLists.{IsIn, in-map, each-in, each-of, each-from, each-weaker, from-filter, from-by_key, filter-map}
use Rattle.zk_failures.proofs.PlacedRows.{works, items, clocks, tables, sems, msgqs, signals, chans, observers, upto_items, upto_clocks, upto_tables, upto_sems, upto_msgqs, upto_signals, upto_chans}
use Rattle.zk_failures.proofs.PlacedSteps.{step_in, spot_of, AreNumbered, kind-at, looks-there, log-steps, players-known}

-- two tests in either order
and-swap : (a b : Bool) → (a && b) ≡ (b && a)
and-swap true true = refl
and-swap true false = refl
and-swap false true = refl
and-swap false false = refl

filter-swap : {A : Type 0} (p q : A → Bool) (xs : List A) → filter p (filter q xs) ≡ filter q (filter p xs)
filter-swap p q xs = filter-both p q xs ∙ filter_agree (λ x. q x && p x) (λ x. p x && q x) (λ x. and-swap (q x) (p x)) xs ∙ sym (filter-both q p xs)

-- the lines of a player by step are of the player
sorted-own : (player : ℕ) (lines : List Stood) → AllByRecursion (λ l. l.player ≡ player) (by_key step_in (filter (is_of player) lines))
sorted-own player lines =
    let own = filter (is_of player) lines in
    each-from (λ l. l.player ≡ player) (by_key step_in own) (λ l is. eqb-true l.player player (from-filter (is_of player) lines l (from-by_key step_in own l is)).1)

-- where one look may stand behind another: its player isn't a lower one, and of the same its step isn't
pub stand-steps : (a b c d : ℕ) → may_stand (Some (a, b)) (c, d) ≡ true → (a ≤ c) × (a ≡ c → b ≤ d)
stand-steps a b c d stands = (grind (arith, nat_tests), λ same. grind (arith, nat_tests))

stand-further : (a b c d e f : ℕ) → may_stand (Some (a, b)) (c, d) ≡ true → may_stand (Some (c, d)) (e, f) ≡ true → may_stand (Some (a, b)) (e, f) ≡ true
stand-further a b c d e f first second = grind (arith, nat_tests)

module _ {L : Type 0} (look_at : ℕ → ℕ → Spot → Option L) (f : L → Stood) (law : (l : L) → look_at (f l).player (f l).step (f l).spot ≡ Some l) where
  -- the look that a line is, and whether it is one
  abbrev look_of : Stood → Option L
  look_of line = look_at line.player line.step line.spot

  abbrev pub keeps : Stood → Bool
  keeps line = is_some (look_of line)

  -- the looks of lines are those of the lines that are looks
  only-looks : (lines : List Stood) → filter_map look_of lines ≡ filter_map look_of (filter keeps lines)
  only-looks [] = refl
  only-looks (x ∷ xs) = by (look_of x) refl (only-looks xs) where
    by : (o : Option L) → look_of x ≡ o → filter_map look_of xs ≡ filter_map look_of (filter keeps xs) →
        cons_option o (filter_map look_of xs) ≡ filter_map look_of (cond (is_some o) (x ∷ filter keeps xs) (filter keeps xs))
    by None is rest = rest
    by (Some l) is rest = ap (λ (ls : List L). l ∷ ls) rest ∙ sym (ap (λ (o : Option L). cons_option o (filter_map look_of (filter keeps xs))) is)

  -- the lines of looks say them
  said-again : (ls : List L) → filter_map look_of (map f ls) ≡ ls
  said-again [] = refl
  said-again (l ∷ ls) = ap (λ (o : Option L). cons_option o (filter_map look_of (map f ls))) (law l) ∙ ap (λ (x : List L). l ∷ x) (said-again ls)

  -- the looks among steps are those of the lines that have these steps
  from-lines : (player from : ℕ) (lines : List Stood) → AllByRecursion (λ l. l.player ≡ player) lines → map step_in lines ≡ range_with_len from (length lines) →
      looks_from look_at player from (map spot_of lines) ≡ filter_map look_of lines
  from-lines player from [] own is = refl
  from-lines player from (x ∷ xs) own is =
      let rest = looks_from look_at player (from + 1) (map spot_of xs) in
      let head : x.step ≡ from = cc in
      let tail : map step_in xs ≡ range_with_len (from + 1) (length xs) = cc in
      ap (λ (o : Option L). cons_option o rest) (ap (λ (n : ℕ). look_at n from x.spot) (sym own.0) ∙ ap (λ (n : ℕ). look_at x.player n x.spot) (sym head))
      ∙ ap (λ (ls : List L). cons_option (look_of x) ls) (from-lines player (from + 1) xs own.1 tail)

  -- Looks that don't fall.

  -- a look of a player
  abbrev mine : ℕ → L → Bool
  mine player l = is_of player (f l)

  -- a look may stand behind another
  abbrev pub NotBelow : L → L → Type 0
  NotBelow x y = may_stand (Some ((f x).player, (f x).step)) ((f y).player, (f y).step) ≡ true

  abbrev pub StandsBehind : Option L → L → Type 0
  StandsBehind last l = may_stand (option_map (λ l. ((f l).player, (f l).step)) last) ((f l).player, (f l).step) ≡ true

  not-below : (x : L) (xs : List L) → AllFit StandsBehind (Some x) xs → AllByRecursion (NotBelow x) xs
  not-below x [] fit = tt
  not-below x (y ∷ ys) fit = (
    fit.0,
    each-weaker (NotBelow y) (NotBelow x) (λ z stands. stand-further (f x).player (f x).step (f y).player (f y).step (f z).player (f z).step fit.0 stands) ys (not-below y ys fit.1),
  )

  -- looks that fit stand behind each before them
  pub later-looks : (last : Option L) (xs : List L) → AllFit StandsBehind last xs → Later NotBelow xs
  later-looks last [] fit = tt
  later-looks last (x ∷ xs) fit = (not-below x xs fit.1, later-looks (Some x) xs fit.1)

  -- their players don't fall
  players-ascend : (xs : List L) → Later NotBelow xs → Ascends (λ l. (f l).player) xs
  players-ascend [] all = tt
  players-ascend (x ∷ xs) all = (
    All-from_recursion (λ (y : L). (f x).player ≤ (f y).player) xs
        (each-weaker (NotBelow x) (λ y. (f x).player ≤ (f y).player) (λ y stands. (stand-steps (f x).player (f x).step (f y).player (f y).step stands).0) xs all.0),
    players-ascend xs all.1,
  )

  -- nor do the steps of those of one player
  steps-ascend : (player : ℕ) (xs : List L) → Later NotBelow xs → Ascends (λ l. step_in (f l)) (filter (mine player) xs)
  steps-ascend player [] all = tt
  steps-ascend player (x ∷ xs) all = by (mine player x) refl (steps-ascend player xs all.1) where
    above : mine player x ≡ true → (y : L) → IsIn (filter (mine player) xs) y → (f x).step ≤ (f y).step
    above own y is =
        let found = from-filter (mine player) xs y is in
        let first = eqb-true (f x).player player own in
        let second = eqb-true (f y).player player found.1 in
        (stand-steps (f x).player (f x).step (f y).player (f y).step (each-in (NotBelow x) xs y all.0 found.0)).1 (first ∙ sym second)

    by : (b : Bool) → mine player x ≡ b → Ascends (λ l. step_in (f l)) (filter (mine player) xs) → Ascends (λ l. step_in (f l)) (cond b (x ∷ filter (mine player) xs) (filter (mine player) xs))
    by true own rest =
        (All-from_recursion (λ (y : L). (f x).step ≤ (f y).step) (filter (mine player) xs) (each-from (λ y. (f x).step ≤ (f y).step) (filter (mine player) xs) (above own)), rest)
    by false other rest = rest

  -- The looks of one player are those among its steps.

  of-player : (lines : List Stood) (looks : List L) (player : ℕ) → filter keeps lines ≡ map f looks → Later NotBelow looks → IsNumbered (step_numbers lines player) →
      looks_from look_at player 0 (steps_of lines player) ≡ filter (mine player) looks
  of-player lines looks player whole rise numbers =
      let own = filter (is_of player) lines in
      let sorted = by_key step_in own in
      let numbered : map step_in sorted ≡ range_with_len 0 (length sorted) = numbers ∙ ap (range_with_len 0) (length-map sorted step_in) in
      let kept : filter keeps sorted ≡ map f (filter (mine player) looks) =
      filter-by_key keeps step_in own
      ∙ ap (by_key step_in) (filter-swap keeps (is_of player) lines ∙ ap (filter (is_of player)) whole ∙ filter-map (is_of player) f looks)
      ∙ sym (map-by_key f step_in (filter (mine player) looks))
      ∙ ap (map f) (by_key-ascending (λ (l : L). step_in (f l)) (filter (mine player) looks) (steps-ascend player looks rise)) in
      from-lines player 0 sorted (sorted-own player lines) numbered
      ∙ only-looks sorted ∙ ap (filter_map look_of) kept ∙ said-again (filter (mine player) looks)

  -- All looks are those of each player.

  abbrev by_player : ℕ → ℕ → List L → List L
  by_player from zero ls = []
  by_player from (suc many) ls = filter (mine from) ls ++ by_player (from + 1) many ls

  nobody : (from many : ℕ) → by_player from many [] ≡ []
  nobody from zero = refl
  nobody from (suc many) = nobody (from + 1) many

  -- a look of an earlier player changes nothing
  earlier : (x : L) (xs : List L) (from many : ℕ) → (f x).player < from → by_player from many (x ∷ xs) ≡ by_player from many xs
  earlier x xs from zero below = refl
  earlier x xs from (suc many) below =
      ap (λ (l : List L). l ++ by_player (from + 1) many (x ∷ xs)) (cond-false (mine from x) (x ∷ filter (mine from) xs) (filter (mine from) xs) (ne_eqb (f x).player from (λ same. omega arith)))
      ∙ ap (λ (l : List L). filter (mine from) xs ++ l) (earlier x xs (from + 1) many (omega arith))

  -- a look in front of others of no earlier players stands first
  one-more : (x : L) (xs : List L) (from many : ℕ) → from ≤ (f x).player → (f x).player < from + many → All (λ y. (f x).player ≤ (f y).player) xs → by_player from many (x ∷ xs) ≡ x ∷ by_player from many xs
  one-more x xs from zero above below lowest = absurd (omega arith)
  one-more x xs from (suc many) above below lowest = by (cases_eq (f x).player from) (λ other. one-more x xs (from + 1) many (omega arith) (omega arith) lowest) where
    by : (((f x).player ≡ from) ⊎ ((f x).player ≡ from → ⊥)) → (((f x).player ≡ from → ⊥) → by_player (from + 1) many (x ∷ xs) ≡ x ∷ by_player (from + 1) many xs) →
        by_player from (suc many) (x ∷ xs) ≡ x ∷ by_player from (suc many) xs
    by (inl same) further =
        ap (λ (l : List L). l ++ by_player (from + 1) many (x ∷ xs)) (cond-true (mine from x) (x ∷ filter (mine from) xs) (filter (mine from) xs) (eq-eqb (f x).player from same))
        ∙ ap (λ (l : List L). x ∷ (filter (mine from) xs ++ l)) (earlier x xs (from + 1) many (omega arith))
    by (inr other) further =
        let none : filter (mine from) xs ≡ [] = filter_none (mine from) xs (λ k d within. let up = lowest k d within in ne_eqb (f (get_or xs k d)).player from (λ same. omega arith)) in
        ap (λ (l : List L). l ++ by_player (from + 1) many (x ∷ xs)) (cond-false (mine from x) (x ∷ filter (mine from) xs) (filter (mine from) xs) (ne_eqb (f x).player from other) ∙ none)
        ∙ further other ∙ sym (ap (λ (l : List L). x ∷ (l ++ by_player (from + 1) many xs)) none)

  all-players : (many : ℕ) (xs : List L) → Ascends (λ l. (f l).player) xs → AllByRecursion (λ l. (f l).player < many) xs → by_player 0 many xs ≡ xs
  all-players many [] up known = nobody 0 many
  all-players many (x ∷ xs) up known = one-more x xs 0 many (omega arith) (let below = known.0 in omega arith) up.0 ∙ ap (λ (l : List L). x ∷ l) (all-players many xs up.1 known.1)

  all-logs : (from : ℕ) (logs : List Log) (looks : List L) →
      ((o number : ℕ) (log : Log) → from + o ≡ number → slice_get logs o ≡ Some log → looks_from look_at number 0 log.steps ≡ filter (mine number) looks) → all_looks look_at from logs ≡ by_player from (length logs) looks
  all-logs from [] looks each = refl
  all-logs from (log ∷ logs) looks each =
      ap (λ (l : List L). l ++ all_looks look_at (from + 1) logs) (each zero from log (omega arith) refl)
      ∙ ap (λ (l : List L). filter (mine from) looks ++ l) (all-logs (from + 1) logs looks (λ o number other is there. each (suc o) number other (omega arith) there))

  -- so the looks among the lines are those of the logs
  pub looks-same : (s : Content) (t : Trace) → IsInForm s t → AreNumbered t → (looks : List L) → filter keeps (stood t) ≡ map f looks → Later NotBelow looks → all_looks look_at 0 t.logs ≡ looks
  looks-same s t form numbers looks whole rise =
      all-logs 0 t.logs looks (λ o number log is there.
      let same : o ≡ number = omega arith in
      let here : slice_get t.logs number ≡ Some log = ap (slice_get t.logs) (sym same) ∙ there in
      ap (looks_from look_at number 0) (log-steps s t form number log here) ∙ of-player (stood t) looks number whole rise (numbers number (slice_get_within t.logs number log here)))
      ∙ all-players (length t.logs) looks (players-ascend looks rise)
      (each-from (λ l. (f l).player < length t.logs) looks
      (λ l is. each-in (λ line. line.player < length t.logs) (stood t) (f l) (players-known s t form)
      (from-filter keeps (stood t) (f l) (subst (λ (lines : List Stood). IsIn lines (f l)) (sym whole) (in-map f looks l is))).0))

-- The lines that are looks of one kind.

-- none in the second part, or none in the first
skip-back : (test : Stood → Bool) (xs ys : List Stood) → AllByRecursion (λ l. test l ≡ false) ys → filter test (xs ++ ys) ≡ filter test xs
skip-back test xs ys none =
    filter-append test xs ys ∙ ap (λ (l : List Stood). filter test xs ++ l) (filter_none test ys (All-from_recursion (λ (l : Stood). test l ≡ false) ys none)) ∙ append-nil (filter test xs)

skip-front : (test : Stood → Bool) (xs ys : List Stood) → AllByRecursion (λ l. test l ≡ false) xs → filter test (xs ++ ys) ≡ filter test ys
skip-front test xs ys none =
    filter-append test xs ys ∙ ap (λ (l : List Stood). l ++ filter test ys) (filter_none test xs (All-from_recursion (λ (l : Stood). test l ≡ false) xs none))

module _ (test : Stood → Bool) (entry : (home : Home) (place number step : ℕ) → test (line_at number step (spot_at home place)) ≡ false) where
  abbrev Fails : Stood → Type 0
  Fails l = test l ≡ false

  entries-fail : {O R : Type 0} (home : Home) (h : List (Entry O R)) → AllByRecursion Fails (entries_stood home 0 h)
  entries-fail home h = entries-each Fails home 0 h (λ p e there. entry home (0 + p) e.who.number e.step)

  histories-fail : {O R : Type 0} (family : Family) (hs : List (List (Entry O R))) → AllByRecursion Fails (histories_stood family 0 hs)
  histories-fail family hs = histories-each Fails family 0 hs (λ o p e there. entry (homes.Object family (0 + o)) p e.who.number e.step)

  -- looks at items alone
  keep-items : (t : Trace) → AllByRecursion Fails (signals t) → filter test (stood t) ≡ filter test (items t)
  keep-items t none =
      skip-back test (upto_chans t) (observers t) (histories-fail families.Obs t.observers)
      ∙ skip-back test (upto_signals t) (chans t) (histories-fail families.Chan t.chans)
      ∙ skip-back test (upto_msgqs t) (signals t) none
      ∙ skip-back test (upto_sems t) (msgqs t) (histories-fail families.Msgq t.msgqs)
      ∙ skip-back test (upto_tables t) (sems t) (histories-fail families.Sem t.sems)
      ∙ skip-back test (upto_clocks t) (tables t) (entries-fail homes.Table t.table)
      ∙ skip-back test (upto_items t) (clocks t) (entries-fail homes.Clock t.clock)
      ∙ skip-front test (works t) (items t) (entries-fail homes.Work t.work)

  -- looks at signals alone
  keep-signals : (t : Trace) → AllByRecursion Fails (items t) → filter test (stood t) ≡ filter test (signals t)
  keep-signals t none =
      skip-back test (upto_chans t) (observers t) (histories-fail families.Obs t.observers)
      ∙ skip-back test (upto_signals t) (chans t) (histories-fail families.Chan t.chans)
      ∙ skip-front test (upto_msgqs t) (signals t)
      (all-append Fails (upto_sems t) (msgqs t)
      (all-append Fails (upto_tables t) (sems t)
      (all-append Fails (upto_clocks t) (tables t)
      (all-append Fails (upto_items t) (clocks t)
      (all-append Fails (works t) (items t) (entries-fail homes.Work t.work) none)
      (entries-fail homes.Clock t.clock))
      (entries-fail homes.Table t.table))
      (histories-fail families.Sem t.sems))
      (histories-fail families.Msgq t.msgqs))

  -- of the looks at signals those at one
  module _ (object : ℕ) (own : (n : ℕ) (l : SignalLook) → test (signal_look_stood n l) ≡ (n == object)) where
    looks-fail : (n : ℕ) (ls : List SignalLook) → (n ≡ object → ⊥) → AllByRecursion (λ l. Fails (signal_look_stood n l)) ls
    looks-fail n ls other = each-of (λ (l : SignalLook). Fails (signal_look_stood n l)) (λ l. own n l ∙ ne_eqb n object other) ls

    after : {O R : Type 0} (looks : List (List SignalLook)) (from : ℕ) (hs : List (List (Entry O R))) → object < from → AllByRecursion Fails (signals_stood looks from hs)
    after looks from hs past =
        signals-each Fails looks from hs (λ o p e there. entry (homes.Object families.Signal (from + o)) p e.who.number e.step)
        (λ o within. looks-fail (from + o) (looks_at looks (from + o)) (λ same. omega arith))

    kept : {O R : Type 0} (looks : List (List SignalLook)) (from : ℕ) (hs : List (List (Entry O R))) (o : ℕ) → from + o ≡ object → o < length hs →
        filter test (signals_stood looks from hs) ≡ map (signal_look_stood object) (looks_at looks object)
    kept looks from [] o is within = absurd (omega arith)
    kept looks from (h ∷ hs) zero is within =
        let writes = entries_stood (homes.Object families.Signal from) 0 h in
        let seen = map (signal_look_stood from) (looks_at looks from) in
        let same : from ≡ object = omega arith in
        skip-back test (writes ++ seen) (signals_stood looks (from + 1) hs) (after looks (from + 1) hs (omega arith))
        ∙ skip-front test writes seen (entries-fail (homes.Object families.Signal from) h)
        ∙ filter_all test seen (All-from_recursion (λ (l : Stood). test l ≡ true) seen
        (mapped-each (λ l. test l ≡ true) (signal_look_stood from) (looks_at looks from)
        (each-of (λ (l : SignalLook). test (signal_look_stood from l) ≡ true) (λ l. own from l ∙ eq-eqb from object same) (looks_at looks from))))
        ∙ ap (λ (n : ℕ). map (signal_look_stood n) (looks_at looks n)) same
    kept looks from (h ∷ hs) (suc o) is within =
        let writes = entries_stood (homes.Object families.Signal from) 0 h in
        let seen = map (signal_look_stood from) (looks_at looks from) in
        skip-front test (writes ++ seen) (signals_stood looks (from + 1) hs)
        (all-append Fails writes seen (entries-fail (homes.Object families.Signal from) h)
        (mapped-each Fails (signal_look_stood from) (looks_at looks from) (looks-fail from (looks_at looks from) (λ same. omega arith))))
        ∙ kept looks (from + 1) hs o (omega arith) (omega arith)

-- Looks at items.

pub item-told : (l : ItemLook) → item_look_at (item_look_stood l).player (item_look_stood l).step (item_look_stood l).spot ≡ Some l
item-told l = refl

no-item : (home : Home) (place number step : ℕ) → is_some (item_look_at number step (spot_at home place)) ≡ false
no-item homes.Work place number step = refl
no-item homes.Clock place number step = refl
no-item homes.Table place number step = refl
no-item (homes.Object families.Sem object) place number step = refl
no-item (homes.Object families.Msgq object) place number step = refl
no-item (homes.Object families.Signal object) place number step = refl
no-item (homes.Object families.Chan object) place number step = refl
no-item (homes.Object families.Obs object) place number step = refl

abbrev keeps_item : Stood → Bool
keeps_item = keeps item_look_at item_look_stood item-told

-- what may stand behind another, of rows that fit
rows-stand : {X : Type 0} (F G : Option X → X → Type 0) → ((last : Option X) (x : X) → F last x → G last x) → (last : Option X) (xs : List X) → AllFit F last xs → AllFit G last xs
rows-stand F G follows last [] fit = tt
rows-stand F G follows last (x ∷ xs) fit = (follows last x fit.0, rows-stand F G follows (Some x) xs fit.1)

abbrev pub ItemNotBelow : ItemLook → ItemLook → Type 0
ItemNotBelow = NotBelow item_look_at item_look_stood item-told

-- those of a trace in form don't fall
pub items-later : (s : Content) (t : Trace) → IsInForm s t → Later ItemNotBelow t.looks.items
items-later s t form =
    later-looks item_look_at item_look_stood item-told None t.looks.items
    (rows-stand (FitsItemLook s.decls) (StandsBehind item_look_at item_look_stood item-told) (λ last l fits. stands last l fits.0) None t.looks.items form.item_looks)
  where
    stands : (last : Option ItemLook) (l : ItemLook) → item_may_stand last l ≡ true → StandsBehind item_look_at item_look_stood item-told last l
    stands None l is = is
    stands (Some x) l is = is

-- they are those of the logs
pub item-looks-same : (s : Content) (t : Trace) → IsInForm s t → AreNumbered t → t.looks.items ≡ item_looks_of t.logs
item-looks-same s t form numbers =
    let whole : filter keeps_item (stood t) ≡ items t =
    keep-items keeps_item no-item t
    (signals-each (λ l. keeps_item l ≡ false) t.looks.signals 0 t.signals (λ o p e there. refl)
    (λ o within. each-of (λ (l : SignalLook). keeps_item (signal_look_stood (0 + o) l) ≡ false) (λ l. refl) (looks_at t.looks.signals (0 + o))))
    ∙ filter_all keeps_item (items t) (All-from_recursion (λ (l : Stood). keeps_item l ≡ true) (items t)
    (mapped-each (λ l. keeps_item l ≡ true) item_look_stood t.looks.items (each-of (λ (l : ItemLook). keeps_item (item_look_stood l) ≡ true) (λ l. refl) t.looks.items))) in
    sym (looks-same item_look_at item_look_stood item-told s t form numbers t.looks.items whole (items-later s t form))

-- Looks at signals.

module _ (object : ℕ) where
  pub signal-told : (l : SignalLook) → signal_look_at object (signal_look_stood object l).player (signal_look_stood object l).step (signal_look_stood object l).spot ≡ Some l
  signal-told l = cond-true (object == object) (Some l) None (eq-eqb object object refl)

  no-look : (home : Home) (place number step : ℕ) → is_some (signal_look_at object number step (spot_at home place)) ≡ false
  no-look homes.Work place number step = refl
  no-look homes.Clock place number step = refl
  no-look homes.Table place number step = refl
  no-look (homes.Object families.Sem other) place number step = refl
  no-look (homes.Object families.Msgq other) place number step = refl
  no-look (homes.Object families.Signal other) place number step = refl
  no-look (homes.Object families.Chan other) place number step = refl
  no-look (homes.Object families.Obs other) place number step = refl

  abbrev keeps_look : Stood → Bool
  keeps_look = keeps (signal_look_at object) (signal_look_stood object) signal-told

  own-look : (n : ℕ) (l : SignalLook) → keeps_look (signal_look_stood n l) ≡ (n == object)
  own-look n l = by (n == object) where
    by : (b : Bool) → is_some (cond b (Some l) None) ≡ b
    by true = refl
    by false = refl

  abbrev pub LookNotBelow : SignalLook → SignalLook → Type 0
  LookNotBelow = NotBelow (signal_look_at object) (signal_look_stood object) signal-told

  -- nor do these
  pub signal-later : (s : Content) (t : Trace) → IsInForm s t → Later LookNotBelow (looks_at t.looks.signals object)
  signal-later s t form = by (slice_get t.looks.signals object) refl where
    stands : (last : Option SignalLook) (l : SignalLook) → signal_may_stand last l ≡ true → StandsBehind (signal_look_at object) (signal_look_stood object) signal-told last l
    stands None l is = is
    stands (Some x) l is = is

    each : (ls : List SignalLook) → ((ls ≡ []) ⊎ AllFit (FitsSignalLook s.decls) None ls) → Later LookNotBelow ls
    each ls (inl none) = subst (Later LookNotBelow) (sym none) tt
    each ls (inr fit) =
        later-looks (signal_look_at object) (signal_look_stood object) signal-told None ls
        (rows-stand (FitsSignalLook s.decls) (StandsBehind (signal_look_at object) (signal_look_stood object) signal-told) (λ last l fits. stands last l fits.0) None ls fit)

    by : (o : Option (List SignalLook)) → slice_get t.looks.signals object ≡ o → Later LookNotBelow (looks_at t.looks.signals object)
    by None is = subst (λ (o : Option (List SignalLook)). Later LookNotBelow (option_map_or (λ x. x) o [])) (sym is) tt
    by (Some ls) is =
        subst (Later LookNotBelow) (sym (looks-there t.looks.signals object ls is))
        (each ls (kind-at is_signal (AllFit (FitsSignalLook s.decls) None) s.decls t.looks.signals form.signal_looks object ls is))

  signal-same : (s : Content) (t : Trace) → IsInForm s t → AreNumbered t → object < length t.signals → all_looks (signal_look_at object) 0 t.logs ≡ looks_at t.looks.signals object
  signal-same s t form numbers within =
      let whole : filter keeps_look (stood t) ≡ map (signal_look_stood object) (looks_at t.looks.signals object) =
      keep-signals keeps_look no-look t (mapped-each (λ l. keeps_look l ≡ false) item_look_stood t.looks.items (each-of (λ (l : ItemLook). keeps_look (item_look_stood l) ≡ false) (λ l. refl) t.looks.items))
      ∙ kept keeps_look no-look object own-look t.looks.signals 0 t.signals object (omega arith) within in
      looks-same (signal_look_at object) (signal_look_stood object) signal-told s t form numbers (looks_at t.looks.signals object) whole (signal-later s t form)

-- of each they are those of the logs
pub signal-looks-same : (s : Content) (t : Trace) → IsInForm s t → AreNumbered t → t.looks.signals ≡ signal_looks_of (length t.signals) t.logs
signal-looks-same s t form numbers =
    let looks = each_fits-length (λ d. FitsGiven (is_signal d) [] (AllFit (FitsSignalLook s.decls) None)) s.decls t.looks.signals form.signal_looks in
    let writes = each_fits-length (λ d. FitsGiven (is_signal d) [] (AllByRecursion (IsSignal s.decls))) s.decls t.signals form.signals in
    let each : (object : ℕ) → object < length t.signals → get_or t.looks.signals object [] ≡ all_looks (signal_look_at object) 0 t.logs =
    λ object below.
    let there = slice_get-get_or t.looks.signals object [] (omega arith) in
    sym (looks-there t.looks.signals object (get_or t.looks.signals object []) there) ∙ sym (signal-same object s t form numbers below) in
    fill_by_all (λ object. all_looks (signal_look_at object) 0 t.logs) t.looks.signals (length t.signals) [] (omega arith) each
