-- A placed trace has no more lines than its players may make steps, and so each history has room.
use Rattle.std.proofs.Common.{◌≡◌, ℕ, zero, suc, ◌+◌, ◌*◌, ◌<◌, ◌≤◌, Bool, true, false, not, cond, List, [], ◌∷◌, ◌++◌, length, map, All, refl, ap, subst, ◌∙◌, arith, zero-mul, suc-mul, mul-le-mul_right}
use Rattle.std.specs.List.{AllByRecursion, filter}
use Rattle.std.proofs.lemmas.Bool.{not-true, eqb-false}
use Rattle.std.proofs.lemmas.List.{length-append, length-map}
use Rattle.std.proofs.lemmas.List.Elements.{All-nil, All-cons}
use Rattle.std.proofs.lemmas.List.Filters.{length-filter_both}
use Rattle.zk_base.specs.declared.ids.Entry.{Entry}
use Rattle.zk_base.specs.Limits.{most_entries, most_players}
use Rattle.zk_base.proofs.Order.{length-by_key}
use Rattle.zk_scenario.specs.Content.{Content}
use Rattle.zk_scenario.specs.Steps.{steps_of}
use Rattle.zk_scenario.specs.Valid.{IsValid}
use Rattle.zk_scenario.proofs.Steps.{steps-most}
use Rattle.zk_scenario.proofs.Valid.{length-players}
use Rattle.zk_worker.specs.Shown.{AreShort}
use Rattle.zk_trace.specs.declared.looks.SignalLook.{SignalLook}
use Rattle.zk_trace.specs.declared.stood.Family.{Family}
use Rattle.zk_trace.specs.declared.stood.Family.TheVariants as families
use Rattle.zk_trace.specs.declared.stood.Home.{Home}
use Rattle.zk_trace.specs.declared.stood.Home.TheVariants as homes
use Rattle.zk_trace.specs.declared.stood.Stood.{Stood}
use Rattle.zk_trace.specs.declared.trace.Trace.{Trace}
use Rattle.zk_trace.specs.Form.{IsInForm}
use Rattle.zk_trace.specs.Place.{IsPlaced}
use Rattle.zk_trace.specs.Shown.{trace_shown}
use Rattle.zk_trace.specs.Stood.{is_of, entries_stood, histories_stood, signal_look_stood, signals_stood, stood}
use Rattle.zk_trace.specs.Text.{looks_at}
use Rattle.zk_failures.specs.PlaceFailure.{step_numbers}
use Rattle.zk_failures.proofs.PlacedLists.{each-in, each-from, there-is, from-filter}
use Rattle.zk_failures.proofs.PlacedRows.{works, items, clocks, tables, sems, msgqs, signals, chans, observers, upto_items, upto_clocks, upto_tables, upto_sems, upto_msgqs, upto_signals, upto_chans}
use Rattle.zk_failures.proofs.PlacedSteps.{step_in, sorted, logs-long, players-known, steps-long}

-- what two tests keep isn't longer than what one does
kept-of : {A : Type 0} (p q : A → Bool) (xs : List A) → length (filter p (filter q xs)) ≤ length (filter p xs)
kept-of p q [] = omega arith
kept-of p q (x ∷ xs) = by (q x) (kept-of p q xs) where
  both : (c : Bool) → length (filter p (filter q xs)) ≤ length (filter p xs) →
      length (cond c (x ∷ filter p (filter q xs)) (filter p (filter q xs))) ≤ length (cond c (x ∷ filter p xs) (filter p xs))
  both true rest = omega arith
  both false rest = rest

  one : (c : Bool) → length (filter p (filter q xs)) ≤ length (filter p xs) → length (filter p (filter q xs)) ≤ length (cond c (x ∷ filter p xs) (filter p xs))
  one true rest = omega arith
  one false rest = rest

  by : (b : Bool) → length (filter p (filter q xs)) ≤ length (filter p xs) →
      length (filter p (cond b (x ∷ filter q xs) (filter q xs))) ≤ length (filter p (x ∷ xs))
  by true rest = both (p x) rest
  by false rest = one (p x) rest

module _ (most : ℕ) where
  -- lines of so many players, each with few
  few-lines : (many from : ℕ) (lines : List Stood) → AllByRecursion (λ l. (from ≤ l.player) × (l.player < from + many)) lines →
      ((player : ℕ) → from ≤ player → player < from + many → length (filter (is_of player) lines) ≤ most) → length lines ≤ many * most
  few-lines zero from [] all few = omega (arith, zero-mul most)
  few-lines zero from (l ∷ lines) all few = let here = all.0 in absurd (omega (arith, here.0, here.1))
  few-lines (suc many) from lines all few =
      let other : Stood → Bool = λ l. not (is_of from l) in
      let parts = length-filter_both (is_of from) other (λ l. refl) lines in
      let first = few from (omega arith) (omega arith) in
      let rest = few-lines many (from + 1) (filter other lines)
      (each-from (λ l. (from + 1 ≤ l.player) × (l.player < (from + 1) + many)) (filter other lines)
      (λ l is.
      let found = from-filter other lines l is in
      let bounds = each-in (λ l. (from ≤ l.player) × (l.player < from + suc many)) lines l all found.0 in
      let not_first = eqb-false l.player from (not-true (is_of from l) found.1) in
      (above l bounds.0 not_first, omega (arith, bounds.1))))
      (λ player above below. let kept = kept-of (is_of player) other lines in let own = few player (omega arith) (omega arith) in omega arith) in
      omega (arith, suc-mul many most)
    where
      above : (l : Stood) → from ≤ l.player → (l.player ≡ from → ⊥) → from + 1 ≤ l.player
      above l low other = omega arith

module _ (s : Content) (t : Trace) (form : IsInForm s t) (placed : IsPlaced s t) where
  -- no more lines than the players may make steps
  pub placed-few : length (stood t) ≤ length t.logs * steps_of s
  placed-few =
      few-lines (steps_of s) (length t.logs) 0 (stood t)
      (each-from (λ l. (0 ≤ l.player) × (l.player < 0 + length t.logs)) (stood t)
      (λ l is. let known = each-in (λ l. l.player < length t.logs) (stood t) l (players-known s t form) is in (omega arith, omega arith)))
      (λ player above below.
      let log = there-is t.logs player (omega arith) in
      let short = placed.short player log.0 log.1 in
      let same = steps-long s t form player log.0 log.1 in
      let long : length (step_numbers (stood t) player) ≡ length (filter (is_of player) (stood t)) =
      length-map (sorted t player) step_in ∙ length-by_key step_in (filter (is_of player) (stood t)) in
      omega arith)

  -- Each history has room.

  -- so they are far fewer than a history may have
  pub rows-short : IsValid s → length (stood t) < most_entries
  rows-short valid =
      let few = placed-few in
      let players : length t.logs ≤ most_players = let known = logs-long s t form in let same = length-players s.decls in let most = valid.players in omega arith in
      let all : length t.logs * steps_of s ≤ most_players * steps_of s = mul-le-mul_right (steps_of s) players in
      let each = steps-most s in
      omega arith

-- what is shorter than so many has parts that are
parts-short : {A : Type 0} (most : ℕ) (xs ys : List A) → length (xs ++ ys) < most → (length xs < most) × (length ys < most)
parts-short most xs ys short = let long = length-append xs ys in (omega arith, omega arith)

pub entries-long : {O R : Type 0} (home : Home) (place : ℕ) (h : List (Entry O R)) → length (entries_stood home place h) ≡ length h
entries-long home place [] = refl
entries-long home place (e ∷ es) = ap suc (entries-long home (place + 1) es)

entries-short : {O R : Type 0} (most : ℕ) (home : Home) (h : List (Entry O R)) → length (entries_stood home 0 h) < most → length h < most
entries-short most home h short = subst (λ (n : ℕ). n < most) (entries-long home 0 h) short

histories-short : {O R : Type 0} (most : ℕ) (family : Family) (object : ℕ) (hs : List (List (Entry O R))) → length (histories_stood family object hs) < most → All (λ h. length h < most) hs
histories-short most family object [] short = All-nil (λ h. length h < most)
histories-short most family object (h ∷ hs) short =
    let parts = parts-short most (entries_stood (homes.Object family object) 0 h) (histories_stood family (object + 1) hs) short in
    All-cons (λ h. length h < most) h hs (entries-short most (homes.Object family object) h parts.0) (histories-short most family (object + 1) hs parts.1)

signals-short : {O R : Type 0} (most : ℕ) (looks : List (List SignalLook)) (object : ℕ) (hs : List (List (Entry O R))) → length (signals_stood looks object hs) < most → All (λ h. length h < most) hs
signals-short most looks object [] short = All-nil (λ h. length h < most)
signals-short most looks object (h ∷ hs) short =
    let writes = entries_stood (homes.Object families.Signal object) 0 h in
    let seen = map (signal_look_stood object) (looks_at looks object) in
    let parts = parts-short most (writes ++ seen) (signals_stood looks (object + 1) hs) short in
    let own = parts-short most writes seen parts.0 in
    All-cons (λ h. length h < most) h hs (entries-short most (homes.Object families.Signal object) h own.0) (signals-short most looks (object + 1) hs parts.1)

-- each history of a placed trace has room
pub placed-short : (s : Content) (t : Trace) → IsValid s → IsInForm s t → IsPlaced s t → AreShort (trace_shown t)
placed-short s t valid form placed =
    let n = most_entries in
    let observer = parts-short n (upto_chans t) (observers t) (rows-short s t form placed valid) in
    let chan = parts-short n (upto_signals t) (chans t) observer.0 in
    let signal = parts-short n (upto_msgqs t) (signals t) chan.0 in
    let msgq = parts-short n (upto_sems t) (msgqs t) signal.0 in
    let sem = parts-short n (upto_tables t) (sems t) msgq.0 in
    let table = parts-short n (upto_clocks t) (tables t) sem.0 in
    let clock = parts-short n (upto_items t) (clocks t) table.0 in
    let work = parts-short n (works t) (items t) clock.0 in
    record {
      work = entries-short n homes.Work t.work work.0;
      clock = entries-short n homes.Clock t.clock clock.1;
      table = entries-short n homes.Table t.table table.1;
      sems = histories-short n families.Sem 0 t.sems sem.1;
      msgqs = histories-short n families.Msgq 0 t.msgqs msgq.1;
      signals = signals-short n t.looks.signals 0 t.signals signal.1;
      chans = histories-short n families.Chan 0 t.chans chan.1;
      observers = histories-short n families.Obs 0 t.observers observer.1;
    }
