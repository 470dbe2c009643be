-- The first line that isn't held is that of the first wrong look.
use Rattle.std.proofs.Common.{◌≡◌, ◌⊎◌, ℕ, suc, ◌+◌, ◌^◌, ◌<◌, true, Option, Some, None, List, [], ◌∷◌, ◌++◌, length, get_or, All, refl, sym, ap, subst, ◌∙◌, inl, inr, arith}
use Rattle.std.specs.List.{AllByRecursion, slice_get}
use Rattle.std.specs.Option.{IfSome, option_map}
use Rattle.std.proofs.lemmas.Bool.{cases_order, true≢false, true_from_ne_false}
use Rattle.std.proofs.lemmas.Option.{same_Some, none-some, slice_get-map, slice_get-get_or, slice_get_within}
use Rattle.zk_base.specs.declared.ids.Entry.{Entry}
use Rattle.zk_base.specs.Limits.{most_entries}
use Rattle.zk_base.proofs.Lists.{All-at}
use Rattle.zk_line.specs.Objects.{is_item}
use Rattle.zk_line.proofs.Options.{one_part}
use Rattle.zk_model_wait.specs.declared.signal.SignalOp.{SignalOp}
use Rattle.zk_model_wait.specs.declared.signal.SignalReply.{SignalReply}
use Rattle.zk_scenario.specs.Content.{Content}
use Rattle.zk_scenario.specs.Valid.{IsValid}
use Rattle.zk_worker.specs.declared.steps.Spot.{Spot}
use Rattle.zk_worker.specs.declared.steps.Spot.TheVariants as spots
use Rattle.zk_worker.specs.Families.{entry_at}
use Rattle.zk_worker.specs.Machines.{machines_of}
use Rattle.zk_worker.specs.Right.{IsRight}
use Rattle.zk_worker.specs.Shown.{AreShort, is_look, shown_at}
use Rattle.zk_worker.specs.Single as single
use Rattle.zk_worker.proofs.Lists.{there-longer}
use Rattle.zk_trace.specs.declared.looks.ItemLook.{ItemLook}
use Rattle.zk_trace.specs.declared.looks.SignalLook.{SignalLook}
use Rattle.zk_trace.specs.declared.stood.Home.TheVariants as homes
use Rattle.zk_trace.specs.declared.stood.Stood.{Stood}
use Rattle.zk_trace.specs.declared.trace.Trace.{Trace}
use Rattle.zk_trace.specs.Fields.{IsOf}
use Rattle.zk_trace.specs.Form.{IsInForm}
use Rattle.zk_trace.specs.Look.{AreRight}
use Rattle.zk_trace.specs.LookRead.{IsItemLook, FitsItemLook}
use Rattle.zk_trace.specs.Place.{IsPlaced}
use Rattle.zk_trace.specs.Shown.{trace_shown}
use Rattle.zk_trace.specs.Stood.{item_look_stood, signal_look_stood, stood}
use Rattle.zk_trace.specs.Text.{looks_at}
use Rattle.zk_trace.proofs.LinesOnce.{line_at}
use Rattle.zk_failures.specs.First.{IsFirst}
use Rattle.zk_failures.specs.ItemLooks.{FirstMissed, is_found}
use Rattle.zk_failures.specs.LookFailure.{IsRow, LookFits, IsWrong}
use Rattle.zk_failures.specs.LookOrder.{IsWithin}
use Rattle.zk_failures.specs.LooksHeld.{all_orders, is_in_order, FitsAt, IsHeld, AreHeld, IsFirstUnheld}
use Rattle.zk_failures.proofs.PlacedFew.{entries-long, rows-short}
use Rattle.zk_failures.proofs.PlacedLater.{Later, later-at}
use Rattle.zk_failures.proofs.PlacedLists.{IsIn, each-in, each-of, each-from}
use Rattle.zk_failures.proofs.PlacedOrder.{Distinct, distinct-rows}
use Rattle.zk_failures.proofs.PlacedRows.{works, items, clocks, tables, sems, msgqs, signals, chans, observers, upto_items, upto_clocks, upto_tables, upto_sems, upto_msgqs, upto_signals, upto_chans, stood-each}
use Rattle.zk_failures.proofs.PlacedSteps.{fits-each, are-numbered}
use Rattle.zk_failures.proofs.ItemsFound.{finds-right, right-finds}
use Rattle.zk_failures.proofs.LooksByStep.{entry-there, in-order, order-in}
use Rattle.zk_failures.proofs.LooksRight.{row, stepped, fitting-right}

-- Where the looks at items stand: behind the entries of work.

-- the element of a list that another stands behind
behind-at : {A : Type 0} (xs ys : List A) (k : ℕ) → slice_get (xs ++ ys) (length xs + k) ≡ slice_get ys k
behind-at [] ys k = let same : 0 + k ≡ k = omega arith in ap (slice_get ys) same
behind-at (x ∷ xs) ys k = let same : length (x ∷ xs) + k ≡ suc (length xs + k) = omega arith in ap (slice_get (x ∷ (xs ++ ys))) same ∙ behind-at xs ys k

-- a line of a look at an item is that of one of these
abbrev IsItemLine : List ItemLook → Stood → Spot → Type 0
IsItemLine looks line (spots.LookItem item flags at) = (look : ItemLook) × IsIn looks look × (line ≡ item_look_stood look)
IsItemLine looks line spot = Unit {0}

module _ (t : Trace) where
  -- no entry is a look
  entry-else : (looks : List ItemLook) (line : Stood) (spot : Spot) (number step : ℕ) → shown_at (trace_shown t) spot ≡ Some (number, step) → IsItemLine looks line spot
  entry-else looks line (spots.Work p) number step is = tt
  entry-else looks line (spots.Clock p) number step is = tt
  entry-else looks line (spots.Table p) number step is = tt
  entry-else looks line (spots.Sem o p) number step is = tt
  entry-else looks line (spots.Msgq o p) number step is = tt
  entry-else looks line (spots.Signal o p) number step is = tt
  entry-else looks line (spots.Chan o p) number step is = tt
  entry-else looks line (spots.Obs o p) number step is = tt
  entry-else looks line (spots.LookItem item flags at) number step is = absurd (none-some (number, step) is)
  entry-else looks line (spots.LookSignal object seen) number step is = absurd (none-some (number, step) is)

  item-lines : AllByRecursion (λ l. IsItemLine t.looks.items l l.spot) (stood t)
  item-lines =
      stood-each t (λ l. IsItemLine t.looks.items l l.spot) (λ spot number step is. entry-else t.looks.items (line_at number step spot) spot number step is)
      (each-from (λ (l : ItemLook). IsItemLine t.looks.items (item_look_stood l) (item_look_stood l).spot) t.looks.items (λ l is. (l, is, refl)))
      (λ o within. each-of (λ (l : SignalLook). IsItemLine t.looks.items (signal_look_stood o l) (signal_look_stood o l).spot) (λ l. tt) (looks_at t.looks.signals o))

  -- the look of a place has the line that many behind the entries of work
  pub item-row : (k : ℕ) (look : ItemLook) → slice_get t.looks.items k ≡ Some look → slice_get (stood t) (length t.work + k) ≡ Some (item_look_stood look)
  item-row k look there =
      let line = item_look_stood look in
      let place = length t.work + k in
      let front : slice_get (works t ++ items t) place ≡ Some line =
      ap (λ (n : ℕ). slice_get (works t ++ items t) (n + k)) (sym (entries-long homes.Work 0 t.work))
      ∙ behind-at (works t) (items t) k ∙ slice_get-map item_look_stood t.looks.items k ∙ ap (option_map item_look_stood) there in
      there-longer (upto_chans t) (observers t) place line (there-longer (upto_signals t) (chans t) place line (there-longer (upto_msgqs t) (signals t) place line
      (there-longer (upto_sems t) (msgqs t) place line (there-longer (upto_tables t) (sems t) place line (there-longer (upto_clocks t) (tables t) place line
      (there-longer (upto_items t) (clocks t) place line front))))))

  -- and a line of a look at an item is that of one
  pub row-item : (line : Stood) (item flags at : ℕ) → IsRow t line → line.spot ≡ spots.LookItem item flags at → (k : ℕ) × (look : ItemLook) × (slice_get t.looks.items k ≡ Some look) × (line ≡ item_look_stood look)
  row-item line item flags at is spot =
      let found = subst (IsItemLine t.looks.items line) spot (each-in (λ l. IsItemLine t.looks.items l l.spot) (stood t) line item-lines is) in
      (found.1.0, found.0, found.1.1, found.2)

-- where the steps are numbered, two lines of one step are one
one-place : (s : Content) (t : Trace) → IsInForm s t → IsPlaced s t → (i j : ℕ) (x y : Stood) → slice_get (stood t) i ≡ Some x → slice_get (stood t) j ≡ Some y →
    x.player ≡ y.player → x.step ≡ y.step → i ≡ j
one-place s t form placed i j x y at_x at_y player step = by (cases_order i j) where
  apart : Later Distinct (stood t)
  apart = distinct-rows s t form (are-numbered s t form placed)

  by : ((i ≡ j) ⊎ ((i < j) ⊎ (j < i))) → i ≡ j
  by (inl same) = same
  by (inr (inl below)) = absurd (later-at Distinct (stood t) apart i j x y below at_x at_y player step)
  by (inr (inr above)) = absurd (later-at Distinct (stood t) apart j i y x above at_y at_x (sym player) (sym step))

-- What the code has found.

module _ (s : Content) (t : Trace) (form : IsInForm s t) (placed : IsPlaced s t) where
  -- a look at an item is at one
  item-is : (k : ℕ) (look : ItemLook) → slice_get t.looks.items k ≡ Some look → IsOf is_item s.decls look.item
  item-is k look there =
      (each-in (IsItemLook s.decls) t.looks.items look (fits-each (FitsItemLook s.decls) (IsItemLook s.decls) (λ last l fits. fits.1) None t.looks.items form.item_looks) (k, there)).item

  abbrev pub missed_row : Option ℕ → Option ℕ
  missed_row first = option_map (λ place. length t.work + place) first

  abbrev pub Held : Option ℕ → ℕ → Stood → Type 0
  Held first place line = IsHeld t.signals (all_orders t.logs) (missed_row first) place line

  -- the row of the first one that missed isn't held
  missed-unheld : (first k : ℕ) → first ≡ k → (line : Stood) → Held (Some first) (length t.work + k) line → ⊥
  missed-unheld first k same line held = held.other (ap (λ (n : ℕ). Some (length t.work + n)) same)

  -- where the lines below a place are held each look at an item there found what was there
  held-found : (first : Option ℕ) → FirstMissed s t first → (n : ℕ) → ((place : ℕ) (line : Stood) → place < n → slice_get (stood t) place ≡ Some line → Held first place line) →
      (k : ℕ) (look : ItemLook) → length t.work + k < n → slice_get t.looks.items k ≡ Some look → is_found s t look ≡ true
  held-found None all n held k look below there = All-at (λ (look : ItemLook). is_found s t look ≡ true) t.looks.items k look all there
  held-found (Some first) is n held k look below there = by (cases_order k first) where
    by : ((k ≡ first) ⊎ ((k < first) ⊎ (first < k))) → is_found s t look ≡ true
    by (inl same) = absurd (missed-unheld first k (sym same) (item_look_stood look) (held (length t.work + k) (item_look_stood look) below (item-row t k look there)))
    by (inr (inl lower)) = is.none_before k look lower there
    by (inr (inr above)) =
        absurd (missed-unheld first first refl (item_look_stood is.look) (held (length t.work + first) (item_look_stood is.look) (omega arith) (item-row t first is.look is.there)))

  -- a held look fits
  held-fits : (first : Option ℕ) → FirstMissed s t first → (n : ℕ) → ((place : ℕ) (line : Stood) → place < n → slice_get (stood t) place ≡ Some line → Held first place line) →
      (place : ℕ) (line : Stood) → place < n → slice_get (stood t) place ≡ Some line → is_look line.spot ≡ true → LookFits s t line
  held-fits first is n held place line below there look = by line.spot refl where
    fits : is_in_order (all_orders t.logs) line ≡ true → IsRight (machines_of s) (trace_shown t) line.spot → LookFits s t line
    fits ordered right =
        let order = in-order s t placed (row s t form placed) (stepped s t form placed) line (place, there) ordered look in
        record { right = right; earlier = order.0; later = order.1 }

    by : (spot : Spot) → line.spot ≡ spot → LookFits s t line
    by (spots.LookItem item flags at) same =
        let its = row-item t line item flags at (place, there) same in
        let k = its.0 in
        let where_is : place ≡ length t.work + k =
        one-place s t form placed place (length t.work + k) line (item_look_stood its.1) there (item-row t k its.1 its.2) (ap (λ (l : Stood). l.player) its.3) (ap (λ (l : Stood). l.step) its.3) in
        let finds = held-found first is n held k its.1 (omega arith) its.2 in
        fits (subst (FitsAt t.signals (is_in_order (all_orders t.logs) line)) same (held place line below there).fit)
        (subst (IsRight (machines_of s) (trace_shown t)) (sym (ap (λ (l : Stood). l.spot) its.3)) (finds-right s t its.1 (item-is k its.1 its.2) finds))
    by (spots.LookSignal object seen) same =
        let fit = subst (FitsAt t.signals (is_in_order (all_orders t.logs) line)) same (held place line below there).fit in
        fits fit.0 (subst (IsRight (machines_of s) (trace_shown t)) (sym same) fit.1)
    by (spots.Work p) same = absurd (true≢false (sym look ∙ ap is_look same))
    by (spots.Clock p) same = absurd (true≢false (sym look ∙ ap is_look same))
    by (spots.Table p) same = absurd (true≢false (sym look ∙ ap is_look same))
    by (spots.Sem o p) same = absurd (true≢false (sym look ∙ ap is_look same))
    by (spots.Msgq o p) same = absurd (true≢false (sym look ∙ ap is_look same))
    by (spots.Signal o p) same = absurd (true≢false (sym look ∙ ap is_look same))
    by (spots.Chan o p) same = absurd (true≢false (sym look ∙ ap is_look same))
    by (spots.Obs o p) same = absurd (true≢false (sym look ∙ ap is_look same))

  -- a line is held where it is no look, or fits
  fits-held : (first : Option ℕ) → FirstMissed s t first → (place : ℕ) (line : Stood) → slice_get (stood t) place ≡ Some line → (is_look line.spot ≡ true → LookFits s t line) → Held first place line
  fits-held first is place line there fits = record { other = other first is; fit = fit line.spot refl } where
    ordered : (spot : Spot) → line.spot ≡ spot → is_look spot ≡ true → is_in_order (all_orders t.logs) line ≡ true
    ordered spot same look = order-in s t placed (row s t form placed) (stepped s t form placed) line (place, there) (fits (ap is_look same ∙ look))

    fit : (spot : Spot) → line.spot ≡ spot → FitsAt t.signals (is_in_order (all_orders t.logs) line) line.spot
    fit (spots.LookItem item flags at) same = subst (FitsAt t.signals (is_in_order (all_orders t.logs) line)) (sym same) (ordered (spots.LookItem item flags at) same refl)
    fit (spots.LookSignal object seen) same =
        subst (FitsAt t.signals (is_in_order (all_orders t.logs) line)) (sym same)
        (ordered (spots.LookSignal object seen) same refl, subst (IsRight (machines_of s) (trace_shown t)) same (fits (ap is_look same)).right)
    fit (spots.Work p) same = subst (FitsAt t.signals (is_in_order (all_orders t.logs) line)) (sym same) tt
    fit (spots.Clock p) same = subst (FitsAt t.signals (is_in_order (all_orders t.logs) line)) (sym same) tt
    fit (spots.Table p) same = subst (FitsAt t.signals (is_in_order (all_orders t.logs) line)) (sym same) tt
    fit (spots.Sem o p) same = subst (FitsAt t.signals (is_in_order (all_orders t.logs) line)) (sym same) tt
    fit (spots.Msgq o p) same = subst (FitsAt t.signals (is_in_order (all_orders t.logs) line)) (sym same) tt
    fit (spots.Signal o p) same = subst (FitsAt t.signals (is_in_order (all_orders t.logs) line)) (sym same) tt
    fit (spots.Chan o p) same = subst (FitsAt t.signals (is_in_order (all_orders t.logs) line)) (sym same) tt
    fit (spots.Obs o p) same = subst (FitsAt t.signals (is_in_order (all_orders t.logs) line)) (sym same) tt

    other : (first : Option ℕ) → FirstMissed s t first → missed_row first ≡ Some place → ⊥
    other None is same = none-some place same
    other (Some first) is same =
        let at : length t.work + first ≡ place = same_Some (length t.work + first) place same in
        let one : item_look_stood is.look ≡ line = same_Some (item_look_stood is.look) line (sym (item-row t first is.look is.there) ∙ ap (slice_get (stood t)) at ∙ there) in
        let spot : (item_look_stood is.look).spot ≡ line.spot = ap (λ (l : Stood). l.spot) one in
        let right = subst (IsRight (machines_of s) (trace_shown t)) (sym spot) (fits (sym (ap is_look spot))).right in
        true≢false (sym (right-finds s t is.look (item-is first is.look is.there) right) ∙ is.missed)

  -- where each line is held the looks are right
  pub held-right : (first : Option ℕ) → FirstMissed s t first → AreHeld t.signals (all_orders t.logs) (missed_row first) (stood t) → AreRight s t
  held-right first is held =
      fitting-right s t form placed (λ line at look.
      held-fits first is (length (stood t)) (λ place line below there. held place line there) at.0 line (slice_get_within (stood t) at.0 line at.1) at.1 look)

  -- and the first line that isn't is that of the first wrong look
  pub unheld-first : (first : Option ℕ) → FirstMissed s t first → (place : ℕ) → IsFirstUnheld t.signals (all_orders t.logs) (missed_row first) (stood t) place → IsFirst (IsWrong s t) place
  unheld-first first is place unheld = record {
    fails = record {
      line = unheld.line;
      there = unheld.there;
      look = true_from_ne_false (is_look unheld.line.spot) (λ none. unheld.unheld (fits-held first is place unheld.line unheld.there (λ look. absurd (true≢false (sym look ∙ none)))));
      wrong = λ fits. unheld.unheld (fits-held first is place unheld.line unheld.there (λ look. fits));
    };
    none_before = λ earlier below wrong.
        wrong.wrong (held-fits first is place (λ place line lower there. unheld.none_before place line lower there) earlier wrong.line below wrong.there wrong.look);
  }

  -- The steps of a log are within what the tables have.

  shown-within : AreShort (trace_shown t) → (spot : Spot) (number step : ℕ) → shown_at (trace_shown t) spot ≡ Some (number, step) → IsWithin (length t.signals) spot
  shown-within short (spots.Work p) number step is =
      let e = one_part single.step_of (slice_get t.work p) (number, step) is in
      let within = slice_get_within t.work p e.0 e.1 in let few = short.work in omega arith
  shown-within short (spots.Signal o p) number step is =
      let e = one_part single.step_of (entry_at t.signals o p) (number, step) is in
      let at = entry-there t.signals o p e.0 e.1 in
      let few : length at.0 < most_entries = All-at (λ (h : List (Entry SignalOp SignalReply)). length h < most_entries) t.signals o at.0 short.signals at.1 in
      let within = slice_get_within at.0 p e.0 at.2 in
      (slice_get_within t.signals o at.0 at.1, omega arith)
  shown-within short (spots.Clock p) number step is = tt
  shown-within short (spots.Table p) number step is = tt
  shown-within short (spots.Sem o p) number step is = tt
  shown-within short (spots.Msgq o p) number step is = tt
  shown-within short (spots.Chan o p) number step is = tt
  shown-within short (spots.Obs o p) number step is = tt
  shown-within short (spots.LookItem item flags at) number step is = tt
  shown-within short (spots.LookSignal object seen) number step is = absurd (none-some (number, step) is)

  lines-within : AreShort (trace_shown t) → AllByRecursion (λ l. IsWithin (length t.signals) l.spot) (stood t)
  lines-within short =
      stood-each t (λ l. IsWithin (length t.signals) l.spot) (shown-within short)
      (each-of (λ (l : ItemLook). IsWithin (length t.signals) (item_look_stood l).spot) (λ l. tt) t.looks.items)
      (λ o within. each-of (λ (l : SignalLook). IsWithin (length t.signals) (signal_look_stood o l).spot) (λ l. within) (looks_at t.looks.signals o))

  pub steps-within : AreShort (trace_shown t) → All (λ log. All (IsWithin (length t.signals)) log.steps) t.logs
  steps-within short = λ n d within k e below.
      let log = get_or t.logs n d in
      let spot = get_or log.steps k e in
      each-in (λ l. IsWithin (length t.signals) l.spot) (stood t) (line_at n k spot) (lines-within short)
      (row s t form placed n k log spot (slice_get-get_or t.logs n d within) (slice_get-get_or log.steps k e below))

  -- the row of a look that missed what was there is one of the rows, which are few
  pub missed-below : IsValid s → (first : Option ℕ) → FirstMissed s t first → IfSome first (λ place. length t.work + place < 2 ^ 64)
  missed-below valid None is = tt
  missed-below valid (Some place) is =
      let within = slice_get_within (stood t) (length t.work + place) (item_look_stood is.look) (item-row t place is.look is.there) in
      let few = rows-short s t form placed valid in
      omega arith
