-- Where each look among the lines of a trace fits, its players' looks are right, and the other way round: by the steps of logs, each of
-- which has its line.
use Rattle.std.proofs.Common.{◌≡◌, ◌⊎◌, ℕ, zero, suc, ◌+◌, ◌-◌, ◌<◌, ◌≤◌, Bool, true, false, ◌&&◌, cond, eqb, Option, Some, None, List, [], ◌∷◌, length, take, drop, refl, sym, ap, subst, ◌∙◌, inl, inr, arith}
use Rattle.std.specs.List.{slice_get}
use Rattle.std.specs.Option.{option_map, option_map_or, option_and_then}
use Rattle.std.proofs.lemmas.Bool.{cases_Bool, cases_lt, cases_eq, true≢false, cond-true, cond-false, and_parts, and_from, eqb-true}
use Rattle.std.proofs.lemmas.Option.{same_Some, none-some, slice_get-map}
use Rattle.zk_base.specs.declared.ids.Entry.{Entry}
use Rattle.zk_base.specs.declared.seen.Seen.{Seen}
use Rattle.zk_base.specs.History.{Rises}
use Rattle.zk_base.proofs.Lists.{All-at}
use Rattle.zk_line.proofs.Options.{one_part}
use Rattle.zk_model_wait.specs.declared.signal.SignalOp.{SignalOp}
use Rattle.zk_model_wait.specs.declared.signal.SignalReply.{SignalReply}
use Rattle.zk_model_wait.specs.Signal.{value_at}
use Rattle.zk_scenario.specs.Content.{Content}
use Rattle.zk_worker.specs.declared.log.Log.{Log}
use Rattle.zk_worker.specs.declared.steps.Spot.{Spot}
use Rattle.zk_worker.specs.declared.steps.Spot.TheVariants as spots
use Rattle.zk_worker.specs.Families.{entry_at}
use Rattle.zk_worker.specs.Looks.{writes_of}
use Rattle.zk_worker.specs.Machines.{machines_of, flags_after}
use Rattle.zk_worker.specs.Right.{IsRight, work_front, stamp_at, NotOlder}
use Rattle.zk_worker.specs.Shown.{is_look}
use Rattle.zk_worker.specs.Single as single
use Rattle.zk_trace.specs.declared.stood.Stood.{Stood}
use Rattle.zk_trace.specs.declared.trace.Trace.{Trace}
use Rattle.zk_trace.specs.Look.{AreRight}
use Rattle.zk_trace.specs.Place.{IsPlaced}
use Rattle.zk_trace.specs.Shown.{trace_shown}
use Rattle.zk_trace.proofs.LinesOnce.{line_at}
use Rattle.zk_failures.specs.LookFailure.{is_write, IsRow, LookFits}
use Rattle.zk_failures.specs.LookOrder.{is_late, is_early, orders_of}
use Rattle.zk_failures.specs.LooksHeld.{all_orders, is_in_order}
use Rattle.zk_failures.proofs.LookOrders.{orders-at, late-keeps, keeps-late, early-writes, writes-early}

-- Elements of the front and of the back of a list.

pub taken-at : {A : Type 0} (n : ℕ) (xs : List A) (k : ℕ) (x : A) → k < n → slice_get xs k ≡ Some x → slice_get (take n xs) k ≡ Some x
taken-at n [] k x below there = absurd (none-some x there)
taken-at zero (y ∷ ys) k x below there = absurd (omega arith)
taken-at (suc n) (y ∷ ys) zero x below there = there
taken-at (suc n) (y ∷ ys) (suc k) x below there = taken-at n ys k x (omega arith) there

pub at-taken : {A : Type 0} (n : ℕ) (xs : List A) (k : ℕ) (x : A) → slice_get (take n xs) k ≡ Some x → (k < n) × (slice_get xs k ≡ Some x)
at-taken zero xs k x there = absurd (none-some x there)
at-taken (suc n) [] k x there = absurd (none-some x there)
at-taken (suc n) (y ∷ ys) zero x there = (omega arith, there)
at-taken (suc n) (y ∷ ys) (suc k) x there = let rest = at-taken n ys k x there in (let below = rest.0 in omega arith, rest.1)

pub dropped-at : {A : Type 0} (n : ℕ) (xs : List A) (k : ℕ) → slice_get (drop n xs) k ≡ slice_get xs (n + k)
dropped-at zero xs k = let same : k ≡ 0 + k = omega arith in ap (slice_get xs) same
dropped-at (suc n) [] k = refl
dropped-at (suc n) (y ∷ ys) k = dropped-at n ys k ∙ (let same : suc n + k ≡ suc (n + k) = omega arith in ap (slice_get (y ∷ ys)) (sym same))

-- The writes of one player to one signal.

-- of two entries of a player the one that stands first has the lower step
rises-apart : {O R : Type 0} (h : List (Entry O R)) (p q : ℕ) (e f : Entry O R) → Rises h → p < q → slice_get h p ≡ Some e → slice_get h q ≡ Some f → f.who.number ≡ e.who.number → e.step < f.step
rises-apart [] p q e f rises below first second same = absurd (none-some e first)
rises-apart (x ∷ xs) p zero e f rises below first second same = absurd (omega arith)
rises-apart {O = O} {R = R} (x ∷ xs) zero (suc q) e f rises below first second same =
    let is : x ≡ e = same_Some x e first in
    let later = All-at (λ (g : Entry O R). g.who.number ≡ x.who.number → x.step < g.step) xs q f rises.0 second in
    subst (λ (y : Entry O R). y.step < f.step) is (later (same ∙ ap (λ (y : Entry O R). y.who.number) (sym is)))
rises-apart (x ∷ xs) (suc p) (suc q) e f rises below first second same = rises-apart xs p q e f rises.1 (omega arith) first second same

-- an entry at an object's history
pub entry-there : {O R : Type 0} (hs : List (List (Entry O R))) (object place : ℕ) (e : Entry O R) → entry_at hs object place ≡ Some e →
    (h : List (Entry O R)) × (slice_get hs object ≡ Some h) × (slice_get h place ≡ Some e)
entry-there {O = O} {R = R} hs object place e there = by (slice_get hs object) refl there where
  by : (o : Option (List (Entry O R))) → slice_get hs object ≡ o → option_and_then (λ h. slice_get h place) o ≡ Some e →
      (h : List (Entry O R)) × (slice_get hs object ≡ Some h) × (slice_get h place ≡ Some e)
  by None is found = absurd (none-some e found)
  by (Some h) is found = (h, is, found)

module _ (s : Content) (t : Trace) (placed : IsPlaced s t) where
  -- of two writes of a player to a signal the later one has the higher place
  writes-rise : (number i j object p q : ℕ) (log : Log) → i < j → slice_get t.logs number ≡ Some log →
      slice_get log.steps i ≡ Some (spots.Signal object p) → slice_get log.steps j ≡ Some (spots.Signal object q) → p ≤ q
  writes-rise number i j object p q log below logged first second =
      let one = one_part single.step_of (entry_at t.signals object p) (number, i) (placed.stands number i (spots.Signal object p) log logged first refl) in
      let two = one_part single.step_of (entry_at t.signals object q) (number, j) (placed.stands number j (spots.Signal object q) log logged second refl) in
      let at_one = entry-there t.signals object p one.0 one.1 in
      let at_two = entry-there t.signals object q two.0 two.1 in
      let h = at_one.0 in
      let same : at_two.0 ≡ h = same_Some at_two.0 h (sym at_two.1 ∙ at_one.1) in
      let there = subst (λ (l : List (Entry SignalOp SignalReply)). slice_get l q ≡ Some two.0) same at_two.2 in
      let rises = All-at Rises t.signals object h placed.rises.signals at_one.1 in
      by h (cases_lt q p) one.0 two.0 rises at_one.2 there one.2 two.2
    where
      by : (h : List (Entry SignalOp SignalReply)) → ((q < p) ⊎ (p ≤ q)) → (e f : Entry SignalOp SignalReply) → Rises h → slice_get h p ≡ Some e → slice_get h q ≡ Some f →
          ◌≡◌ {A = ℕ × ℕ} (single.step_of e) (number, i) → ◌≡◌ {A = ℕ × ℕ} (single.step_of f) (number, j) → p ≤ q
      by h (inr more) e f rises at_p at_q is_e is_f = more
      by h (inl less) e f rises at_p at_q is_e is_f =
          let who : e.who.number ≡ f.who.number = ap (λ (b : ℕ × ℕ). b.0) is_e ∙ sym (ap (λ (b : ℕ × ℕ). b.0) is_f) in
          let fell = rises-apart h q p f e rises less at_q at_p who in
          let step_e : e.step ≡ i = ap (λ (b : ℕ × ℕ). b.1) is_e in
          let step_f : f.step ≡ j = ap (λ (b : ℕ × ℕ). b.1) is_f in
          absurd (omega arith)

  -- a write isn't older than an earlier write of its player
  write-later : (number i j object p : ℕ) (other : Spot) (log : Log) → i < j → slice_get t.logs number ≡ Some log →
      slice_get log.steps i ≡ Some other → slice_get log.steps j ≡ Some (spots.Signal object p) → is_look other ≡ false → stamp_at object other ≤ p + 1
  write-later number i j object p (spots.Signal at q) log below logged first second look = elim (cases_Bool (eqb at object)) [
    | inl is ↦
        let same : at ≡ object = eqb-true at object is in
        let up = writes-rise number i j object q p log below logged (first ∙ ap (λ (n : ℕ). Some (spots.Signal n q)) same) second in
        let value : cond (eqb at object) (q + 1) 0 ≡ q + 1 = cond-true (eqb at object) (q + 1) 0 is in omega arith
    | inr isnt ↦ let value : cond (eqb at object) (q + 1) 0 ≡ 0 = cond-false (eqb at object) (q + 1) 0 isnt in omega arith
  ]
  write-later number i j object p (spots.Work q) log below logged first second look = omega arith
  write-later number i j object p (spots.Clock q) log below logged first second look = omega arith
  write-later number i j object p (spots.Table q) log below logged first second look = omega arith
  write-later number i j object p (spots.Sem at q) log below logged first second look = omega arith
  write-later number i j object p (spots.Msgq at q) log below logged first second look = omega arith
  write-later number i j object p (spots.Chan at q) log below logged first second look = omega arith
  write-later number i j object p (spots.Obs at q) log below logged first second look = omega arith
  write-later number i j object p (spots.LookItem item flags at) log below logged first second look = omega arith
  write-later number i j object p (spots.LookSignal at seen) log below logged first second look = absurd (cc)

-- Lines and the steps of logs.

-- each look among the lines of a trace fits
abbrev pub AllFit : Content → Trace → Type 0
AllFit s t = (line : Stood) → IsRow t line → is_look line.spot ≡ true → LookFits s t line

-- what is right whatever it is, but for looks
right-else : (s : Content) (t : Trace) (spot : Spot) → is_look spot ≡ false → IsRight (machines_of s) (trace_shown t) spot
right-else s t (spots.Work p) look = tt
right-else s t (spots.Clock p) look = tt
right-else s t (spots.Table p) look = tt
right-else s t (spots.Sem o p) look = tt
right-else s t (spots.Msgq o p) look = tt
right-else s t (spots.Signal o p) look = tt
right-else s t (spots.Chan o p) look = tt
right-else s t (spots.Obs o p) look = tt
right-else s t (spots.LookItem item flags at) look = absurd (cc)
right-else s t (spots.LookSignal o seen) look = absurd (cc)

module _ (s : Content) (t : Trace) (placed : IsPlaced s t)
    (row : (player step : ℕ) (log : Log) (spot : Spot) → slice_get t.logs player ≡ Some log → slice_get log.steps step ≡ Some spot → IsRow t (line_at player step spot))
    (stepped : (line : Stood) → IsRow t line → (log : Log) × (slice_get t.logs line.player ≡ Some log) × (slice_get log.steps line.step ≡ Some line.spot)) where
  -- the step of another line of a player, in the log of the first
  step-in : (line other : Stood) (log : Log) → slice_get t.logs line.player ≡ Some log → IsRow t other → other.player ≡ line.player → slice_get log.steps other.step ≡ Some other.spot
  step-in line other log logged is same =
      let its = stepped other is in
      let one : its.0 ≡ log = same_Some its.0 log (sym its.1 ∙ ap (slice_get t.logs) same ∙ logged) in
      subst (λ (l : Log). slice_get l.steps other.step ≡ Some other.spot) one its.2

  -- a step that isn't older than an earlier one, where both are of one player
  not-older : AllFit s t → (number i j : ℕ) (a b : Spot) (log : Log) → i < j → slice_get t.logs number ≡ Some log → slice_get log.steps i ≡ Some a → slice_get log.steps j ≡ Some b → NotOlder a b
  not-older fit number i j a (spots.LookItem item flags at) log below logged first second =
      (fit (line_at number j (spots.LookItem item flags at)) (row number j log (spots.LookItem item flags at) logged second) refl).earlier
      (line_at number i a) (row number i log a logged first) refl below
  not-older fit number i j a (spots.LookSignal object seen) log below logged first second =
      (fit (line_at number j (spots.LookSignal object seen)) (row number j log (spots.LookSignal object seen) logged second) refl).earlier
      (line_at number i a) (row number i log a logged first) refl below
  not-older fit number i j a (spots.Signal object p) log below logged first second = elim (cases_Bool (is_look a)) [
    | inl look ↦ (fit (line_at number i a) (row number i log a logged first) look).later
        (line_at number j (spots.Signal object p)) (row number j log (spots.Signal object p) logged second) refl below refl
    | inr isnt ↦ write-later s t placed number i j object p a log below logged first second isnt
  ]
  not-older fit number i j a (spots.Work p) log below logged first second = tt
  not-older fit number i j a (spots.Clock p) log below logged first second = tt
  not-older fit number i j a (spots.Table p) log below logged first second = tt
  not-older fit number i j a (spots.Sem o p) log below logged first second = tt
  not-older fit number i j a (spots.Msgq o p) log below logged first second = tt
  not-older fit number i j a (spots.Chan o p) log below logged first second = tt
  not-older fit number i j a (spots.Obs o p) log below logged first second = tt

  -- where each look fits the looks are right
  pub right-all : AllFit s t → AreRight s t
  right-all fit = λ number log logged. record {
    each = λ step spot there. elim (cases_Bool (is_look spot)) [
      | inl look ↦ (fit (line_at number step spot) (row number step log spot logged there) look).right
      | inr isnt ↦ right-else s t spot isnt
    ];
    in_order = λ i j a b below first second. not-older fit number i j a b log below logged first second;
  }

  -- and where they are right each fits
  pub all-fit : AreRight s t → (line : Stood) → IsRow t line → LookFits s t line
  all-fit right line is =
      let its = stepped line is in
      let its_right = right line.player its.0 its.1 in
      record {
        right = its_right.each line.step line.spot its.2;
        earlier = λ other there same below. its_right.in_order other.step line.step other.spot line.spot below (step-in line other its.0 its.1 there same) its.2;
        later = λ other there same above write. its_right.in_order line.step other.step line.spot other.spot above its.2 (step-in line other its.0 its.1 there same);
      }

  -- The mark of a line's step.

  mark-at : (line : Stood) (log : Log) → slice_get t.logs line.player ≡ Some log → slice_get log.steps line.step ≡ Some line.spot →
      is_in_order (all_orders t.logs) line ≡ (is_late (take line.step log.steps) line.spot && is_early (drop (suc line.step) log.steps) line.spot)
  mark-at line log logged there =
      ap (λ (o : Option (List Bool)). option_map_or (λ (order : Bool). order) (option_and_then (λ (steps : List Bool). slice_get steps line.step) o) true)
      (slice_get-map (λ (l : Log). orders_of l.steps) t.logs line.player ∙ ap (option_map (λ (l : Log). orders_of l.steps)) logged)
      ∙ ap (λ (o : Option Bool). option_map_or (λ (order : Bool). order) o true) (orders-at [] log.steps line.step line.spot there)

  module _ (line : Stood) (is : IsRow t line) where
    -- where it says that the step stands in order, it does
    pub in-order : is_in_order (all_orders t.logs) line ≡ true → is_look line.spot ≡ true →
        ((other : Stood) → IsRow t other → other.player ≡ line.player → other.step < line.step → NotOlder other.spot line.spot)
        × ((other : Stood) → IsRow t other → other.player ≡ line.player → line.step < other.step → is_write other.spot ≡ true → NotOlder line.spot other.spot)
    in-order ordered look =
        let its = stepped line is in
        let steps = its.0.steps in
        let marks = and_parts (is_late (take line.step steps) line.spot) (is_early (drop (suc line.step) steps) line.spot) (sym (mark-at line its.0 its.1 its.2) ∙ ordered) in (
          λ other there same below.
              late-keeps (take line.step steps) line.spot other.step other.spot marks.0 look
              (taken-at line.step steps other.step other.spot below (step-in line other its.0 its.1 there same)),
          λ other there same above write.
              let behind : suc line.step + (other.step - suc line.step) ≡ other.step = omega arith in
              early-writes (drop (suc line.step) steps) line.spot (other.step - suc line.step) other.spot marks.1 look
              (dropped-at (suc line.step) steps (other.step - suc line.step) ∙ ap (slice_get steps) behind ∙ step-in line other its.0 its.1 there same) write,
        )

    -- and where it does it says so
    pub order-in : LookFits s t line → is_in_order (all_orders t.logs) line ≡ true
    order-in fits =
        let its = stepped line is in
        let steps = its.0.steps in
        mark-at line its.0 its.1 its.2
        ∙ and_from (is_late (take line.step steps) line.spot) (is_early (drop (suc line.step) steps) line.spot)
        (keeps-late (take line.step steps) line.spot (λ k other there.
        let front = at-taken line.step steps k other there in
        fits.earlier (line_at line.player k other) (row line.player k its.0 other its.1 front.1) refl front.0))
        (writes-early (drop (suc line.step) steps) line.spot (λ k other there write.
        let at = sym (dropped-at (suc line.step) steps k) ∙ there in
        fits.later (line_at line.player (suc line.step + k) other) (row line.player (suc line.step + k) its.0 other its.1 at) refl (omega arith) write))

-- A look fits where it can't be that it doesn't.

stable-le : (a b : ℕ) → ((a ≤ b → ⊥) → ⊥) → a ≤ b
stable-le a b never = by (cases_lt b a) where
  by : ((b < a) ⊎ (a ≤ b)) → a ≤ b
  by (inl above) = absurd (never (λ low. absurd (omega arith)))
  by (inr low) = low

stable-not_older : (a b : Spot) → ((NotOlder a b → ⊥) → ⊥) → NotOlder a b
stable-not_older a (spots.LookItem item flags at) never = stable-le (work_front a) at never
stable-not_older a (spots.LookSignal object seen) never = stable-le (stamp_at object a) seen.stamp never
stable-not_older a (spots.Signal object p) never = stable-le (stamp_at object a) (p + 1) never
stable-not_older a (spots.Work p) never = tt
stable-not_older a (spots.Clock p) never = tt
stable-not_older a (spots.Table p) never = tt
stable-not_older a (spots.Sem o p) never = tt
stable-not_older a (spots.Msgq o p) never = tt
stable-not_older a (spots.Chan o p) never = tt
stable-not_older a (spots.Obs o p) never = tt

stable-some : (o : Option ℕ) (n : ℕ) → ((o ≡ Some n → ⊥) → ⊥) → o ≡ Some n
stable-some None n never = absurd (never (λ is. none-some n is))
stable-some (Some m) n never = by (cases_eq m n) where
  by : ((m ≡ n) ⊎ (m ≡ n → ⊥)) → Some m ≡ Some n
  by (inl same) = ap Some same
  by (inr other) = absurd (never (λ is. other (same_Some m n is)))

stable-seen : (a b : Seen) → ((a ≡ b → ⊥) → ⊥) → a ≡ b
stable-seen a b never = by a.raised b.raised refl refl (cases_eq a.result b.result) (cases_eq a.stamp b.stamp) where
  all : a.raised ≡ b.raised → a.result ≡ b.result → a.stamp ≡ b.stamp → a ≡ b
  all raised result stamp =
      ap (λ (r : Bool). record { raised = r; result = a.result; stamp = a.stamp }) raised
      ∙ ap (λ (n : ℕ). record { raised = b.raised; result = n; stamp = a.stamp }) result
      ∙ ap (λ (n : ℕ). record { raised = b.raised; result = b.result; stamp = n }) stamp

  by : (r q : Bool) → a.raised ≡ r → b.raised ≡ q → ((a.result ≡ b.result) ⊎ (a.result ≡ b.result → ⊥)) → ((a.stamp ≡ b.stamp) ⊎ (a.stamp ≡ b.stamp → ⊥)) → a ≡ b
  by r q is_r is_q result (inr other) = absurd (never (λ is. other (ap (λ (x : Seen). x.stamp) is)))
  by r q is_r is_q (inr other) (inl stamp) = absurd (never (λ is. other (ap (λ (x : Seen). x.result) is)))
  by true true is_r is_q (inl result) (inl stamp) = all (is_r ∙ sym is_q) result stamp
  by false false is_r is_q (inl result) (inl stamp) = all (is_r ∙ sym is_q) result stamp
  by true false is_r is_q (inl result) (inl stamp) = absurd (never (λ is. true≢false (sym is_r ∙ ap (λ (x : Seen). x.raised) is ∙ is_q)))
  by false true is_r is_q (inl result) (inl stamp) = absurd (never (λ is. true≢false (sym is_q ∙ sym (ap (λ (x : Seen). x.raised) is) ∙ is_r)))

stable-right : (s : Content) (t : Trace) (spot : Spot) → ((IsRight (machines_of s) (trace_shown t) spot → ⊥) → ⊥) → IsRight (machines_of s) (trace_shown t) spot
stable-right s t (spots.LookItem object flags at) never = (
  stable-le at (length t.work) (λ no. never (λ is. no is.0)),
  stable-some (flags_after (machines_of s) (take at t.work) object) flags (λ no. never (λ is. no is.1)),
)
stable-right s t (spots.LookSignal object seen) never = by (slice_get t.signals object) refl where
  by : (o : Option (List (Entry SignalOp SignalReply))) → slice_get t.signals object ≡ o → IsRight (machines_of s) (trace_shown t) (spots.LookSignal object seen)
  by None is = absurd (never (λ right. none-some right.0 (sym is ∙ right.1)))
  by (Some h) is =
      let same : (right : IsRight (machines_of s) (trace_shown t) (spots.LookSignal object seen)) → right.0 ≡ h = λ right. same_Some right.0 h (sym right.1 ∙ is) in (
        h,
        is,
        stable-le seen.stamp (length h) (λ no. never (λ right. no (subst (λ (l : List (Entry SignalOp SignalReply)). seen.stamp ≤ length l) (same right) right.2))),
        stable-seen (value_at (writes_of h) seen.stamp) seen
            (λ no. never (λ right. no (subst (λ (l : List (Entry SignalOp SignalReply)). value_at (writes_of l) seen.stamp ≡ seen) (same right) right.3))),
      )
stable-right s t (spots.Work p) never = tt
stable-right s t (spots.Clock p) never = tt
stable-right s t (spots.Table p) never = tt
stable-right s t (spots.Sem o p) never = tt
stable-right s t (spots.Msgq o p) never = tt
stable-right s t (spots.Signal o p) never = tt
stable-right s t (spots.Chan o p) never = tt
stable-right s t (spots.Obs o p) never = tt

pub fits-stable : (s : Content) (t : Trace) (line : Stood) → ((LookFits s t line → ⊥) → ⊥) → LookFits s t line
fits-stable s t line never = record {
  right = stable-right s t line.spot (λ no. never (λ fits. no fits.right));
  earlier = λ other there same below. stable-not_older other.spot line.spot (λ no. never (λ fits. no (fits.earlier other there same below)));
  later = λ other there same above write. stable-not_older line.spot other.spot (λ no. never (λ fits. no (fits.later other there same above write)));
}
