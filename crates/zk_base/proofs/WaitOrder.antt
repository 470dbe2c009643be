-- Who waits stands in the order in which they are served.
use Rattle.std.proofs.Common.{◌≡◌, ℕ, ◌+◌, ◌<◌, ◌⊎◌, inl, inr, Bool, true, false, not, ltb, cond, ◌&&◌, ◌||◌, ℤ, Option, Some, None, List, [], ◌∷◌, All, refl, sym, ap, subst, ◌∙◌, arith}
use Rattle.std.specs.List.{Contains, filter}
use Rattle.std.specs.Prelude.{int_lt}
use Rattle.std.proofs.lemmas.Bool.Decides.{nat_tests}
use Rattle.std.proofs.lemmas.Int.{ints}
use Rattle.std.proofs.lemmas.List.Elements.{All-nil, All-cons, All-head, All-tail, All-weaker, All-contains, All-contains_itself, All-filter, filter_passes}
use Rattle.zk_base.specs.declared.ids.Who.{Who}
use Rattle.zk_base.specs.declared.ids.Entry.{Entry}
use Rattle.zk_base.specs.declared.waits.Waiter.{Waiter}
use Rattle.zk_base.specs.declared.waits.Decision.{Decision}
use Rattle.zk_base.specs.Legal.{Machine, state_after, Replays}
use Rattle.zk_base.specs.Lists.{put_before, without_first}
use Rattle.zk_base.specs.Waits.{Waits, is_served_after, is_waiter, decides_first, is_left}
use Rattle.zk_base.specs.WaitLaws.{Decides, nobody, first, all, each, passes_over, WaitKind, after_decision, after_entry, HasWaits, IsFirst, is_before, NoneOvertakes}
use Rattle.zk_base.proofs.Histories.{state_after-snoc, Replays-front, Replays-rest}
use Rattle.zk_base.proofs.WaitsHold.{All-put_before, All-without}

-- of numbers
outranks : (a b c : ℤ) → int_lt a b ≡ true → int_lt c b ≡ false → int_lt a c ≡ true
outranks a b c low not_low = grind (arith, ints)

before-rank : (a b : ℤ) (j k : ℕ) → (int_lt a b || not (int_lt b a) && ltb j k) ≡ true → int_lt b a ≡ false
before-rank a b j k is = grind (arith, ints, nat_tests)

before-lower : (a b : ℤ) (j k : ℕ) → int_lt a b ≡ true → (int_lt a b || not (int_lt b a) && ltb j k) ≡ true
before-lower a b j k is = ap (λ (x : Bool). x || not (int_lt b a) && ltb j k) is

before-longer : (a b : ℤ) (j k : ℕ) → int_lt b a ≡ false → j < k → (int_lt a b || not (int_lt b a) && ltb j k) ≡ true
before-longer a b j k is less = grind (arith, ints, nat_tests)

or-second : (a b : Bool) → b ≡ true → (a || b) ≡ true
or-second true b is = refl
or-second false b is = is

module _ {M : Type 0} where
  -- each is served before those behind it
  abbrev InOrder : List (Waiter M) → Type 0
  InOrder [] = Unit {0}
  InOrder (w ∷ ws) = All (λ (v : Waiter M). is_before w v ≡ true) ws × InOrder ws

  -- in order, and all began to wait before this place
  abbrev pub AreQueued : ℕ → List (Waiter M) → Type 0
  AreQueued next ws = InOrder ws × All (λ (w : Waiter M). w.place < next) ws

  -- whoever is served after another is served after all who are served before that one
  behind-all : (new y : Waiter M) (ys : List (Waiter M)) → int_lt new.who.prio y.who.prio ≡ true →
      All (λ (v : Waiter M). is_before y v ≡ true) ys → All (λ (v : Waiter M). is_before new v ≡ true) ys
  behind-all new y ys low behind =
      All-weaker (λ (v : Waiter M). is_before y v ≡ true) (λ (v : Waiter M). is_before new v ≡ true)
      (λ v is. before-lower new.who.prio v.who.prio new.place v.place
      (outranks new.who.prio y.who.prio v.who.prio low (before-rank y.who.prio v.who.prio y.place v.place is))) ys behind

  put-in-order : (new : Waiter M) (ws : List (Waiter M)) → InOrder ws → All (λ (w : Waiter M). w.place < new.place) ws →
      InOrder (put_before (is_served_after new) new ws)
  put-in-order new [] order older = (All-nil (λ (v : Waiter M). is_before new v ≡ true), tt)
  put-in-order new (y ∷ ys) order older =
      by (int_lt new.who.prio y.who.prio) refl
      (put-in-order new ys order.1 (All-tail (λ (w : Waiter M). w.place < new.place) y ys older)) where
        older_here : y.place < new.place
        older_here = All-head (λ (w : Waiter M). w.place < new.place) y ys older

        by : (b : Bool) → int_lt new.who.prio y.who.prio ≡ b → InOrder (put_before (is_served_after new) new ys) →
            InOrder (cond b (new ∷ y ∷ ys) (y ∷ put_before (is_served_after new) new ys))
        by true low rest =
            let P : Waiter M → Type 0 = λ (v : Waiter M). is_before new v ≡ true in (
              All-cons P y ys (before-lower new.who.prio y.who.prio new.place y.place low)
                  (behind-all new y ys low order.0),
              order,
            )
        by false high rest =
            let P : Waiter M → Type 0 = λ (v : Waiter M). is_before y v ≡ true in (
              All-put_before P (is_served_after new) new ys
                  (before-longer y.who.prio new.who.prio y.place new.place high older_here) order.0,
              rest,
            )

  without-in-order : (p : Waiter M → Bool) (ws : List (Waiter M)) → InOrder ws → InOrder (without_first p ws)
  without-in-order p [] order = tt
  without-in-order p (w ∷ ws) order = by (p w) (without-in-order p ws order.1) where
    by : (b : Bool) → InOrder (without_first p ws) → InOrder (cond b ws (w ∷ without_first p ws))
    by true rest = order.1
    by false rest = (All-without (λ (v : Waiter M). is_before w v ≡ true) p ws order.0, rest)

  filter-in-order : (p : Waiter M → Bool) (ws : List (Waiter M)) → InOrder ws → InOrder (filter p ws)
  filter-in-order p [] order = tt
  filter-in-order p (w ∷ ws) order = by (p w) (filter-in-order p ws order.1) where
    by : (b : Bool) → InOrder (filter p ws) → InOrder (cond b (w ∷ filter p ws) (filter p ws))
    by true rest = (All-filter p (λ (v : Waiter M). is_before w v ≡ true) ws order.0, rest)
    by false rest = rest

  later : (n : ℕ) (ws : List (Waiter M)) → All (λ (w : Waiter M). w.place < n) ws → All (λ (w : Waiter M). w.place < n + 1) ws
  later n ws older = All-weaker (λ (w : Waiter M). w.place < n) (λ (w : Waiter M). w.place < n + 1)
      (λ w less. omega arith) ws older

  -- one of a list is its first, or one of the rest
  first-or-rest : (w x : Waiter M) (ws : List (Waiter M)) → Contains (w ∷ ws) x → (w ≡ x) ⊎ Contains ws x
  first-or-rest w x ws held =
      let P : Waiter M → Type 0 = λ y. (w ≡ y) ⊎ Contains ws y in
      All-contains P (w ∷ ws) x
      (All-cons P w ws (inl refl) (All-weaker (Contains ws) P (λ y there. inr there) ws (All-contains_itself ws))) held

  All-from-put : (P : Waiter M → Type 0) (p : Waiter M → Bool) (x : Waiter M) (ws : List (Waiter M)) →
      All P (put_before p x ws) → All P ws
  All-from-put P p x [] held = All-nil P
  All-from-put P p x (y ∷ ys) held = by (p y) (All-from-put P p x ys) held where
    by : (b : Bool) → (All P (put_before p x ys) → All P ys) → All P (cond b (x ∷ y ∷ ys) (y ∷ put_before p x ys)) →
        All P (y ∷ ys)
    by true rest held = All-tail P x (y ∷ ys) held
    by false rest held = All-cons P y ys (All-head P y (put_before p x ys) held) (rest (All-tail P y (put_before p x ys) held))

  still-there : (p : Waiter M → Bool) (x w : Waiter M) (ws : List (Waiter M)) → Contains ws w → Contains (put_before p x ws) w
  still-there p x w ws held =
      let l = put_before p x ws in
      All-contains (Contains l) ws w (All-from-put (Contains l) p x ws (All-contains_itself l)) held

module _ {S O R M : Type 0} (m : Machine S O R) (k : WaitKind S O R M) (has : HasWaits m k) where
  queued-first : (next : ℕ) (answer : R) (waiting : List (Waiter M)) (decided : List (Decision R)) →
      AreQueued next waiting → AreQueued (next + 1) (decides_first answer waiting decided).waiting
  queued-first next answer [] decided are = (tt, All-nil (λ (w : Waiter M). w.place < next + 1))
  queued-first next answer (w ∷ ws) decided are =
      (are.0.1, later next ws (All-tail (λ (w : Waiter M). w.place < next) w ws are.1))

  queued-decision : (next : ℕ) (decides : Decides R M) (ws : Waits M R) → AreQueued next ws.waiting →
      AreQueued (next + 1) (after_decision decides ws).waiting
  queued-decision next nobody ws are = (are.0, later next ws.waiting are.1)
  queued-decision next (first answer) ws are = queued-first next answer ws.waiting ws.decided are
  queued-decision next (all answer) ws are = (tt, All-nil (λ (w : Waiter M). w.place < next + 1))
  queued-decision next (each test) ws are = (
    filter-in-order (is_left test) ws.waiting are.0,
    All-filter (is_left test) (λ (w : Waiter M). w.place < next + 1) ws.waiting (later next ws.waiting are.1),
  )

  queued-entry : (ws : Waits M R) (next : ℕ) (who : Who) (decides : Decides R M) (opens : Option M) (ends quits : Option ℕ)
      → AreQueued next ws.waiting → AreQueued (next + 1) (after_entry ws next who decides opens ends quits).waiting
  queued-entry ws next who decides (Some payload) ends quits are =
      let new : Waiter M = record { place = next; who = who; payload = payload } in
      let P : Waiter M → Type 0 = λ (w : Waiter M). w.place < next + 1 in (
        put-in-order new ws.waiting are.0 are.1,
        All-put_before P (is_served_after new) new ws.waiting (omega arith)
            (later next ws.waiting are.1),
      )
  queued-entry ws next who decides None (Some at) quits are = (are.0, later next ws.waiting are.1)
  queued-entry ws next who decides None None (Some at) are = (
    without-in-order (is_waiter who.number at) ws.waiting are.0,
    All-without (λ (w : Waiter M). w.place < next + 1) (is_waiter who.number at) ws.waiting (later next ws.waiting are.1),
  )
  queued-entry ws next who decides None None None are = queued-decision next decides ws are

  queued-all : (s : S) (h : List (Entry O R)) → Replays m s h → AreQueued (k.entries s) (k.waits s).waiting →
      AreQueued (k.entries (state_after m s h)) (k.waits (state_after m s h)).waiting
  queued-all s [] replays are = are
  queued-all s (e ∷ es) replays are =
      let here = queued-entry (k.waits s) (k.entries s) e.who (k.decides s e.op e.reply) (k.opens e.op e.reply)
      (k.ends e.op) (k.quits e.op) are in
      let moved = subst (λ (ws : Waits M R). AreQueued (k.entries s + 1) ws.waiting)
      (sym (has.moves s e.who e.op e.reply replays.0)) here in
      let counted = subst (λ (n : ℕ). AreQueued n (k.waits (m.next s e.who e.op)).waiting) (sym (has.counts s e.who e.op))
      moved in
      queued-all (m.next s e.who e.op) es replays.1 counted

  -- who is taken out by a decision comes before those who stay
  out-first : (answer : R) (waiting : List (Waiter M)) (decided : List (Decision R)) (w v : Waiter M) → InOrder waiting →
      Contains waiting w → (Contains (decides_first answer waiting decided).waiting w → ⊥) →
      Contains (decides_first answer waiting decided).waiting v → is_before w v ≡ true
  out-first answer [] decided w v order was out is = absurd (out was)
  out-first answer (x ∷ ws) decided w v order was out is = by (first-or-rest x w ws was) where
    by : (x ≡ w) ⊎ Contains ws w → is_before w v ≡ true
    by (inl same) = subst (λ (y : Waiter M). is_before y v ≡ true) same
        (All-contains (λ (v : Waiter M). is_before x v ≡ true) ws v order.0 is)
    by (inr there) = absurd (out there)

  none-in : (w : Waiter M) → Contains [] w → ⊥
  none-in w held = All-contains (λ (x : Waiter M). ⊥) [] w (All-nil (λ (x : Waiter M). ⊥)) held

  out-decided : (decides : Decides R M) (ws : Waits M R) (w v : Waiter M) → InOrder ws.waiting → Contains ws.waiting w →
      (Contains (after_decision decides ws).waiting w → ⊥) →
      Contains (after_decision decides ws).waiting v → (is_before w v || passes_over decides v.payload) ≡ true
  out-decided nobody ws w v order was out is = absurd (out was)
  out-decided (first answer) ws w v order was out is =
      ap (λ (b : Bool). b || false) (out-first answer ws.waiting ws.decided w v order was out is)
  out-decided (all answer) ws w v order was out is = absurd (none-in v is)
  out-decided (each test) ws w v order was out is =
      or-second (is_before w v) (is_left test v)
      (All-contains (λ (x : Waiter M). is_left test x ≡ true) (filter (is_left test) ws.waiting) v
      (filter_passes (is_left test) ws.waiting) is)

  out-entry : (ws : Waits M R) (next : ℕ) (who : Who) (decides : Decides R M) (opens : Option M) (ends quits : Option ℕ)
      (w v : Waiter M) → quits ≡ None → InOrder ws.waiting → Contains ws.waiting w →
      (Contains (after_entry ws next who decides opens ends quits).waiting w → ⊥) →
      Contains (after_entry ws next who decides opens ends quits).waiting v →
      (is_before w v || passes_over decides v.payload) ≡ true
  out-entry ws next who decides (Some payload) ends quits w v none order was out is =
      let new : Waiter M = record { place = next; who = who; payload = payload } in
      absurd (out (still-there (is_served_after new) new w ws.waiting was))
  out-entry ws next who decides None (Some at) quits w v none order was out is = absurd (out was)
  out-entry ws next who decides None None (Some at) w v none order was out is = absurd (cc)
  out-entry ws next who decides None None None w v none order was out is = out-decided decides ws w v order was out is

  pub none_overtakes : (s : S) (h : List (Entry O R)) → IsFirst k s → Replays m s h → NoneOvertakes m k s h
  none_overtakes s h start replays front e w v at keeps was out is =
      let before = state_after m s front in
      let parts = subst (Replays m s) at.whole replays in
      let answered = (Replays-rest m s front (e ∷ at.rest) parts).0 in
      let empty : AreQueued (k.entries s) (k.waits s).waiting =
      subst (λ (ws : Waits M R). AreQueued (k.entries s) ws.waiting) (sym start.none)
      (tt, All-nil (λ (w : Waiter M). w.place < k.entries s)) in
      let order = (queued-all s front (Replays-front m s front (e ∷ at.rest) parts) empty).0 in
      let same = ap k.waits (state_after-snoc m s front e) ∙ has.moves before e.who e.op e.reply answered in
      out-entry (k.waits before) (k.entries before) e.who (k.decides before e.op e.reply) (k.opens e.op e.reply)
      (k.ends e.op) (k.quits e.op) w v keeps order was
      (λ stays. out (subst (λ (ws : Waits M R). Contains ws.waiting w) (sym same) stays))
      (subst (λ (ws : Waits M R). Contains ws.waiting v) same is)
