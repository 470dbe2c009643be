-- How often an alarm is there, and that the clock's engine stands for a clock.
use Rattle.std.proofs.Common.{◌≡◌, ◌≢◌, ℕ, ◌+◌, ◌-◌, ◌^◌, ◌<◌, ◌≤◌, ◌⊎◌, inl, inr, Bool, true, false, ◌&&◌, ◌||◌, cond, eqb, ltb, leb, Option, Some, None, is_some, List, [], ◌∷◌, refl, sym, ap, subst, ◌∙◌, arith}
use Rattle.std.specs.List.{list_any, position, count_by}
use Rattle.std.specs.Option.{unwrap_or}
use Rattle.std.proofs.lemmas.Bool.{cases_eq, eqb-true, eq-eqb, ne_eqb, lt-ltb, and_parts}
use Rattle.std.proofs.lemmas.List.Sums.{sum_by-cons}
use Rattle.zk_base.specs.declared.ids.Who.{Who}
use Rattle.zk_base.specs.Lists.{without_first}
use Rattle.zk_base.proofs.Firsts.{find-none, any-find, length-without, count-none, counted-any}
use Rattle.zk_model_wait.specs.declared.clock.Alarm.{Alarm}
use Rattle.zk_model_wait.specs.declared.clock.ClockOp.TheVariants as ops
use Rattle.zk_model_wait.specs.Clock.{Clock, is_alarm, has_alarm, is_due, clock_next}
use Rattle.zk_base.specs.Limits.{most_entries}
use Rattle.zk_model_wait.specs.Clock.{IsTimely}
use Rattle.zk_time.specs.declared.clock_engine.ClockEngine.{ClockEngine}
use Rattle.zk_time.specs.Alarms.{key_of, how_often, one_at, IsOneMore, StandsFor}

-- what has no place among some is there no time
pub none-few : (player moment : ℕ) (few : List Alarm) → position (is_alarm player moment) few ≡ None →
    count_by (is_alarm player moment) few ≡ 0
none-few player moment few none =
    count-none (is_alarm player moment) few
    (any-find (is_alarm player moment) few ∙ ap is_some (find-none (is_alarm player moment) few none))

-- an alarm of this player and moment is counted for these alone
pub one-of : (player moment p m : ℕ) (a : Alarm) → is_alarm player moment a ≡ true →
    cond (is_alarm p m a) 1 0 ≡ one_at player moment p m
one-of player moment p m a is =
    let parts = and_parts (eqb a.player player) (eqb a.moment moment) is in
    ap (λ n. cond (eqb n p && eqb a.moment m) 1 0) (eqb-true a.player player parts.0)
    ∙ ap (λ n. cond (eqb player p && eqb n m) 1 0) (eqb-true a.moment moment parts.1)

-- the numbers of two alarms differ
apart : (player moment p m : ℕ) → moment < 2 ^ 64 → m < 2 ^ 64 → key_of player moment ≡ key_of p m → (player ≡ p) × (moment ≡ m)
apart player moment p m short small same = (omega arith, omega arith)

-- 1 where it is so
abbrev pick : Bool → ℕ
pick b = cond b 1 0

-- one alarm less of those of which it is kept how often each is there
pub one-less : (f g : ℕ → Option ℕ) (player moment often : ℕ) → moment < 2 ^ 64 →
    often ≡ unwrap_or (f (key_of player moment)) 0 → 1 ≤ often →
    ((q : ℕ) → g q ≡ cond (eqb (key_of player moment) q) (Some (often - 1)) (f q)) → (p m : ℕ) → m < 2 ^ 64 →
    unwrap_or (f (key_of p m)) 0 ≡ unwrap_or (g (key_of p m)) 0 + one_at player moment p m
one-less f g player moment often short is some updates p m small = by (cases_eq player p) (cases_eq moment m) where
  other : key_of player moment ≢ key_of p m → unwrap_or (g (key_of p m)) 0 ≡ unwrap_or (f (key_of p m)) 0
  other differ = ap (λ (o : Option ℕ). unwrap_or o 0) (updates (key_of p m)
      ∙ ap (λ b. cond b (Some (often - 1)) (f (key_of p m))) (ne_eqb (key_of player moment) (key_of p m) differ))

  none : (b c : Bool) → (b && c) ≡ false → pick (b && c) ≡ 0
  none b c is = ap pick is

  right : (b : Bool) → (b && false) ≡ false
  right true = refl
  right false = refl

  by : (player ≡ p) ⊎ (player ≡ p → ⊥) → (moment ≡ m) ⊎ (moment ≡ m → ⊥) →
      unwrap_or (f (key_of p m)) 0 ≡ unwrap_or (g (key_of p m)) 0 + one_at player moment p m
  by (inl of) (inl at) =
      let same : key_of player moment ≡ key_of p m = ap (λ n. key_of n moment) of ∙ ap (key_of p) at in
      let now = ap (λ (o : Option ℕ). unwrap_or o 0) (updates (key_of p m)
      ∙ ap (λ b. cond b (Some (often - 1)) (f (key_of p m))) (eq-eqb (key_of player moment) (key_of p m) same)) in
      let before = is ∙ ap (λ q. unwrap_or (f q) 0) same in
      let one : one_at player moment p m ≡ 1 = ap (λ b. pick (b && eqb moment m)) (eq-eqb player p of) ∙ ap pick (eq-eqb moment m at) in
      omega arith
  by (inl of) (inr differ) =
      let same = other (λ is. differ (apart player moment p m short small is).1) in
      let zero_one : one_at player moment p m ≡ 0 = none (eqb player p) (eqb moment m) (ap (λ b. eqb player p && b) (ne_eqb moment m differ) ∙ right (eqb player p)) in
      omega arith
  by (inr differ) at =
      let same = other (λ is. differ (apart player moment p m short small is).0) in
      let zero_one : one_at player moment p m ≡ 0 = none (eqb player p) (eqb moment m) (ap (λ b. b && eqb moment m) (ne_eqb player p differ)) in
      omega arith

-- whether an alarm is due
pub due-same : (e : ClockEngine) (c : Clock) (player moment : ℕ) → StandsFor e c → moment < 2 ^ 64 →
    (leb moment e.time && ltb 0 (how_often e.alarms player moment)) ≡ is_due c.time c.alarms player moment
due-same e c player moment st small =
    ap (λ t. leb moment t && ltb 0 (how_often e.alarms player moment)) st.time
    ∙ ap (λ n. leb moment c.time && ltb 0 n) (st.often player moment small)
    ∙ ap (λ b. leb moment c.time && b) (by (has_alarm c.alarms player moment) refl) where
      by : (b : Bool) → has_alarm c.alarms player moment ≡ b → ltb 0 (count_by (is_alarm player moment) c.alarms) ≡ has_alarm c.alarms player moment
      by true is = lt-ltb 0 (count_by (is_alarm player moment) c.alarms) (counted-any (is_alarm player moment) c.alarms is) ∙ sym is
      by false is = ap (ltb 0) (count-none (is_alarm player moment) c.alarms is) ∙ sym is

-- an entry more, at which no time passes
later : (time entries : ℕ) → IsTimely time entries → entries < most_entries → IsTimely time (entries + 1)
later time entries timely few =
    let short = timely.short in record { few = omega arith; short = omega arith }

-- an alarm ends
pub end-stands : (e after : ClockEngine) (c : Clock) (who : Who) (moment : ℕ) → StandsFor e c → e.entries < most_entries → moment < 2 ^ 64 →
    after.time ≡ e.time → after.entries ≡ e.entries + 1 → IsOneMore who.number moment after.alarms e.alarms →
    after.alarms.count + 1 ≡ e.alarms.count → has_alarm c.alarms who.number moment ≡ true →
    StandsFor after (clock_next c who (ops.AlarmEnd moment))
end-stands e after c who moment st few short time entries more count has =
    let before = st.count in
    let entries_before = st.entries in
    let less = length-without (is_alarm who.number moment) c.alarms has in
    let fewer = st.fewer in
    record {
      time = time ∙ st.time;
      entries = omega arith;
      timely = subst (λ t. IsTimely t after.entries) (sym time)
          (subst (IsTimely e.time) (sym entries) (later e.time e.entries st.timely few));
      fewer = omega arith;
      count = omega arith;
      often = λ p m small.
          let now = more p m small in
          let was = st.often p m small in
          let out = without p m c.alarms has in
          omega arith;
    } where
      without : (p m : ℕ) (rest : List Alarm) → list_any (is_alarm who.number moment) rest ≡ true →
          count_by (is_alarm p m) (without_first (is_alarm who.number moment) rest) + one_at who.number moment p m
          ≡ count_by (is_alarm p m) rest
      without p m [] has = absurd (cc)
      without p m (a ∷ rest) has = by (is_alarm who.number moment a) refl has (without p m rest) where
        by : (b : Bool) → is_alarm who.number moment a ≡ b → (b || list_any (is_alarm who.number moment) rest) ≡ true →
            (list_any (is_alarm who.number moment) rest ≡ true →
            count_by (is_alarm p m) (without_first (is_alarm who.number moment) rest) + one_at who.number moment p m
            ≡ count_by (is_alarm p m) rest) →
            count_by (is_alarm p m) (cond b rest (a ∷ without_first (is_alarm who.number moment) rest)) + one_at who.number moment p m
            ≡ count_by (is_alarm p m) (a ∷ rest)
        by true is has further =
            let one = one-of who.number moment p m a is in
            let cons = sum_by-cons (λ (a : Alarm). cond (is_alarm p m a) 1 0) a rest in
            omega arith
        by false is has further =
            let later = further has in
            let cons = sum_by-cons (λ (a : Alarm). cond (is_alarm p m a) 1 0) a rest in
            let cons_without = sum_by-cons (λ (a : Alarm). cond (is_alarm p m a) 1 0) a
            (without_first (is_alarm who.number moment) rest) in
            omega arith
