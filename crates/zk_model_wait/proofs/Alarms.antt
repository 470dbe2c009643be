-- How many alarms were set, stand and have ended.
use Rattle.std.proofs.Common.{◌≡◌, ℕ, ◌+◌, Bool, true, false, ◌&&◌, eqb, leb, cond, List, [], ◌∷◌, Some, None, refl, sym, ap, subst, ◌∙◌, arith}
use Rattle.std.specs.Cmp.{first_so, second_so}
use Rattle.std.specs.List.{count_by}
use Rattle.std.proofs.lemmas.Bool.{leb-true, le-leb}
use Rattle.std.proofs.lemmas.Bool.Decides.{nat_tests}
use Rattle.std.proofs.lemmas.List.Sums.{sum_by-cons, sum_by_push}
use Rattle.std.proofs.lemmas.Option.{same_Some}
use Rattle.zk_base.specs.declared.ids.Who.{Who}
use Rattle.zk_base.specs.declared.ids.Entry.{Entry}
use Rattle.zk_base.specs.Legal.{state_after, Replays}
use Rattle.zk_base.proofs.Histories.{IsLegal-front}
use Rattle.zk_model_wait.specs.declared.clock.Alarm.{Alarm}
use Rattle.zk_model_wait.specs.declared.clock.ClockOp.{ClockOp}
use Rattle.zk_model_wait.specs.declared.clock.ClockOp.TheVariants as ops
use Rattle.zk_model_wait.specs.declared.clock.ClockReply.{ClockReply}
use Rattle.zk_model_wait.specs.declared.clock.ClockReply.TheVariants.{Now, At, Due}
use Rattle.zk_base.specs.Lists.{without_first}
use Rattle.zk_model_wait.specs.Clock.{Clock, new_clock, is_alarm, has_alarm, is_due, clock_reply, clock_next, clock_machine}
use Rattle.zk_model_wait.specs.ClockLaws.{ClockHistory, clock_after, is_at, is_end_of, sets, ends, IsClockHistory, OfEach, DueWhenItsMomentHasCome, EachEndsOnce, MayEndOnceItHasCome}
use Rattle.zk_base.proofs.Firsts.{one_if, count-without, count-aside, any-counted, counted-any}
use Rattle.zk_model_wait.proofs.Ticks.{replied}

-- how many alarms of a player and moment stand
abbrev standing : ℕ → ℕ → List Alarm → ℕ
standing player moment alarms = count_by (is_alarm player moment) alarms

-- an end was due
was_due : (b : Bool) (reply : ClockReply) → cond b (Some Due) None ≡ Some reply → (b ≡ true) × (reply ≡ Due)
was_due true reply is = (refl, sym (same_Some Due reply is))
was_due false reply is = absurd (cc)

apart_from : (player moment who at : ℕ) (a : Alarm) → (eqb who player && eqb at moment) ≡ false →
    is_alarm who at a ≡ true → is_alarm player moment a ≡ false
apart_from player moment who at a other is = grind (arith, nat_tests)

same_end : (player moment who at : ℕ) → (eqb who player && eqb at moment) ≡ true → (who ≡ player) × (at ≡ moment)
same_end player moment who at is = grind (arith, nat_tests)

-- an end takes away one of its own, and none of others
standing-ended : (player moment who at : ℕ) (alarms : List Alarm) → has_alarm alarms who at ≡ true →
    standing player moment (without_first (is_alarm who at) alarms) + one_if (eqb who player && eqb at moment)
    ≡ standing player moment alarms
standing-ended player moment who at alarms has = by (eqb who player && eqb at moment) refl where
  by : (b : Bool) → (eqb who player && eqb at moment) ≡ b →
      standing player moment (without_first (is_alarm who at) alarms) + one_if b ≡ standing player moment alarms
  by true is =
      let same = same_end player moment who at is in
      let counted = count-without (is_alarm who at) alarms has in
      let P : ℕ → ℕ → Type 0 = λ p m. standing p m (without_first (is_alarm who at) alarms) + 1 ≡ standing p m alarms in
      let own : P who at = omega arith in
      subst (λ p. P p moment) same.0 (subst (λ m. P who m) same.1 own)
  by false is =
      let counted = count-aside (is_alarm who at) (is_alarm player moment)
      (λ a own. apart_from player moment who at a is own) alarms in
      omega arith

none_if : (b : Bool) → one_if (b && false) ≡ 0
none_if true = refl
none_if false = refl

-- each entry counts
standing-next : (c : Clock) (who : Who) (player moment : ℕ) (op : ClockOp) (reply : ClockReply) →
    clock_reply c who op ≡ Some reply →
    standing player moment (clock_next c who op).alarms + one_if (eqb who.number player && is_end_of moment op)
    ≡ standing player moment c.alarms + one_if (eqb who.number player && is_at moment reply)
standing-next c who player moment (ops.Announce ticks) reply is =
    let told : is_at moment reply ≡ false = ap (is_at moment) (sym (same_Some (Now (c.time + ticks)) reply is)) in
    ap (λ (b : Bool). standing player moment c.alarms + one_if (eqb who.number player && b)) (sym told)
standing-next c who player moment (ops.Alarm ticks) reply is =
    let told : is_at moment reply ≡ eqb (c.time + ticks) moment =
    ap (is_at moment) (sym (same_Some (At (c.time + ticks)) reply is)) in
    let set : one_if (eqb who.number player && is_at moment reply)
    ≡ one_if (eqb who.number player && eqb (c.time + ticks) moment) =
    ap (λ (b : Bool). one_if (eqb who.number player && b)) told in
    omega (
      arith,
      set,
      none_if (eqb who.number player),
      sum_by_push (λ (a : Alarm). one_if (is_alarm player moment a)) c.alarms
          (record { player = who.number; moment = c.time + ticks }),
    )
standing-next c who player moment (ops.AlarmEnd at) reply is =
    let due = was_due (is_due c.time c.alarms who.number at) reply is in
    let set : one_if (eqb who.number player && is_at moment reply) ≡ 0 =
    ap (λ (r : ClockReply). one_if (eqb who.number player && is_at moment r)) due.1 ∙ none_if (eqb who.number player) in
    let ended = standing-ended player moment who.number at c.alarms
    (second_so (leb at c.time) (has_alarm c.alarms who.number at) due.0) in
    omega arith

standing-state : (c : Clock) (h : ClockHistory) (player moment : ℕ) → Replays clock_machine c h →
    standing player moment (state_after clock_machine c h).alarms + count_by (ends player moment) h
    ≡ standing player moment c.alarms + count_by (sets player moment) h
standing-state c [] player moment replays = refl
standing-state c (e ∷ es) player moment replays =
    let here = standing-next c e.who player moment e.op e.reply replays.0 in
    let rest = standing-state (clock_next c e.who e.op) es player moment replays.1 in
    omega (
      arith,
      sum_by-cons (λ (f : Entry ClockOp ClockReply). one_if (ends player moment f)) e es,
      sum_by-cons (λ (f : Entry ClockOp ClockReply). one_if (sets player moment f)) e es,
    )

-- what stands and what has ended is what was set
standing-after : (h : ClockHistory) (player moment : ℕ) → IsClockHistory h →
    standing player moment (clock_after h).alarms + count_by (ends player moment) h ≡ count_by (sets player moment) h
standing-after h player moment legal = let all = standing-state new_clock h player moment legal.0 in omega arith

pub each_ends_once : OfEach EachEndsOnce
each_ends_once h legal player moment = let all = standing-after h player moment legal in omega arith

pub due_when_its_moment_has_come : OfEach DueWhenItsMomentHasCome
due_when_its_moment_has_come h legal front rest e moment parts op =
    let c = clock_after front in
    let due = was_due (is_due c.time c.alarms e.who.number moment) e.reply (ap (clock_reply c e.who) (sym op)
    ∙ replied h front rest e legal parts) in
    let come = first_so (leb moment c.time) (has_alarm c.alarms e.who.number moment) due.0 in
    let has = second_so (leb moment c.time) (has_alarm c.alarms e.who.number moment) due.0 in
    let some = counted-any (is_alarm e.who.number moment) c.alarms has in
    let all = standing-after front e.who.number moment
    (IsLegal-front clock_machine new_clock front (e ∷ rest) (subst IsClockHistory parts legal)) in
    (due.1, any-counted (sets e.who.number moment) front (omega arith), leb-true moment c.time come)

pub may_end_once_it_has_come : OfEach MayEndOnceItHasCome
may_end_once_it_has_come h legal who moment fewer come =
    let c = clock_after h in
    let all = standing-after h who.number moment legal in
    let has = any-counted (is_alarm who.number moment) c.alarms (omega arith) in
    due (leb moment c.time) (has_alarm c.alarms who.number moment) (le-leb moment c.time come) has where
      due : (b d : Bool) → b ≡ true → d ≡ true → cond (b && d) (Some Due) None ≡ Some Due
      due true true come has = refl
      due true false come has = absurd (cc)
      due false d come has = absurd (cc)
