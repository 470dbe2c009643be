-- The law of what a poll attempts while it waits is an equation: its play leaves one list, and no other.
use Rattle.std.proofs.Common.{◌≡◌, ℕ, zero, suc, ◌+◌, ◌≤◌, Bool, true, false, cond, Some, List, [], ◌∷◌, ◌++◌, length, slice_get, refl, sym, ap, ◌∙◌, ◌⊎◌, ⊎_elim, arith}
use Rattle.std.proofs.lemmas.Option.{same_Some, some_pair_parts}
use Rattle.zk_line.specs.declared.events.Event.{Event}
use Rattle.zk_line.specs.declared.events.Event.TheVariants.{Ignore, Sem, Msgq, Sig}
use Rattle.zk_model_wait.specs.declared.clock.ClockOp.TheVariants as clock_ops
use Rattle.zk_model_wait.specs.declared.clock.ClockReply.TheVariants as clock_replies
use Rattle.zk_worker.specs.declared.steps.Spot.{Spot}
use Rattle.zk_worker.specs.declared.steps.Step.{Step}
use Rattle.zk_worker.specs.declared.steps.Step.TheVariants as steps
use Rattle.zk_worker.specs.declared.steps.StepReply.TheVariants as step_replies
use Rattle.zk_worker.specs.Follows.{StepMade}
use Rattle.zk_player_laws.specs.PollLaws.{is_ask, events_from, asks, registered_at, IsRegistered, IsDue, WaitsForEvent, WaitsForAlarm, WaitsForEach, WaitsForAll, end_of}
use Rattle.zk_player_laws.proofs.PollReplies.{registered-asks}

-- the positions of these events rise, the first of them at or above n
abbrev Rise : ℕ → List (ℕ × Event) → Type 0
Rise n [] = Unit {0}
Rise n ((k, event) ∷ more) = (n ≤ k) × Rise (k + 1) more

events-rise : (n m : ℕ) (events : List Event) → m ≤ n → Rise m (events_from n events)
events-rise n m [] low = tt
events-rise n m (Ignore ∷ events) low = events-rise (n + 1) m events (omega (arith, low))
events-rise n m (Sem sem ∷ events) low = (low, events-rise (n + 1) (n + 1) events (omega arith))
events-rise n m (Msgq queue ∷ events) low = (low, events-rise (n + 1) (n + 1) events (omega arith))
events-rise n m (Sig signal ∷ events) low = (low, events-rise (n + 1) (n + 1) events (omega arith))

rise-above : (n : ℕ) (xs : List (ℕ × Event)) (i k : ℕ) (event : Event) → Rise n xs → slice_get xs i ≡ Some (k, event) → n ≤ k
rise-above n [] i k event rise there = absurd (cc)
rise-above n ((j, e) ∷ xs) zero k event rise there = let same = (some_pair_parts j k e event there).0 in let low = rise.0 in omega (arith, same, low)
rise-above n ((j, e) ∷ xs) (suc i) k event rise there = let low = rise.0 in let more = rise-above (j + 1) xs i k event rise.1 there in omega (arith, low, more)

-- so no position stands twice
rise-once : (n : ℕ) (xs : List (ℕ × Event)) (i j k : ℕ) (one other : Event) → Rise n xs → slice_get xs i ≡ Some (k, one) → slice_get xs j ≡ Some (k, other) → i ≡ j
rise-once n [] i j k one other rise first second = absurd (cc)
rise-once n ((h, e) ∷ xs) zero zero k one other rise first second = refl
rise-once n ((h, e) ∷ xs) zero (suc j) k one other rise first second =
    let same = (some_pair_parts h k e one first).0 in
    let more = rise-above (h + 1) xs j k other rise.1 second in absurd (omega (arith, same, more))
rise-once n ((h, e) ∷ xs) (suc i) zero k one other rise first second =
    let same = (some_pair_parts h k e other second).0 in
    let more = rise-above (h + 1) xs i k one rise.1 first in absurd (omega (arith, same, more))
rise-once n ((h, e) ∷ xs) (suc i) (suc j) k one other rise first second = ap suc (rise-once (h + 1) xs i j k one other rise.1 first second)

more-asked : (made : StepMade) (more : List StepMade) → is_ask made ≡ true → length (asks (made ∷ more)) ≡ suc (length (asks more))
more-asked made more is = ap (λ (b : Bool). length (cond b (made ∷ asks more) (asks more))) is

-- the asks behind as many asks of one play are one
same-ask : (before other : List StepMade) (a b : StepMade) (rest left : List StepMade) → before ++ a ∷ rest ≡ other ++ b ∷ left → is_ask a ≡ true → is_ask b ≡ true →
    length (asks before) ≡ length (asks other) → a ≡ b
same-ask [] [] a b rest left whole one two many = cc
same-ask [] (y ∷ other) a b rest left whole one two many =
    let same : a ≡ y = cc in
    let more = more-asked y other (ap is_ask (sym same) ∙ one) in absurd (omega (arith, many, more))
same-ask (x ∷ before) [] a b rest left whole one two many =
    let same : x ≡ b = cc in
    let more = more-asked x before (ap is_ask same ∙ two) in absurd (omega (arith, many, more))
same-ask (x ∷ before) (y ∷ other) a b rest left whole one two many =
    let same : x ≡ y = cc in
    let tails : before ++ a ∷ rest ≡ other ++ b ∷ left = cc in
    same-ask before other a b rest left tails one two (by (is_ask x) (is_ask y) (ap is_ask same) many) where
      by : (p q : Bool) → p ≡ q → length (cond p (x ∷ asks before) (asks before)) ≡ length (cond q (y ∷ asks other) (asks other)) → length (asks before) ≡ length (asks other)
      by true true same many = omega (arith, many)
      by false false same many = many
      by true false same many = absurd (cc)
      by false true same many = absurd (cc)

-- an event is registered at one place
registered-once : (events : List Event) (play : List StepMade) (k : ℕ) (spot other : Spot) → IsRegistered events play spot k → IsRegistered events play other k → spot ≡ other
registered-once events play k spot other one two =
    let many = rise-once 0 (events_from 0 events) (length (asks one.before)) (length (asks two.before)) k one.for.0 two.for.0 (events-rise 0 0 events (omega arith)) one.for.1 two.for.1 in
    let same = same-ask one.before two.before one.ask two.ask one.stands.rest two.stands.rest (sym one.stands.whole ∙ two.stands.whole)
    (registered-asks one.ask.0 one.ask.1 spot one.at) (registered-asks two.ask.0 two.ask.1 other two.at) many in
    same_Some spot other (sym one.at ∙ ap registered_at same ∙ two.at)

-- for which moment the first step has set an alarm
abbrev moment_of : List StepMade → ℕ
moment_of ((step, step_replies.Clock (clock_replies.At moment) place) ∷ more) = moment
moment_of play = 0

due-once : (play : List StepMade) (moment other : ℕ) → IsDue play moment → IsDue play other → moment ≡ other
due-once play moment other one two = ap moment_of (sym one.stands.whole ∙ two.stands.whole)

-- what waits for the alarm is one list
alarm-alone : (play : List StepMade) (one two : List Step) → WaitsForAlarm play one → WaitsForAlarm play two → one ≡ two
alarm-alone play one two first second = ⊎_elim
    (λ (a : (moment : ℕ) × IsDue play moment × (one ≡ steps.Clock (clock_ops.AlarmEnd moment) ∷ [])). ⊎_elim
    (λ (b : (moment : ℕ) × IsDue play moment × (two ≡ steps.Clock (clock_ops.AlarmEnd moment) ∷ [])).
    a.2 ∙ ap (λ (moment : ℕ). steps.Clock (clock_ops.AlarmEnd moment) ∷ []) (due-once play a.0 b.0 a.1 b.1) ∙ sym b.2)
    (λ (b : ((moment : ℕ) → IsDue play moment → ⊥) × (two ≡ [])). absurd (b.0 a.0 a.1))
    second)
    (λ (a : ((moment : ℕ) → IsDue play moment → ⊥) × (one ≡ [])). ⊎_elim
    (λ (b : (moment : ℕ) × IsDue play moment × (two ≡ steps.Clock (clock_ops.AlarmEnd moment) ∷ [])). absurd (a.0 b.0 b.1))
    (λ (b : ((moment : ℕ) → IsDue play moment → ⊥) × (two ≡ [])). a.1 ∙ sym b.1)
    second)
    first

-- what ends the registration of an event, where there is one, is one list
abbrev Ends : List Event → List StepMade → ℕ → List Step → Type 0
Ends events play k own =
    ((spot : Spot) × (step : Step) × IsRegistered events play spot k × (end_of spot ≡ Some step) × (own ≡ step ∷ []))
    ⊎ (((spot : Spot) → IsRegistered events play spot k → ⊥) × (own ≡ []))

ends-alone : (events : List Event) (play : List StepMade) (k : ℕ) (one two : List Step) → Ends events play k one → Ends events play k two → one ≡ two
ends-alone events play k one two first second = ⊎_elim
    (λ (a : (spot : Spot) × (step : Step) × IsRegistered events play spot k × (end_of spot ≡ Some step) × (one ≡ step ∷ [])). ⊎_elim
    (λ (b : (spot : Spot) × (step : Step) × IsRegistered events play spot k × (end_of spot ≡ Some step) × (two ≡ step ∷ [])).
    let same : a.1 ≡ b.1 = same_Some a.1 b.1 (sym a.3 ∙ ap end_of (registered-once events play k a.0 b.0 a.2 b.2) ∙ b.3) in
    a.4 ∙ ap (λ (step : Step). step ∷ []) same ∙ sym b.4)
    (λ (b : ((spot : Spot) → IsRegistered events play spot k → ⊥) × (two ≡ [])). absurd (b.0 a.0 a.2))
    second)
    (λ (a : ((spot : Spot) → IsRegistered events play spot k → ⊥) × (one ≡ [])). ⊎_elim
    (λ (b : (spot : Spot) × (step : Step) × IsRegistered events play spot k × (end_of spot ≡ Some step) × (two ≡ step ∷ [])). absurd (a.0 b.0 b.2))
    (λ (b : ((spot : Spot) → IsRegistered events play spot k → ⊥) × (two ≡ [])). a.1 ∙ sym b.1)
    second)
    first

event-alone : (events : List Event) (play : List StepMade) (k : ℕ) (event : Event) (one two : List Step) → WaitsForEvent events play k event one → WaitsForEvent events play k event two → one ≡ two
event-alone events play k (Sig signal) one two first second = first ∙ sym second
event-alone events play k event one two first second = ends-alone events play k one two first second

each-alone : (events : List Event) (play : List StepMade) (left : List (ℕ × Event)) (one two : List Step) → WaitsForEach events play left one → WaitsForEach events play left two → one ≡ two
each-alone events play [] one two first second = alarm-alone play one two first second
each-alone events play ((k, event) ∷ left) one two (own, others, whole, is, more) (own2, others2, whole2, is2, more2) =
    whole ∙ ap (λ (xs : List Step). xs ++ others) (event-alone events play k event own own2 is is2)
    ∙ ap (λ (xs : List Step). own2 ++ xs) (each-alone events play left others others2 more more2) ∙ sym whole2

-- of any play, be it of a poll or not
pub waits_alone : (events : List Event) (play : List StepMade) (one two : List Step) → WaitsForAll events play one → WaitsForAll events play two → one ≡ two
waits_alone events play one two first second = each-alone events play (events_from 0 events) one two first second
