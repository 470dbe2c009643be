-- A player that sleeps has no possible attempt, and who sleeps is known behind each turn.
use Rattle.std.proofs.Common.{◌≡◌, ◌≢◌, ◌⊎◌, inl, inr, ℕ, zero, suc, ◌+◌, ◌-◌, ◌<◌, ◌≤◌, Bool, true, false, cond, Option, Some, None, is_some, List, [], ◌∷◌, ◌++◌, length, map, get_or, set, slice_get, option_and_then, All, refl, sym, ap, subst, ◌∙◌, arith}
use Rattle.std.proofs.lemmas.List.{length_push}
use Rattle.std.proofs.lemmas.List.Elements.{All-nil, All-cons, All-head, All-tail}
use Rattle.zk_base.specs.declared.ids.Who.{Who}
use Rattle.zk_scenario.specs.Content.{Content}
use Rattle.zk_worker.specs.declared.steps.Spot.{Spot}
use Rattle.zk_worker.specs.declared.steps.Step.{Step}
use Rattle.zk_worker.specs.declared.steps.StepReply.{StepReply}
use Rattle.zk_worker.specs.Attempt.{reply_in}
use Rattle.zk_worker.specs.Choosing.{or_else, first_possible, chosen}
use Rattle.zk_worker.specs.Machines.{Machines, machines_of}
use Rattle.zk_worker.specs.Places.{PlayerPlace}
use Rattle.zk_worker.specs.Protocol.{attempts, spot_of}
use Rattle.zk_worker.specs.Shown.{Shown, shown_after}
use Rattle.zk_worker.proofs.CheckedSteps.{after-spots}
use Rattle.zk_worker.proofs.Lists.{slice_get-set, there-behind}
use Rattle.zk_world.specs.World.{World, world, stepped, is_spent}
use Rattle.zk_services.specs.Counted.{service_of, may_serve}
use Rattle.zk_model_bus.specs.Channel.{chan_machine}
use Rattle.zk_replay.specs.declared.last_turn.Asked.{Asked}
use Rattle.zk_replay.specs.declared.last_turn.LastTurn.{LastTurn}
use Rattle.zk_replay.specs.declared.sleepers.Sleepers.{Sleepers}
use Rattle.zk_replay.specs.LastTurns.{asked_at, IsKept}
use Rattle.zk_replay.specs.Sleeping.{is_asleep, list_of, entered_at, last_entered, if_serving, serving, asks_at, Sleeps, AreAsleep, AreListed, FellAsleep, SleepOn}
use Rattle.zk_replay.specs.RoundRobin.{turn, turn_of, turns}
use Rattle.zk_replay.specs.Turning.{shown_with, at_after, IsTurn, WithinRound}
use Rattle.zk_replay.proofs.InVain.{none_first, none_or}
use Rattle.zk_replay.proofs.Rounds.{within-left}
use Rattle.zk_replay.proofs.Told.{told, unserved}

-- Whether any of some attempts is possible.

module _ (m : Machines) (shown : Shown) (who : Who) where
  abbrev IsNone : Step → Type 0
  IsNone x = reply_in m shown who x ≡ None

  all-none : (ahead : List Step) → first_possible m shown who ahead ≡ None → All IsNone ahead
  all-none [] none = All-nil IsNone
  all-none (x ∷ xs) none =
      let both = none_first x (reply_in m shown who x) (first_possible m shown who xs) none in
      All-cons IsNone x xs both.0 (all-none xs both.1)

  none-all : (ahead : List Step) → All IsNone ahead → first_possible m shown who ahead ≡ None
  none-all [] all = refl
  none-all (x ∷ xs) all =
      ap (λ (o : Option StepReply). or_else x o (first_possible m shown who xs)) (All-head IsNone x xs all)
      ∙ none-all xs (All-tail IsNone x xs all)

-- a player that sleeps has no possible attempt
asleep-none : (m : Machines) (s : Content) (shown : Shown) (players : List PlayerPlace) (sleepers : Sleepers) (p : ℕ) (at : PlayerPlace) → AreAsleep m s (world shown players) sleepers →
    is_asleep sleepers p ≡ true → slice_get players p ≡ Some at → chosen m s shown at ≡ None
asleep-none m s shown players sleepers p at were sleeps there =
    let it = were p at there sleeps in
    none-all m shown at.who (attempts s at) it.none

-- so its turn leaves all as it is
asleep-turn : (s : Content) (shown : Shown) (players : List PlayerPlace) (sleepers : Sleepers) (p : ℕ) → AreAsleep (machines_of s) s (world shown players) sleepers →
    is_spent s (world shown players) ≡ false → is_asleep sleepers p ≡ true → turn (machines_of s) s (world shown players) p ≡ world shown players
asleep-turn s shown players sleepers p were unspent sleeps =
    ap (λ (b : Bool). cond b w (turn_of m s w p (slice_get players p))) unspent ∙ by (slice_get players p) refl
  where
    m : Machines
    m = machines_of s

    w : World
    w = world shown players

    by : (o : Option PlayerPlace) → slice_get players p ≡ o → turn_of m s w p (slice_get players p) ≡ w
    by None none = ap (turn_of m s w p) none
    by (Some at) there = ap (turn_of m s w p) there ∙ ap (stepped s w p at) (asleep-none m s shown players sleepers p at were sleeps there)

-- and so do the turns of several
pub within-asleep : (s : Content) (old : World) (shown : Shown) (players : List PlayerPlace) (sleepers : Sleepers) (moved : Bool) (n k p : ℕ) →
    AreAsleep (machines_of s) s (world shown players) sleepers → ((q : ℕ) → p ≤ q → q < p + k → is_asleep sleepers q ≡ true) →
    WithinRound (machines_of s) s old (world shown players) moved n p → WithinRound (machines_of s) s old (world shown players) moved (n - k) (p + k)
within-asleep s old shown players sleepers moved n zero p were asleep within =
    let m = machines_of s in
    let now = world shown players in
    let place : p ≡ p + 0 = omega arith in
    subst (WithinRound m s old now moved (n - 0)) place (within-left m s old now moved n (n - 0) p (omega arith) within)
within-asleep s old shown players sleepers moved zero (suc k) p were asleep within =
    let m = machines_of s in
    let now = world shown players in
    let none : WithinRound m s old now moved 0 (p + suc k) =
    record { rest = within.rest; ready = within.ready; unspent = within.unspent; less = within.less; still = within.still } in
    within-left m s old now moved 0 (0 - suc k) (p + suc k) (omega arith) none
within-asleep s old shown players sleepers moved (suc n) (suc k) p were asleep within =
    let m = machines_of s in
    let now = world shown players in
    let here : turn m s now p ≡ now = asleep-turn s shown players sleepers p were within.unspent (asleep p (omega arith) (omega arith)) in
    let next : WithinRound m s old now moved n (p + 1) = record {
      rest = ap (λ (w : World). turns m s w n (p + 1)) (sym here) ∙ within.rest;
      ready = within.ready;
      unspent = within.unspent;
      less = within.less;
      still = within.still;
    } in
    let place : p + 1 + k ≡ p + suc k = omega arith in
    within-left m s old now moved (n - k) (suc n - suc k) (p + suc k) (omega arith)
    (subst (WithinRound m s old now moved (n - k)) place
    (within-asleep s old shown players sleepers moved n k (p + 1) were (λ q low high. asleep q (omega arith) (omega arith)) next))

-- the last spot of a log is that of the last step
last-pushed : (log : List Spot) (spot : Spot) → last_entered (log ++ spot ∷ []) ≡ entered_at spot
last-pushed log spot =
    let last : length (log ++ spot ∷ []) - 1 ≡ length log = omega (arith, length_push log spot) in
    ap (λ (k : ℕ). option_and_then entered_at (slice_get (log ++ spot ∷ []) k)) last ∙ ap (option_and_then entered_at) (there-behind log spot)

-- a step that wasn't possible isn't behind a step of another player that doesn't serve it
none-behind : (m : Machines) (old new : Shown) (by who : Who) (n : ℕ) (step : Step) (reply : StepReply) (x : Step) → m.chans.machine ≡ chan_machine → by.number ≢ who.number →
    new ≡ shown_after old by n step reply → reply_in m old who x ≡ None →
    (option_and_then (if_serving new) (entered_at (spot_of step reply)) ≡ Some (service_of x) → ⊥) → reply_in m new who x ≡ None
none-behind m old new by who n step reply x chans differ shows none apart = ap (λ (h : Shown). reply_in m h who x) shows ∙ choice (told m old who by n step reply x) where
  after : Shown
  after = shown_after old by n step reply

  by_serving : (b : Bool) → may_serve after (service_of x) ≡ b → entered_at (spot_of step reply) ≡ Some (service_of x) → reply_in m after who x ≡ None
  by_serving true serves here =
      absurd (apart (ap (λ (h : Shown). option_and_then (if_serving h) (entered_at (spot_of step reply))) shows
      ∙ ap (option_and_then (if_serving after)) here ∙ ap (λ (b : Bool). cond b (Some (service_of x)) None) serves))
  by_serving false serves here = unserved m old who chans by n step reply x differ here serves none

  choice : (entered_at (spot_of step reply) ≡ Some (service_of x)) ⊎ (reply_in m after who x ≡ reply_in m old who x) → reply_in m after who x ≡ None
  choice (inl here) = by_serving (may_serve after (service_of x)) refl here
  choice (inr same) = same ∙ none

-- what holds of all that was asked holds of the steps
asked-steps : (P : Step → Type 0) (earlier : Shown) (ahead : List Step) → All (λ (a : Asked). P a.step) (map (asked_at earlier) ahead) → All P ahead
asked-steps P earlier [] all = All-nil P
asked-steps P earlier (x ∷ xs) all =
    let Q : Asked → Type 0 = λ a. P a.step in
    All-cons P x xs (All-head Q (asked_at earlier x) (map (asked_at earlier) xs) all)
    (asked-steps P earlier xs (All-tail Q (asked_at earlier x) (map (asked_at earlier) xs) all))

module _ (m : Machines) (s : Content) (old new : Shown) (players players' : List PlayerPlace) (sleepers sleepers' : Sleepers) (number : ℕ) (at at' : PlayerPlace)
    (were : AreAsleep m s (world old players) sleepers) (written : players' ≡ set players number at') where
  -- where a player stands behind the turn of another
  there_of : (p : ℕ) (other : PlayerPlace) → slice_get players' p ≡ Some other → ((p ≡ number) × (other ≡ at')) ⊎ ((p ≢ number) × (slice_get players p ≡ Some other))
  there_of p other is = slice_get-set players number p at' other (ap (λ (ps : List PlayerPlace). slice_get ps p) (sym written) ∙ is)

  -- who sleeps behind a step
  pub asleep-moved : m.chans.machine ≡ chan_machine → ((p : ℕ) (other : PlayerPlace) → slice_get players p ≡ Some other → other.who.number ≡ p) → slice_get players number ≡ Some at →
      is_asleep sleepers number ≡ false → IsTurn m s at at' old new true → SleepOn (serving new at'.spots) sleepers sleepers' → AreAsleep m s (world new players') sleepers'
  asleep-moved chans numbers stood awake turn slept = by_made (chosen m s old at) refl
    where
      one : (made : Step × StepReply) → chosen m s old at ≡ Some made → (p : ℕ) (other : PlayerPlace) → is_asleep sleepers' p ≡ true →
          ((p ≡ number) × (other ≡ at')) ⊎ ((p ≢ number) × (slice_get players p ≡ Some other)) → Sleeps m s new other sleepers'.lists.items p
      one made choice p other sleeps (inl mine) =
          absurd (let no : false ≡ true = sym awake ∙ ap (is_asleep sleepers) (sym mine.0) ∙ (slept p sleeps).slept in cc)
      one made choice p other sleeps (inr before) =
          let has = slept p sleeps in
          let was = were p other before.1 has.slept in
          let shows : new ≡ shown_after old at.who (length at.spots) made.0 made.1 = turn.shows ∙ ap (shown_with old at.who (length at.spots)) choice in
          let spots = ap (λ (x : PlayerPlace). x.spots) (turn.place ∙ ap (at_after s at) choice) ∙ (after-spots s at made.0 made.1).1 in
          let last : last_entered at'.spots ≡ entered_at (spot_of made.0 made.1) = ap last_entered spots ∙ last-pushed at.spots (spot_of made.0 made.1) in
          let differ : at.who.number ≢ other.who.number = λ same. before.0 (sym (numbers p other before.1) ∙ sym same ∙ numbers number at stood) in
          record {
            none = λ k d below.
                let x = get_or (attempts s other) k d in
                none-behind m old new at.who other.who (length at.spots) made.0 made.1 x chans differ shows (was.none k d below)
                (λ here. let no : true ≡ false = sym (was.listed k d below) ∙ has.apart (service_of x) (ap (option_and_then (if_serving new)) last ∙ here) in cc);
            listed = λ k d below. has.stands (list_of (service_of (get_or (attempts s other) k d))) (was.listed k d below);
          }

      by_made : (made : Option (Step × StepReply)) → chosen m s old at ≡ made → AreAsleep m s (world new players') sleepers'
      by_made None choice = absurd (let no : true ≡ false = turn.moves ∙ ap is_some choice in cc)
      by_made (Some made) choice = λ p other there sleeps. one made choice p other sleeps (there_of p other there)

  -- who sleeps behind a turn in vain
  pub asleep-stayed : (kept : LastTurn) → IsTurn m s at at' old new false → IsKept m s new at' kept → FellAsleep kept number sleepers sleepers' → AreAsleep m s (world new players') sleepers'
  asleep-stayed kept turn is_kept fell = λ p other there sleeps. by p other sleeps (there_of p other there)
    where
      none : chosen m s old at ≡ None
      none = none_or (chosen m s old at) turn.moves

      here : at' ≡ at
      here = turn.place ∙ ap (at_after s at) none

      same : new ≡ old
      same = turn.shows ∙ ap (shown_with old at.who (length at.spots)) none

      own : is_asleep sleepers' number ≡ true → Sleeps m s new at' sleepers'.lists.items number
      own sleeps =
          let since = is_kept (fell.waits sleeps) in
          let vain : chosen m s new at' ≡ None = ap (λ (h : Shown). chosen m s h at') same ∙ ap (chosen m s old) here ∙ none in
          record {
            none = all-none m new at'.who (attempts s at') vain;
            listed = asked-steps (λ (x : Step). asks_at sleepers'.lists.items number x ≡ true) since.earlier (attempts s at')
                (subst (λ (l : List Asked). AreListed sleepers'.lists.items l number) since.asks (fell.listed sleeps));
          }

      by : (p : ℕ) (other : PlayerPlace) → is_asleep sleepers' p ≡ true → ((p ≡ number) × (other ≡ at')) ⊎ ((p ≢ number) × (slice_get players p ≡ Some other)) →
          Sleeps m s new other sleepers'.lists.items p
      by p other sleeps (inl mine) =
          subst (λ (x : PlayerPlace). Sleeps m s new x sleepers'.lists.items p) (sym mine.1)
          (subst (λ (q : ℕ). Sleeps m s new at' sleepers'.lists.items q) (sym mine.0)
          (own (ap (is_asleep sleepers') (sym mine.0) ∙ sleeps)))
      by p other sleeps (inr apart) =
          let was = were p other apart.1 (fell.others p apart.0 sleeps) in
          record {
            none = subst (λ (h : Shown). All (IsNone m h other.who) (attempts s other)) (sym same) was.none;
            listed = λ k d below. fell.stand (list_of (service_of (get_or (attempts s other) k d))) p (was.listed k d below);
          }
