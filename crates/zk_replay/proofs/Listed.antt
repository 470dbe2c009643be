-- Who stands in a list, and who of them is woken.
use Rattle.std.proofs.Common.{◌≡◌, ◌≢◌, ℕ, zero, suc, ◌<◌, Bool, true, false, not, ◌&&◌, ◌||◌, eqb, ltb, Option, Some, None, List, [], ◌∷◌, set, slice_get, refl, sym, ap, ◌∙◌}
use Rattle.std.proofs.Math.Bool.{or-false}
use Rattle.std.proofs.lemmas.Bool.{eq-eqb, ne_eqb, lt-ltb, or_left, or_right}
use Rattle.std.specs.Cmp.{first_so, second_so}
use Rattle.std.specs.Option.{option_map_or}
use Rattle.std.proofs.lemmas.Option.{same_Some}
use Rattle.zk_base.specs.Limits.{most_players}
use Rattle.zk_player_set.specs.declared.player_set.PlayerSet.{PlayerSet}
use Rattle.zk_player_set.specs.Players.{has}
use Rattle.zk_services.specs.declared.counted.ServiceId.{ServiceId}
use Rattle.zk_replay.specs.declared.sleepers.Sleepers.{Sleepers}
use Rattle.zk_replay.specs.declared.last_turn.LastTurn.{LastTurn}
use Rattle.zk_replay.specs.Sleeping.{is_asleep, list_of, listed_at, AreListed, StandStill, FellAsleep, SleepOn}

-- a player is put into a set
module _ (old new : PlayerSet) (player : ℕ)
    (put : (other : ℕ) → has new other ≡ (has old other || (eqb player other && ltb player most_players))) where
  pub put-itself : player < most_players → has new player ≡ true
  put-itself below =
      put player
      ∙ or_right (has old player) (eqb player player && ltb player most_players)
      (ap (λ (b : Bool). b && ltb player most_players) (eq-eqb player player refl) ∙ lt-ltb player most_players below)

  pub put-still : (other : ℕ) → has old other ≡ true → has new other ≡ true
  put-still other was = put other ∙ or_left (has old other) (eqb player other && ltb player most_players) was

  pub put-alone : (other : ℕ) → other ≢ player → has new other ≡ true → has old other ≡ true
  put-alone other differ is =
      sym (or-false (has old other))
      ∙ ap (λ (b : Bool). has old other || (b && ltb player most_players)) (sym (ne_eqb player other (λ same. differ (sym same))))
      ∙ sym (put other) ∙ is

-- who stands in a list stands there after a write of a list in which it stands
pub listed-set : (lists : List PlayerSet) (list : ℕ) (old new : PlayerSet) (k p : ℕ) → slice_get lists list ≡ Some old →
    (has old p ≡ true → has new p ≡ true) → listed_at lists k p ≡ true → listed_at (set lists list new) k p ≡ true
listed-set [] list old new k p is stands there = there
listed-set (l ∷ ls) zero old new zero p is stands there = stands (ap (λ (x : PlayerSet). has x p) (sym (same_Some l old is)) ∙ there)
listed-set (l ∷ ls) zero old new (suc k) p is stands there = there
listed-set (l ∷ ls) (suc list) old new zero p is stands there = there
listed-set (l ∷ ls) (suc list) old new (suc k) p is stands there = listed-set ls list old new k p is stands there

-- who is in the list that is written stands there
pub listed-here : (lists : List PlayerSet) (list : ℕ) (old new : PlayerSet) (p : ℕ) → slice_get lists list ≡ Some old →
    has new p ≡ true → listed_at (set lists list new) list p ≡ true
listed-here [] list old new p is there = absurd (cc)
listed-here (l ∷ ls) zero old new p is there = there
listed-here (l ∷ ls) (suc list) old new p is there = listed-here ls list old new p is there

-- who stands in a list, by the list
pub listed-is : (lists : List PlayerSet) (list : ℕ) (o : Option PlayerSet) (p : ℕ) → slice_get lists list ≡ o →
    listed_at lists list p ≡ option_map_or (λ (players : PlayerSet). has players p) o false
listed-is lists list o p is = ap (λ (x : Option PlayerSet). option_map_or (λ (players : PlayerSet). has players p) x false) is

-- who sleeps, by the set
pub asleep-is : (sleepers : Sleepers) (o : Option PlayerSet) (p : ℕ) → sleepers.asleep ≡ o →
    is_asleep sleepers p ≡ option_map_or (λ (players : PlayerSet). has players p) o false
asleep-is sleepers o p is = ap (λ (x : Option PlayerSet). option_map_or (λ (players : PlayerSet). has players p) x false) is

not-so : (b : Bool) → not b ≡ true → b ≡ false
not-so true is = absurd (cc)
not-so false is = refl

-- the list of a service is woken and emptied
pub slept-list : (old new : Sleepers) (asleep left : PlayerSet) (service : ServiceId) (list kept : PlayerSet) →
    old.asleep ≡ Some asleep → ((p : ℕ) → is_asleep new p ≡ true → has left p ≡ true) →
    slice_get old.lists.items (list_of service) ≡ Some list → new.lists.items ≡ set old.lists.items (list_of service) kept →
    ((p : ℕ) → has left p ≡ (has asleep p && not (has list p))) → SleepOn (Some service) old new
slept-list old new asleep left service list kept were are there written woken = λ p sleeps.
    let both = sym (woken p) ∙ are p sleeps in
    let isnt = not-so (has list p) (second_so (has asleep p) (not (has list p)) both) in
    record {
      slept = asleep-is old (Some asleep) p were ∙ first_so (has asleep p) (not (has list p)) both;
      stands = λ k stood. ap (λ (ls : List PlayerSet). listed_at ls k p) written
          ∙ listed-set old.lists.items (list_of service) list kept k p there (λ among. absurd (cc (among, isnt))) stood;
      apart = λ other same. ap (λ (x : ServiceId). listed_at old.lists.items (list_of x) p) (sym (same_Some service other same))
          ∙ listed-is old.lists.items (list_of service) (Some list) p there ∙ isnt;
    }

-- nobody sleeps
pub slept-none : (entered : Option ServiceId) (old : Sleepers) → old.asleep ≡ None → SleepOn entered old old
slept-none entered old none = λ p sleeps. absurd (cc (sym (asleep-is old None p none) ∙ sleeps))

-- there is no such list
pub slept-outside : (old : Sleepers) (service : ServiceId) → slice_get old.lists.items (list_of service) ≡ None →
    SleepOn (Some service) old old
slept-outside old service none = λ p sleeps. record {
  slept = sleeps;
  stands = λ k stood. stood;
  apart = λ other same. ap (λ (x : ServiceId). listed_at old.lists.items (list_of x) p) (sym (same_Some service other same))
      ∙ listed-is old.lists.items (list_of service) None p none;
}

-- a look has no entry
pub slept-look : (old : Sleepers) → SleepOn None old old
slept-look old = λ p sleeps. record { slept = sleeps; stands = λ k stood. stood; apart = λ other same. absurd (cc) }

-- who doesn't fall asleep
pub fell-not : (kept : LastTurn) (number : ℕ) (old new : Sleepers) → is_asleep old number ≡ false → new.asleep ≡ old.asleep →
    StandStill old.lists.items new.lists.items → FellAsleep kept number old new
fell-not kept number old new awake same stand = record {
  waits = λ sleeps. absurd (cc (awake, asleep-is new old.asleep number same, sleeps));
  listed = λ sleeps. absurd (cc (awake, asleep-is new old.asleep number same, sleeps));
  others = λ p differ sleeps. sym (asleep-is new old.asleep p same) ∙ sleeps;
  stand = stand;
}

-- who does
pub fell : (kept : LastTurn) (number : ℕ) (old new : Sleepers) (were are : PlayerSet) →
    ((other : ℕ) → has were other ≡ is_asleep old other) → new.asleep ≡ Some are →
    ((other : ℕ) → has are other ≡ (has were other || (eqb number other && ltb number most_players))) →
    kept.waits ≡ true → AreListed new.lists.items kept.asked.items number → StandStill old.lists.items new.lists.items →
    FellAsleep kept number old new
fell kept number old new were are before written put waits listed stand = record {
  waits = λ sleeps. waits;
  listed = λ sleeps. listed;
  others = λ p differ sleeps.
      sym (before p) ∙ put-alone were are number put p differ (sym (asleep-is new (Some are) p written) ∙ sleeps);
  stand = stand;
}
