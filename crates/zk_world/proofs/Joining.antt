-- Players of which each is sound, with all that is shown, make a sound world.
use Rattle.std.proofs.Common.{◌≡◌, ℕ, ◌*◌, ◌≤◌, Some, None, List, length, All, sym, subst, arith}
use Rattle.std.specs.List.{slice_get}
use Rattle.std.proofs.lemmas.List.Elements.{All-weaker}
use Rattle.zk_base.proofs.Lists.{All-at}
use Rattle.zk_scenario.specs.declared.scenario.TheConstants.{MOST_STEPS}
use Rattle.zk_scenario.specs.Content.{Content}
use Rattle.zk_scenario.specs.Players.{players}
use Rattle.zk_scenario.specs.Steps.{steps_of}
use Rattle.zk_scenario.specs.Valid.{IsValid}
use Rattle.zk_scenario.proofs.Valid.{length-players}
use Rattle.zk_worker.specs.Follows.{IsFollowing}
use Rattle.zk_worker.specs.Machines.{machines_of}
use Rattle.zk_worker.specs.Places.{PlayerPlace}
use Rattle.zk_worker.specs.Ranges.{IsFit}
use Rattle.zk_worker.specs.Shown.{Shown}
use Rattle.zk_world.specs.Legal.{IsLegalShown}
use Rattle.zk_world.specs.Ready.{IsReady, most_shown}
use Rattle.zk_world.specs.Requests.{IsKnownWho, LookFits, AreFitting}
use Rattle.zk_world.specs.Sound.{AreKnown, IsSound}
use Rattle.zk_world.specs.SoundPlayer.{IsSoundPlayer}
use Rattle.zk_world.specs.Within.{AreWithin}
use Rattle.zk_world.specs.World.{world}
use Rattle.zk_world.proofs.Places.{there-is}
use Rattle.zk_world.proofs.Requested.{request-shown}
use Rattle.zk_world.proofs.Within.{within-more}

module _ (s : Content) (shown : Shown) (all : List PlayerPlace) (numbers : (p : ℕ) (at : PlayerPlace) → slice_get all p ≡ Some at → at.who.number ≡ p)
    (each : All (IsSoundPlayer s shown) all) where
  player-at : (p : ℕ) (at : PlayerPlace) → slice_get all p ≡ Some at → IsSoundPlayer s shown at
  player-at p at there = All-at (IsSoundPlayer s shown) all p at each there

  ready-of : IsValid s → length all ≡ length (players s.decls) → AreWithin shown (MOST_STEPS * length all) → shown.looks ≡ None → shown.looked ≡ None → IsReady s (world shown all)
  ready-of valid as_many within whole unlooked =
      let Short : PlayerPlace → Type 0 = λ at. length at.spots ≤ steps_of s in
      record {
        valid = valid;
        few = omega (arith, as_many, length-players s.decls, valid.players);
        numbers = numbers;
        shows = λ p at there. (player-at p at there).log;
        looks = λ p at there. (player-at p at there).looks;
        short = All-weaker (IsSoundPlayer s shown) Short (λ at sound. sound.short) all each;
        within = within-more shown (MOST_STEPS * length all) (most_shown all) (omega arith) within;
        whole = whole;
        unlooked = unlooked;
        follow = λ p at there. subst (λ (n : ℕ). IsFollowing s n shown at) (numbers p at there) (player-at p at there).follows;
        fits = All-weaker (IsSoundPlayer s shown) (IsFit s) (λ at sound. sound.fits) all each;
      }

  fitting-of : AreKnown (world shown all) → AreFitting s (world shown all)
  fitting-of known =
      let Known : PlayerPlace → Type 0 = λ at. IsKnownWho s at.who in
      let Looks : PlayerPlace → Type 0 = λ at. All (LookFits s.decls) at.spots in
      record {
        requests = λ spot x is.
            let step = request-shown shown spot x is in
            let found = there-is all x.who.number (known spot x.who.number step.0 step.1) in
            ((player-at x.who.number found.0 found.1).asked spot x is (sym (numbers x.who.number found.0 found.1))).1;
        players = All-weaker (IsSoundPlayer s shown) Known (λ at sound. sound.known) all each;
        looks = All-weaker (IsSoundPlayer s shown) Looks (λ at sound. sound.sighted) all each;
      }

-- the players of a scenario, each of which is sound, make a sound world of what is shown: where it is legal, each entry is of one of
-- them, and no history is longer than what they may make together
pub sound-of-players : (s : Content) (shown : Shown) (all : List PlayerPlace) → IsValid s → length all ≡ length (players s.decls) →
    ((p : ℕ) (at : PlayerPlace) → slice_get all p ≡ Some at → at.who.number ≡ p) → All (IsSoundPlayer s shown) all →
    IsLegalShown (machines_of s) shown → AreKnown (world shown all) → shown.looks ≡ None → shown.looked ≡ None →
    AreWithin shown (MOST_STEPS * length all) → IsSound s (world shown all)
sound-of-players s shown all valid as_many numbers each legal known whole unlooked within = record {
  ready = ready-of s shown all numbers each valid as_many within whole unlooked;
  as_many = as_many;
  known = known;
  legal = legal;
  fitting = fitting-of s shown all numbers each known;
  works = λ p at there. (player-at s shown all numbers each p at there).works;
}
