-- The player of a new caller: nothing is shown of it, and no look at a signal or at an item.
use Rattle.std.proofs.Common.{◌≡◌, ℕ, Option, Some, List, [], length, map, refl, sym, subst, ◌∙◌, arith}
use Rattle.zk_base.specs.declared.seen.Seen.{Seen}
use Rattle.zk_scenario.specs.Content.{Content}
use Rattle.zk_worker.specs.declared.steps.Spot.{Spot}
use Rattle.zk_worker.specs.declared.steps.Spot.TheVariants as spots
use Rattle.zk_worker.specs.Follows.{StepMade, Stands}
use Rattle.zk_worker.specs.Looks.{LookedBelow}
use Rattle.zk_worker.specs.Machines.{machines_of}
use Rattle.zk_worker.specs.Places.{PlayerPlace}
use Rattle.zk_worker.specs.Protocol.{start_at}
use Rattle.zk_worker.specs.Shown.{Shown, shown_at, nothing_shown}
use Rattle.zk_worker.proofs.Following.{following-still}
use Rattle.zk_worker.proofs.Looking.{looks-fresh}
use Rattle.zk_worker.proofs.Starts.{start_at-fresh}
use Rattle.zk_world.specs.Requests.{request_at}
use Rattle.zk_world.specs.SoundPlayer.{IsSoundPlayer}
use Rattle.zk_world.proofs.Players.{player-first}
use Rattle.zk_kernel.specs.Opened.{nothing_seen}

module _ (base : Shown) (looks : Option (List (List Seen))) (looked : Option ℕ) where
  abbrev new : Shown
  new = record base { looks = looks; looked = looked }

  same-shown : (spot : Spot) → shown_at new spot ≡ shown_at base spot
  same-shown (spots.Work place) = refl
  same-shown (spots.Clock place) = refl
  same-shown (spots.Table place) = refl
  same-shown (spots.Sem object place) = refl
  same-shown (spots.Msgq object place) = refl
  same-shown (spots.Signal object place) = refl
  same-shown (spots.Chan object place) = refl
  same-shown (spots.Obs object place) = refl
  same-shown (spots.LookItem object flags at) = refl
  same-shown (spots.LookSignal object seen) = refl

  same-stands : (spot : Spot) (made : StepMade) → Stands base spot made → Stands new spot made
  same-stands (spots.Work place) made is = is
  same-stands (spots.Clock place) made is = is
  same-stands (spots.Table place) made is = is
  same-stands (spots.Sem object place) made is = is
  same-stands (spots.Msgq object place) made is = is
  same-stands (spots.Signal object place) made is = is
  same-stands (spots.Chan object place) made is = is
  same-stands (spots.Obs object place) made is = is
  same-stands (spots.LookItem object flags at) made is = is
  same-stands (spots.LookSignal object seen) made is = is

  same-asked : (spot : Spot) → request_at new spot ≡ request_at base spot
  same-asked (spots.Work place) = refl
  same-asked (spots.Clock place) = refl
  same-asked (spots.Table place) = refl
  same-asked (spots.Sem object place) = refl
  same-asked (spots.Msgq object place) = refl
  same-asked (spots.Signal object place) = refl
  same-asked (spots.Chan object place) = refl
  same-asked (spots.Obs object place) = refl
  same-asked (spots.LookItem object flags at) = refl
  same-asked (spots.LookSignal object seen) = refl

  -- a player without steps is sound whatever looks are shown
  sound-looks : (s : Content) (at : PlayerPlace) → at.spots ≡ [] → LookedBelow looked (length at.spots) →
      IsSoundPlayer s base at → IsSoundPlayer s new at
  sound-looks s at none below sound = record {
    log = record {
      each = λ step spot is not_look. same-shown spot ∙ sound.log.each step spot is not_look;
      no_other = λ step spot is. sound.log.no_other step spot (sym (same-shown spot) ∙ is);
      looked = below;
    };
    looks = looks-fresh (machines_of s) new at.spots none;
    follows = following-still s at.who.number base new at same-stands sound.follows;
    fits = sound.fits;
    short = sound.short;
    known = sound.known;
    asked = λ spot x is mine. sound.asked spot x (sym (same-asked spot) ∙ is) mine;
    sighted = sound.sighted;
    works = sound.works;
  }

-- a player that starts is sound where nothing was seen
pub player-seen : (s : Content) (number : ℕ) (shown : Shown) (at : PlayerPlace) → shown ≡ nothing_seen s.decls → start_at s number ≡ Some at → IsSoundPlayer s shown at
player-seen s number shown at nothing is =
    subst (λ (x : Shown). IsSoundPlayer s x at) (sym nothing)
    (sound-looks (nothing_shown s.decls) (Some (map (λ decl. []) s.decls)) (Some 0) s at (start_at-fresh s number at is).none_made (omega arith)
    (player-first s number (nothing_shown s.decls) at refl is))
