-- A player goes where the protocol leads it, step by step.
use Rattle.std.proofs.Common.{◌≡◌, ℕ, Bool, true, false, Some, List, [], ◌∷◌, ◌++◌, length, refl, sym, ap, subst}
use Rattle.std.specs.List.{AllZip}
use Rattle.zk_scenario.specs.Content.{Content}
use Rattle.zk_worker.specs.declared.steps.Step.{Step}
use Rattle.zk_worker.specs.declared.steps.StepReply.{StepReply}
use Rattle.zk_worker.specs.declared.steps.Spot.{Spot}
use Rattle.zk_worker.specs.Places.{PlayerPlace}
use Rattle.zk_worker.specs.Protocol.{IsAhead, after, start_at, spot_of}
use Rattle.zk_worker.specs.Follows.{IsPlayed, Stands, StandsMore, IsFollowing}
use Rattle.zk_worker.specs.Machines.{Machines}
use Rattle.zk_worker.specs.Shown.{Shown, OnlyOthersCame}
use Rattle.zk_worker.specs.Attempt.{IsMade}
use Rattle.zk_worker.proofs.Lists.{zip-weaker, zip-push}
use Rattle.zk_worker.proofs.Starts.{start_at-fresh}
use Rattle.zk_worker.proofs.Between.{stands-longer}
use Rattle.zk_worker.proofs.ShownSteps.{made-more}
use Rattle.zk_worker.proofs.CheckedSteps.{after-spots}

-- one step more
pub played-more : (s : Content) (start : PlayerPlace) (made : List (Step × StepReply)) (at : PlayerPlace) (new : Step × StepReply) →
    IsPlayed s start made at → IsAhead s at new.0 → IsPlayed s start (made ++ new ∷ []) (after s at new.0 new.1)
played-more s start [] at new is ahead =
    (subst (λ (a : PlayerPlace). IsAhead s a new.0) (sym is) ahead, ap (λ (a : PlayerPlace). after s a new.0 new.1) is)
played-more s start (x ∷ xs) at new is ahead = (is.0, played-more s (after s start x.0 x.1) xs at new is.1 ahead)

-- a player follows from its start, whatever is shown
pub following-fresh : (s : Content) (number : ℕ) (shown : Shown) (at : PlayerPlace) → start_at s number ≡ Some at → IsFollowing s number shown at
following-fresh s number shown at is = record {
  start = at;
  made = [];
  starts = is;
  stands = subst (λ (spots : List Spot). AllZip (Stands shown) spots []) (sym (start_at-fresh s number at is).none_made) tt;
  played = refl;
}

-- one that makes no step follows as before, where what stood stands still
pub following-still : (s : Content) (number : ℕ) (old new : Shown) (at : PlayerPlace) →
    ((spot : Spot) (x : Step × StepReply) → Stands old spot x → Stands new spot x) →
    IsFollowing s number old at → IsFollowing s number new at
following-still s number old new at still is = record {
  start = is.start;
  made = is.made;
  starts = is.starts;
  stands = zip-weaker (Stands old) (Stands new) at.spots is.made still is.stands;
  played = is.played;
}

-- and one that makes a step follows with it
pub following-more : (s : Content) (number : ℕ) (old new : Shown) (at : PlayerPlace) (step : Step) (reply : StepReply) →
    StandsMore old new (spot_of step reply) (step, reply) → IsAhead s at step →
    IsFollowing s number old at → IsFollowing s number new (after s at step reply)
following-more s number old new at step reply more ahead is = record {
  start = is.start;
  made = is.made ++ (step, reply) ∷ [];
  starts = is.starts;
  stands = subst (λ (l : List Spot). AllZip (Stands new) l (is.made ++ (step, reply) ∷ [])) (sym (after-spots s at step reply).1)
      (zip-push (Stands new) at.spots is.made (spot_of step reply) (step, reply)
      (zip-weaker (Stands old) (Stands new) at.spots is.made more.still is.stands) more.here);
  played = played-more s is.start is.made at (step, reply) is.played ahead;
}

-- entries of others leave it as it is
pub following-between : (alone : Bool) (s : Content) (number own : ℕ) (old new : Shown) (at : PlayerPlace) → OnlyOthersCame alone own old new →
    IsFollowing s number old at → IsFollowing s number new at
following-between true s number own old new at nothing is = subst (λ (x : Shown). IsFollowing s number x at) (sym nothing) is
following-between false s number own old new at grew is = following-still s number old new at (stands-longer own old new grew) is

-- what a step that was made shows
pub stands-made : (alone : Bool) (m : Machines) (at : PlayerPlace) (step : Step) (reply : StepReply) (old new : Shown)
    (made : IsMade alone m at.who (length at.spots) step reply old new) → StandsMore made.found new (spot_of step reply) (step, reply)
stands-made alone m at step reply old new made =
    let more = made-more m made.found at.who (length at.spots) step reply made.replied in
    subst (λ (x : Shown). StandsMore made.found x (spot_of step reply) (step, reply)) (sym made.shown) more.stands
