-- A player that follows its log stood at a place before each of its steps, and made the step there.
use Rattle.std.proofs.Common.{◌≡◌, ℕ, zero, suc, Option, Some, None, List, [], ◌∷◌, ◌++◌, take, refl, sym, ap, subst, ◌∙◌, append_assoc}
use Rattle.std.specs.List.{slice_get, AllZip}
use Rattle.std.proofs.lemmas.List.{append-nil}
use Rattle.std.specs.Option.{option_map}
use Rattle.std.proofs.lemmas.Option.{same_Some, none-some}
use Rattle.zk_scenario.specs.Content.{Content}
use Rattle.zk_worker.specs.declared.steps.Spot.{Spot}
use Rattle.zk_worker.specs.declared.steps.Spot.TheVariants as spots
use Rattle.zk_worker.specs.declared.steps.Step.TheVariants as steps
use Rattle.zk_worker.specs.declared.steps.StepReply.TheVariants as step_replies
use Rattle.zk_worker.specs.Families.{entry_at}
use Rattle.zk_worker.specs.Follows.{StepMade, Stands, IsPlayed, IsFollowing}
use Rattle.zk_worker.specs.Places.{PlayerPlace}
use Rattle.zk_worker.specs.Protocol.{IsAhead, after, spot_of}
use Rattle.zk_worker.specs.Shown.{Shown}
use Rattle.zk_worker.proofs.CheckedSteps.{after-spots}
use Rattle.zk_worker.proofs.Starts.{start_at-fresh}

-- where a step with its reply is recorded
abbrev made_spot : StepMade → Spot
made_spot made = spot_of made.0 made.1

-- what holds of all that can be told holds of what is told
pub told-all : {A : Type 0} (P : StepMade → Type 0) (tell : A → StepMade) → ((a : A) → P (tell a)) → (o : Option A) (made : StepMade) → option_map tell o ≡ Some made → P made
told-all P tell so None made is = absurd (none-some made is)
told-all P tell so (Some a) made is = subst P (same_Some (tell a) made is) (so a)

abbrev IsAtSpot : Spot → StepMade → Type 0
IsAtSpot spot made = made_spot made ≡ spot

-- what stands at a spot is recorded there
pub stands-spot : (shown : Shown) (spot : Spot) (made : StepMade) → Stands shown spot made → spot_of made.0 made.1 ≡ spot
stands-spot shown (spots.Work place) made is = told-all (IsAtSpot (spots.Work place)) (λ e. (steps.Work e.op, step_replies.Work e.reply place)) (λ e. refl) (slice_get shown.work place) made is
stands-spot shown (spots.Clock place) made is = told-all (IsAtSpot (spots.Clock place)) (λ e. (steps.Clock e.op, step_replies.Clock e.reply place)) (λ e. refl) (slice_get shown.clock place) made is
stands-spot shown (spots.Table place) made is = told-all (IsAtSpot (spots.Table place)) (λ e. (steps.Table e.op, step_replies.Table e.reply place)) (λ e. refl) (slice_get shown.table place) made is
stands-spot shown (spots.Sem object place) made is =
    told-all (IsAtSpot (spots.Sem object place)) (λ e. (steps.Sem object e.op, step_replies.Sem object e.reply place)) (λ e. refl) (entry_at shown.sems object place) made is
stands-spot shown (spots.Msgq object place) made is =
    told-all (IsAtSpot (spots.Msgq object place)) (λ e. (steps.Msgq object e.op, step_replies.Msgq object e.reply place)) (λ e. refl) (entry_at shown.msgqs object place) made is
stands-spot shown (spots.Signal object place) made is =
    told-all (IsAtSpot (spots.Signal object place)) (λ e. (steps.Signal object e.op, step_replies.Signal object e.reply place)) (λ e. refl) (entry_at shown.signals object place) made is
stands-spot shown (spots.Chan object place) made is =
    told-all (IsAtSpot (spots.Chan object place)) (λ e. (steps.Chan object e.op, step_replies.Chan object e.reply place)) (λ e. refl) (entry_at shown.chans object place) made is
stands-spot shown (spots.Obs object place) made is =
    told-all (IsAtSpot (spots.Obs object place)) (λ e. (steps.Obs object e.op, step_replies.Obs object e.reply place)) (λ e. refl) (entry_at shown.observers object place) made is
stands-spot shown (spots.LookItem object flags at) made is = ap made_spot is
stands-spot shown (spots.LookSignal object seen) made is = ap made_spot is.1

-- a player that makes the step which stands at a spot records it there
pub spots-after : (s : Content) (shown : Shown) (at : PlayerPlace) (spot : Spot) (made : StepMade) → Stands shown spot made → (after s at made.0 made.1).spots ≡ at.spots ++ spot ∷ []
spots-after s shown at spot made stands = (after-spots s at made.0 made.1).1 ∙ ap (λ (x : Spot). at.spots ++ x ∷ []) (stands-spot shown spot made stands)

-- a player at a place of its log: it stood there, and made the step that stands at the next spot
record Passes (s : Content) (shown : Shown) (at : PlayerPlace) (log : List Spot) (step : ℕ) (spot : Spot) : Type 0 where
  here : PlayerPlace
  front : List StepMade
  stood : AllZip (Stands shown) (take step log) front
  led : IsPlayed s at front here
  spots_are : here.spots ≡ at.spots ++ take step log
  made : StepMade
  stands : Stands shown spot made
  ahead : IsAhead s here made.0

passes : (s : Content) (shown : Shown) (at end : PlayerPlace) (log : List Spot) (made : List StepMade) (step : ℕ) (spot : Spot) → AllZip (Stands shown) log made → IsPlayed s at made end →
    slice_get log step ≡ Some spot → Passes s shown at log step spot
passes s shown at end [] made step spot stands led there = absurd (none-some spot there)
passes s shown at end (x ∷ log) [] step spot stands led there = absurd stands
passes s shown at end (x ∷ log) (m ∷ made) zero spot stands led there = record {
  here = at;
  front = [];
  stood = tt;
  led = refl;
  spots_are = sym (append-nil at.spots);
  made = m;
  stands = subst (λ (y : Spot). Stands shown y m) (same_Some x spot there) stands.0;
  ahead = led.0;
}
passes s shown at end (x ∷ log) (m ∷ made) (suc step) spot stands led there =
    let next = after s at m.0 m.1 in
    let rest = passes s shown next end log made step spot stands.1 led.1 there in
    record {
      here = rest.here;
      front = m ∷ rest.front;
      stood = (stands.0, rest.stood);
      led = (led.0, rest.led);
      spots_are = rest.spots_are ∙ ap (λ (l : List Spot). l ++ take step log) (spots-after s shown at x m stands.0) ∙ append_assoc at.spots (x ∷ []) (take step log);
      made = rest.made;
      stands = rest.stands;
      ahead = rest.ahead;
    }

-- a player of this number is led here by so many of these steps, and makes the one that stands at the next spot
pub record MakesNext (s : Content) (number : ℕ) (shown : Shown) (log : List Spot) (step : ℕ) (spot : Spot) : Type 0 where
  pub here : PlayerPlace
  pub led : IsFollowing s number shown here
  pub by : here.spots ≡ take step log
  pub made : StepMade
  pub stands : Stands shown spot made
  pub ahead : IsAhead s here made.0

-- so it is at each step of a player
pub makes-next : (s : Content) (number : ℕ) (shown : Shown) (end : PlayerPlace) (step : ℕ) (spot : Spot) → IsFollowing s number shown end → slice_get end.spots step ≡ Some spot →
    MakesNext s number shown end.spots step spot
makes-next s number shown end step spot is there =
    let pass = passes s shown is.start end end.spots is.made step spot is.stands is.played there in
    let fresh = (start_at-fresh s number is.start is.starts).none_made in
    let by : pass.here.spots ≡ take step end.spots = pass.spots_are ∙ ap (λ (l : List Spot). l ++ take step end.spots) fresh in
    record {
      here = pass.here;
      led = record {
        start = is.start;
        made = pass.front;
        starts = is.starts;
        stands = subst (λ (l : List Spot). AllZip (Stands shown) l pass.front) (sym by) pass.stood;
        played = pass.led;
      };
      by = by;
      made = pass.made;
      stands = pass.stands;
      ahead = pass.ahead;
    }
