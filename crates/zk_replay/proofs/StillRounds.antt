-- What each step keeps holds after any number of rounds; and where a round changes nothing, no player can go on.
use Rattle.std.proofs.Common.{◌≡◌, ◌⊎◌, inl, inr, ℕ, zero, suc, ◌+◌, ◌<◌, ◌≤◌, Bool, true, false, cond, Option, Some, None, List, [], ◌∷◌, length, refl, sym, ap, subst, ◌∙◌, arith, length-append}
use Rattle.std.specs.List.{slice_get, sum_by}
use Rattle.zk_base.specs.declared.ids.Who.{Who}
use Rattle.zk_scenario.specs.Content.{Content}
use Rattle.zk_worker.specs.declared.steps.Step.{Step}
use Rattle.zk_worker.specs.declared.steps.StepReply.{StepReply}
use Rattle.zk_worker.specs.Places.{PlayerPlace}
use Rattle.zk_worker.specs.Protocol.{after, spot_of}
use Rattle.zk_worker.specs.Machines.{Machines}
use Rattle.zk_worker.specs.Attempt.{reply_in}
use Rattle.zk_worker.specs.Shown.{Shown}
use Rattle.zk_worker.specs.Choosing.{or_else, first_possible, chosen}
use Rattle.zk_worker.specs.declared.steps.Spot.{Spot}
use Rattle.zk_worker.proofs.CheckedSteps.{after-spots}
use Rattle.zk_worker.proofs.Lists.{sum-set}
use Rattle.zk_world.specs.Chosen.{IsChosen}
use Rattle.zk_world.specs.World.{World, stepped, is_spent}
use Rattle.zk_replay.specs.RoundRobin.{turn, turn_of, turns, round, rounds}

-- what is chosen is one of the attempts, and was answered so
pub first_possible-is : (m : Machines) (shown : Shown) (who : Who) (ahead : List Step) (made : Step × StepReply) →
    first_possible m shown who ahead ≡ Some made → IsChosen m shown who ahead made
first_possible-is m shown who [] made is = absurd (cc)
first_possible-is m shown who (x ∷ xs) made is = by_answer (reply_in m shown who x) refl is (first_possible-is m shown who xs made)
  where
    by_answer : (answer : Option StepReply) → reply_in m shown who x ≡ answer → or_else x answer (first_possible m shown who xs) ≡ Some made →
        (first_possible m shown who xs ≡ Some made → IsChosen m shown who xs made) → IsChosen m shown who (x ∷ xs) made
    by_answer None none is further =
        let more = further is in
        record { place = suc more.place; is_there = more.is_there; answered = more.answered }
    by_answer (Some reply) some is further =
        let pair : (x, reply) ≡ made = cc in
        let step = ap (λ (p : Step × StepReply). p.0) pair in
        let told = ap (λ (p : Step × StepReply). p.1) pair in
        record {
          place = 0;
          is_there = ap (λ (y : Step). Some y) step;
          answered = ap (reply_in m shown who) (sym step) ∙ some ∙ ap (λ (r : StepReply). Some r) told;
        }

at_or_above : (p q : ℕ) → p ≤ q → (p ≡ q) ⊎ (p + 1 ≤ q)
at_or_above zero zero low = inl refl
at_or_above zero (suc q) low = inr (omega arith)
at_or_above (suc p) zero low = absurd (omega arith)
at_or_above (suc p) (suc q) low = further (at_or_above p q (omega arith))
  where
    further : (p ≡ q) ⊎ (p + 1 ≤ q) → (suc p ≡ suc q) ⊎ (suc p + 1 ≤ suc q)
    further (inl same) = inl (ap suc same)
    further (inr above) = inr (omega arith)

-- how many steps all players have made
abbrev steps_of : World → ℕ
steps_of w = sum_by (λ at. length at.spots) w.players

module _ (m : Machines) (s : Content) where
  -- what holds before a turn, and after a step of its player, holds after the turn
  pub turn-keeps : (P : World → Type 0) (w : World) (p : ℕ) → P w →
      ((at : PlayerPlace) (made : Step × StepReply) → is_spent s w ≡ false → slice_get w.players p ≡ Some at → chosen m s w.shown at ≡ Some made → P (stepped s w p at (Some made))) → P (turn m s w p)
  turn-keeps P w p here kept = by_spent (is_spent s w) refl
    where
      by_made : (at : PlayerPlace) (made : Option (Step × StepReply)) → is_spent s w ≡ false → slice_get w.players p ≡ Some at → chosen m s w.shown at ≡ made → P (stepped s w p at made)
      by_made at None unspent is choice = here
      by_made at (Some made) unspent is choice = kept at made unspent is choice

      by_at : (o : Option PlayerPlace) → is_spent s w ≡ false → slice_get w.players p ≡ o → P (turn_of m s w p o)
      by_at None unspent is = here
      by_at (Some at) unspent is = by_made at (chosen m s w.shown at) unspent is refl

      by_spent : (b : Bool) → is_spent s w ≡ b → P (cond b w (turn_of m s w p (slice_get w.players p)))
      by_spent true spent = here
      by_spent false unspent = by_at (slice_get w.players p) unspent refl

  module _ (P : World → Type 0) (kept : (w : World) (p : ℕ) (at : PlayerPlace) (made : Step × StepReply) → P w → is_spent s w ≡ false → slice_get w.players p ≡ Some at →
      chosen m s w.shown at ≡ Some made → P (stepped s w p at (Some made))) where
    pub turns-keep : (w : World) (n p : ℕ) → P w → P (turns m s w n p)
    turns-keep w zero p here = here
    turns-keep w (suc n) p here =
        turns-keep (turn m s w p) n (p + 1) (turn-keeps P w p here (λ at made unspent is choice. kept w p at made here unspent is choice))

    -- what each step keeps holds after any number of rounds
    pub rounds-keep : (n : ℕ) (w : World) → P w → P (rounds m s n w)
    rounds-keep zero w here = here
    rounds-keep (suc n) w here = let before = rounds m s n w in turns-keep before (length before.players) 0 (rounds-keep n w here)

  -- a step more is made
  steps-more : (w : World) (p : ℕ) (at : PlayerPlace) (made : Step × StepReply) → slice_get w.players p ≡ Some at → steps_of (stepped s w p at (Some made)) ≡ steps_of w + 1
  steps-more w p at made is =
      let count : PlayerPlace → ℕ = λ at. length at.spots in
      let longer = ap (λ (l : List Spot). length l) (after-spots s at made.0 made.1).1 in
      omega (arith, sum-set count w.players p at (after s at made.0 made.1) is, longer, length-append at.spots (spot_of made.0 made.1 ∷ []))

  turns-longer : (w : World) (n p : ℕ) → steps_of w ≤ steps_of (turns m s w n p)
  turns-longer w n p =
      let P : World → Type 0 = λ v. steps_of w ≤ steps_of v in
      turns-keep P (λ v q at made here unspent is choice. omega (arith, steps-more v q at made is)) w n p (omega arith)

  -- a turn in which no step is made changes nothing, since its player can't go on
  turn-still : (w : World) (p : ℕ) → is_spent s w ≡ false → steps_of (turn m s w p) ≤ steps_of w →
      (turn m s w p ≡ w) × ((at : PlayerPlace) → slice_get w.players p ≡ Some at → chosen m s w.shown at ≡ None)
  turn-still w p unspent short = by_at (slice_get w.players p) refl (subst (λ (v : World). steps_of v ≤ steps_of w) opened short)
    where
      opened : turn m s w p ≡ turn_of m s w p (slice_get w.players p)
      opened = ap (λ b. cond b w (turn_of m s w p (slice_get w.players p))) unspent

      by_made : (at : PlayerPlace) (made : Option (Step × StepReply)) → slice_get w.players p ≡ Some at → chosen m s w.shown at ≡ made → steps_of (stepped s w p at made) ≤ steps_of w →
          turn_of m s w p (slice_get w.players p) ≡ stepped s w p at made →
          (turn m s w p ≡ w) × ((at : PlayerPlace) → slice_get w.players p ≡ Some at → chosen m s w.shown at ≡ None)
      by_made at None is choice short same =
          (opened ∙ same, λ other there. let it : at ≡ other = cc in ap (chosen m s w.shown) (sym it) ∙ choice)
      by_made at (Some made) is choice short same = absurd (omega (arith, steps-more w p at made is))

      by_at : (o : Option PlayerPlace) → slice_get w.players p ≡ o → steps_of (turn_of m s w p (slice_get w.players p)) ≤ steps_of w →
          (turn m s w p ≡ w) × ((at : PlayerPlace) → slice_get w.players p ≡ Some at → chosen m s w.shown at ≡ None)
      by_at None is short = (opened ∙ ap (turn_of m s w p) is, λ at there. absurd (cc))
      by_at (Some at) is short =
          let same = ap (turn_of m s w p) is in
          by_made at (chosen m s w.shown at) is refl (subst (λ (v : World). steps_of v ≤ steps_of w) same short) same

  turns-still : (w : World) (n p : ℕ) → is_spent s w ≡ false → turns m s w n p ≡ w → (q : ℕ) (at : PlayerPlace) → p ≤ q → q < p + n → slice_get w.players q ≡ Some at → chosen m s w.shown at ≡ None
  turns-still w zero p unspent same q at low high is = absurd (omega arith)
  turns-still w (suc n) p unspent same q at low high is =
      let long = turns-longer (turn m s w p) n (p + 1) in
      let all = ap steps_of same in
      let here = turn-still w p unspent (omega arith) in
      let further = turns-still w n (p + 1) unspent (ap (λ (v : World). turns m s v n (p + 1)) (sym here.0) ∙ same) in
      by_place (at_or_above p q low) here.1 (λ above. further q at above (omega arith) is)
    where
      by_place : (p ≡ q) ⊎ (p + 1 ≤ q) → ((other : PlayerPlace) → slice_get w.players p ≡ Some other → chosen m s w.shown other ≡ None) →
          (p + 1 ≤ q → chosen m s w.shown at ≡ None) → chosen m s w.shown at ≡ None
      by_place (inl here) mine others = mine at (ap (λ (k : ℕ). slice_get w.players k) here ∙ is)
      by_place (inr above) mine others = others above

  -- where a round changes nothing and no player is spent, no player has a possible attempt
  pub round-still : (w : World) → round m s w ≡ w → is_spent s w ≡ false → (q : ℕ) (at : PlayerPlace) → q < length w.players → slice_get w.players q ≡ Some at → chosen m s w.shown at ≡ None
  round-still w same unspent q at within is = turns-still w (length w.players) 0 unspent same q at (omega arith) (omega arith) is
