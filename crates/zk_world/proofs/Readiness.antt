-- What a step keeps of a world in which each player can go on.
use Rattle.std.proofs.Common.{◌≡◌, ◌≢◌, ◌⊎◌, ℕ, ◌+◌, ◌<◌, ◌≤◌, true, false, Option, Some, List, [], All, ◌∷◌, ◌++◌, length, map, set, inl, inr, refl, sym, ap, subst, ◌∙◌, arith, length-append}
use Rattle.std.specs.List.{slice_get}
use Rattle.std.proofs.lemmas.Bool.{leb-false}
use Rattle.std.proofs.lemmas.List.{length-set, length-map}
use Rattle.std.proofs.lemmas.List.Elements.{All-set, All-map, All-weaker}
use Rattle.zk_base.proofs.Lists.{All-at}
use Rattle.zk_base.specs.declared.ids.Who.{Who}
use Rattle.zk_scenario.specs.Content.{Content}
use Rattle.zk_scenario.specs.declared.scenario.TheConstants.{MOST_STEPS}
use Rattle.zk_scenario.specs.Steps.{steps_of}
use Rattle.zk_scenario.proofs.Steps.{steps-most}
use Rattle.zk_worker.specs.declared.steps.Step.{Step}
use Rattle.zk_worker.specs.declared.steps.StepReply.{StepReply}
use Rattle.zk_worker.specs.Places.{PlayerPlace}
use Rattle.zk_worker.specs.Protocol.{attempts, after, spot_of}
use Rattle.zk_worker.specs.declared.log.Log.{Log}
use Rattle.zk_worker.specs.Follows.{log_of, is_spent_at, StandsMore, IsFollowing}
use Rattle.zk_worker.specs.Ranges.{IsFit}
use Rattle.zk_worker.specs.Machines.{Machines, machines_of}
use Rattle.zk_worker.specs.Attempt.{reply_in, IsMade}
use Rattle.zk_worker.specs.Looks.{LookedBelow}
use Rattle.zk_worker.specs.Right.{LooksRight}
use Rattle.zk_worker.specs.Shown.{Shown, shown_after, ShowsLog, AreShort}
use Rattle.zk_worker.specs.declared.steps.Spot.{Spot}
use Rattle.zk_worker.proofs.CheckedSteps.{after-spots}
use Rattle.zk_worker.proofs.FitsStill.{after-fits}
use Rattle.zk_worker.proofs.PassedChecks.{replied-passes}
use Rattle.zk_worker.proofs.Replied.{replied-fits}
use Rattle.zk_worker.proofs.ShownSteps.{made-more, log-answered, log-others, unlooked-after, whole-after}
use Rattle.zk_worker.proofs.Looking.{looks-stepped, looks-others, reads-whole}
use Rattle.zk_worker.proofs.Following.{following-still, following-more}
use Rattle.zk_worker.proofs.Lists.{slice_get-set, sum-set}
use Rattle.zk_gathering.specs.Looks as looks
use Rattle.zk_world.specs.Chosen.{IsChosen}
use Rattle.zk_world.specs.Ready.{IsReady, left, all_left, most_shown}
use Rattle.zk_world.specs.World.{World, stepped}
use Rattle.zk_world.proofs.Within.{within-more, within-after, short-within}

-- players that make no more steps than those of their scenario make no more than any may
few-steps : (s : Content) (players : List PlayerPlace) → All (λ at. length at.spots ≤ steps_of s) players → All (λ at. length at.spots ≤ MOST_STEPS) players
few-steps s players = All-weaker (λ at. length at.spots ≤ steps_of s) (λ at. length at.spots ≤ MOST_STEPS) (λ at le. omega (arith, steps-most s)) players

-- each history is shorter than a history may be
pub short-shown : (s : Content) (w : World) → IsReady s w → AreShort w.shown
short-shown s w ready = short-within w.shown w.players ready.few (few-steps s w.players ready.short) ready.within

unspent-short : (s : Content) (at : PlayerPlace) → is_spent_at s at ≡ false → length at.spots < steps_of s
unspent-short s at is = leb-false (steps_of s) (length at.spots) is

-- a player that has made one step more
record IsOneMore (s : Content) (at at' : PlayerPlace) : Type 0 where
  who : at'.who ≡ at.who
  count : length at'.spots ≡ length at.spots + 1

after-one : (s : Content) (at : PlayerPlace) (step : Step) (reply : StepReply) → IsOneMore s at (after s at step reply)
after-one s at step reply =
    let kept = after-spots s at step reply in
    record {
      who = kept.0;
      count = omega (arith, ap (λ (l : List Spot). length l) kept.1, length-append at.spots (spot_of step reply ∷ []));
    }

shows-after : (m : Machines) (s : Content) (w : World) (p : ℕ) (at : PlayerPlace) (step : Step) (reply : StepReply) → IsReady s w → slice_get w.players p ≡ Some at → reply_in m w.shown at.who step ≡ Some reply →
    (q : ℕ) (other : PlayerPlace) → slice_get (set w.players p (after s at step reply)) q ≡ Some other → ShowsLog (shown_after w.shown at.who (length at.spots) step reply) other.who.number other.spots
shows-after m s w p at step reply ready is answered q other found = by_place (slice_get-set w.players p q (after s at step reply) other found)
  where
    by_place : ((q ≡ p) × (other ≡ after s at step reply)) ⊎ ((q ≢ p) × (slice_get w.players q ≡ Some other)) →
        ShowsLog (shown_after w.shown at.who (length at.spots) step reply) other.who.number other.spots
    by_place (inl same) =
        let kept = after-spots s at step reply in
        subst (λ (o : PlayerPlace). ShowsLog (shown_after w.shown at.who (length at.spots) step reply) o.who.number o.spots) (sym same.1)
        (subst (λ (spots : List Spot). ShowsLog (shown_after w.shown at.who (length at.spots) step reply) (after s at step reply).who.number spots) (sym kept.1)
        (subst (λ (who : Who). ShowsLog (shown_after w.shown at.who (length at.spots) step reply) who.number (at.spots ++ spot_of step reply ∷ [])) (sym kept.0)
        (log-answered m w.shown at.who at.spots step reply (ready.shows p at is) answered)))
    by_place (inr apart) =
        let differ : other.who.number ≢ at.who.number = λ same. apart.0 (sym (ready.numbers q other apart.1) ∙ same ∙ ready.numbers p at is) in
        let unlooked = subst (λ (o : Option ℕ). LookedBelow o (length other.spots)) (sym (unlooked-after w.shown at.who (length at.spots) step reply ready.unlooked)) tt in
        log-others w.shown (shown_after w.shown at.who (length at.spots) step reply) at.who.number other.who.number (length at.spots) other.spots (spot_of step reply) (step, reply)
        (made-more m w.shown at.who (length at.spots) step reply answered) differ unlooked (ready.shows q other apart.1)

looks-after : (m : Machines) (s : Content) (w : World) (p : ℕ) (at : PlayerPlace) (step : Step) (reply : StepReply) → m ≡ machines_of s → IsReady s w → slice_get w.players p ≡ Some at →
    reply_in m w.shown at.who step ≡ Some reply → (q : ℕ) (other : PlayerPlace) → slice_get (set w.players p (after s at step reply)) q ≡ Some other →
    LooksRight (machines_of s) (shown_after w.shown at.who (length at.spots) step reply) other.spots
looks-after m s w p at step reply same ready is answered q other found = by_place (slice_get-set w.players p q (after s at step reply) other found)
  where
    longer : Shown
    longer = shown_after w.shown at.who (length at.spots) step reply

    made : IsMade true m at.who (length at.spots) step reply w.shown (shown_after w.shown at.who (length at.spots) step reply)
    made = record { found = w.shown; since = refl; replied = answered; read_at = reads-whole m w.shown at.who step reply ready.whole answered; shown = refl }

    by_place : ((q ≡ p) × (other ≡ after s at step reply)) ⊎ ((q ≢ p) × (slice_get w.players q ≡ Some other)) → LooksRight (machines_of s) longer other.spots
    by_place (inl mine) =
        let right = subst (λ (x : Machines). LooksRight x w.shown at.spots) (sym same) (ready.looks p at is) in
        looks-stepped true m (machines_of s) s at other step reply w.shown longer (sym same) (ready.shows p at is) right made mine.1
    by_place (inr apart) = looks-others (machines_of s) w.shown at.who (length at.spots) step reply other.spots (ready.looks q other apart.1)

follow-after : (m : Machines) (s : Content) (w : World) (p : ℕ) (at : PlayerPlace) (made : Step × StepReply) → IsReady s w → slice_get w.players p ≡ Some at →
    IsChosen m w.shown at.who (attempts s at) made → (q : ℕ) (other : PlayerPlace) → slice_get (set w.players p (after s at made.0 made.1)) q ≡ Some other →
    IsFollowing s q (shown_after w.shown at.who (length at.spots) made.0 made.1) other
follow-after m s w p at made ready is found q other there = by_place (slice_get-set w.players p q (after s at made.0 made.1) other there)
  where
    longer : Shown
    longer = shown_after w.shown at.who (length at.spots) made.0 made.1

    stands : StandsMore w.shown longer (spot_of made.0 made.1) made
    stands = (made-more m w.shown at.who (length at.spots) made.0 made.1 found.answered).stands

    by_place : ((q ≡ p) × (other ≡ after s at made.0 made.1)) ⊎ ((q ≢ p) × (slice_get w.players q ≡ Some other)) → IsFollowing s q longer other
    by_place (inl same) =
        subst (λ (n : ℕ). IsFollowing s n longer other) (sym same.0)
        (subst (λ (a : PlayerPlace). IsFollowing s p longer a) (sym same.1)
        (following-more s p w.shown longer at made.0 made.1 stands (found.place, found.is_there) (ready.follow p at is)))
    by_place (inr apart) = following-still s q w.shown longer other stands.still (ready.follow q other apart.1)

numbers-after : (s : Content) (w : World) (p : ℕ) (at at' : PlayerPlace) → IsReady s w → slice_get w.players p ≡ Some at → IsOneMore s at at' →
    (q : ℕ) (other : PlayerPlace) → slice_get (set w.players p at') q ≡ Some other → other.who.number ≡ q
numbers-after s w p at at' ready is more q other found = by_place (slice_get-set w.players p q at' other found)
  where
    by_place : ((q ≡ p) × (other ≡ at')) ⊎ ((q ≢ p) × (slice_get w.players q ≡ Some other)) → other.who.number ≡ q
    by_place (inl same) = ap (λ (o : PlayerPlace). o.who.number) same.1 ∙ ap (λ w. w.number) more.who ∙ ready.numbers p at is ∙ sym same.0
    by_place (inr apart) = ready.numbers q other apart.1

-- a world that is ready is so after a step that a player with steps left chooses
pub ready-stepped : (m : Machines) (s : Content) (w : World) (p : ℕ) (at : PlayerPlace) (made : Step × StepReply) → m ≡ machines_of s → IsReady s w → slice_get w.players p ≡ Some at →
    is_spent_at s at ≡ false → IsChosen m w.shown at.who (attempts s at) made → IsReady s (stepped s w p at (Some made))
ready-stepped m s w p at made same ready is unspent found =
    let at' = after s at made.0 made.1 in
    let more = after-one s at made.0 made.1 in
    let count : PlayerPlace → ℕ = λ at. length at.spots in
    let Short : PlayerPlace → Type 0 = λ at. length at.spots ≤ steps_of s in
    let told = replied-fits s m w.shown at.who made.0 made.1 ready.valid same found.answered in
    let passes = replied-passes s m w.shown at.who made.0 made.1 same found.answered in
    record {
      valid = ready.valid;
      few = omega (arith, length-set w.players p at', ready.few);
      numbers = numbers-after s w p at at' ready is more;
      shows = shows-after m s w p at made.0 made.1 ready is found.answered;
      looks = looks-after m s w p at made.0 made.1 same ready is found.answered;
      short = All-set Short w.players p at' (omega (arith, more.count, unspent-short s at unspent)) ready.short;
      within = within-more (shown_after w.shown at.who (length at.spots) made.0 made.1) (most_shown w.players + 1) (most_shown (set w.players p at'))
          (omega (arith, length-set w.players p at', sum-set count w.players p at at' is, more.count))
          (within-after w.shown (most_shown w.players) at.who (length at.spots) made.0 made.1 ready.within);
      whole = whole-after w.shown at.who (length at.spots) made.0 made.1 ready.whole;
      unlooked = unlooked-after w.shown at.who (length at.spots) made.0 made.1 ready.unlooked;
      follow = follow-after m s w p at made ready is found;
      fits = All-set (IsFit s) w.players p at'
          (after-fits s at made.0 made.1 ready.valid (All-at (IsFit s) w.players p at ready.fits is) (found.place, found.is_there) told passes) ready.fits;
    }

-- a step leaves fewer steps
pub left-stepped : (s : Content) (w : World) (p : ℕ) (at : PlayerPlace) (made : Step × StepReply) → slice_get w.players p ≡ Some at → is_spent_at s at ≡ false →
    all_left s (stepped s w p at (Some made)).players < all_left s w.players
left-stepped s w p at made is unspent =
    let at' = after s at made.0 made.1 in
    omega (arith, sum-set (left s) w.players p at at' is, (after-one s at made.0 made.1).count, unspent-short s at unspent)

-- the logs of the players are short
pub logs-short : (s : Content) (w : World) → IsReady s w → looks.AreShort (map (log_of s) w.players)
logs-short s w ready = record {
  few = omega (arith, ready.few, length-map w.players (log_of s));
  short = All-map (λ (log : Log). length log.steps ≤ MOST_STEPS) (log_of s) w.players (few-steps s w.players ready.short);
}
