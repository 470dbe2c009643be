-- What holds of every world holds after a step.
use Rattle.std.proofs.Common.{◌≡◌, ◌≢◌, ◌⊎◌, ℕ, ◌<◌, false, Some, length, inl, inr, ap, sym, subst, ◌∙◌, arith}
use Rattle.std.specs.List.{slice_get, slice_set}
use Rattle.std.proofs.lemmas.List.{length-set}
use Rattle.std.proofs.lemmas.Option.{slice_get_within}
use Rattle.zk_base.proofs.Lists.{All-at}
use Rattle.zk_scenario.specs.Content.{Content}
use Rattle.zk_worker.specs.declared.steps.Step.{Step}
use Rattle.zk_worker.specs.declared.steps.StepReply.{StepReply}
use Rattle.zk_worker.specs.Follows.{is_spent_at}
use Rattle.zk_worker.specs.Machines.{Machines, machines_of}
use Rattle.zk_worker.specs.Places.{PlayerPlace}
use Rattle.zk_worker.specs.Protocol.{attempts, after, spot_of}
use Rattle.zk_worker.specs.Ranges.{IsFit}
use Rattle.zk_worker.specs.Attempt.{reply_in}
use Rattle.zk_worker.specs.Shown.{Shown, shown_at, shown_after}
use Rattle.zk_worker.proofs.Between.{log-later}
use Rattle.zk_worker.proofs.Lists.{slice_get-set}
use Rattle.zk_worker.proofs.Ranges.{ahead-takes}
use Rattle.zk_worker.proofs.ShownSteps.{IsMore, made-more}
use Rattle.zk_world.specs.Chosen.{IsChosen}
use Rattle.zk_world.specs.Legal.{IsLegalShown}
use Rattle.zk_world.specs.Ready.{IsReady}
use Rattle.zk_world.specs.Sound.{AreKnown, IsSound}
use Rattle.zk_world.specs.Tending.{IsAtWork}
use Rattle.zk_world.specs.World.{World, stepped}
use Rattle.zk_world.proofs.AtWork.{at-work-made, at-work-beside}
use Rattle.zk_world.proofs.Fitting.{fitting-step}
use Rattle.zk_world.proofs.Legality.{legal-after}
use Rattle.zk_world.proofs.Readiness.{ready-stepped}

known-step : (m : Machines) (s : Content) (w : World) (p : ℕ) (at : PlayerPlace) (made : Step × StepReply) → IsReady s w → AreKnown w → slice_get w.players p ≡ Some at →
    IsChosen m w.shown at.who (attempts s at) made → AreKnown (stepped s w p at (Some made))
known-step m s w p at made ready known there chosen spot number step is = by_spot (more.back spot (number, step) is)
  where
    more : IsMore w.shown (shown_after w.shown at.who (length at.spots) made.0 made.1) (spot_of made.0 made.1) (at.who.number, length at.spots) made
    more = made-more m w.shown at.who (length at.spots) made.0 made.1 chosen.answered

    long : length (slice_set w.players p (after s at made.0 made.1)) ≡ length w.players
    long = length-set w.players p (after s at made.0 made.1)

    by_spot : (shown_at w.shown spot ≡ Some (number, step)) ⊎ ((spot ≡ spot_of made.0 made.1) × ◌≡◌ {A = ℕ × ℕ} (at.who.number, length at.spots) (number, step)) →
        number < length (slice_set w.players p (after s at made.0 made.1))
    by_spot (inl before) = omega (arith, long, known spot number step before)
    by_spot (inr both) =
        let mine : at.who.number ≡ number = ap (λ (b : ℕ × ℕ). b.0) both.1 in
        omega (arith, long, ready.numbers p at there, slice_get_within w.players p at there)

legal-step : (m : Machines) (s : Content) (w : World) (p : ℕ) (at : PlayerPlace) (made : Step × StepReply) → m ≡ machines_of s → IsReady s w → IsLegalShown m w.shown → slice_get w.players p ≡ Some at →
    IsChosen m w.shown at.who (attempts s at) made → IsLegalShown m (stepped s w p at (Some made)).shown
legal-step m s w p at made same ready legal there chosen =
    legal-after m w.shown at.who (length at.spots) made.0 made.1 legal chosen.answered
    (ahead-takes s m at ready.valid same (All-at (IsFit s) w.players p at ready.fits there) made.0 (chosen.place, chosen.is_there))
    (log-later at.who.number at.spots w.shown (ready.shows p at there))

works-step : (m : Machines) (s : Content) (w : World) (p : ℕ) (at : PlayerPlace) (made : Step × StepReply) → m ≡ machines_of s → IsSound s w → slice_get w.players p ≡ Some at →
    IsChosen m w.shown at.who (attempts s at) made → (q : ℕ) (other : PlayerPlace) → slice_get (slice_set w.players p (after s at made.0 made.1)) q ≡ Some other →
    IsAtWork s (stepped s w p at (Some made)).shown other
works-step m s w p at made same sound there chosen q other is = by_place (slice_get-set w.players p q (after s at made.0 made.1) other is)
  where
    later : Shown
    later = shown_after w.shown at.who (length at.spots) made.0 made.1

    by_place : ((q ≡ p) × (other ≡ after s at made.0 made.1)) ⊎ ((q ≢ p) × (slice_get w.players q ≡ Some other)) → IsAtWork s later other
    by_place (inl mine) =
        let answered = subst (λ (n : Machines). reply_in n w.shown at.who made.0 ≡ Some made.1) same chosen.answered in
        subst (IsAtWork s later) (sym mine.1)
        (at-work-made s w.shown at made.0 made.1 sound.ready.valid (All-at (IsFit s) w.players p at sound.ready.fits there) (chosen.place, chosen.is_there) answered (sound.works p at there))
    by_place (inr apart) =
        let differ : at.who.number ≢ other.who.number = λ one. apart.0 (sym (sound.ready.numbers q other apart.1) ∙ sym one ∙ sound.ready.numbers p at there) in
        at-work-beside s other w.shown at.who (length at.spots) made.0 made.1 differ (sound.works q other apart.1)

-- a sound world is so after a step that a player with steps left chooses
pub sound-stepped : (m : Machines) (s : Content) (w : World) (p : ℕ) (at : PlayerPlace) (made : Step × StepReply) → m ≡ machines_of s → IsSound s w → slice_get w.players p ≡ Some at →
    is_spent_at s at ≡ false → IsChosen m w.shown at.who (attempts s at) made → IsSound s (stepped s w p at (Some made))
sound-stepped m s w p at made same sound there unspent chosen =
    let after_it = stepped s w p at (Some made) in
    record {
      ready = ready-stepped m s w p at made same sound.ready there unspent chosen;
      as_many = length-set w.players p (after s at made.0 made.1) ∙ sound.as_many;
      known = known-step m s w p at made sound.ready sound.known there chosen;
      legal = subst (λ (n : Machines). IsLegalShown n after_it.shown) same
          (legal-step m s w p at made same sound.ready (subst (λ (n : Machines). IsLegalShown n w.shown) (sym same) sound.legal) there chosen);
      fitting = fitting-step s w p at made sound.ready sound.fitting there (chosen.place, chosen.is_there);
      works = works-step m s w p at made same sound there chosen;
    }
