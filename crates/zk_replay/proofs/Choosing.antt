-- On services that nobody else uses, a step of a player is the turn of the definition.
use Rattle.std.proofs.Common.{◌≡◌, ℕ, zero, suc, ◌<◌, Bool, true, false, cond, Option, Some, None, List, [], ◌∷◌, length, is_some, nat_lt, refl, sym, ap, subst, ◌∙◌, arith}
use Rattle.std.specs.List.{slice_get}
use Rattle.std.proofs.lemmas.Option.{slice_get_within}
use Rattle.zk_base.specs.declared.ids.Who.{Who}
use Rattle.zk_scenario.specs.Content.{Content}
use Rattle.zk_scenario.specs.Steps.{steps_of}
use Rattle.zk_worker.specs.declared.steps.Step.{Step}
use Rattle.zk_worker.specs.declared.steps.StepReply.{StepReply}
use Rattle.zk_worker.specs.declared.frames.Frame.{Frame}
use Rattle.zk_worker.specs.declared.playing.Stepped.{Stepped}
use Rattle.zk_worker.specs.declared.playing.Stepped.TheVariants.{Did, NotYet, Ended, Spent}
use Rattle.zk_worker.specs.Places.{PlayerPlace}
use Rattle.zk_worker.specs.declared.checks.Mode.{Mode}
use Rattle.zk_worker.specs.declared.checks.Mode.TheVariants.{User}
use Rattle.zk_worker.specs.Checks.{next_check}
use Rattle.zk_worker.specs.Protocol.{attempts, checks_first, frames_attempts}
use Rattle.zk_worker.specs.Follows.{is_spent_at, is_through}
use Rattle.zk_worker.specs.Machines.{Machines}
use Rattle.zk_worker.specs.Shown.{Shown, shown_after}
use Rattle.zk_worker.specs.Attempt.{reply_in, Counts}
use Rattle.zk_worker.specs.Playing.{WereTried, HasStepped, HasWaited, StepOutcome}
use Rattle.zk_worker.specs.Choosing.{or_else, first_possible, chosen}
use Rattle.zk_replay.specs.Turning.{made_step, shown_with, at_after, IsTurn}

module _ (m : Machines) (shown : Shown) (who : Who) where
  -- the first of the attempts that is possible is the one that is chosen
  first-is : (ahead : List Step) (index : ℕ) (step : Step) (reply : StepReply) → slice_get ahead index ≡ Some step →
      ((k : ℕ) (x : Step) → k < index → slice_get ahead k ≡ Some x → reply_in m shown who x ≡ None) → reply_in m shown who step ≡ Some reply →
      first_possible m shown who ahead ≡ Some (step, reply)
  first-is [] index step reply is earlier answered = absurd (cc)
  first-is (x ∷ xs) zero step reply is earlier answered =
      let same : x ≡ step = cc in
      subst (λ (y : Step). or_else y (reply_in m shown who y) (first_possible m shown who xs) ≡ Some (step, reply)) (sym same)
      (ap (λ (o : Option StepReply). or_else step o (first_possible m shown who xs)) answered)
  first-is (x ∷ xs) (suc index) step reply is earlier answered =
      ap (λ (o : Option StepReply). or_else x o (first_possible m shown who xs)) (earlier 0 x (omega arith) refl)
      ∙ first-is xs index step reply is (λ k y below there. earlier (suc k) y (omega arith) there) answered

  -- where none is possible none is chosen
  none-is : (ahead : List Step) → ((k : ℕ) (x : Step) → slice_get ahead k ≡ Some x → reply_in m shown who x ≡ None) → first_possible m shown who ahead ≡ None
  none-is [] each = refl
  none-is (x ∷ xs) each =
      ap (λ (o : Option StepReply). or_else x o (first_possible m shown who xs)) (each 0 x refl) ∙ none-is xs (λ k y there. each (suc k) y there)

-- a player that is through has no attempts
through-none : (s : Content) (at : PlayerPlace) → is_through at.frames ≡ true → attempts s at ≡ []
through-none s at through = by_frames at.frames through
  where
    none-next : (mode : Mode) → checks_first (next_check s mode at.passed []) (frames_attempts s []) ≡ []
    none-next User = refl
    none-next mode = refl

    by_room : (b : Bool) → cond b (checks_first (next_check s at.mode at.passed []) (frames_attempts s [])) [] ≡ []
    by_room true = none-next at.mode
    by_room false = refl

    by_frames : (frames : List Frame) → is_through frames ≡ true →
        cond (nat_lt (length at.spots) (steps_of s)) (checks_first (next_check s at.mode at.passed frames) (frames_attempts s frames)) [] ≡ []
    by_frames [] is = by_room (nat_lt (length at.spots) (steps_of s))
    by_frames (frame ∷ below) is = absurd (cc)

module _ (m : Machines) (s : Content) (at at' : PlayerPlace) (old new : Shown) (counts counts' : Counts) where
  still-turn : chosen m s old at ≡ None → at' ≡ at → new ≡ old → IsTurn m s at at' old new false
  still-turn none same nothing = record {
    place = same ∙ ap (at_after s at) (sym none);
    shows = nothing ∙ ap (shown_with old at.who (length at.spots)) (sym none);
    moves = ap is_some (sym none);
  }

  -- an attempt that was tried isn't possible, since nothing came between
  was-none : (ahead : List Step) (many : ℕ) (until : Shown) → WereTried true m at.who ahead many old until counts counts' → (k : ℕ) (step : Step) → k < many → slice_get ahead k ≡ Some step →
      reply_in m old at.who step ≡ None
  was-none ahead many until tried k step below there =
      let was = tried k step below there in
      subst (λ (x : Shown). reply_in m x at.who step ≡ None) was.since was.impossible

  stepped-turn : HasStepped true m s at at' old new counts counts' → IsTurn m s at at' old new true
  stepped-turn has =
      let first = has.first in
      let replied : reply_in m old at.who has.step ≡ Some has.reply =
      subst (λ (x : Shown). reply_in m x at.who has.step ≡ Some has.reply) first.made.since first.made.replied in
      let choice = first-is m old at.who (attempts s at) first.index has.step has.reply first.is_there
      (was-none (attempts s at) first.index first.made.found first.tried) replied in
      record {
        place = has.next ∙ ap (at_after s at) (sym choice);
        shows = first.made.shown ∙ ap (λ (x : Shown). shown_after x at.who (length at.spots) has.step has.reply) first.made.since
            ∙ ap (shown_with old at.who (length at.spots)) (sym choice);
        moves = ap is_some (sym choice);
      }

  waited-turn : HasWaited true m s at at' old new counts counts' → IsTurn m s at at' old new false
  waited-turn has =
      let none = has.none in
      still-turn
      (none-is m old at.who (attempts s at)
      (λ k step there. was-none (attempts s at) (length (attempts s at)) new none.tried k step (slice_get_within (attempts s at) k step there) there))
      has.unchanged none.others

  by-answer : (stepped : Stepped) → is_spent_at s at ≡ false → StepOutcome true m s at at' old new counts counts' stepped → IsTurn m s at at' old new (made_step stepped)
  by-answer Did unspent does = stepped-turn does
  by-answer NotYet unspent does = waited-turn does
  by-answer Ended unspent does =
      still-turn (ap (first_possible m old at.who) (through-none s at does.1.because)) does.1.unchanged does.1.nothing
  by-answer Spent unspent does = absurd (cc)

-- what a step does is what the definition of a turn says
pub is-turn : (alone : Bool) (m : Machines) (s : Content) (at at' : PlayerPlace) (old new : Shown) (counts counts' : Counts) (stepped : Stepped) → alone ≡ true → is_spent_at s at ≡ false →
    StepOutcome alone m s at at' old new counts counts' stepped → IsTurn m s at at' old new (made_step stepped)
is-turn alone m s at at' old new counts counts' stepped is_alone unspent does =
    by-answer m s at at' old new counts counts' stepped unspent (subst (λ (b : Bool). StepOutcome b m s at at' old new counts counts' stepped) is_alone does)
