-- Rounds of what a kernel has left.
use Rattle.std.proofs.Common.{◌≡◌, inl, inr, ℕ, ◌+◌, ◌<◌, Bool, true, false, cond, ◌||◌, is_some, Some, None, Ok, Err, Option, Result, List, [], length, set, refl, sym, ap, subst, ◌∙◌, arith}
use Rattle.std.specs.Prelude.{IfOk}
use Rattle.std.specs.List.{slice_get}
use Rattle.zk_base.specs.declared.errors.NoMemory.{NoMemory}
use Rattle.std.proofs.lemmas.Option.{slice_get_within}
use Rattle.std.proofs.lemmas.Bool.{cases_lt, le-ltb, leb-true}
use Rattle.std.proofs.lemmas.List.{length-set}
use Rattle.zk_worker.proofs.Lists.{set-there}
use Rattle.zk_scenario.specs.Content.{Content}
use Rattle.zk_scenario.specs.Steps.{steps_of}
use Rattle.zk_scenario.specs.Valid.{IsValid}
use Rattle.zk_worker.specs.declared.playing.Stepped.{Stepped}
use Rattle.zk_worker.specs.declared.playing.Stepped.TheVariants.{Did, NotYet, Ended, Spent}
use Rattle.zk_worker.specs.declared.steps.Step.{Step}
use Rattle.zk_worker.specs.declared.steps.StepReply.{StepReply}
use Rattle.zk_worker.specs.Checks.{next_check}
use Rattle.zk_worker.specs.Choosing.{chosen, first_possible}
use Rattle.zk_worker.specs.Follows.{is_spent_at}
use Rattle.zk_worker.specs.Machines.{Machines, machines_of}
use Rattle.zk_worker.specs.Places.{PlayerPlace}
use Rattle.zk_worker.specs.Playing.{StepOutcome}
use Rattle.zk_worker.specs.Protocol.{after, checks_first, frames_attempts}
use Rattle.zk_worker.specs.Shown.{Shown}
use Rattle.zk_trace.specs.declared.trace.Trace.{Trace}
use Rattle.zk_trace.specs.Ending.{EndsSo}
use Rattle.zk_trace.specs.Lawful.{IsLawful}
use Rattle.zk_world.specs.Ready.{all_left}
use Rattle.zk_world.specs.Sound.{IsSound}
use Rattle.zk_world.specs.Traces.{ending_at, world_trace, IsFaithful}
use Rattle.zk_world.specs.World.{World, world, stepped}
use Rattle.zk_world.proofs.Lawful.{sound-halts, lawful-where}
use Rattle.zk_world.proofs.Readiness.{left-stepped}
use Rattle.zk_replay.specs.Turning.{IsTurn, made_step, at_after, shown_with}
use Rattle.zk_replay.proofs.Choosing.{is-turn}
use Rattle.zk_kernel.specs.Rests.{Left, HasGoneOn}
use Rattle.zk_kernel.proofs.GoingOn.{ahead-unspent, outcome-sound}
use Rattle.zk_cores.specs.Finished.{NoneOf, NoneGoesOn, IsRound}

-- a player that has made all its steps has no attempt
spent-none : (s : Content) (at : PlayerPlace) (shown : Shown) → is_spent_at s at ≡ true → chosen (machines_of s) s shown at ≡ None
spent-none s at shown spent =
    let full = le-ltb (length at.spots) (steps_of s) (leb-true (steps_of s) (length at.spots) spent) in
    ap (λ (b : Bool). first_possible (machines_of s) shown at.who (cond b (checks_first (next_check s at.mode at.passed at.frames) (frames_attempts s at.frames)) [])) full

-- what a step of what is left did
pub record IsStep (s : Content) (old new : World) (p : ℕ) (did : Bool) : Type 0 where
  pub sound : IsSound s new
  pub many : length new.players ≡ length old.players
  pub less : did ≡ true → all_left s new.players < all_left s old.players
  pub still : did ≡ false → (new ≡ old) × ((at : PlayerPlace) → slice_get old.players p ≡ Some at → chosen (machines_of s) s old.shown at ≡ None)

module _ (old new : Left) (p : ℕ) (stepped : Stepped) (gone : HasGoneOn old new p stepped) where
  abbrev s : Content
  s = old.scenario

  abbrev m : Machines
  m = machines_of s

  -- the player stands where it stood, and nothing came
  unmoved : gone.at' ≡ gone.at → new.world.shown ≡ old.world.shown → new.world ≡ old.world
  unmoved stays nothing =
      ap (λ (l : List PlayerPlace). world new.world.shown l) (gone.players ∙ ap (set old.world.players p) stays ∙ set-there old.world.players p gone.at gone.there)
      ∙ ap (λ (h : Shown). world h old.world.players) nothing

  none-at : chosen m s old.world.shown gone.at ≡ None → (at : PlayerPlace) → slice_get old.world.players p ≡ Some at → chosen m s old.world.shown at ≡ None
  none-at none at there =
      let found : Some gone.at ≡ Some at = sym gone.there ∙ there in
      let same : gone.at ≡ at = cc in
      subst (λ (x : PlayerPlace). chosen m s old.world.shown x ≡ None) same none

  abbrev Told : Bool → Type 0
  Told did = (did ≡ true → all_left s new.world.players < all_left s old.world.players)
      × (did ≡ false → (new.world ≡ old.world) × ((at : PlayerPlace) → slice_get old.world.players p ≡ Some at → chosen m s old.world.shown at ≡ None))

  -- a player with steps left made the first that was possible, or none is
  with-left : is_spent_at s gone.at ≡ false → Told (made_step stepped)
  with-left unspent = by (chosen m s old.world.shown gone.at) refl
    where
      turn : IsTurn m s gone.at gone.at' old.world.shown new.world.shown (made_step stepped)
      turn = is-turn true m s gone.at gone.at' old.world.shown new.world.shown gone.counts gone.counts' stepped refl unspent gone.outcome

      by : (o : Option (Step × StepReply)) → chosen m s old.world.shown gone.at ≡ o → Told (made_step stepped)
      by None is =
          let stays : gone.at' ≡ gone.at = turn.place ∙ ap (at_after s gone.at) is in
          let nothing = turn.shows ∙ ap (shown_with old.world.shown gone.at.who (length gone.at.spots)) is in
          let still : made_step stepped ≡ false = turn.moves ∙ ap is_some is in
          (λ did. absurd (cc), λ same. (unmoved stays nothing, none-at is))
      by (Some made) is =
          let moves : gone.at' ≡ after s gone.at made.0 made.1 = turn.place ∙ ap (at_after s gone.at) is in
          let did : made_step stepped ≡ true = turn.moves ∙ ap is_some is in (
            λ same. subst (λ (l : List PlayerPlace). all_left s l < all_left s old.world.players) (sym (gone.players ∙ ap (set old.world.players p) moves))
                (left-stepped s old.world p gone.at made gone.there unspent),
            λ still. absurd (cc),
          )

  -- one that has made all its steps made none
  without : is_spent_at s gone.at ≡ true → (answer : Stepped) → stepped ≡ answer → StepOutcome true m s gone.at gone.at' old.world.shown new.world.shown gone.counts gone.counts' answer → Told (made_step answer)
  without spent Did is outcome =
      let unspent = ahead-unspent s gone.at outcome.step (outcome.first.index, outcome.first.is_there) in absurd (cc)
  without spent NotYet is outcome = let unspent = outcome.unspent in absurd (cc)
  without spent Ended is outcome = let unspent = outcome.0 in absurd (cc)
  without spent Spent is outcome =
      (λ did. absurd (cc), λ same. (unmoved outcome.unchanged outcome.nothing, none-at (spent-none s gone.at old.world.shown spent)))

  -- a step of what is left
  pub gone-step : IsSound s old.world → IsStep s old.world new.world p (made_step stepped)
  gone-step sound =
      let made = by (is_spent_at s gone.at) refl in
      record {
        sound = subst (λ (l : List PlayerPlace). IsSound s (world new.world.shown l)) (sym gone.players)
            (outcome-sound m s gone.at gone.at' old.world.shown new.world.shown old.world.players p gone.counts gone.counts' stepped refl sound gone.there gone.outcome);
        many = ap (λ (l : List PlayerPlace). length l) gone.players ∙ length-set old.world.players p gone.at';
        less = made.0;
        still = made.1;
      }
    where
      by : (b : Bool) → is_spent_at s gone.at ≡ b → Told (made_step stepped)
      by true spent = without spent stepped refl gone.outcome
      by false unspent = with-left unspent

-- a round that has come to the player of this number
pub record IsWithin (s : Content) (old now : World) (moved : Bool) (many : ℕ) : Type 0 where
  pub sound : IsSound s now
  pub long : length now.players ≡ length old.players
  pub less : moved ≡ true → all_left s now.players < all_left s old.players
  pub still : moved ≡ false → (now ≡ old) × NoneOf many s old

pub within-first : (s : Content) (old : World) → IsSound s old → IsWithin s old old false 0
within-first s old sound = record {
  sound = sound;
  long = refl;
  less = λ moved. absurd (cc);
  still = λ same. (refl, λ p at below there. absurd (omega (arith, below)));
}

pub within-next : (s : Content) (old now new : World) (moved did : Bool) (many : ℕ) → IsWithin s old now moved many → IsStep s now new many did → IsWithin s old new (moved || did) (many + 1)
within-next s old now new moved did many within step = record {
  sound = step.sound;
  long = step.many ∙ within.long;
  less = by_less moved did within.less within.still step.less step.still;
  still = λ still. by_still moved did within.still step.still still;
}
  where
    NoneAt : World → Type 0
    NoneAt w = (at : PlayerPlace) → slice_get w.players many ≡ Some at → chosen (machines_of s) s w.shown at ≡ None

    by_less : (a b : Bool) → (a ≡ true → all_left s now.players < all_left s old.players) → (a ≡ false → (now ≡ old) × NoneOf many s old) →
        (b ≡ true → all_left s new.players < all_left s now.players) → (b ≡ false → (new ≡ now) × NoneAt now) → (a || b) ≡ true → all_left s new.players < all_left s old.players
    by_less true true less still less' still' moves = omega (arith, less refl, less' refl)
    by_less true false less still less' still' moves = subst (λ (w : World). all_left s w.players < all_left s old.players) (sym (still' refl).0) (less refl)
    by_less false true less still less' still' moves = subst (λ (w : World). all_left s new.players < all_left s w.players) (still refl).0 (less' refl)
    by_less false false less still less' still' moves = absurd (cc)

    by_still : (a b : Bool) → (a ≡ false → (now ≡ old) × NoneOf many s old) → (b ≡ false → (new ≡ now) × NoneAt now) → (a || b) ≡ false → (new ≡ old) × NoneOf (many + 1) s old
    by_still true b still still' is = absurd (cc)
    by_still false true still still' is = absurd (cc)
    by_still false false still still' is =
        let before = still refl in
        let here = still' refl in (
          here.0 ∙ before.0,
          λ p at below there. elim (cases_lt p many) [
            | inl earlier ↦ before.1 p at earlier there
            | inr behind ↦
                let same : p ≡ many = omega (arith, below, behind) in
                subst NoneAt before.0 here.1 at (ap (λ (n : ℕ). slice_get old.players n) (sym same) ∙ there)
          ],
        )

-- and to the next
pub within-on : (s : Content) (old : World) (now next : Left) (moved : Bool) (many : ℕ) (stepped : Stepped) → now.scenario ≡ s → IsWithin s old now.world moved many → HasGoneOn now next many stepped →
    IsWithin s old next.world (moved || made_step stepped) (many + 1)
within-on s old now next moved many stepped same within gone =
    let step = gone-step now next many stepped gone (subst (λ (x : Content). IsSound x now.world) (sym same) within.sound) in
    within-next s old now.world next.world moved (made_step stepped) many within (subst (λ (x : Content). IsStep x now.world next.world many (made_step stepped)) same step)

-- a round that has come to its end
pub rounded : (old new : Left) (moved : Bool) (many : ℕ) → new.scenario ≡ old.scenario → many ≡ length old.world.players → IsWithin old.scenario old.world new.world moved many → IsRound old new moved
rounded old new true many scenario all within = within.less refl
rounded old new false many scenario all within =
    let still = within.still refl in (
      still.0,
      λ p at there.
          let was : slice_get old.world.players p ≡ Some at = ap (λ (w : World). slice_get w.players p) (sym still.0) ∙ there in
          let none = still.1 p at (omega (arith, all, slice_get_within old.world.players p at was)) was in
          subst (λ (x : Content). chosen (machines_of x) x new.world.shown at ≡ None) (sym scenario)
          (subst (λ (w : World). chosen (machines_of old.scenario) old.scenario w.shown at ≡ None) (sym still.0) none),
    )

-- the trace of what no player can go on from is lawful
pub finished-lawful : (s : Content) (w : World) (t : Trace) → IsSound s w → NoneGoesOn s w → t ≡ world_trace s (ending_at s w) w → IsFaithful s t → IsLawful s t
finished-lawful s w t sound none same faithful =
    lawful-where s t faithful (subst (EndsSo s) (sym same) (sound-halts s w sound (λ unspent. none)))

pub finished : (s : Content) (left : Left) (result : Result Trace NoMemory) → left.scenario ≡ s → IsSound left.scenario left.world → NoneGoesOn left.scenario left.world →
    IfOk result (λ t. t ≡ world_trace left.scenario (ending_at left.scenario left.world) left.world) → IfOk result (IsFaithful left.scenario) → IfOk result (IsLawful s)
finished s left (Err e) same sound none is faithful = tt
finished s left (Ok t) same sound none is faithful = subst (λ (x : Content). IsLawful x t) same (finished-lawful left.scenario left.world t sound none is faithful)

-- and the scenario is a valid one
pub finished-valid : (s : Content) (left : Left) (result : Result Trace NoMemory) → left.scenario ≡ s → IsSound left.scenario left.world → IfOk result (λ t. IsValid s)
finished-valid s left (Err e) same sound = tt
finished-valid s left (Ok t) same sound = subst IsValid same sound.ready.valid
