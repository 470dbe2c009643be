-- A player that a check has ended has nothing open.
use Rattle.std.proofs.Common.{◌≡◌, ℕ, true, Option, Some, None, List, [], ◌∷◌, refl, ap, subst}
use Rattle.std.specs.Option.{option_map}
use Rattle.std.specs.List.{slice_get}
use Rattle.std.proofs.lemmas.Option.{option_and_then_some}
use Rattle.zk_line.specs.declared.types.Decl.{Decl}
use Rattle.zk_line.specs.declared.types.Decl.TheVariants.{Thread}
use Rattle.zk_model_bus.specs.declared.table.OopsWhy.{OopsWhy}
use Rattle.zk_model_bus.specs.declared.table.TableOp.TheVariants as table_ops
use Rattle.zk_scenario.specs.Content.{Content}
use Rattle.zk_scenario.specs.Players.{players}
use Rattle.zk_words.specs.declared.word.Word.{Word}
use Rattle.zk_worker.specs.declared.checks.Mode.{Mode}
use Rattle.zk_worker.specs.declared.frames.Frame.{Frame}
use Rattle.zk_worker.specs.declared.frames.Progress.{Progress}
use Rattle.zk_worker.specs.declared.steps.Spot.{Spot}
use Rattle.zk_worker.specs.declared.steps.Step.{Step}
use Rattle.zk_worker.specs.declared.steps.Step.TheVariants as steps
use Rattle.zk_worker.specs.declared.steps.StepReply.{StepReply}
use Rattle.zk_worker.specs.Checks.{mode_after, start_mode, oops_in}
use Rattle.zk_worker.specs.Follows.{is_dead, IsPlayed, IsFollowing}
use Rattle.zk_worker.specs.Places.{PlayerPlace}
use Rattle.zk_worker.specs.Protocol.{after, checked, moved, frames_after, frames_progress, spot_of, starting, start_at}
use Rattle.zk_worker.specs.Shown.{Shown}
use Rattle.zk_worker.proofs.CheckedSteps.{turn}

-- it has nothing open, if a check has ended it
abbrev EndsWhole : PlayerPlace → Type 0
EndsWhole at = is_dead at.mode ≡ true → at.frames ≡ []

dead-before : (mode : Mode) (made : Step) → is_dead (mode_after mode made) ≡ true → is_dead mode ≡ true
dead-before mode (steps.Table table_ops.EnterUser) dead = absurd (cc)
dead-before mode made dead = dead

after-check : (at : PlayerPlace) (word : Word) (why : Option OopsWhy) (spot : Spot) → EndsWhole at → EndsWhole (checked at word why spot)
after-check at word None spot whole = whole
after-check at word (Some why) spot whole = λ dead. refl

after-own : (s : Content) (at : PlayerPlace) (made : Step) (progress : Progress) (spot : Spot) → EndsWhole at → EndsWhole (moved s at made progress spot)
after-own s at made progress spot whole = λ dead. ap (λ (f : List Frame). frames_after s f progress) (whole (dead-before at.mode made dead))

played-whole : (s : Content) (at : PlayerPlace) (made : List (Step × StepReply)) (end : PlayerPlace) → IsPlayed s at made end → EndsWhole at → EndsWhole end
played-whole s at [] end same whole = subst EndsWhole same whole
played-whole s at (one ∷ more) end played whole =
    played-whole s (after s at one.0 one.1) more end played.1
    (turn EndsWhole s at one.0 one.1 played.0
    (λ is. after-check at is.check.word (oops_in one.1) (spot_of one.0 one.1) whole)
    (λ is. after-own s at one.0 (frames_progress s at.frames one.0 one.1) (spot_of one.0 one.1) whole))

start-lives : (decl : Decl) → is_dead (start_mode decl) ≡ true → ⊥
start-lives (Thread name prio true) dead = absurd (cc)
start-lives decl dead = absurd (cc)

start-whole : (s : Content) (number : ℕ) (at : PlayerPlace) → start_at s number ≡ Some at → EndsWhole at
start-whole s number at is =
    let inner : ℕ → Option PlayerPlace = λ object. option_map (starting s number object) (slice_get s.decls object) in
    option_and_then_some inner (slice_get (players s.decls) number) at is (λ object found made. by_decl object (slice_get s.decls object) made)
  where
    by_decl : (object : ℕ) (decl : Option Decl) → option_map (starting s number object) decl ≡ Some at → EndsWhole at
    by_decl object None made = absurd (cc)
    by_decl object (Some decl) made =
        let same : starting s number object decl ≡ at = cc in
        subst EndsWhole same (λ dead. absurd (start-lives decl dead))

-- a player that the protocol leads somewhere has nothing open there, if a check has ended it
pub dead-whole : (s : Content) (number : ℕ) (shown : Shown) (at : PlayerPlace) → IsFollowing s number shown at → is_dead at.mode ≡ true → at.frames ≡ []
dead-whole s number shown at follows = played-whole s follows.start follows.made at follows.played (start-whole s number follows.start follows.starts)
