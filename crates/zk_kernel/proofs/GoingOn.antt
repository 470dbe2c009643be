-- A step of what a kernel has left.
use Rattle.std.proofs.Common.{◌≡◌, ℕ, Bool, true, false, cond, nat_lt, Some, Ok, Err, Result, List, [], length, set, refl, sym, ap, subst, ◌∙◌, arith}
use Rattle.std.specs.Prelude.{IfOk, OnErr}
use Rattle.std.specs.List.{slice_get}
use Rattle.std.proofs.lemmas.Bool.{lt-leb, ltb-true}
use Rattle.zk_worker.proofs.Lists.{set-there}
use Rattle.zk_base.specs.declared.errors.NoMemory.{NoMemory}
use Rattle.zk_scenario.specs.Content.{Content}
use Rattle.zk_scenario.specs.Steps.{steps_of}
use Rattle.zk_worker.specs.declared.playing.Stepped.{Stepped}
use Rattle.zk_worker.specs.declared.playing.Stepped.TheVariants.{Did, NotYet, Ended, Spent}
use Rattle.zk_worker.specs.declared.steps.Step.{Step}
use Rattle.zk_worker.specs.Attempt.{Counts, reply_in}
use Rattle.zk_worker.specs.Checks.{next_check}
use Rattle.zk_worker.specs.Follows.{is_spent_at}
use Rattle.zk_worker.specs.Machines.{Machines, machines_of}
use Rattle.zk_worker.specs.Places.{PlayerPlace}
use Rattle.zk_worker.specs.Playing.{HasWanted, StepOutcome, HasStepped}
use Rattle.zk_worker.specs.Protocol.{attempts, after, checks_first, frames_attempts, IsAhead}
use Rattle.zk_worker.specs.Shown.{Shown, shown_after, OnlyOthersCame}
use Rattle.zk_services.specs.Memory.{closes}
use Rattle.zk_kernel.specs.Rests.{Left, HasGoneOn, HasWantedThere}
use Rattle.zk_world.specs.Chosen.{IsChosen}
use Rattle.zk_world.specs.Sound.{IsSound}
use Rattle.zk_world.specs.World.{World, world, stepped}
use Rattle.zk_trace.specs.declared.trace.Ending.{Ending}
use Rattle.zk_trace.specs.declared.trace.Trace.{Trace}
use Rattle.zk_trace.specs.Ending.{lawful_ending}
use Rattle.zk_world.specs.Traces.{ending_at, world_trace}
use Rattle.zk_world.proofs.Lawful.{sound-ends}
use Rattle.zk_world.proofs.Sound.{sound-stepped}

-- a player that has an attempt ahead has steps left
pub ahead-unspent : (s : Content) (at : PlayerPlace) (step : Step) → IsAhead s at step → is_spent_at s at ≡ false
ahead-unspent s at step ahead = by (nat_lt (length at.spots) (steps_of s)) refl ahead.1
  where
    by : (b : Bool) → nat_lt (length at.spots) (steps_of s) ≡ b →
        slice_get (cond b (checks_first (next_check s at.mode at.passed at.frames) (frames_attempts s at.frames)) []) ahead.0 ≡ Some step → is_spent_at s at ≡ false
    by true less there = lt-leb (steps_of s) (length at.spots) (ltb-true (length at.spots) (steps_of s) less)
    by false less there = absurd (cc)

module _ (m : Machines) (s : Content) (at at' : PlayerPlace) (old new : Shown) (players : List PlayerPlace) (p : ℕ) where
  -- nothing came, and the player stands where it stood
  same-sound : IsSound s (world old players) → slice_get players p ≡ Some at → at' ≡ at → new ≡ old → IsSound s (world new (set players p at'))
  same-sound sound there stays nothing =
      subst (λ (l : List PlayerPlace). IsSound s (world new l)) (sym (ap (set players p) stays ∙ set-there players p at there))
      (subst (λ (h : Shown). IsSound s (world h players)) (sym nothing) sound)

  -- the player made a step
  made-sound : (counts counts' : Counts) → m ≡ machines_of s → IsSound s (world old players) → slice_get players p ≡ Some at → HasStepped true m s at at' old new counts counts' →
      IsSound s (world new (set players p at'))
  made-sound counts counts' same sound there did =
      let first = did.first in
      let chose : IsChosen m old at.who (attempts s at) (did.step, did.reply) = record {
        place = first.index;
        is_there = first.is_there;
        answered = subst (λ (h : Shown). reply_in m h at.who did.step ≡ Some did.reply) first.made.since first.made.replied;
      } in
      let shown = first.made.shown ∙ ap (λ (h : Shown). shown_after h at.who (length at.spots) did.step did.reply) first.made.since in
      subst (λ (l : List PlayerPlace). IsSound s (world new l)) (sym (ap (set players p) did.next))
      (subst (λ (h : Shown). IsSound s (world h (set players p (after s at did.step did.reply)))) (sym shown)
      (sound-stepped m s (world old players) p at (did.step, did.reply) same sound there (ahead-unspent s at did.step (first.index, first.is_there)) chose))

  -- whatever came of a step
  pub outcome-sound : (counts counts' : Counts) (stepped : Stepped) → m ≡ machines_of s → IsSound s (world old players) → slice_get players p ≡ Some at →
      StepOutcome true m s at at' old new counts counts' stepped → IsSound s (world new (set players p at'))
  outcome-sound counts counts' Did same sound there outcome = made-sound counts counts' same sound there outcome
  outcome-sound counts counts' NotYet same sound there outcome = same-sound sound there outcome.unchanged outcome.none.others
  outcome-sound counts counts' Ended same sound there outcome = same-sound sound there outcome.1.unchanged outcome.1.nothing
  outcome-sound counts counts' Spent same sound there outcome = same-sound sound there outcome.unchanged outcome.nothing

  -- and so it is where there was no memory
  pub result-sound : (counts counts' : Counts) (result : Result Stepped NoMemory) → m ≡ machines_of s → IsSound s (world old players) → slice_get players p ≡ Some at →
      IfOk result (λ stepped. StepOutcome true m s at at' old new counts counts' stepped) → OnErr result (at' ≡ at) → OnErr result (OnlyOthersCame true at.who.number old new) →
      IsSound s (world new (set players p at'))
  result-sound counts counts' (Ok stepped) same sound there does unchanged err = outcome-sound counts counts' stepped same sound there does
  result-sound counts counts' (Err e) same sound there does unchanged err = same-sound sound there unchanged err

-- the trace of a sound world ends as it says itself
pub ends-told : (s : Content) (w : World) (ending : Ending) (result : Result Trace NoMemory) → IsSound s w → ending ≡ ending_at s w →
    IfOk result (λ trace. trace ≡ world_trace s ending w) → IfOk result (λ trace. trace.ending ≡ lawful_ending s trace)
ends-told s w ending (Err e) sound is told = tt
ends-told s w ending (Ok trace) sound is told =
    let same : trace ≡ world_trace s ending w = told in
    ap (λ (t : Trace). t.ending) same ∙ is ∙ sound-ends s ending w sound ∙ ap (lawful_ending s) (sym same)

-- what is told of a step of what is left
pub gone-on : (old new : Left) (p : ℕ) (at at' : PlayerPlace) (counts counts' : Counts) (result : Result Stepped NoMemory) → new.scenario ≡ old.scenario → slice_get old.world.players p ≡ Some at →
    new.world.players ≡ set old.world.players p at' →
    IfOk result (λ stepped. StepOutcome true (machines_of old.scenario) old.scenario at at' old.world.shown new.world.shown counts counts' stepped) → IfOk result (λ stepped. HasGoneOn old new p stepped)
gone-on old new p at at' counts counts' (Err e) scenario there players does = tt
gone-on old new p at at' counts counts' (Ok stepped) scenario there players does =
    record { scenario = scenario; at = at; at' = at'; there = there; players = players; counts = counts; counts' = counts'; outcome = does }

-- what wanted memory where this was shown wanted it in what was left before
pub wanted-there : (old : Left) (player : ℕ) (at : PlayerPlace) (m : Machines) (shown : Shown) (result : Result Stepped NoMemory) → m ≡ machines_of old.scenario → slice_get old.world.players player ≡ Some at →
    OnErr result (shown ≡ old.world.shown) → OnErr result (HasWanted closes m shown old.scenario at) → OnErr result (HasWantedThere old player)
wanted-there old player at m shown (Ok stepped) machines there same wanted = tt
wanted-there old player at m shown (Err e) machines there same wanted = record {
  at = at;
  there = there;
  wanted = subst (λ (n : Machines). HasWanted closes n old.world.shown old.scenario at) machines
      (subst (λ (h : Shown). HasWanted closes m h old.scenario at) same wanted);
}
