-- A caller after a step.
use Rattle.std.proofs.Common.{◌≡◌, Bool, false, Ok, Err, Result, sym, ap, subst, ◌∙◌}
use Rattle.std.specs.Prelude.{IfOk, OnErr}
use Rattle.zk_base.specs.declared.errors.NoMemory.{NoMemory}
use Rattle.zk_scenario.specs.Content.{Content}
use Rattle.zk_scenario.specs.Valid.{IsValid}
use Rattle.zk_worker.specs.declared.playing.Stepped.{Stepped}
use Rattle.zk_worker.specs.declared.playing.Stepped.TheVariants.{Did, NotYet, Ended, Spent}
use Rattle.zk_worker.specs.Places.{PlayerPlace}
use Rattle.zk_worker.specs.Machines.{Machines, machines_of}
use Rattle.zk_worker.specs.Shown.{Shown, OnlyOthersCame}
use Rattle.zk_worker.specs.Attempt.{Counts}
use Rattle.zk_worker.specs.Playing.{StepOutcome}
use Rattle.zk_worker.proofs.CheckedSteps.{after-spots}
use Rattle.zk_world.specs.SoundPlayer.{IsSoundPlayer}
use Rattle.zk_world.proofs.Players.{player-stepped, player-still}
use Rattle.zk_base.specs.declared.ids.Who.{Who}
use Rattle.zk_cells.specs.declared.cells.Cells.{Cells}
use Rattle.zk_cells.specs.declared.passes.Passes.{Passes}
use Rattle.zk_kernel.specs.Callers.{IsPlaying}
use Rattle.zk_cells.specs.Desks.{IsServed, desk_shown}

-- a step doesn't change who the player is
pub same-who : (alone : Bool) (m : Machines) (s : Content) (at at' : PlayerPlace) (old new : Shown) (counts counts' : Counts) (result : Result Stepped NoMemory) →
    IfOk result (λ stepped. StepOutcome alone m s at at' old new counts counts' stepped) → OnErr result (at' ≡ at) → at'.who ≡ at.who
same-who alone m s at at' old new counts counts' (Ok Did) does err = ap (λ (a : PlayerPlace). a.who) does.next ∙ (after-spots s at does.step does.reply).0
same-who alone m s at at' old new counts counts' (Ok NotYet) does err = ap (λ (a : PlayerPlace). a.who) does.unchanged
same-who alone m s at at' old new counts counts' (Ok Ended) does err = ap (λ (a : PlayerPlace). a.who) does.1.unchanged
same-who alone m s at at' old new counts counts' (Ok Spent) does err = ap (λ (a : PlayerPlace). a.who) does.unchanged
same-who alone m s at at' old new counts counts' (Err e) does err = ap (λ (a : PlayerPlace). a.who) err

-- the player and its log are sound after a step, whatever came of it
pub still-sound : (m : Machines) (s : Content) (at at' : PlayerPlace) (old new : Shown) (counts counts' : Counts) (result : Result Stepped NoMemory) → IsValid s → m ≡ machines_of s → IsSoundPlayer s old at →
    IfOk result (λ stepped. StepOutcome false m s at at' old new counts counts' stepped) → OnErr result (at' ≡ at) → OnErr result (OnlyOthersCame false at.who.number old new) →
    IsSoundPlayer s new at'
still-sound m s at at' old new counts counts' (Ok stepped) valid same sound does unchanged err = player-stepped false m s at at' old new counts counts' stepped valid same sound does
still-sound m s at at' old new counts counts' (Err e) valid same sound does unchanged err = subst (IsSoundPlayer s new) (sym unchanged) (player-still false s at old new err sound)

-- passes that serve a player still, and show just its log, are those it may play on with
pub playing-on : (cells kept : Cells) (s : Content) (at at' : PlayerPlace) (now : Cells) (old new : Passes) → cells ≡ kept → now ≡ cells → at'.who ≡ at.who → IsServed kept old at.who →
    (IsServed cells old at.who → IsServed now new at.who) → IsSoundPlayer s (desk_shown new) at' → IsPlaying kept s at' new
playing-on cells kept s at at' now old new same home who served serves sound = record {
  served = subst (λ (w : Who). IsServed kept new w) (sym who)
      (subst (λ (cs : Cells). IsServed cs new at.who) (home ∙ same) (serves (subst (λ (cs : Cells). IsServed cs old at.who) (sym same) served)));
  sound = sound;
}
