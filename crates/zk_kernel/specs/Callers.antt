-- Inner: no contract of a top call is made of this file.
-- A player with its passes of a kernel.
use Rattle.std.specs.Prelude.{◌≡◌, ℕ, Bool, ◌&&◌, not, Option, Some, None, Result, Ok, []}
use Rattle.zk_base.specs.declared.errors.NoMemory.{NoMemory}
use Rattle.zk_scenario.specs.Content.{Content}
use Rattle.zk_worker.specs.Attempt.{Counts}
use Rattle.zk_worker.specs.Follows.{is_dead}
use Rattle.zk_worker.specs.Places.{PlayerPlace}
use Rattle.zk_worker.specs.Protocol.{after}
use Rattle.zk_worker.specs.declared.steps.Step.{Step}
use Rattle.zk_worker.specs.declared.steps.StepReply.{StepReply}
use Rattle.zk_worker.specs.Shown.{Shown, nothing_shown}
use Rattle.zk_world.specs.SoundPlayer.{IsSoundPlayer}
use Rattle.zk_kernel.specs.declared.caller.Caller.{Caller}
use Rattle.zk_cells.specs.declared.cells.Cells.{Cells}
use Rattle.zk_cells.specs.declared.passes.Passes.{Passes}
use Rattle.zk_cells.specs.Desks.{IsServed, desk_shown, desk_counts}
use Rattle.zk_cells.specs.Kernels.{Shared}

-- where its player stands
abbrev pub place_of : Caller → PlayerPlace
place_of c = c.player

-- its player's number, and the kernel that it was made with
abbrev pub number_of : Caller → ℕ
number_of c = c.player.who.number

abbrev pub kernel_of : Caller → Shared
kernel_of c = c.kernel.value

-- whether a stop has ended it
abbrev pub is_stopped : Caller → Bool
is_stopped c = c.stopped

-- whether it may go on by whole calls
abbrev pub lives : Caller → Bool
lives c = not c.stopped && not (is_dead c.player.mode)

-- what these passes have seen, where there are some
abbrev pub shown_by : Option Passes → Shown
shown_by None = nothing_shown []
shown_by (Some p) = desk_shown p

-- what the caller has seen of each service
abbrev pub shown_to : Caller → Shown
shown_to c = shown_by c.passes

-- how many turns these passes had, where there are some
abbrev pub counts_by : Option Passes → Counts
counts_by None = λ step. 0
counts_by (Some p) = desk_counts p

-- how many turns the caller had at each service
abbrev pub counts_of : Caller → Counts
counts_of c = counts_by c.passes

-- where a player stands after an attempt, by what it gave
abbrev pub attempted_at : Content → PlayerPlace → Step → Result (Option StepReply) NoMemory → PlayerPlace
attempted_at s at step (Ok (Some reply)) = after s at step reply
attempted_at s at step given = at

-- a player may play with these passes: they serve it, and show just its log
pub record IsPlaying (cells : Cells) (s : Content) (at : PlayerPlace) (p : Passes) : Type 0 where
  pub served : IsServed cells p at.who
  pub sound : IsSoundPlayer s (desk_shown p) at

-- there are such passes
abbrev pub IsAtDesk : Cells → Content → PlayerPlace → Option Passes → Type 0
IsAtDesk cells s at None = ⊥
IsAtDesk cells s at (Some p) = IsPlaying cells s at p

-- it is a caller of this kernel
abbrev pub IsCaller : Shared → Caller → Type 0
IsCaller k c = (kernel_of c ≡ k) × IsAtDesk k.cells k.scenario c.player c.passes

-- it is one of the kernel that it was made with
abbrev pub IsWhole : Caller → Type 0
IsWhole c = IsCaller (kernel_of c) c
