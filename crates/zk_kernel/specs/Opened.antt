-- Inner: no contract of a top call is made of this file.
-- A new kernel and its callers.
use Rattle.std.specs.Prelude.{◌≡◌, ℕ, false, Some, List, [], map, slice_get}
use Rattle.zk_line.specs.declared.types.Decl.{Decl}
use Rattle.zk_worker.specs.declared.steps.Step.{Step}
use Rattle.zk_worker.specs.Protocol.{start_at}
use Rattle.zk_worker.specs.Shown.{Shown, nothing_shown}
use Rattle.zk_cells.specs.Dealt.{HasNew}
use Rattle.zk_kernel.specs.declared.caller.Caller.{Caller}
use Rattle.zk_kernel.specs.Callers.{kernel_of, place_of, shown_to, counts_of, is_stopped}
use Rattle.zk_cells.specs.Kernels.{Shared}
use Rattle.zk_kernel.specs.Rests.{AreAllCallers}

-- a caller of this kernel with new passes, which nothing has stopped
pub record IsUnplayed (k : Shared) (caller : Caller) : Type 0 where
  pub kernel : kernel_of caller ≡ k
  pub passes : HasNew k.cells caller.player.who caller.passes
  pub going : caller.stopped ≡ false

-- nothing was shown of the services of these declarations, and no look at a signal or at an item
abbrev pub nothing_seen : List Decl → Shown
nothing_seen decls = record (nothing_shown decls) { looks = Some (map (λ decl. []) decls); looked = Some 0 }

-- a caller whose player has made no step, and that has seen nothing and had no turn
pub record IsNewCaller (k : Shared) (player : ℕ) (c : Caller) : Type 0 where
  pub stands : start_at k.scenario player ≡ Some (place_of c)
  pub seen : shown_to c ≡ nothing_seen k.scenario.decls
  pub idle : (step : Step) → counts_of c step ≡ 0
  pub going : is_stopped c ≡ false

-- one for each player, in order
pub record AreNewCallers (k : Shared) (callers : List Caller) : Type 0 where
  pub all : AreAllCallers k callers
  pub new : (player : ℕ) (c : Caller) → slice_get callers player ≡ Some c → IsNewCaller k player c
