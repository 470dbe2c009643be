-- Inner: no contract of a top call is made of this file.
-- The callers of a kernel in a pool, and the cores that play them.
use Rattle.std.specs.Prelude.{◌≡◌, ℕ, []}
use Rattle.zk_kernel.specs.declared.caller.Caller.{Caller}
use Rattle.zk_kernel.specs.Callers.{number_of, kernel_of, IsWhole}
use Rattle.zk_cells.specs.Kernels.{Shared}
use Rattle.zk_pool.specs.declared.pool.Pool.{Pool}
use Rattle.zk_pool.specs.Keepers.{Keeps, Carries, keeper_aside}
use Rattle.zk_cores.specs.declared.seat.Seat.{Seat}
use Rattle.zk_cores.specs.declared.cores.Core.{Core}

-- the caller in a seat
abbrev pub seat_caller : Seat → Caller
seat_caller seat = seat.caller.value

-- the number of its player, and its kernel
abbrev pub seat_number : Seat → ℕ
seat_number seat = number_of (seat_caller seat)

abbrev pub seat_kernel : Seat → Shared
seat_kernel seat = kernel_of (seat_caller seat)

-- it is a caller of that kernel
abbrev pub IsSeated : Seat → Type 0
IsSeated seat = IsWhole (seat_caller seat)

-- a core of this pool, whose hand holds just those whom it keeps
abbrev pub IsAtWork : Pool Seat Shared → Core → Type 0
IsAtWork p core = Keeps seat_number seat_kernel IsSeated p core.keeper

-- a core of this pool, whose hand holds one player more
abbrev pub IsCarrying : Pool Seat Shared → Core → ℕ → Type 0
IsCarrying p core one = Carries seat_number seat_kernel IsSeated p core.keeper one

-- it keeps nobody
pub record IsReady (p : Pool Seat Shared) (core : Core) : Type 0 where
  pub at_work : IsAtWork p core
  pub none : keeper_aside core.keeper ≡ []
