-- A core goes to its thread, and all cores share the pool.
use mir.Syntax.{Sym}
use mathlib.Core.List.{[], ◌∷◌}
use denote.RattleType.{RattleType}
use denote.Struct.Tuple.{type_at, TupleAt}
use denote.Param.Send.{IsSend, IsSync, recorded_sync, struct_sync, sendable}
use denote.Param.SendFields.{declared_send, as_row_send}
use denote.Struct.Declared.{shape}
use Rattle.std.proofs.Crossing.{crosses}
use Rattle.zk_kernel.specs.contracts.kernel.Kernel as kernel
use Rattle.zk_kernel.proofs.Crossing.{caller_send}
use Rattle.zk_pool.proofs.Crossing.{keeper_send, pool_sync}
use Rattle.zk_pool.specs.contracts.pool.Pool as pool
use Rattle.zk_cores.specs.contracts.seat.Seat as seat
use Rattle.zk_cores.specs.contracts.seat.SeatNumbered.TheImpl.{ghosts}
use Rattle.zk_cores.specs.contracts.cores.Core as core
use Rattle.zk_cores.specs.contracts.barrier.Barrier as barrier

pub seat_send : IsSend seat.the_row
seat_send = search (caller_send, sendable, crosses) depth 30

pub core_send : IsSend core.the_row
core_send = declared_send core.the_type (
  search (as_row_send, sendable) depth 14,
  (
    keeper_send seat.the_row kernel.the_row seat_send,
    (search (as_row_send, sendable, crosses) depth 20, (search (as_row_send, sendable) depth 14, tt)),
  ),
)

-- the pool of all seats
abbrev pub seats_row : RattleType
seats_row = pool.the_row seat.the_row kernel.the_row ghosts

pub seats_sync : IsSync seats_row
seats_sync = pool_sync seat.the_row kernel.the_row ghosts seat_send

pub barrier_sync : IsSync barrier.the_row
barrier_sync = search (sendable, crosses) depth 20

-- a closure may be shared where the five things that it holds may
pub closure_of_five : (ν : Sym) (A B C D E : RattleType) → IsSync A → IsSync B → IsSync C → IsSync D → IsSync E →
    IsSync (TupleAt ν (A ∷ B ∷ C ∷ D ∷ E ∷ []))
closure_of_five ν A B C D E a b c d e =
    let held = type_at ν (A ∷ B ∷ C ∷ D ∷ E ∷ []) in
    recorded_sync _ _ _ held.to_one (struct_sync (shape held) (a, (b, (c, (d, (e, tt))))))
