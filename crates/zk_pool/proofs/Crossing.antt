-- Hands go to threads, and a pool is shared by them, whatever the items are, where these may be sent and shared.
use denote.RattleType.{RattleType}
use denote.Param.Send.{IsSend, IsSync, recorded_send, recorded_sync, struct_send, struct_sync, owning_send, part_keyless, sendable}
use denote.Param.SendFields.{declared_send}
use denote.Struct.Declared.{shape}
use Rattle.std.proofs.Crossing as heap
use Rattle.std.proofs.Crossing.{crosses}
use Rattle.std.specs.contracts.option.Option as option
use Rattle.std.specs.contracts.snapshot.Snapshot as snapshot
use Rattle.atomic_table.proofs.send_lease.SendLease.TheSendSync as lease
use Rattle.atomic_table.proofs.shared.Seat.TheSendSync as seat
use Rattle.atomic_table.proofs.shared.Shared.TheSendSync as shared
use Rattle.zk_pool.specs.contracts.hand.Hand as hand
use Rattle.zk_pool.specs.contracts.keeper.Keeper as keeper
use Rattle.zk_pool.specs.contracts.pool.Pool as pool
use Rattle.zk_pool.specs.declared.numbered.Numbered.{Ghosts}

option_send : (T : RattleType) → IsSend T → IsSend (option.the_row T)
option_send T send = search sendable depth 14

-- a hand may be sent where its items may
pub hand_send : (T H : RattleType) → IsSend T → IsSend (hand.the_row T H)
hand_send T H send =
    recorded_send _ _ _ (hand.the_type T H).to_one (struct_send (shape (hand.the_type T H)) (seat.the_send _ _ (option_send T send), tt))

-- a keeper may be sent where its items may
pub keeper_send : (T H : RattleType) → IsSend T → IsSend (keeper.the_row T H)
keeper_send T H send = declared_send (keeper.the_type T H) (hand_send T H send, (search (send, sendable, crosses) depth 24, tt))

snapshot_send : (T : RattleType) → IsSend (snapshot.the_row T)
snapshot_send T = owning_send (snapshot.the_type T) (search sendable, tt) (λ d. tt) (λ k x w. tt)

snapshot_sync : (T : RattleType) → IsSync (snapshot.the_row T)
snapshot_sync T = record { shared = λ d b o κ q. part_keyless (snapshot.the_row T) (snapshot_send T) q d b o }

-- a pool may be shared where its items may be sent
pub pool_sync : (T H : RattleType) (g : Ghosts T.Denot H.Denot) → IsSend T → IsSync (pool.the_row T H g)
pool_sync T H g send = recorded_sync _ _ _ (pool.the_type T H g).to_one (struct_sync (shape (pool.the_type T H g)) (
  search (sendable, option_send, shared.the_sync, lease.the_sync, heap.sync, heap.send, heap.frees) depth 24,
  (search sendable depth 8, (search snapshot_sync, tt)),
))
