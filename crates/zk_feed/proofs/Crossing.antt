-- A publisher goes to its thread, and all share the fan and the subscribers.
use mir.Syntax.{Sym}
use mathlib.Core.List.{[], ◌∷◌}
use denote.Builtin.{One}
use denote.Ref.{NamedLft}
use denote.RattleType.{RattleType}
use denote.Struct.Field as Field
use denote.Struct.Tuple.{type_at, TupleAt}
use denote.Param.Send.{shr_sync, IsSend, IsSync, recorded_sync, struct_sync, sendable}
use denote.Param.SendFields.{declared_send, as_row_send}
use denote.Struct.Declared.{shape}
use Rattle.std.proofs.Crossing.{crosses}
use Rattle.zk_turn.proofs.Crossing.{cell_part}
use Rattle.zk_msgsub.proofs.Crossing.{fan_send, msg_sub_sync, publisher_send}
use Rattle.zk_feed.specs.contracts.feeder.Feeder as feeder
use Rattle.zk_feed.specs.contracts.shared.Shared as shared

pub feeder_send : IsSend feeder.the_row
feeder_send = declared_send feeder.the_type (publisher_send, (search (as_row_send, sendable) depth 14, tt))

pub shared_sync : IsSync shared.the_row
shared_sync = recorded_sync _ _ _ shared.the_type.to_one (struct_sync (shape shared.the_type) (
  search sendable depth 20,
  (search (cell_part, fan_send) depth 14, (search (msg_sub_sync, sendable, crosses) depth 20, tt)),
))

-- a reference to what may be shared may be shared
pub ref_sync : (ℓ : NamedLft) (T : RattleType) (one : One T.mir) → IsSync T → IsSync (Field.shr_ref_field ℓ T one).row
ref_sync ℓ T one s = shr_sync ℓ.mir ℓ.lft T s

-- a closure may be shared where the three things that it holds may
pub closure_of_three : (ν : Sym) (A B C : RattleType) → IsSync A → IsSync B → IsSync C → IsSync (TupleAt ν (A ∷ B ∷ C ∷ []))
closure_of_three ν A B C a b c =
    let held = type_at ν (A ∷ B ∷ C ∷ []) in
    recorded_sync _ _ _ held.to_one (struct_sync (shape held) (a, (b, (c, tt))))
