-- A part goes to its thread, and all share the fan and the subscribers.
use mir.Syntax.{Sym}
use mathlib.Core.List.{[], ◌∷◌}
use denote.Builtin.{One}
use denote.Ref.{NamedLft}
use denote.RattleType.{RattleType}
use denote.Struct.Field as Field
use denote.Struct.Tuple.{type_at, TupleAt}
use denote.Struct.Declared.{shape}
use denote.Param.SendFields.{declared_send, as_row_send}
use denote.Param.Send.{shr_sync, IsSend, IsSync, recorded_sync, struct_sync, sendable}
use Rattle.std.proofs.Crossing.{crosses}
use Rattle.zk_turn.proofs.Crossing.{cell_part, pass_send}
use Rattle.zk_msgsub.proofs.Crossing.{fan_send, msg_sub_sync, publisher_send}
use Rattle.zk_test_msgsub.specs.contracts.parts.Part as part
use Rattle.zk_test_msgsub.specs.contracts.parts.Shared as shared

pub part_send : IsSend part.the_row
part_send = declared_send part.the_type (
  publisher_send,
  (
    search (pass_send, fan_send, as_row_send, sendable, crosses) depth 30 fits 20000,
    (search (as_row_send, sendable) depth 14, (search (as_row_send, sendable, crosses) depth 30, tt)),
  ),
)

pub shared_sync : IsSync shared.the_row
shared_sync = recorded_sync _ _ _ shared.the_type.to_one (struct_sync (shape shared.the_type) (
  search (cell_part, fan_send) depth 14,
  (search (msg_sub_sync, sendable, crosses) depth 20, tt),
))

pub ref_sync : (ℓ : NamedLft) (T : RattleType) (one : One T.mir) → IsSync T → IsSync (Field.shr_ref_field ℓ T one).row
ref_sync ℓ T one s = shr_sync ℓ.mir ℓ.lft T s

-- a closure may be shared where the two things that it holds may
pub closure_of_two : (ν : Sym) (A B : RattleType) → IsSync A → IsSync B → IsSync (TupleAt ν (A ∷ B ∷ []))
closure_of_two ν A B a b =
    let held = type_at ν (A ∷ B ∷ []) in
    recorded_sync _ _ _ held.to_one (struct_sync (shape held) (a, (b, tt)))
