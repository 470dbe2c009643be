-- A part goes to its thread, and all threads share the cell.
use mir.Syntax.{Sym}
use mathlib.Core.List.{[], ◌∷◌}
use denote.Builtin.{One}
use denote.Ref.{NamedLft}
use denote.RattleType.{RattleType}
use denote.Struct.Field as Field
use denote.Struct.Tuple.{type_at, TupleAt}
use denote.Struct.Declared.{shape}
use denote.Param.Send.{shr_sync, IsSend, IsSync, recorded_sync, struct_sync, sendable}
use Rattle.std.proofs.Crossing.{crosses}
use Rattle.zk_event.proofs.Crossing.{event_send}
use Rattle.zk_event.specs.contracts.event.EventOp as op
use Rattle.zk_event.specs.contracts.event.EventReply as reply
use Rattle.zk_event.specs.contracts.event.EventState as state
use Rattle.zk_event.specs.contracts.service.Event as event
use Rattle.zk_event.specs.contracts.service.EventService.TheImpl.{ghosts}
use Rattle.zk_turn.proofs.Crossing.{pass_send, cell_sync}
use Rattle.zk_turn.specs.contracts.cell.Cell as cell
use Rattle.zk_test_event.specs.contracts.parts.Part as part

pub part_send : IsSend part.the_row
part_send = search (pass_send, event_send, sendable, crosses) depth 40 fits 20000

-- the cell of an event object
abbrev pub events_row : RattleType
events_row = cell.the_row event.the_row op.the_row reply.the_row state.the_row ghosts

pub events_sync : IsSync events_row
events_sync = cell_sync event.the_row op.the_row reply.the_row state.the_row ghosts event_send

pub ref_sync : (ℓ : NamedLft) (T : RattleType) (one : One T.mir) → IsSync T → IsSync (Field.shr_ref_field ℓ T one).row
ref_sync ℓ T one s = shr_sync ℓ.mir ℓ.lft T s

-- a closure may be shared where the two things that it holds may
pub closure_of_two : (ν : Sym) (A B : RattleType) → IsSync A → IsSync B → IsSync (TupleAt ν (A ∷ B ∷ []))
closure_of_two ν A B a b =
    let held = type_at ν (A ∷ B ∷ []) in
    recorded_sync _ _ _ held.to_one (struct_sync (shape held) (a, (b, tt)))
