-- What threads take with them: whoever calls a service that they share, or looks at it.
use mir.Syntax.{Sym}
use mathlib.Core.List.{[], ◌∷◌}
use denote.RattleType.{RattleType}
use denote.Builtin.{One}
use denote.Ref.{NamedLft}
use denote.Struct.Field as Field
use denote.Struct.Tuple.{type_at, TupleAt}
use denote.Param.Send.{shr_send, IsSend, IsSync, recorded_send, struct_send, sendable}
use denote.Struct.Declared.{shape}
use Rattle.std.proofs.Crossing as heap
use Rattle.std.specs.contracts.result.Result as result
use Rattle.zk_base.specs.contracts.errors.NoMemory as no_memory
use Rattle.zk_turn.proofs.Crossing.{pass_part}
use Rattle.zk_turn.specs.contracts.word.Look as look
use Rattle.zk_uses.specs.contracts.looking.Looker as looker
use Rattle.zk_uses.specs.contracts.often.Caller as caller

-- a reference to what may be shared
pub ref_send : (ℓ : NamedLft) (T : RattleType) (one : One T.mir) → IsSync T → IsSend (Field.shr_ref_field ℓ T one).row
ref_send ℓ T one s = shr_send ℓ.mir ℓ.lft T s

-- a closure goes where the three things that it holds go
pub closure_of_three : (ν : Sym) (A B C : RattleType) → IsSend A → IsSend B → IsSend C → IsSend (TupleAt ν (A ∷ B ∷ C ∷ []))
closure_of_three ν A B C a b c =
    let held = type_at ν (A ∷ B ∷ C ∷ []) in
    recorded_send _ _ _ held.to_one (struct_send (shape held) (a, (b, (c, tt))))

-- and one that holds four that it holds go
pub closure_of_four : (ν : Sym) (A B C D : RattleType) → IsSend A → IsSend B → IsSend C → IsSend D → IsSend (TupleAt ν (A ∷ B ∷ C ∷ D ∷ []))
closure_of_four ν A B C D a b c d =
    let held = type_at ν (A ∷ B ∷ C ∷ D ∷ []) in
    recorded_send _ _ _ held.to_one (struct_send (shape held) (a, (b, (c, (d, tt)))))

-- and one that holds five
pub closure_of_five : (ν : Sym) (A B C D E : RattleType) → IsSend A → IsSend B → IsSend C → IsSend D → IsSend E →
    IsSend (TupleAt ν (A ∷ B ∷ C ∷ D ∷ E ∷ []))
closure_of_five ν A B C D E a b c d e =
    let held = type_at ν (A ∷ B ∷ C ∷ D ∷ E ∷ []) in
    recorded_send _ _ _ held.to_one (struct_send (shape held) (a, (b, (c, (d, (e, tt))))))

pub caller_send : (S O R T : RattleType) → IsSend S → IsSend (caller.the_row S O R T)
caller_send S O R T s =
    recorded_send _ _ _ (caller.the_type S O R T).to_one
    (struct_send (shape (caller.the_type S O R T)) (search sendable depth 14, (pass_part S O R T s, tt)))

-- what a caller says of its calls goes anywhere
pub made_send : IsSend (result.the_row (Field.unit-field).row no_memory.the_row)
made_send = search sendable depth 14

look_send : IsSend look.the_row
look_send = search sendable depth 14

pub looker_send : (S O R T : RattleType) → IsSend S → IsSend (looker.the_row S O R T)
looker_send S O R T s =
    recorded_send _ _ _ (looker.the_type S O R T).to_one
    (struct_send (shape (looker.the_type S O R T)) (search sendable depth 14, (pass_part S O R T s, (heap.Vec-send look.the_row look_send, tt))))
