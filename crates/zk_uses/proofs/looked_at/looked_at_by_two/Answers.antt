use contract.Lifetimes.{Lfts}
use denote.Param.Laws.{Laws}
use denote.RattleType.{RattleType}
use denote.Param.Send.{IsSend, IsSync, arg_send, param_send, sendable}
use denote.Exit.{no}
use denote.Ref.{NamedLft}
use denote.Struct.Field as Field
use mir.Syntax.{Dict, named}
use Rattle.zk_work.proofs.Crossing.{work_send}
use Rattle.zk_turn.proofs.Crossing.{cell_sync}
use Rattle.zk_uses.proofs.Crossing.{looker_send, ref_send, closure_of_three}
use Rattle.zk_uses.proofs.looked_at.looked_at_by_two.Lts as lts
use Rattle.zk_uses.proofs.looked_at.looked_at_by_two.Goals as goal

the_cell : (R : RattleType) (laws : Laws R) (threads : Dict) → IsSync (lts.of-2 R laws threads)
the_cell R laws threads = search (cell_sync, work_send) depth 14

the_looker : (R : RattleType) (laws : Laws R) (threads : Dict) → IsSend (lts.of-4 R laws threads)
the_looker R laws threads = search (looker_send, work_send) depth 14

-- what the first thread takes with it, apart from all that is known where it starts
taken : (R : RattleType) (laws : Laws R) (threads : Dict) (κs : Lfts 6) → IsSend (lts.arg-0-1 R laws threads κs)
taken R laws threads κs =
    let to_cell : NamedLft = record { mir = named 2; lft = κs.1.1.0 } in
    let held = closure_of_three _
    (Field.shr_ref_field to_cell (lts.of-2 R laws threads) tt).row (lts.of-4 R laws threads) (Field.u32-field).row
    (ref_send to_cell (lts.of-2 R laws threads) tt (the_cell R laws threads))
    (the_looker R laws threads) (search sendable depth 8) in
    arg_send _ no _ held

pub join-requires-send-F : goal.join-requires-send-F
join-requires-send-F g c κs within =
    param_send 1 (lts.arg-0-1 g.row.R g.R.laws g.R.Threads-dict κs)
    (taken g.row.R g.R.laws g.R.Threads-dict κs)

pub join-requires-send-A : goal.join-requires-send-A
join-requires-send-A g c κs within =
    param_send 3 (lts.arg-0-3 g.row.R g.R.laws g.R.Threads-dict κs)
    (search (looker_send, work_send, sendable) depth 14)
