use contract.Lifetimes.{Lfts}
use denote.Param.Laws.{Laws}
use denote.RattleType.{RattleType}
use denote.Param.{param}
use denote.Param.Send.{IsSync, arg_send, arg_sync, param_send, param_sync}
use denote.Exit.{no}
use denote.Ref.{NamedLft}
use denote.Struct.Field as Field
use mir.Syntax.{Dict, named}
use Rattle.zk_test_msgsub.specs.contracts.parts.Shared as shared
use Rattle.zk_test_msgsub.proofs.Crossing.{part_send, shared_sync, ref_sync, closure_of_two}
use Rattle.zk_test_msgsub.proofs.parts.play_each.Lts as lts
use Rattle.zk_test_msgsub.proofs.parts.play_each.Goals as goal

pub for_each_mut-requires-send-T : goal.for_each_mut-requires-send-T
for_each_mut-requires-send-T g c κs within =
    param_send 1 (lts.arg-2-1 g.row.R g.R.laws g.R.Threads-dict g.R.Wait-dict κs) (arg_send _ no _ part_send)

-- what each thread looks at
looked_at : (R : RattleType) (laws : Laws R) (threads wait : Dict) (κs : Lfts 8) → IsSync (param 0 R) →
    IsSync (lts.arg-2-2 R laws threads wait κs)
looked_at R laws threads wait κs sync =
    let to_rt : NamedLft = record { mir = named 6; lft = κs.1.1.1.1.1.1.0 } in
    let to_shared : NamedLft = record { mir = named 7; lft = κs.1.1.1.1.1.1.1.0 } in
    let held = closure_of_two _ (Field.shr_ref_field to_rt (param 0 R) tt).row
    (Field.shr_ref_field to_shared shared.the_row tt).row
    (ref_sync to_rt (param 0 R) tt sync) (ref_sync to_shared shared.the_row tt shared_sync) in
    arg_sync _ no _ held

pub for_each_mut-requires-sync-F : goal.for_each_mut-requires-sync-F
for_each_mut-requires-sync-F g c κs within =
    param_sync 2 (lts.arg-2-2 g.row.R g.R.laws g.R.Threads-dict g.R.Wait-dict κs)
    (looked_at g.row.R g.R.laws g.R.Threads-dict g.R.Wait-dict κs c.type_bounds.sync-R)
