use contract.Lifetimes.{Lfts}
use denote.Param.Laws.{Laws}
use denote.RattleType.{RattleType}
use denote.Param.{param}
use denote.Param.Send.{IsSync, arg_send, arg_sync, param_send, param_sync}
use denote.Exit.{no}
use denote.Ref.{NamedLft}
use denote.Struct.Field as Field
use mir.Syntax.{Dict, named}
use Rattle.zk_kernel.specs.contracts.kernel.Kernel as kernel
use Rattle.zk_kernel.proofs.Crossing.{kernel_sync, ref_sync}
use Rattle.zk_cores.specs.contracts.barrier.Barrier as barrier
use Rattle.zk_cores.proofs.Crossing.{core_send, seats_row, seats_sync, barrier_sync, closure_of_five}
use Rattle.zk_cores.proofs.round.play_cores.Lts as lts
use Rattle.zk_cores.proofs.round.play_cores.Goals as goal

pub for_each_mut-requires-send-T : goal.for_each_mut-requires-send-T
for_each_mut-requires-send-T g c κs within =
    param_send 1 (lts.arg-3-1 g.row.R g.row.G g.R.laws g.G.laws g.R.Threads-dict g.R.Wait-dict g.G.Gate-dict κs) (arg_send _ no _ core_send)

-- what each core looks at
shared : (R G : RattleType) (laws : Laws R) (laws' : Laws G) (threads wait gate : Dict) (κs : Lfts 11) → IsSync (param 0 R) → IsSync (param 1 G) → IsSync (lts.arg-3-2 R G laws laws' threads wait gate κs)
shared R G laws laws' threads wait gate κs sync sync' =
    let to_rt : NamedLft = record { mir = named 6; lft = κs.1.1.1.1.1.1.0 } in
    let to_kernel : NamedLft = record { mir = named 7; lft = κs.1.1.1.1.1.1.1.0 } in
    let to_pool : NamedLft = record { mir = named 8; lft = κs.1.1.1.1.1.1.1.1.0 } in
    let to_gate : NamedLft = record { mir = named 9; lft = κs.1.1.1.1.1.1.1.1.1.0 } in
    let to_barrier : NamedLft = record { mir = named 10; lft = κs.1.1.1.1.1.1.1.1.1.1.0 } in
    let held = closure_of_five _ (Field.shr_ref_field to_rt (param 0 R) tt).row (Field.shr_ref_field to_kernel kernel.the_row tt).row
    (Field.shr_ref_field to_pool seats_row tt).row (Field.shr_ref_field to_gate (param 1 G) tt).row
    (Field.shr_ref_field to_barrier barrier.the_row tt).row
    (ref_sync to_rt (param 0 R) tt sync) (ref_sync to_kernel kernel.the_row tt kernel_sync) (ref_sync to_pool seats_row tt seats_sync) (ref_sync to_gate (param 1 G) tt sync')
    (ref_sync to_barrier barrier.the_row tt barrier_sync) in
    arg_sync _ no _ held

pub for_each_mut-requires-sync-F : goal.for_each_mut-requires-sync-F
for_each_mut-requires-sync-F g c κs within =
    param_sync 2 (lts.arg-3-2 g.row.R g.row.G g.R.laws g.G.laws g.R.Threads-dict g.R.Wait-dict g.G.Gate-dict κs)
    (shared g.row.R g.row.G g.R.laws g.G.laws g.R.Threads-dict g.R.Wait-dict g.G.Gate-dict κs c.type_bounds.sync-R c.type_bounds.sync-G)
