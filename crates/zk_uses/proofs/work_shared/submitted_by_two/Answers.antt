use contract.Lifetimes.{Lfts}
use denote.Param.Laws.{Laws}
use denote.RattleType.{RattleType}
use denote.Param.{param}
use denote.Param.Send.{IsSend, IsSync, arg_send, param_send, sendable}
use denote.Exit.{no}
use denote.Ref.{NamedLft}
use denote.Struct.Field as Field
use mir.Syntax.{Dict, named}
use Rattle.zk_work.proofs.Crossing.{work_send}
use Rattle.zk_turn.proofs.Crossing.{cell_sync, pass_send}
use Rattle.zk_uses.proofs.Crossing.{caller_send, made_send, ref_send, closure_of_four}
use Rattle.zk_uses.proofs.work_shared.submitted_by_two.Lts as lts
use Rattle.std.proofs.Common.{Some, subst}
use Rattle.zk_model_work.specs.Machine.{work_machine}
use Rattle.zk_model_work.specs.declared.ops.WorkOp.TheVariants.{Submit}
use Rattle.zk_turn.specs.Passes.{pass_seen}
use Rattle.zk_turn.specs.Players.{GoesOn}
use Rattle.zk_uses.proofs.Called.{made-first, made-second, called-on}
use Rattle.zk_uses.proofs.work_shared.submitted_by_two.Goals as goal

the_cell : (R : RattleType) (laws : Laws R) (threads wait : Dict) → IsSync (lts.of-4 R laws threads wait)
the_cell R laws threads wait = search (cell_sync, work_send) depth 14

the_caller : (R : RattleType) (laws : Laws R) (threads wait : Dict) → IsSend (lts.of-8 R laws threads wait)
the_caller R laws threads wait = search (caller_send, work_send) depth 14

-- what the first thread takes with it, apart from all that is known where it starts
taken : (R : RattleType) (laws : Laws R) (threads wait : Dict) (κs : Lfts 10) → IsSync (param 0 R) → IsSend (lts.arg-0-1 R laws threads wait κs)
taken R laws threads wait κs sync =
    let to_rt : NamedLft = record { mir = named 6; lft = κs.1.1.1.1.1.1.0 } in
    let to_cell : NamedLft = record { mir = named 7; lft = κs.1.1.1.1.1.1.1.0 } in
    let held = closure_of_four _ (Field.shr_ref_field to_rt (param 0 R) tt).row
    (Field.shr_ref_field to_cell (lts.of-4 R laws threads wait) tt).row (lts.of-8 R laws threads wait) (Field.u32-field).row
    (ref_send to_rt (param 0 R) tt sync) (ref_send to_cell (lts.of-4 R laws threads wait) tt (the_cell R laws threads wait))
    (the_caller R laws threads wait) (search sendable depth 8) in
    arg_send _ no _ held

pub join-one-requires-send-F : goal.join-one-requires-send-F
join-one-requires-send-F g c κs within =
    param_send 1 (lts.arg-0-1 g.row.R g.R.laws g.R.Threads-dict g.R.Wait-dict κs)
    (taken g.row.R g.R.laws g.R.Threads-dict g.R.Wait-dict κs c.type_bounds.sync-R)

pub join-one-requires-send-A : goal.join-one-requires-send-A
join-one-requires-send-A g c κs within =
    param_send 3 (lts.arg-0-3 g.row.R g.R.laws g.R.Threads-dict g.R.Wait-dict κs)
    (search (pass_send, work_send, made_send, sendable) depth 20)

pub returns-clause-first : goal.returns-clause-first
returns-clause-first g c =
    let one = c.join-one.ensures.first in
    let all = c.put_together.ensures in
    let goes = subst (λ ws. GoesOn ws (pass_seen c.join-one.result.0.0) (pass_seen c.put_together.result.0)) one.1.0 all.first in
    called-on work_machine _ c.args.first.who (λ step. Submit 0 (Some 0)) c.args.times c.join-one.result.0.1 c.put_together.result.1 _ _
    (made-first c.join-one.result.0.1 c.join-one.result.1.1 c.put_together.result.1 all.made) goes one.1.1.0

pub returns-clause-second : goal.returns-clause-second
returns-clause-second g c =
    let other = c.join-one.ensures.second in
    let all = c.put_together.ensures in
    let goes = subst (λ ws. GoesOn ws (pass_seen c.join-one.result.1.0) (pass_seen c.put_together.result.0)) other.1.0 all.second in
    called-on work_machine _ c.args.second.who (λ step. Submit 0 (Some 0)) c.args.times c.join-one.result.1.1 c.put_together.result.1 _ _
    (made-second c.join-one.result.0.1 c.join-one.result.1.1 c.put_together.result.1 all.made) goes other.1.1.0
