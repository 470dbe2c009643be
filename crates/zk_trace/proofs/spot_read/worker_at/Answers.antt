use Rattle.std.proofs.Common.{ap, arith, length}
use Rattle.zk_line.specs.Objects.{is_thread, is_queue}
use Rattle.zk_line.proofs.Tables.{length-places}
use Rattle.zk_trace.proofs.SpotRead.{worker_among}
use Rattle.zk_trace.proofs.spot_read.worker_at.Goals as goal

pub overflow_cast-result : goal.overflow_cast-result
overflow_cast-result c =
    let valid = c.decls-decls.ensures.valid in
    omega (arith, valid.players, ap length c.threads.ensures, length-places is_thread c.args.scenario.now.decls)

pub overflow_add-result : goal.overflow_add-result
overflow_add-result c =
    let decls = c.args.scenario.now.decls in
    let valid = c.decls-decls.ensures.valid in
    let number = c.number.ensures in
    omega (arith, valid.players, ap length c.threads.ensures, length-places is_thread decls, length-places is_queue decls, worker_among decls valid.named c.args.object c.requires)
