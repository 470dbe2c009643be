use Rattle.std.proofs.Common.{ap, arith, length}
use Rattle.zk_line.specs.Objects.{is_thread, is_queue}
use Rattle.zk_scenario.proofs.ReadIsValid.{IsValid-readable}
use Rattle.zk_line.proofs.Tables.{length-places}
use Rattle.zk_scenario.proofs.scenario.Scenario.players.Goals as goal

pub overflow_cast-result : goal.overflow_cast-result
overflow_cast-result c =
    let valid = IsValid-readable _ c.self.invariant in
    omega (arith, valid.players, ap length c.threads.ensures.all, ap length c.queues.ensures.all, length-places is_thread c.self.inside.objects, length-places is_queue c.self.inside.objects)
