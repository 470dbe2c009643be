use Rattle.std.proofs.Common.{arith}
use Rattle.zk_turn.specs.Passes.{given_to}
use Rattle.zk_work.specs.Seen.{work_start}
use Rattle.zk_test_trigger.specs.Pumped.{pumper}
use Rattle.zk_test_trigger.proofs.Rooms.{pumped-room}
use Rattle.zk_test_trigger.proofs.both.pumped.Goals as goal

pub returns : goal.returns
returns g c =
    let before = c.requires.ready in
    let taken = pumped-room pumper (work_start (given_to c.args.work.now)) c.args.pump.now c.step.new.self c.step.result
    (c.step.ensures.pumped pumper before.pump) in
    let triggers = before.triggers_room in
    let work = before.work_room in
    let one = taken.0 in
    let other = taken.1 in
    record {
      ready = record {
        pump = c.step.ensures.pump pumper before.pump;
        triggers_room = omega arith;
        work_room = omega arith;
        start = before.start;
        wide = before.wide;
      };
    }
