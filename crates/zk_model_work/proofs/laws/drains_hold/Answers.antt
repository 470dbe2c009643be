use Rattle.zk_model_work.proofs.AwaitedEnds.{drain_done_after_its_end}
use Rattle.zk_model_work.proofs.Drains.{drain_admits_its_own, drains_until_it_rests, drain_ends_at_rest, plugged_admits_none, plugged_rests, stopped_rests}
use Rattle.zk_model_work.proofs.Queues.{draining_stays, drain_tells, plugged_as_asked, started_stays, start_tells, stop_tells}
use Rattle.zk_model_work.proofs.laws.drains_hold.Goals as goal

pub returns : goal.returns
returns c = λ start h fresh. record {
  own = drain_admits_its_own start h fresh;
  until = drains_until_it_rests start h fresh;
  stays = draining_stays start h fresh;
  ends = drain_ends_at_rest start h fresh;
  done = drain_done_after_its_end start h fresh;
  told = drain_tells start h fresh;
  plugged = plugged_admits_none start h fresh;
  rests = plugged_rests start h fresh;
  plugs = plugged_as_asked start h fresh;
  started = started_stays start h fresh;
  starts = start_tells start h fresh;
  stops = stop_tells start h fresh;
  stopped = stopped_rests start h fresh;
}
