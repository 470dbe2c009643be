use Rattle.std.proofs.Common.{false, refl, arith}
use Rattle.std.proofs.lemmas.List.{get_or-replicate, length-replicate}
use Rattle.zk_model_trigger.proofs.Steps.{steady-start}
use Rattle.zk_trigger.proofs.engine.TriggerEngine.new.Goals as goal

pub returns : goal.returns
returns c = record {
  now = refl;
  entries = refl;
  made = refl;
  timely = record { few = omega arith; short = omega arith; made = omega arith };
  long = length-replicate 64 false;
  ready = λ event within. get_or-replicate 64 event false false within;
  waiting = c.new.ensures.waiting;
  fires = c.new.ensures.fires;
  steady = steady-start;
}
