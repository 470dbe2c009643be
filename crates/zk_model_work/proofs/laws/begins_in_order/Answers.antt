use Rattle.zk_model_work.proofs.Begins.{none_waits_before, begins_rise}
use Rattle.zk_model_work.proofs.laws.begins_in_order.Goals as goal

pub returns : goal.returns
returns c = λ start h fresh. record {
  first = none_waits_before start h fresh;
  rise = begins_rise start h fresh;
}
