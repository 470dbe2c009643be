use Rattle.zk_model_bus.proofs.TableTells.{ready_for_good, none_before_init, init_done_once}
use Rattle.zk_model_bus.proofs.table_laws.ready_for_good.Goals as goal

pub returns : goal.returns
returns c = record { ready = ready_for_good; before = none_before_init; once = init_done_once }
