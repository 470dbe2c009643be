use Rattle.zk_model_bus.proofs.TableTells.{dead_makes_no_entry, living_may}
use Rattle.zk_model_bus.proofs.table_laws.oops_is_last.Goals as goal

pub returns : goal.returns
returns c = record { dead = dead_makes_no_entry; living = living_may }
