use Rattle.zk_model_bus.proofs.TableTells.{no_object_exactly, wrong_kind_first, is_answered}
use Rattle.zk_model_bus.proofs.table_laws.checks_are_told.Goals as goal

pub returns : goal.returns
returns c = record { no_object = no_object_exactly; wrong_kind = wrong_kind_first; answered = is_answered }
