use Rattle.zk_model_bus.proofs.TableTells.{users_are_checked, user_for_good}
use Rattle.zk_model_bus.proofs.table_laws.user_for_good.Goals as goal

pub returns : goal.returns
returns c = record { checked = users_are_checked; user = user_for_good }
