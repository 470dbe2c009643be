use Rattle.zk_model_bus.proofs.TableTells.{grant_stands, public_for_good, none_without_a_grant}
use Rattle.zk_model_bus.proofs.table_laws.grants_stand.Goals as goal

pub returns : goal.returns
returns c = record { stands = grant_stands; public = public_for_good; none = none_without_a_grant }
