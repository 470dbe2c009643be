use Rattle.std.proofs.Common.{sym, subst}
use Rattle.zk_model_bus.specs.Table.{Setup, IsSetup}
use Rattle.zk_worker.proofs.TableSetups.{setup_fits}
use Rattle.zk_services.proofs.table.first_table.Goals as goal

pub new-requires : goal.new-requires
new-requires c = subst (λ (setup : Setup). IsSetup setup) (sym c.in_ok-setup.ensures) (setup_fits c.args.scenario.now c.requires)
