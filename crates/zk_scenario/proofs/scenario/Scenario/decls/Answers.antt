use Rattle.std.proofs.Common.{subst}
use Rattle.zk_scenario.specs.Valid.{IsValid}
use Rattle.zk_scenario.proofs.ReadIsValid.{IsValid-readable}
use Rattle.zk_scenario.proofs.scenario.Scenario.decls.Goals as goal

pub returns-clause-valid : goal.returns-clause-valid
returns-clause-valid c = subst IsValid c.self.view_is (IsValid-readable _ c.self.invariant)
