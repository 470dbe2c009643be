use Rattle.std.proofs.Common.{rules}
use Rattle.zk_scenario.proofs.AcceptedLines.{IsValid-opened-is}
use Rattle.zk_scenario.proofs.reader.Reader.accept_script.Goals as goal

pub open-requires-clause-valid : goal.open-requires-clause-valid
open-requires-clause-valid c =
    IsValid-opened-is _ _ c.args.parts.now _ c.self.view_is c.self.invariant.valid c.requires.form c.requires.passes (search rules)
