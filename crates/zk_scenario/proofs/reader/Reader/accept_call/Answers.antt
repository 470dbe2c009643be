use Rattle.std.proofs.Common.{rules}
use Rattle.zk_scenario.proofs.AcceptedLines.{IsValid-called-is}
use Rattle.zk_scenario.proofs.reader.Reader.accept_call.Goals as goal

pub call-requires-clause-valid : goal.call-requires-clause-valid
call-requires-clause-valid c =
    IsValid-called-is _ _ c.args.word c.args.parts.now _ c.self.view_is c.self.invariant.valid c.requires.form c.requires.passes (search rules)
