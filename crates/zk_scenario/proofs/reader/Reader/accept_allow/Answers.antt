use Rattle.std.proofs.Common.{rules}
use Rattle.zk_scenario.proofs.AcceptedLines.{IsValid-permitted-is}
use Rattle.zk_scenario.proofs.reader.Reader.accept_allow.Goals as goal

pub allow-requires : goal.allow-requires
allow-requires c =
    IsValid-permitted-is _ _ c.args.parts.now _ _ c.self.view_is c.self.invariant.valid c.requires.form c.requires.passes (search rules)
