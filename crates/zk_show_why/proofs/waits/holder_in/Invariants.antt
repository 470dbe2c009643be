use Rattle.std.proofs.Common.{◌≡◌, None, drop}
use Rattle.zk_show_why.specs.Waits.{holder_from}
use Rattle.zk_show_why.proofs.waits.holder_in.Given as goal

-- who holds it now, and what the entries that are left do to that
abbrev pub invariant-loop-entry : goal.invariant-loop-entry
invariant-loop-entry l = holder_from (drop l.entry-index l.history) l.held ≡ holder_from l.history None
