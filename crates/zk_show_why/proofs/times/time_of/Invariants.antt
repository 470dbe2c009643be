use Rattle.std.proofs.Common.{◌≡◌, drop}
use Rattle.zk_show_why.specs.Times.{time_after, time_of}
use Rattle.zk_show_why.proofs.times.time_of.Given as goal

-- what the entries that are left do to the time
abbrev pub invariant-loop-entry : goal.invariant-loop-entry
invariant-loop-entry l = time_after (drop l.entry-index l.trace.clock) l.now ≡ time_of l.trace
