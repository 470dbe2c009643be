use Rattle.std.proofs.Common.{◌≡◌, length}
use Rattle.zk_trace.specs.WorkRead.{expiry_of}
use Rattle.zk_trace.proofs.Told.{each_with}
use Rattle.zk_trace.proofs.expiries.expiries_of.Given as goal

abbrev pub invariant-loop-word : goal.invariant-loop-word
invariant-loop-word l = each_with (expiry_of l.scenario.decls) l.ended l.words ≡ each_with (expiry_of l.scenario.decls) l.initial.ended l.initial.words

abbrev pub decreases-loop-word : goal.decreases-loop-word
decreases-loop-word l = length l.words
