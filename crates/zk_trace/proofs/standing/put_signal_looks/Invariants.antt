use Rattle.std.proofs.Common.{◌≡◌, ◌++◌, drop, map}
use Rattle.zk_trace.specs.Stood.{signal_look_stood}
use Rattle.zk_trace.proofs.standing.put_signal_looks.Given as goal

abbrev pub invariant-loop-look : goal.invariant-loop-look
invariant-loop-look l = l.lines.items ++ map (signal_look_stood l.object) (drop l.look-index l.looks) ≡ l.fn.lines.items ++ map (signal_look_stood l.object) l.looks
