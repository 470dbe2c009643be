use Rattle.zk_cells.proofs.Sharing.{AreSigJoined}
use Rattle.zk_cells.proofs.joining.join_signals.Given as goal

abbrev pub invariant-loop-index : goal.invariant-loop-index
invariant-loop-index l = AreSigJoined l.index l.signals l.fn.into.items l.fn.other.items l.into.items l.other.items
