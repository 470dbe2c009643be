use Rattle.zk_cells.specs.Notes.{writes_at}
use Rattle.zk_cells.proofs.PlayedSignals.{PlayedSoFar}
use Rattle.zk_cells.proofs.playing.empty_signals.Given as goal

abbrev pub invariant-loop-index : goal.invariant-loop-index
invariant-loop-index l = PlayedSoFar (writes_at l.notes) l.index l.fn.signals.items l.fn.passes.items l.signals.items l.passes.items l.services.items
