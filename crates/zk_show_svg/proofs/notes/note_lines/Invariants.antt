use Rattle.std.proofs.Common.{length}
use Rattle.zk_show_svg.proofs.notes.note_lines.Given as goal

abbrev pub decreases-loop-rest : goal.decreases-loop-rest
decreases-loop-rest l = length l.rest
