use Rattle.std.proofs.Common.{◌≡◌, take}
use Rattle.zk_cells.specs.Notes.{notes_at}
use Rattle.zk_cells.proofs.playing.notes_at.Given as goal

-- those of the signal among the notes so far
abbrev pub invariant-loop-note : goal.invariant-loop-note
invariant-loop-note l = l.made.items ≡ notes_at (take l.note-index l.notes) l.object
