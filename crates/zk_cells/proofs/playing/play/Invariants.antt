use Rattle.std.proofs.Common.{◌≡◌, take}
use Rattle.zk_model_wait.specs.Signal.{new_signal}
use Rattle.zk_poll.specs.Seen.{signal_start, signal_history}
use Rattle.zk_cells.specs.Notes.{entries_of}
use Rattle.zk_cells.proofs.playing.play.Given as goal

-- the writes so far were played
abbrev pub invariant-loop-note : goal.invariant-loop-note
invariant-loop-note l = record {
  start : signal_start l.signal ≡ new_signal;
  history : signal_history l.signal ≡ entries_of (take l.note-index l.notes);
}
