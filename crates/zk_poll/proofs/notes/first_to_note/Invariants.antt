use Rattle.std.proofs.Common.{◌≡◌, None, drop, length}
use Rattle.zk_poll.specs.Notes.{first_to_note}
use Rattle.zk_poll.proofs.notes.first_to_note.Given as goal

abbrev pub invariant-loop-member : goal.invariant-loop-member
invariant-loop-member l =
    (first_to_note l.best (drop l.member-index l.members) ≡ first_to_note None l.members)
    × (l.member-index-end ≡ length l.members)
