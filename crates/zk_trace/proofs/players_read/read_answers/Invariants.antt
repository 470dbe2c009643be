use Rattle.std.proofs.Common.{◌≡◌, ℕ, Option, None, List, length}
use Rattle.zk_blocks.specs.Rows.{counted_rows}
use Rattle.zk_worker.specs.declared.answers.Answered.{Answered}
use Rattle.zk_trace.specs.AnswerRead.{answered_of}
use Rattle.zk_trace.proofs.RowsRead.{last_of, IsWithin, reads_on}
use Rattle.zk_trace.proofs.players_read.read_answers.Given as goal

abbrev pub invariant-loop-alloc : goal.invariant-loop-alloc
invariant-loop-alloc l =
    let says : Option Answered → List ℕ → Option Answered = λ last. answered_of l.scenario.decls in
    record {
      read : counted_rows says l.count None l.fn.feed ≡ reads_on says l.count l.answers (last_of l.answers) l.feed;
      within : IsWithin l.count (length l.answers);
    }

abbrev pub decreases-loop-alloc : goal.decreases-loop-alloc
decreases-loop-alloc l = length l.feed
