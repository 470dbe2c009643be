use Rattle.std.proofs.Common.{◌≡◌, None, length}
use Rattle.zk_blocks.specs.Rows.{counted_rows}
use Rattle.zk_trace.proofs.RowsRead.{last_of, IsWithin, reads_on}
use Rattle.zk_trace.proofs.rows_read.read_rows.Given as goal

abbrev pub invariant-loop-alloc : goal.invariant-loop-alloc
invariant-loop-alloc g l =
    let says = g.X.Row.says l.scenario.decls in
    record {
      read : counted_rows says l.count None l.fn.feed ≡ reads_on says l.count l.rows.items (last_of l.rows.items) l.feed;
      within : IsWithin l.count (length l.rows.items);
    }

abbrev pub decreases-loop-alloc : goal.decreases-loop-alloc
decreases-loop-alloc g l = length l.feed
