use Rattle.std.proofs.Common.{◌≡◌, length, sym, ap, subst, ◌∙◌, arith}
use Rattle.std.specs.Prelude.{option_map}
use Rattle.zk_blocks.specs.Blocks.{line_of}
use Rattle.zk_trace.specs.SectionRead.{are_all}
use Rattle.zk_trace.proofs.RowsRead.{last_of, IsWithin, reads_on, counted_begin, counted_more, within_more, counted_over, untold-seen, within_none}
use Rattle.zk_trace.proofs.rows_read.read_rows.Goals as goal

pub loop-alloc-init : goal.loop-alloc-init
loop-alloc-init g c =
    let says = g.X.Row.says c.args.scenario.now.decls in
    let none = sym c.in_ok-rows.ensures.items in
    record {
      read = counted_begin says c.args.count c.args.feed.now ∙ ap (λ l. reads_on says c.args.count l (last_of l) c.args.feed.now) none;
      within = subst (λ l. IsWithin c.args.count (length l)) none (within_none c.args.count);
    }

pub loop-alloc-preserved : goal.loop-alloc-preserved
loop-alloc-preserved g c =
    let says = g.X.Row.says c.args.scenario.now.decls in
    let rows = c.loop-alloc.rows.items in
    let long : length rows ≡ c.len.result = omega (arith, c.len.ensures, c.loop-alloc.rows.ok.0) in
    let some = ap (are_all c.args.count) long ∙ sym c.are_all.ensures ∙ c.loop-alloc-test.true in
    let last = c.last.ensures.value ∙ ap last_of c.deref.ensures.value in
    let read = ap (λ l. line_of (says l) c.loop-alloc.feed) (sym last) ∙ rw c.in-Some.is at c.in_ok-row.ensures.row in
    let more = sym c.in_ok-push.ensures.items in
    record {
      read = c.loop-alloc.invariant.read
          ∙ counted_more says c.args.count rows c.in-Some.row (last_of rows) c.loop-alloc.feed c.read_row.new.feed some c.loop-alloc.invariant.within read
          ∙ ap (λ l. reads_on says c.args.count l (last_of l) c.read_row.new.feed) more;
      within = subst (λ l. IsWithin c.args.count (length l)) more (within_more says c.args.count rows c.in-Some.row some c.loop-alloc.invariant.within);
    }

pub returns-in_default : goal.returns-in_default
returns-in_default g c =
    let says = g.X.Row.says c.args.scenario.now.decls in
    let rows = c.loop-alloc.rows.items in
    let long : length rows ≡ c.len.result = omega (arith, c.len.ensures, c.loop-alloc.rows.ok.0) in
    let some = ap (are_all c.args.count) long ∙ sym c.are_all.ensures ∙ c.loop-alloc-test.true in
    let last = c.last.ensures.value ∙ ap last_of c.deref.ensures.value in
    let read = ap (λ l. line_of (says l) c.loop-alloc.feed) (sym last) ∙ rw c.in_default.is at c.in_ok-row.ensures.row in
    c.loop-alloc.invariant.read
    ∙ counted_over says c.args.count rows (last_of rows) c.loop-alloc.feed c.read_row.new.feed some c.loop-alloc.invariant.within read
    ∙ ap (λ o. (o, c.read_row.new.feed)) (sym (ap (option_map (λ rows. rows.items)) c.where_untold.ensures ∙ untold-seen (λ rows. rows.items) c.args.count c.loop-alloc.rows))
