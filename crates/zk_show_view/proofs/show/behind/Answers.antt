use Rattle.std.proofs.Common.{eqb, arith}
use Rattle.std.proofs.lemmas.List.Sums.{count_by-le-length}
use Rattle.zk_words.specs.Bytes.{line_feed}
use Rattle.zk_trace.proofs.Feeds.{lines-count}
use Rattle.zk_show_view.proofs.show.behind.Goals as goal

pub overflow_cast-result : goal.overflow_cast-result
overflow_cast-result c =
    let text = c.args.source.now in
    omega (arith, lines-count text, count_by-le-length (λ b. eqb b line_feed) text, c.requires, c.line_count.ensures)

pub overflow_add-result : goal.overflow_add-result
overflow_add-result c =
    let text = c.args.source.now in
    omega (arith, lines-count text, count_by-le-length (λ b. eqb b line_feed) text, c.requires, c.line_count.ensures)
