use Rattle.std.proofs.Common.{◌+◌, ◌<◌, List, None, length, sym, subst, arith}
use Rattle.std.proofs.lemmas.Option.{get_or_from_slice_get, slice_get_within}
use Rattle.zk_show_chart.specs.declared.chart.Bar.{Bar}
use Rattle.zk_show_chart.specs.declared.chart.BarKind.TheVariants.{Run}
use Rattle.zk_show_text.specs.Opened.{AreOpened}
use Rattle.zk_show_text.proofs.OpenBars.{opened_more}
use Rattle.zk_show_text.proofs.rows.open_bars.Goals as goal

-- what stands for no bar
abbrev none : Bar
none = record { player = 0; kind = Run; depth = 0; first = 0; last = None }

pub loop-next-preserved : goal.loop-next-preserved
loop-next-preserved c =
    let row = c.args.row in
    let bars = c.args.bars.now in
    let next = c.loop-next.next in
    subst (λ (those : List Bar). AreOpened row bars (next + 1) those) (sym c.in_ok-open_bar.ensures)
    (opened_more row bars next c.loop-next.through.items none c.loop-next.invariant c.loop-next-test.true c.if-bars-next.true)

pub returns-else-bars-next-clause-all : goal.returns-else-bars-next-clause-all
returns-else-bars-next-clause-all c = λ bar there.
    subst (λ (b : Bar). c.args.row < b.first) (get_or_from_slice_get c.args.bars.now c.loop-next.next bar none there) c.if-bars-next.false

pub returns-after-loop-next-clause-all : goal.returns-after-loop-next-clause-all
returns-after-loop-next-clause-all c = λ bar there.
    let within : c.loop-next.next < length c.args.bars.now = slice_get_within c.args.bars.now c.loop-next.next bar there in
    absurd (omega arith)
