use Rattle.std.proofs.Common.{◌+◌, List, [], ◌∷◌, length, length-append, sym, ap, subst, arith}
use Rattle.zk_trace.specs.declared.stood.Stood.{Stood}
use Rattle.zk_worker.specs.declared.steps.Spot.TheVariants.{Work}
use Rattle.zk_show_chart.specs.declared.lines.Line.{Line}
use Rattle.zk_show_chart.proofs.TextLines.{AreRead, read_on}
use Rattle.zk_show_chart.proofs.lines.entry_lines.Goals as goal

pub loop-one-preserved : goal.loop-one-preserved
loop-one-preserved c =
    let text = c.args.text.now in
    let first = c.args.first_line in
    let stood = c.args.stood.now in
    let count = c.loop-one.one-index in
    let a = c.loop-one.invariant in
    let none : Stood = record { player = 0; step = 0; spot = Work 0 } in
    record {
      len = omega (arith, a.len, ap length c.in_ok-push.ensures.items, length-append c.loop-one.lines.items (c.line.result ∷ []));
      read =
          subst (λ (lines : List Line). AreRead text first stood (count + 1) lines c.line.new.self) (sym {A = List Line} c.in_ok-push.ensures.items)
          (read_on text first stood count c.loop-one.lines.items c.loop-one.rest c.line.new.self none c.line.result a.read c.loop-one-test.true
          (c.line.ensures.behind text first a.read.place a.read.behind) (c.line.ensures.said text first a.read.place a.read.behind));
    }
