use Rattle.std.proofs.Common.{ap, ◌∙◌}
use Rattle.zk_model_work.specs.Machine.{work_machine}
use Rattle.zk_base.specs.Legal.{state_after}
use Rattle.zk_base.specs.Limits.{most_entries}
use Rattle.zk_work.specs.Seen.{work_start, work_history}
use Rattle.zk_failures.proofs.ItemsFound.{play-above, play-range, play-short, play-one}
use Rattle.zk_failures.proofs.item_looks.play.Goals as goal

pub act-requires-clause-later : goal.act-requires-clause-later
act-requires-clause-later c =
    play-above work_machine (work_start c.args.work.now) (work_history c.args.work.now) c.args.entries.now c.loop-entry.entry-index c.entry-item.result c.loop-entry-test.true c.entry-item.is
    c.requires.legal (work_history c.loop-entry.work) c.loop-entry.invariant.history

pub act-requires-clause-range : goal.act-requires-clause-range
act-requires-clause-range c =
    ap (λ s. work_machine.in_range s c.entry-item.result.op) c.loop-entry.invariant.start
    ∙ play-range work_machine (work_start c.args.work.now) (work_history c.args.work.now) c.args.entries.now c.loop-entry.entry-index c.entry-item.result c.loop-entry-test.true c.entry-item.is
    c.requires.legal (work_history c.loop-entry.work) c.loop-entry.invariant.history

pub act-requires-clause-short : goal.act-requires-clause-short
act-requires-clause-short c =
    play-short work_machine (work_start c.args.work.now) (work_history c.args.work.now) c.args.entries.now c.loop-entry.entry-index c.entry-item.result c.loop-entry-test.true c.entry-item.is
    c.requires.legal (work_history c.loop-entry.work) c.loop-entry.invariant.history most_entries c.requires.short

pub loop-entry-preserved : goal.loop-entry-preserved
loop-entry-preserved c =
    let e = c.entry-item.result in
    let h = work_history c.loop-entry.work in
    let start = c.loop-entry.invariant.start in
    record {
      start = c.in_ok-act.ensures.start ∙ start;
      history =
          play-one work_machine (work_start c.args.work.now) (work_history c.args.work.now) c.args.entries.now c.loop-entry.entry-index e c.loop-entry-test.true c.entry-item.is
          c.requires.legal h c.loop-entry.invariant.history (work_history c.act.new.self) c.in_ok-act.field-0
          (c.in_ok-act.ensures.reply ∙ ap (λ s. work_machine.reply_of (state_after work_machine s h) e.who e.op) start) c.in_ok-act.ensures.entry;
    }
