use Rattle.std.proofs.Common.{◌∙◌}
use Rattle.zk_cells.proofs.Played.{above-noted, played-more}
use Rattle.zk_cells.proofs.playing.play.Goals as goal

pub act-requires-clause-later : goal.act-requires-clause-later
act-requires-clause-later c =
    above-noted c.args.notes.now c.loop-note.note-index _ c.loop-note.signal.history c.loop-note-test.true c.requires.steps c.loop-note.invariant.history

pub loop-note-preserved : goal.loop-note-preserved
loop-note-preserved c =
    let s = c.loop-note.signal in
    let told = c.in_ok-act.ensures in
    record {
      start = c.act.ensures.start ∙ c.loop-note.invariant.start;
      history = played-more c.args.notes.now c.loop-note.note-index _ s.history _ s.start c.in_ok-act.field-0 c.loop-note-test.true c.requires.order
          c.loop-note.invariant.start c.loop-note.invariant.history told.entry told.reply;
    }
