use Rattle.std.proofs.Common.{◌≡◌, ℕ, ◌<◌, List, length, set, get_or, sym, ◌∙◌, ap, arith}
use Rattle.zk_show_text.specs.Marks.{marked, marks_from}
use Rattle.zk_show_text.proofs.MarkSets.{length-marks, marks_beyond, marks_within}
use Rattle.zk_show_text.proofs.marks.mark_lane.Goals as goal

pub returns-then-lane-len : goal.returns-then-lane-len
returns-then-lane-len c = λ bars lanes is.
    let marks = c.args.marks.now in
    let bar = c.args.bar.now in
    let size : length marks.items ≡ lanes = ap length is ∙ length-marks bars 0 lanes in
    let within : bar.player < lanes = omega (arith, marks.ok.0) in
    let mark = c.index.result.now in
    ap (λ m. set marks.items bar.player m) (c.marked.ensures ∙ ap (marked bar.kind) c.index.ensures)
    ∙ ap (λ (ms : List ℕ). set ms bar.player (marked bar.kind (get_or ms bar.player mark))) is
    ∙ sym (marks_within bars bar lanes mark within)

pub returns-else-lane-len : goal.returns-else-lane-len
returns-else-lane-len c = λ bars lanes is.
    let marks = c.args.marks.now in
    let size : length marks.items ≡ lanes = ap length is ∙ length-marks bars 0 lanes in
    is ∙ sym (marks_beyond bars c.args.bar.now lanes (omega (arith, marks.ok.0)))
