use Rattle.std.proofs.Common.{◌<◌, length, refl, ap, ◌∙◌, arith}
use Rattle.std.proofs.lemmas.List.{length-set}
use Rattle.zk_model_work.specs.Questions.{busy_flags}
use Rattle.zk_queue.specs.Open.{Open, marks_in, mark}
use Rattle.zk_queue.specs.Words.{has_flag}
use Rattle.zk_queue.proofs.Bits.{marks-in}
use Rattle.zk_queue.proofs.Flagged.{word-read, flagged-mark, are-kept, open-marked}
use Rattle.zk_queue.proofs.queues.Queues.mark.Goals as goal

pub invariant_of-self : goal.invariant_of-self
invariant_of-self c =
    let i = c.self.inside in
    let bits = c.args.bits.0 in
    let items = ap (λ (o : Open). o.items) c.self.view_is in
    let within : c.args.item < length i.words.items = omega arith in
    let read = word-read i.words.items c.args.item c.index-word.result.now within c.index-word.ensures in
    are-kept i.waiting i.waiting i.runs.items i.runs.items i.words.items _ c.self.invariant refl refl refl
    (length-set i.words.items c.args.item c.marked.result) c.self.invariant.known
    (flagged-mark i.waiting.lines i.runs.items i.words.items c.self.invariant.flagged c.args.item within c.marked.result bits
    (c.marked.ensures
    ∙ ap (λ n. busy_flags (has_flag n 1) (has_flag bits 2) (has_flag n 4) (has_flag bits 8) (has_flag bits 16)) read))

pub returns : goal.returns
returns c =
    let i = c.self.inside in
    let word = c.index-word.result.now.0 in
    let bits = c.args.bits.0 in
    open-marked i.waiting.lines i.runs.items i.words.items c.args.item bits c.marked.result
    (ap marks_in c.marked.ensures
    ∙ marks-in (has_flag word 1) (has_flag bits 2) (has_flag word 4) (has_flag bits 8) (has_flag bits 16))
    ∙ ap (λ (o : Open). mark o c.args.item bits) c.self.view_is
