use Rattle.std.proofs.Common.{◌-◌, ◌^◌, sym, ap, subst, ◌∙◌}
use Rattle.std.specs.Int.RustNames.{bit_and}
use Rattle.zk_queue.specs.Open.{Open, mark, marks_of, is_running, is_queued}
use Rattle.zk_queue.specs.Words.{has_flag}
use Rattle.zk_queue.proofs.Bits.{flag-delayed}
use Rattle.zk_work.specs.Active.{plain, flushing_in, AreMarked}
use Rattle.zk_work.proofs.Marked.{disarmed-marked, disarmed-plain, disarmed-flushing, disarmed-none}
use Rattle.zk_work.proofs.active.disarm.Goals as goal

pub returns-then-contains-clause-marked : goal.returns-then-contains-clause-marked
returns-then-contains-clause-marked c =
    let word = c.difference.ensures tt ∙ ap (λ n. bit_and n (2 ^ 8 - 1 - 8)) c.flags-word.ensures in
    subst (λ (o : Open). AreMarked o c.disarm.new.self) (sym c.mark.ensures)
    (subst (AreMarked (mark c.args.admissions.now c.args.item c.difference.result.0)) (sym c.disarm.ensures.next)
    (disarmed-marked c.args.admissions.now c.args.timeouts.now c.args.item c.difference.result.0 c.requires.marked c.requires.item word))

pub returns-then-contains-clause-admissions : goal.returns-then-contains-clause-admissions
returns-then-contains-clause-admissions c =
    let word = c.difference.ensures tt ∙ ap (λ n. bit_and n (2 ^ 8 - 1 - 8)) c.flags-word.ensures in
    ap plain c.mark.ensures ∙ disarmed-plain c.args.admissions.now c.args.item c.difference.result.0 word

pub returns-else-contains-clause-timeouts : goal.returns-else-contains-clause-timeouts
returns-else-contains-clause-timeouts c =
    let o = c.args.admissions.now in
    let m = marks_of o c.args.item in
    disarmed-none c.args.timeouts.now c.args.item
    (sym (c.requires.marked.delayed c.args.item c.requires.item)
    ∙ sym (flag-delayed (is_running o c.args.item) m.cancelling (is_queued o c.args.item) m.delayed m.flushing)
    ∙ ap (λ n. has_flag n 8) (sym c.flags-word.ensures) ∙ sym (c.contains.ensures tt) ∙ c.if-contains.false)

pub returns-then-contains-clause-flushing : goal.returns-then-contains-clause-flushing
returns-then-contains-clause-flushing c =
    let word = c.difference.ensures tt ∙ ap (λ n. bit_and n (2 ^ 8 - 1 - 8)) c.flags-word.ensures in
    ap flushing_in c.mark.ensures ∙ disarmed-flushing c.args.admissions.now c.args.item c.difference.result.0 word
