use Rattle.std.proofs.Common.{refl, sym, ap, subst, ◌∙◌, arith}
use Rattle.std.specs.Int.RustNames.{bit_or}
use Rattle.zk_queue.specs.Open.{Open, drop_item, mark, marks_of, is_running, is_queued, flags}
use Rattle.zk_queue.specs.Words.{has_flag}
use Rattle.zk_queue.proofs.Bits.{flag-running}
use Rattle.zk_work.specs.Active.{ActiveView, plain, flushing_in, AreMarked}
use Rattle.zk_work.specs.Engine.{cancelled}
use Rattle.zk_work.proofs.Marked.{cancelled-running, cancelled-idle, cancelled-marked, cancelled-flushing, marked-alike}
use Rattle.zk_work.proofs.active.Active.cancel.Goals as goal

pub drop_item-requires : goal.drop_item-requires
drop_item-requires c =
    let same = ap (λ (o : Open). o.items) c.disarm.ensures.admissions in
    let items = ap (λ (v : ActiveView). v.admissions.items) c.self.view_is in
    omega arith

pub flags-word-requires : goal.flags-word-requires
flags-word-requires c =
    let same = ap (λ (o : Open). o.items) c.disarm.ensures.admissions in
    let items = ap (λ (v : ActiveView). v.admissions.items) c.self.view_is in
    let after = ap (λ (o : Open). o.items) c.drop_item.ensures.next in
    omega arith

pub mark-requires : goal.mark-requires
mark-requires c =
    let same = ap (λ (o : Open). o.items) c.disarm.ensures.admissions in
    let items = ap (λ (v : ActiveView). v.admissions.items) c.self.view_is in
    let after = ap (λ (o : Open). o.items) c.drop_item.ensures.next in
    omega arith

pub invariant_of-self : goal.invariant_of-self
invariant_of-self c =
    let d = c.disarm.new.admissions in
    let same = ap (λ (o : Open). o.items) c.disarm.ensures.admissions in
    let items = ap (λ (v : ActiveView). v.admissions.items) c.self.view_is in
    let word = c.union.ensures tt ∙ ap (λ n. bit_or n 2) (c.flags-word.ensures
    ∙ ap (λ (o : Open). flags o c.args.item) c.drop_item.ensures.next) in
    subst (λ (o : Open). AreMarked o c.disarm.new.timeouts)
    (sym (c.mark.ensures ∙ ap (λ (o : Open). mark o c.args.item c.union.result.0) c.drop_item.ensures.next))
    (cancelled-marked d c.disarm.new.timeouts c.args.item c.union.result.0 c.disarm.ensures.marked (omega arith) word)

pub invariant_of-self-else-contains : goal.invariant_of-self-else-contains
invariant_of-self-else-contains c =
    subst (λ (o : Open). AreMarked o c.disarm.new.timeouts) (sym c.drop_item.ensures.next)
    (marked-alike c.disarm.new.admissions (drop_item c.disarm.new.admissions c.args.item) c.disarm.new.timeouts
    c.disarm.ensures.marked refl refl)

pub returns-then-contains-clause-admissions : goal.returns-then-contains-clause-admissions
returns-then-contains-clause-admissions c =
    let o = c.disarm.new.admissions in
    let d = drop_item o c.args.item in
    let m = marks_of d c.args.item in
    let read = c.flags-word.ensures ∙ ap (λ (o : Open). flags o c.args.item) c.drop_item.ensures.next in
    let runs = sym (flag-running (is_running d c.args.item) m.cancelling (is_queued d c.args.item) m.delayed m.flushing)
    ∙ ap (λ n. has_flag n 1) (sym read) ∙ sym (c.contains.ensures tt) ∙ c.if-contains.true in
    let word = c.union.ensures tt ∙ ap (λ n. bit_or n 2) read in
    ap plain (c.mark.ensures ∙ ap (λ (o : Open). mark o c.args.item c.union.result.0) c.drop_item.ensures.next)
    ∙ cancelled-running o c.self.inside.admissions c.args.item c.union.result.0 c.disarm.ensures.admissions runs word
    ∙ ap (λ (v : ActiveView). cancelled v.admissions c.args.item) c.self.view_is

pub returns-else-contains-clause-admissions : goal.returns-else-contains-clause-admissions
returns-else-contains-clause-admissions c =
    let o = c.disarm.new.admissions in
    let d = drop_item o c.args.item in
    let m = marks_of d c.args.item in
    let runs = sym (flag-running (is_running d c.args.item) m.cancelling (is_queued d c.args.item) m.delayed m.flushing)
    ∙ ap (λ n. has_flag n 1) (sym (c.flags-word.ensures ∙ ap (λ (o : Open). flags o c.args.item) c.drop_item.ensures.next))
    ∙ sym (c.contains.ensures tt) ∙ c.if-contains.false in
    ap plain c.drop_item.ensures.next
    ∙ cancelled-idle o c.self.inside.admissions c.args.item c.disarm.ensures.admissions runs
    ∙ ap (λ (v : ActiveView). cancelled v.admissions c.args.item) c.self.view_is

pub returns-then-contains-clause-flushing : goal.returns-then-contains-clause-flushing
returns-then-contains-clause-flushing c =
    let o = c.disarm.new.admissions in
    let word = c.union.ensures tt ∙ ap (λ n. bit_or n 2) (c.flags-word.ensures
    ∙ ap (λ (o : Open). flags o c.args.item) c.drop_item.ensures.next) in
    ap flushing_in (c.mark.ensures ∙ ap (λ (o : Open). mark o c.args.item c.union.result.0) c.drop_item.ensures.next)
    ∙ cancelled-flushing o c.args.item c.union.result.0 word ∙ c.disarm.ensures.flushing
    ∙ ap (λ (v : ActiveView). v.flushing) c.self.view_is

pub returns-else-contains-clause-flushing : goal.returns-else-contains-clause-flushing
returns-else-contains-clause-flushing c =
    ap flushing_in c.drop_item.ensures.next ∙ c.disarm.ensures.flushing ∙ ap (λ (v : ActiveView). v.flushing) c.self.view_is
