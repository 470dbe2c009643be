use Rattle.std.proofs.Common.{◌-◌, ◌^◌, sym, ap, subst, ◌∙◌, arith}
use Rattle.std.specs.Int.RustNames.{bit_and}
use Rattle.zk_queue.specs.Open.{Open, mark, flags}
use Rattle.zk_time.specs.Timeouts.{due_first, IsOrdered}
use Rattle.zk_work.specs.Active.{ActiveView, plain, flushing_in, AreMarked}
use Rattle.zk_work.proofs.Marked.{due-found, due-none, due-marked, due-within, disarmed-plain, disarmed-flushing, no-pair}
use Rattle.zk_work.proofs.active.Active.due.Goals as goal

pub invariant_of-self : goal.invariant_of-self
invariant_of-self c =
    let t = c.self.inside.timeouts in
    let none = no-pair (due_first c.args.now t.live) (sym c.due.ensures.reply ∙ c.in_err-item.was) in
    subst (AreMarked c.self.inside.admissions) (sym (c.due.ensures.next ∙ due-none t c.args.now none)) c.self.invariant

pub flags-word-requires : goal.flags-word-requires
flags-word-requires c =
    let t = c.self.inside.timeouts in
    let found = due-found (due_first c.args.now t.live) (c.in_ok-item.item, c.in_ok-item.queue) (sym c.due.ensures.reply ∙ c.in_ok-item.was) in
    let ordered = subst IsOrdered (sym (ap (λ (v : ActiveView). v.timeouts) c.self.view_is)) c.requires in
    let within = due-within c.self.inside.admissions t c.args.now found.0 c.self.invariant ordered found.1 in
    let same = found.2 in
    omega arith

pub mark-requires : goal.mark-requires
mark-requires c =
    let t = c.self.inside.timeouts in
    let found = due-found (due_first c.args.now t.live) (c.in_ok-item.item, c.in_ok-item.queue) (sym c.due.ensures.reply ∙ c.in_ok-item.was) in
    let ordered = subst IsOrdered (sym (ap (λ (v : ActiveView). v.timeouts) c.self.view_is)) c.requires in
    let within = due-within c.self.inside.admissions t c.args.now found.0 c.self.invariant ordered found.1 in
    let same = found.2 in
    omega arith

pub invariant_of-self-2 : goal.invariant_of-self-2
invariant_of-self-2 c =
    let t = c.self.inside.timeouts in
    let found = due-found (due_first c.args.now t.live) (c.in_ok-item.item, c.in_ok-item.queue) (sym c.due.ensures.reply ∙ c.in_ok-item.was) in
    let ordered = subst IsOrdered (sym (ap (λ (v : ActiveView). v.timeouts) c.self.view_is)) c.requires in
    let word = c.difference.ensures tt ∙ ap (λ n. bit_and n (2 ^ 8 - 1 - 8)) (c.flags-word.ensures
    ∙ ap (λ i. flags c.self.inside.admissions i) (sym found.2)) in
    subst (λ (o : Open). AreMarked o c.due.new.self)
    (sym (c.mark.ensures ∙ ap (λ i. mark c.self.inside.admissions i c.difference.result.0) (sym found.2)))
    (subst (AreMarked (mark c.self.inside.admissions found.0.item c.difference.result.0)) (sym c.due.ensures.next)
    (due-marked c.self.inside.admissions t c.args.now found.0 c.difference.result.0 c.self.invariant ordered found.1 word))

pub returns-clause-admissions : goal.returns-clause-admissions
returns-clause-admissions c =
    let word = c.difference.ensures tt ∙ ap (λ n. bit_and n (2 ^ 8 - 1 - 8)) c.flags-word.ensures in
    ap plain c.mark.ensures ∙ disarmed-plain c.self.inside.admissions c.in_ok-item.item c.difference.result.0 word
    ∙ ap (λ (v : ActiveView). v.admissions) c.self.view_is

pub returns-clause-known : goal.returns-clause-known
returns-clause-known c =
    let t = c.self.inside.timeouts in
    let found = due-found (due_first c.args.now t.live) (c.in_ok-item.item, c.in_ok-item.queue) (sym c.due.ensures.reply ∙ c.in_ok-item.was) in
    let ordered = subst IsOrdered (sym (ap (λ (v : ActiveView). v.timeouts) c.self.view_is)) c.requires in
    let within = due-within c.self.inside.admissions t c.args.now found.0 c.self.invariant ordered found.1 in
    let same = found.2 in
    let items = ap (λ (v : ActiveView). v.admissions.items) c.self.view_is in
    omega arith

pub returns-clause-flushing : goal.returns-clause-flushing
returns-clause-flushing c =
    let word = c.difference.ensures tt ∙ ap (λ n. bit_and n (2 ^ 8 - 1 - 8)) c.flags-word.ensures in
    ap flushing_in c.mark.ensures ∙ disarmed-flushing c.self.inside.admissions c.in_ok-item.item c.difference.result.0 word
    ∙ ap (λ (v : ActiveView). v.flushing) c.self.view_is
