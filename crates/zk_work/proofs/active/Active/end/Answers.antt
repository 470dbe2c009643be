use Rattle.std.proofs.Common.{◌-◌, ◌^◌, ◌<◌, Option, refl, sym, ap, subst, ◌∙◌, arith}
use Rattle.std.specs.Int.RustNames.{bit_and}
use Rattle.std.specs.Option.{IfSome, option_map_or}
use Rattle.zk_queue.specs.declared.ticket.Ticket.{Ticket}
use Rattle.zk_queue.specs.Open.{Open, run, mark, end}
use Rattle.zk_work.specs.Active.{ActiveView, plain, flushing_in, AreMarked, run_over}
use Rattle.zk_work.proofs.Marked.{run-found, marked-alike, over-plain, over-marked, over-flushing}
use Rattle.zk_work.proofs.active.Active.end.Goals as goal

pub flags-word-requires : goal.flags-word-requires
flags-word-requires c =
    let o = c.self.inside.admissions in
    let runs = run-found (run o c.args.queue) (c.in_ok-item.item, c.in_ok-item.number) (sym c.end.ensures.reply ∙ c.in_ok-item.was) in
    let runs_it = sym (ap (λ (v : ActiveView). run v.admissions c.args.queue) c.self.view_is) ∙ runs in
    let known : c.in_ok-item.item < c.args.self.now.admissions.items =
    subst (λ (r : Option Ticket). IfSome r (λ t. t.item < c.args.self.now.admissions.items)) runs_it c.requires.known in
    let items = ap (λ (v : ActiveView). v.admissions.items) c.self.view_is in
    let after = ap (λ (o : Open). o.items) c.end.ensures.next in
    omega arith

pub invariant_of-self : goal.invariant_of-self
invariant_of-self c =
    let o = c.self.inside.admissions in
    subst (λ (o : Open). AreMarked o c.self.inside.timeouts) (sym c.end.ensures.next)
    (marked-alike o (end o c.args.queue) c.self.inside.timeouts c.self.invariant refl refl)

pub invariant_of-self-2 : goal.invariant_of-self-2
invariant_of-self-2 c =
    let o = c.self.inside.admissions in
    let runs = run-found (run o c.args.queue) (c.in_ok-item.item, c.in_ok-item.number) (sym c.end.ensures.reply ∙ c.in_ok-item.was) in
    let runs_it = sym (ap (λ (v : ActiveView). run v.admissions c.args.queue) c.self.view_is) ∙ runs in
    let known : c.in_ok-item.item < c.args.self.now.admissions.items =
    subst (λ (r : Option Ticket). IfSome r (λ t. t.item < c.args.self.now.admissions.items)) runs_it c.requires.known in
    let items = ap (λ (v : ActiveView). v.admissions.items) c.self.view_is in
    let word = c.difference.ensures tt ∙ ap (λ n. bit_and n (2 ^ 8 - 1 - 2)) (c.flags-word.ensures
    ∙ ap (λ (o : Open). Rattle.zk_queue.specs.Open.flags o c.in_ok-item.item) c.end.ensures.next) in
    subst (λ (o : Open). AreMarked o c.self.inside.timeouts)
    (sym (c.mark.ensures ∙ ap (λ (o : Open). mark o c.in_ok-item.item c.difference.result.0) c.end.ensures.next))
    (over-marked o c.self.inside.timeouts c.args.queue c.in_ok-item.item c.difference.result.0 c.self.invariant
    (omega arith) word)

pub returns-clause-admissions : goal.returns-clause-admissions
returns-clause-admissions c =
    let o = c.self.inside.admissions in
    let runs = run-found (run o c.args.queue) (c.in_ok-item.item, c.in_ok-item.number) (sym c.end.ensures.reply ∙ c.in_ok-item.was) in
    let word = c.difference.ensures tt ∙ ap (λ n. bit_and n (2 ^ 8 - 1 - 2)) (c.flags-word.ensures
    ∙ ap (λ (o : Open). Rattle.zk_queue.specs.Open.flags o c.in_ok-item.item) c.end.ensures.next) in
    ap plain (c.mark.ensures ∙ ap (λ (o : Open). mark o c.in_ok-item.item c.difference.result.0) c.end.ensures.next)
    ∙ over-plain o c.args.queue c.in_ok-item.item c.difference.result.0 word
    ∙ ap (λ (r : Option Ticket). option_map_or (λ t. mark (end (plain o) c.args.queue) t.item 0) r (plain o)) (sym runs)
    ∙ ap (λ (v : ActiveView). run_over v.admissions c.args.queue) c.self.view_is

pub returns-clause-flushing : goal.returns-clause-flushing
returns-clause-flushing c =
    let o = c.self.inside.admissions in
    let word = c.difference.ensures tt ∙ ap (λ n. bit_and n (2 ^ 8 - 1 - 2)) (c.flags-word.ensures
    ∙ ap (λ (o : Open). Rattle.zk_queue.specs.Open.flags o c.in_ok-item.item) c.end.ensures.next) in
    ap flushing_in (c.mark.ensures ∙ ap (λ (o : Open). mark o c.in_ok-item.item c.difference.result.0) c.end.ensures.next)
    ∙ over-flushing o c.args.queue c.in_ok-item.item c.difference.result.0 word
    ∙ ap (λ (v : ActiveView). v.flushing) c.self.view_is
