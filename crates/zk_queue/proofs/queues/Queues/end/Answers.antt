use Rattle.std.proofs.Common.{◌≡◌, ◌<◌, ◌-◌, ◌^◌, Some, None, length, get_or, refl, sym, ap, ◌∙◌, arith}
use Rattle.std.specs.Int.RustNames.{bit_and}
use Rattle.std.specs.List.{list_any}
use Rattle.std.proofs.lemmas.List.{length-set, get_or_default}
use Rattle.zk_queue.specs.Open.{Open, is_run_of, end}
use Rattle.zk_queue.proofs.Flagged.{word-read, flagged-end, flagged-end_other, marks-end, are-kept, known-end, known-run, seen-end}
use Rattle.zk_queue.proofs.queues.Queues.end.Goals as goal

pub invariant_of-self : goal.invariant_of-self
invariant_of-self c =
    let i = c.self.inside in
    let t = c.in_ok-ticket.ticket in
    let queues = ap (λ (o : Open). o.queues) c.self.view_is in
    let inside : c.args.queue < length i.runs.items = omega arith in
    let runs_it : get_or i.runs.items c.args.queue None ≡ Some t =
    get_or_default i.runs.items c.args.queue None c.index.result.now inside ∙ sym c.index.ensures ∙ c.in_ok-ticket.was in
    let within = known-run i.runs.items c.args.queue (length i.words.items) t c.self.invariant.known inside runs_it in
    let over = ap (list_any (is_run_of t.item)) (sym c.deref.ensures.value) ∙ sym c.is_any_of.ensures ∙ c.if-not-is_any_of.true in
    let word = c.remove.ensures tt ∙ ap (λ n. bit_and n (2 ^ 8 - 1 - 1))
    (word-read i.words.items t.item c.index_mut-then-not-is_any_of.result.now within c.index_mut-then-not-is_any_of.ensures.value) in
    are-kept i.waiting i.waiting i.runs.items _ i.words.items _ c.self.invariant refl refl
    (length-set i.runs.items c.args.queue None) (length-set i.words.items t.item c.remove.new.self)
    (known-end i.runs.items c.args.queue (length i.words.items) c.self.invariant.known)
    (flagged-end i.waiting.lines i.runs.items i.words.items c.self.invariant.flagged t.item within c.remove.new.self c.args.queue
    t.number runs_it over word)

pub invariant_of-self-else-not-is_any_of : goal.invariant_of-self-else-not-is_any_of
invariant_of-self-else-not-is_any_of c =
    let i = c.self.inside in
    let t = c.in_ok-ticket.ticket in
    let queues = ap (λ (o : Open). o.queues) c.self.view_is in
    let inside : c.args.queue < length i.runs.items = omega arith in
    let runs_it : get_or i.runs.items c.args.queue None ≡ Some t =
    get_or_default i.runs.items c.args.queue None c.index.result.now inside ∙ sym c.index.ensures ∙ c.in_ok-ticket.was in
    let also = ap (list_any (is_run_of t.item)) (sym c.deref.ensures.value) ∙ sym c.is_any_of.ensures ∙ c.if-not-is_any_of.false in
    are-kept i.waiting i.waiting i.runs.items _ i.words.items i.words.items c.self.invariant refl refl
    (length-set i.runs.items c.args.queue None) refl
    (known-end i.runs.items c.args.queue (length i.words.items) c.self.invariant.known)
    (flagged-end_other i.waiting.lines i.runs.items i.words.items t.item c.args.queue t.number c.self.invariant.flagged runs_it also)

pub returns-then-not-is_any_of-clause-next : goal.returns-then-not-is_any_of-clause-next
returns-then-not-is_any_of-clause-next c =
    let i = c.self.inside in
    let t = c.in_ok-ticket.ticket in
    let queues = ap (λ (o : Open). o.queues) c.self.view_is in
    let inside : c.args.queue < length i.runs.items = omega arith in
    let runs_it : get_or i.runs.items c.args.queue None ≡ Some t =
    get_or_default i.runs.items c.args.queue None c.index.result.now inside ∙ sym c.index.ensures ∙ c.in_ok-ticket.was in
    let within = known-run i.runs.items c.args.queue (length i.words.items) t c.self.invariant.known inside runs_it in
    let word = c.remove.ensures tt ∙ ap (λ n. bit_and n (2 ^ 8 - 1 - 1))
    (word-read i.words.items t.item c.index_mut-then-not-is_any_of.result.now within c.index_mut-then-not-is_any_of.ensures.value) in
    seen-end i.waiting.lines i.runs.items i.words.items t.item c.args.queue c.remove.new.self
    (marks-end i.waiting.lines i.runs.items i.words.items c.self.invariant.flagged t.item within c.remove.new.self word)
    ∙ ap (λ (o : Open). end o c.args.queue) c.self.view_is
