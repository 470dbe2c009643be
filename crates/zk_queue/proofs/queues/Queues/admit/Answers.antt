use Rattle.std.proofs.Common.{◌<◌, List, [], ◌∷◌, ◌++◌, length, set, get_or, refl, sym, ap, subst, ◌∙◌, arith}
use Rattle.std.specs.Int.RustNames.{bit_or}
use Rattle.std.proofs.lemmas.List.{length-set}
use Rattle.zk_queue.specs.declared.ticket.Ticket.{Ticket}
use Rattle.zk_queue.specs.Open.{Open, admit}
use Rattle.zk_queue.specs.Words.{open_of}
use Rattle.zk_queue.proofs.Flagged.{Flagged, word-read, flagged-admit, marks-admit, are-kept, open-same}
use Rattle.zk_queue.proofs.queues.Queues.admit.Goals as goal

pub invariant_of-self : goal.invariant_of-self
invariant_of-self c =
    let i = c.self.inside in
    let items = ap (λ (o : Open). o.items) c.self.view_is in
    let queues = ap (λ (o : Open). o.queues) c.self.view_is in
    let as_many = c.self.invariant.queues in
    let within : c.args.item < length i.words.items = omega arith in
    let inside : c.args.queue < length i.waiting.lines = omega arith in
    let word = c.insert.ensures tt ∙ ap (λ n. bit_or n 4)
    (word-read i.words.items c.args.item c.index_mut.result.now within c.index_mut.ensures.value) in
    let t : Ticket = record { item = c.args.item; number = c.args.number } in
    let longer = ap length c.admit.ensures.next ∙ length-set i.waiting.lines c.args.queue (get_or i.waiting.lines c.args.queue [] ++ t ∷ []) in
    are-kept i.waiting c.admit.new.self i.runs.items i.runs.items i.words.items _ c.self.invariant c.admit.ensures.items longer refl
    (length-set i.words.items c.args.item c.insert.new.self) c.self.invariant.known
    (subst (λ (ls : List (List Ticket)). Flagged ls i.runs.items (set i.words.items c.args.item c.insert.new.self)) (sym c.admit.ensures.next)
    (flagged-admit i.waiting.lines i.runs.items i.words.items c.self.invariant.flagged c.args.item within c.insert.new.self
    c.args.queue c.args.number inside word))

pub returns : goal.returns
returns c =
    let i = c.self.inside in
    let items = ap (λ (o : Open). o.items) c.self.view_is in
    let within : c.args.item < length i.words.items = omega arith in
    let word = c.insert.ensures tt ∙ ap (λ n. bit_or n 4)
    (word-read i.words.items c.args.item c.index_mut.result.now within c.index_mut.ensures.value) in
    open-same c.admit.new.self.lines i.runs.items i.words.items c.args.item c.insert.new.self
    (marks-admit i.waiting.lines i.runs.items i.words.items c.self.invariant.flagged c.args.item within c.insert.new.self word)
    ∙ ap (λ (ls : List (List Ticket)). open_of ls i.runs.items i.words.items) c.admit.ensures.next
    ∙ ap (λ (o : Open). admit o c.args.item c.args.queue c.args.number) c.self.view_is
