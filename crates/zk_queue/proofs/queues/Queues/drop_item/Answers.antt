use Rattle.std.proofs.Common.{◌≡◌, ◌<◌, ◌-◌, ◌^◌, None, List, length, map, set, refl, sym, ap, subst, ◌∙◌, arith}
use Rattle.std.specs.Int.RustNames.{bit_and}
use Rattle.std.proofs.lemmas.List.{length-set, length-map}
use Rattle.zk_queue.specs.declared.ticket.Ticket.{Ticket}
use Rattle.zk_queue.specs.Line.{without, number_among}
use Rattle.zk_queue.specs.Open.{Open, drop_item}
use Rattle.zk_queue.specs.Words.{open_of}
use Rattle.zk_queue.proofs.Flagged.{Flagged, word-read, flagged-drop, marks-drop, are-kept, open-same}
use Rattle.zk_queue.proofs.queues.Queues.drop_item.Goals as goal

pub invariant_of-self : goal.invariant_of-self
invariant_of-self c =
    let i = c.self.inside in
    let items = ap (λ (o : Open). o.items) c.self.view_is in
    let within : c.args.item < length i.words.items = omega arith in
    let word = c.remove.ensures tt ∙ ap (λ n. bit_and n (2 ^ 8 - 1 - 4))
    (word-read i.words.items c.args.item c.index_mut.result.now within c.index_mut.ensures.value) in
    let gone : number_among c.args.item (map (without c.args.item) i.waiting.lines) ≡ None =
    ap (number_among c.args.item) (sym c.drop_item.ensures.next) ∙ c.drop_item.ensures.gone in
    are-kept i.waiting c.drop_item.new.self i.runs.items i.runs.items i.words.items _ c.self.invariant c.drop_item.ensures.items
    (ap length c.drop_item.ensures.next ∙ length-map i.waiting.lines (without c.args.item)) refl
    (length-set i.words.items c.args.item c.remove.new.self) c.self.invariant.known
    (subst (λ (ls : List (List Ticket)). Flagged ls i.runs.items (set i.words.items c.args.item c.remove.new.self))
    (sym c.drop_item.ensures.next)
    (flagged-drop i.waiting.lines i.runs.items i.words.items c.self.invariant.flagged c.args.item within c.remove.new.self gone word))

pub returns-clause-next : goal.returns-clause-next
returns-clause-next c =
    let i = c.self.inside in
    let items = ap (λ (o : Open). o.items) c.self.view_is in
    let within : c.args.item < length i.words.items = omega arith in
    let word = c.remove.ensures tt ∙ ap (λ n. bit_and n (2 ^ 8 - 1 - 4))
    (word-read i.words.items c.args.item c.index_mut.result.now within c.index_mut.ensures.value) in
    open-same c.drop_item.new.self.lines i.runs.items i.words.items c.args.item c.remove.new.self
    (marks-drop i.waiting.lines i.runs.items i.words.items c.self.invariant.flagged c.args.item within c.remove.new.self word)
    ∙ ap (λ (ls : List (List Ticket)). open_of ls i.runs.items i.words.items) c.drop_item.ensures.next
    ∙ ap (λ (o : Open). drop_item o c.args.item) c.self.view_is
