use Rattle.std.proofs.Common.{◌≡◌, ◌<◌, ◌-◌, ◌^◌, Option, Some, None, List, length, map, set, get_or, sym, ap, subst, ◌∙◌, arith}
use Rattle.std.specs.Int.RustNames.{bit_and, bit_or}
use Rattle.std.specs.Option.{IfSome, option_map_or}
use Rattle.std.proofs.lemmas.List.{length-set, length-map, get_or_default}
use Rattle.zk_queue.specs.declared.ticket.Ticket.{Ticket}
use Rattle.zk_queue.specs.Line.{without, number_among}
use Rattle.zk_queue.specs.Open.{Open, begin}
use Rattle.zk_queue.proofs.Flagged.{Flagged, word-read, flagged-begin, marks-begin, are-kept, known-begin, none-runs, seen-begin}
use Rattle.zk_queue.proofs.queues.Queues.begin.Goals as goal

pub invariant_of-self-2 : goal.invariant_of-self-2
invariant_of-self-2 c =
    let i = c.self.inside in
    let t = c.in_ok-ticket.ticket in
    let queues = ap (λ (o : Open). o.queues) c.self.view_is in
    let inside : c.args.queue < length i.runs.items = omega arith in
    let idle : get_or i.runs.items c.args.queue None ≡ None =
    get_or_default i.runs.items c.args.queue None c.index.result.now inside ∙ sym c.index.ensures
    ∙ none-runs c.index.result.now (sym c.is_some.ensures ∙ c.if-is_some.false) in
    let as_many = c.self.invariant.items in
    let known : t.item < i.waiting.items =
    subst (λ (r : Option Ticket). IfSome r (λ t. t.item < i.waiting.items)) c.in_ok-ticket.was c.begin.ensures.item in
    let within : t.item < length i.words.items = omega arith in
    let next = c.begin.ensures.next
    ∙ ap (λ (r : Option Ticket). option_map_or (λ t. map (without t.item) i.waiting.lines) r i.waiting.lines) c.in_ok-ticket.was in
    let gone : number_among t.item (map (without t.item) i.waiting.lines) ≡ None =
    ap (number_among t.item) (sym next)
    ∙ subst (λ (r : Option Ticket). IfSome r (λ t. number_among t.item c.begin.new.self.lines ≡ None)) c.in_ok-ticket.was
    c.begin.ensures.gone in
    let word = c.insert.ensures tt ∙ ap (λ n. bit_or n 1) (c.remove.ensures tt ∙ ap (λ n. bit_and n (2 ^ 8 - 1 - 4))
    (word-read i.words.items t.item c.index_mut-word.result.now within c.index_mut-word.ensures.value)) in
    are-kept i.waiting c.begin.new.self i.runs.items _ i.words.items _ c.self.invariant c.begin.ensures.items
    (ap length next ∙ length-map i.waiting.lines (without t.item)) (length-set i.runs.items c.args.queue (Some t))
    (length-set i.words.items t.item c.insert.new.self)
    (known-begin i.runs.items c.args.queue (length i.words.items) t within c.self.invariant.known)
    (subst (λ (ls : List (List Ticket)). Flagged ls (set i.runs.items c.args.queue (Some t)) (set i.words.items t.item c.insert.new.self))
    (sym next)
    (flagged-begin i.waiting.lines i.runs.items i.words.items c.self.invariant.flagged t.item within c.insert.new.self c.args.queue
    t.number inside idle gone word))

pub returns-clause-next : goal.returns-clause-next
returns-clause-next c =
    let i = c.self.inside in
    let t = c.in_ok-ticket.ticket in
    let queues = ap (λ (o : Open). o.queues) c.self.view_is in
    let inside : c.args.queue < length i.runs.items = omega arith in
    let idle : get_or i.runs.items c.args.queue None ≡ None =
    get_or_default i.runs.items c.args.queue None c.index.result.now inside ∙ sym c.index.ensures
    ∙ none-runs c.index.result.now (sym c.is_some.ensures ∙ c.if-is_some.false) in
    let as_many = c.self.invariant.items in
    let known : t.item < i.waiting.items =
    subst (λ (r : Option Ticket). IfSome r (λ t. t.item < i.waiting.items)) c.in_ok-ticket.was c.begin.ensures.item in
    let within : t.item < length i.words.items = omega arith in
    let next = c.begin.ensures.next
    ∙ ap (λ (r : Option Ticket). option_map_or (λ t. map (without t.item) i.waiting.lines) r i.waiting.lines) c.in_ok-ticket.was in
    let word = c.insert.ensures tt ∙ ap (λ n. bit_or n 1) (c.remove.ensures tt ∙ ap (λ n. bit_and n (2 ^ 8 - 1 - 4))
    (word-read i.words.items t.item c.index_mut-word.result.now within c.index_mut-word.ensures.value)) in
    seen-begin i.waiting.lines c.begin.new.self.lines i.runs.items i.words.items t c.args.queue c.insert.new.self next idle
    (sym c.begin.ensures.lowest ∙ c.in_ok-ticket.was)
    (marks-begin i.waiting.lines i.runs.items i.words.items c.self.invariant.flagged t.item within c.insert.new.self word)
    ∙ ap (λ (o : Open). begin o c.args.queue) c.self.view_is
