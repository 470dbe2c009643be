use Rattle.std.proofs.Common.{◌≡◌, ℕ, ◌+◌, ◌%◌, ◌^◌, Option, Some, None, List, [], ◌∷◌, ◌++◌, length, get_or, refl, ap, ◌∙◌, arith}
use Rattle.std.proofs.lemmas.List.{get_or_push, length_push}
use Rattle.zk_queue.specs.declared.ticket.Ticket.{Ticket}
use Rattle.zk_queue.specs.Ring.{RingView, living, index_at}
use Rattle.zk_queue.proofs.Positions.{index-end, KeepsBut-push}
use Rattle.zk_queue.proofs.Lives.{length-push}
use Rattle.zk_queue.proofs.ring.Ring.push.Goals as goal

pub invariant_of-self : goal.invariant_of-self
invariant_of-self c =
    let i = c.self.inside in
    let counted = c.self.invariant in
    let items = c.push_back_reserved.ensures.items in
    let more = ap (λ (es : List (Option Ticket)). length (living es)) items ∙ length-push i.entries.items c.args.ticket in
    let long = ap length items ∙ length_push i.entries.items (Some c.args.ticket) in
    omega arith

pub returns-clause-position : goal.returns-clause-position
returns-clause-position c =
    let i = c.self.inside in
    let items = c.push_back_reserved.ensures.items in
    let long : c.len.result ≡ length i.entries.items = c.len.ensures ∙ i.entries.ok.0 in
    let small = i.entries.small in
    let at : index_at i.front ((i.front + c.len.result) % 2 ^ 64) ≡ length i.entries.items =
    ap (λ (n : ℕ). index_at i.front ((i.front + n) % 2 ^ 64)) long
    ∙ index-end i.front (length i.entries.items) (omega arith) (omega arith) in
    ap (λ (n : ℕ). get_or c.push_back_reserved.new.self.items n None) at
    ∙ ap (λ (es : List (Option Ticket)). get_or es (length i.entries.items) None) items
    ∙ get_or_push i.entries.items (Some c.args.ticket) None (length i.entries.items) refl

pub returns-clause-keeps : goal.returns-clause-keeps
returns-clause-keeps c =
    KeepsBut-push c.args.self.now _ (Some c.args.ticket) (ap (λ (r : RingView). r.front) c.self.view_is)
    (c.push_back_reserved.ensures.items ∙ ap (λ (r : RingView). r.entries ++ Some c.args.ticket ∷ []) c.self.view_is)
