use Rattle.std.proofs.Common.{◌≡◌, Bool, ◌||◌, List, [], ◌∷◌, refl, ap, ◌∙◌}
use Rattle.std.specs.List.{list_any}
use Rattle.zk_queue.specs.declared.ticket.Ticket.{Ticket}
use Rattle.zk_queue.specs.Line.{InLine, has_number}
use Rattle.zk_queue.specs.Places.{lines_of}
use Rattle.zk_queue.specs.Ring.{RingView, living}
use Rattle.zk_queue.proofs.waiting.Waiting.has_number.Goals as goal

any-lines : (p : List Ticket → Bool) (rings : List RingView) →
    list_any (λ (r : RingView). p (living r.entries)) rings ≡ list_any p (lines_of rings)
any-lines p [] = refl
any-lines p (r ∷ rings) = ap (λ b. p (living r.entries) || b) (any-lines p rings)

pub returns : goal.returns
returns c =
    c.has_number.ensures
    ∙ ap (list_any (λ (r : RingView). list_any (has_number c.args.number) (living r.entries))) c.deref.ensures.value
    ∙ any-lines (list_any (has_number c.args.number)) c.self.inside.rings.items
    ∙ ap (λ (w : InLine). list_any (list_any (has_number c.args.number)) w.lines) c.self.view_is
