use Rattle.std.proofs.Common.{◌≡◌, ℕ, ◌+◌, ◌++◌, ◌∷◌, [], List, Vec, Global, length, map, sym, ap, ◌∙◌, arith}
use Rattle.std.proofs.lemmas.List.{length-append, map-append}
use Rattle.zk_msgsub.specs.declared.note.Note.{Note}
use Rattle.zk_feed.specs.Feeding.{notes_in}
use Rattle.zk_feed.specs.Lasts.{backwards}
use Rattle.zk_feed.specs.Output.{lines_from, sub_lines}
use Rattle.zk_feed.proofs.Lines.{lines-push, print-next}
use Rattle.zk_feed.proofs.printing.print.Goals as goal

pub loop-notes-preserved : goal.loop-notes-preserved
loop-notes-preserved c =
    let l = c.loop-notes in
    let inv = l.invariant in
    let notes = c.in-Some.notes in
    let after = c.pop.new.self in
    let is = c.in-Some.ensures.items in
    let count = inv.count in
    let left = inv.left in
    let long = length-append inv.printed (notes.items ∷ []) in
    let fewer = ap (λ (h : List (Vec Note Global)). length h) is ∙ length-append after.items (notes ∷ []) in
    let ok = l.heard.ok.0 in
    let ok' = after.ok.0 in
    let place : l.number ≡ 0 + length inv.printed = omega arith in
    record {
      printed = inv.printed ++ notes.items ∷ [];
      all = print-next inv.printed (map notes_in l.heard.items) (map notes_in after.items)
          (backwards (map notes_in c.args.heard.items)) notes.items
          inv.all (ap (map notes_in) is ∙ map-append notes_in after.items (notes ∷ []));
      count = omega arith;
      left = omega arith;
      front = c.print_sub.ensures.front ∙ inv.front;
      put = c.in_ok-print_sub.ensures.text
          ∙ ap (λ (ns : List Note). l.paper.put ++ sub_lines l.number ns) c.deref.ensures.value
          ∙ ap (λ (p : List ℕ). p ++ sub_lines l.number notes.items) inv.put
          ∙ ap (λ (k : ℕ). lines_from 0 inv.printed ++ sub_lines k notes.items) place
          ∙ sym (lines-push 0 inv.printed notes.items);
    }
