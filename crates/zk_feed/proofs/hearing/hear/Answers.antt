use Rattle.std.proofs.Common.{◌≡◌, ◌++◌, ◌∷◌, [], All, List, length, map, refl, sym, ap, subst, ◌∙◌, arith}
use Rattle.std.proofs.lemmas.List.{length-append, map-append}
use Rattle.std.proofs.lemmas.List.Elements.{All-push}
use Rattle.zk_msgsub.specs.declared.msg_sub.MsgSub.{MsgSub}
use Rattle.zk_msgsub.specs.declared.seats.SubSeat.{SubSeat}
use Rattle.zk_feed.specs.Feeding.{AreRows, AreSubs, notes_in}
use Rattle.zk_feed.specs.Output.{IsHeard}
use Rattle.zk_feed.proofs.Heard.{heard-all, own-seats, rows-shorter, rows-some, subs-pop}
use Rattle.zk_feed.proofs.hearing.hear.Goals as goal

pub last_of_each-requires : goal.last_of_each-requires
last_of_each-requires g c =
    let l = c.loop-sub in
    record {
      some = rows-some c.pop.new.self.items c.in-Some.sub c.args.size.messages l.rows.items
          (subst (λ (subs : List MsgSub). AreRows subs c.args.size.messages l.rows.items) c.in-Some.ensures.items
          l.invariant.rows);
    }

pub close-requires-clause-own : goal.close-requires-clause-own
close-requires-clause-own g c =
    let l = c.loop-sub in
    own-seats c.pop.new.self.items c.in-Some.sub c.args.size.messages l.rows.items c.last_of_each.new.lines.items
    c.in_ok-seats.seats.items
    (subst (λ (subs : List MsgSub). AreRows subs c.args.size.messages l.rows.items) c.in-Some.ensures.items l.invariant.rows)
    c.in_ok-seats.ensures.taken

pub close-requires-clause-taker : goal.close-requires-clause-taker
close-requires-clause-taker g c =
    let l = c.loop-sub in
    let all = subst (λ (y : List MsgSub × List SubSeat). AreSubs c.args.size y.0 y.1)
    (λ i. (c.in-Some.ensures.items i, c.in-Some-pop.ensures.items i)) l.invariant.subs in
    (subs-pop c.args.size c.pop.new.self.items c.pop-in-Some.new.self.items c.in-Some.sub c.in-Some-pop.taker all).2.own

pub loop-sub-preserved : goal.loop-sub-preserved
loop-sub-preserved g c =
    let l = c.loop-sub in
    let inv = l.invariant in
    let size = c.args.size in
    let m = c.in-Some.sub in
    let t = c.in-Some-pop.taker in
    let front = c.pop.new.self.items in
    let rest = c.last_of_each.new.lines.items in
    let seats = c.in_ok-seats.seats.items in
    let left = c.in_ok-close.field-0 in
    let taken = c.in_ok-seats.ensures.taken in
    let are = subst (λ (subs : List MsgSub). AreRows subs size.messages l.rows.items) c.in-Some.ensures.items inv.rows in
    let all = subst (λ (y : List MsgSub × List SubSeat). AreSubs size y.0 y.1)
    (λ i. (c.in-Some.ensures.items i, c.in-Some-pop.ensures.items i)) inv.subs in
    let popped = subs-pop size front c.pop-in-Some.new.self.items m t all in
    let heard : IsHeard size left.items = heard-all front m size.messages l.rows.items rest seats are taken size t left.items
    refl inv.many popped.1 popped.2
    c.in_ok-close.ensures.parts c.in_ok-close.ensures.known in
    let pushed = c.push_within.ensures in
    let mapped : map notes_in c.push_within.new.items.items ≡ map notes_in l.heard.items ++ left.items ∷ [] =
    ap (map notes_in) pushed.items ∙ map-append notes_in l.heard.items (left ∷ []) in
    let so_far = inv.all in
    let room = inv.room in
    let len = pushed.len in
    let kept = pushed.capacity in
    let fewer = ap (λ (s : List MsgSub). length s) c.in-Some.ensures.items ∙ length-append front (m ∷ []) in
    let ok = l.subs.ok.0 in
    let ok' = c.pop.new.self.ok.0 in
    record {
      subs = popped.0;
      rows = rows-shorter front m size.messages l.rows.items rest seats are taken;
      many = taken.many ∙ inv.many;
      all = omega arith;
      room = omega arith;
      each = subst (All (IsHeard size)) (sym mapped) (All-push (IsHeard size) (map notes_in l.heard.items) left.items inv.each
          heard);
    }
