use Rattle.std.proofs.Common.{◌≡◌, ◌<◌, List, Vec, Global, Some, [], ◌∷◌, ◌++◌, get_or, length, slice_get, vec_len, sym, ap, subst, ◌∙◌, refl, arith}
use Rattle.std.proofs.lemmas.List.{length-set}
use Rattle.std.proofs.lemmas.Option.{slice_get_read}
use Rattle.zk_base.proofs.Lists.{All-at}
use Rattle.zk_msgsub.specs.declared.seats.PubSeat.{PubSeat}
use Rattle.zk_feed.specs.Lasts.{HasTaken}
use Rattle.zk_feed.proofs.Places.{written-back}
use Rattle.zk_feed.proofs.Taking.{left-still, taken-more}
use Rattle.zk_feed.proofs.lasts.last_of_each.Goals as goal

pub unreachable-requires : goal.unreachable-requires
unreachable-requires c =
    let l = c.loop-line in
    let line = c.line-item.result in
    let i = l.line-index in
    let below = c.loop-line-test.true in
    let many = l.invariant.many in
    let given = ap (λ (ls : List (Vec PubSeat Global)). length ls) c.deref_mut-line-items.ensures.value in
    let inside : i < length l.line-items = omega arith in
    let here = slice_get_read l.line-items (length l.line-items) i line refl inside c.line-item.is in
    let some = All-at (λ (s : Vec PubSeat Global). 0 < s.len) c.args.lines.now.items i line c.requires.some
    (sym (l.invariant.left i (omega arith)) ∙ here) in
    let none = c.in_default.ensures.cases.0 in
    let same : vec_len line ≡ vec_len (get_or l.line-items i line) = ap (λ (s : Vec PubSeat Global). s.len) c.line-item.is in
    omega arith

pub loop-line-preserved : goal.loop-line-preserved
loop-line-preserved c =
    let l = c.loop-line in
    let inv = l.invariant in
    let line = c.line-item.result in
    let i = l.line-index in
    let below = c.loop-line-test.true in
    let many = inv.many in
    let given = ap (λ (ls : List (Vec PubSeat Global)). length ls) c.deref_mut-line-items.ensures.value in
    let inside : i < length l.line-items = omega arith in
    let here = slice_get_read l.line-items (length l.line-items) i line refl inside c.line-item.is in
    let pushed = c.push_within.ensures in
    let count = inv.count in
    let room = inv.room in
    let len = pushed.len in
    let kept = pushed.capacity in
    let is : line.items ≡ c.pop.new.self.items ++ c.in-Some.last ∷ [] =
    ap (λ (s : Vec PubSeat Global). s.items) c.line-item.is ∙ c.in-Some.ensures.items in
    let last = c.in-Some.last in
    let old = c.args.lines.now.items in
    let so_many : length l.lasts.items ≡ i = sym l.lasts.ok.0 ∙ count in
    record {
      many = length-set l.line-items i c.pop.new.self ∙ many;
      count = omega arith;
      room = omega arith;
      taken = λ k o n x at there at'. taken-more old l.line-items l.lasts.items i line c.pop.new.self last inside so_many here
          is inv.left inv.taken
          k o n x at there (subst (λ (ls : List PubSeat). slice_get ls k ≡ Some x) pushed.items at');
      left = λ k behind. left-still old l.line-items l.lasts.items i line c.pop.new.self last inside so_many here is inv.left
          k behind;
    }

pub returns : goal.returns
returns c =
    let l = c.loop-line in
    let inv = l.invariant in
    let old = c.args.lines.now.items in
    let many = inv.many in
    let count = inv.count in
    let ok = l.lasts.ok.0 in
    let over = c.loop-line-test.false in
    let most = l.auto.line-index-end in
    let given = ap (λ (ls : List (Vec PubSeat Global)). length ls) c.deref_mut-line-items.ensures.value in
    record {
      taken = subst (λ (new : List (Vec PubSeat Global)). HasTaken old new l.lasts.items)
          (sym (written-back old l.line-items c.args.lines.now.len many c.args.lines.now.ok.0))
          (record { many = many; count = omega arith; each = inv.taken });
    }
