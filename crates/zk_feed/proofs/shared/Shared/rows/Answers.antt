use Rattle.std.proofs.Common.{◌≡◌, ℕ, suc, ◌-◌, List, Vec, Global, sym, subst, arith}
use Rattle.zk_msgsub.specs.declared.seats.PubSeat.{PubSeat}
use Rattle.zk_feed.specs.Feeding.{AreColumns, AreNewRows}
use Rattle.zk_feed.proofs.Opening.{columns-shorter, columns-some, new-rows-push, row-of-lasts}
use Rattle.zk_feed.proofs.shared.Shared.rows.Goals as goal

pub last_of_each-requires : goal.last_of_each-requires
last_of_each-requires c =
    let l = c.loop-made in
    let count = l.invariant.count in
    let more = c.loop-made-test.true in
    record { some = columns-some l.invariant.left c.args.self.now.subs.items l.columns.items (omega arith) l.invariant.columns }

pub loop-made-preserved : goal.loop-made-preserved
loop-made-preserved c =
    let l = c.loop-made in
    let inv = l.invariant in
    let size = c.args.self.now.size in
    let subs = c.args.self.now.subs.items in
    let count = inv.count in
    let more = c.loop-made-test.true in
    let n : ℕ = inv.left - 1 in
    let next : inv.left ≡ suc n = omega arith in
    let columns = subst (λ (k : ℕ). AreColumns k subs l.columns.items) next inv.columns in
    let rows = subst (λ (k : ℕ). AreNewRows size subs k l.rows.items) next inv.rows in
    let taken = c.in_ok-last_of_each.ensures.taken in
    let row = c.in_ok-last_of_each.field-0 in
    let new = c.last_of_each.new.lines.items in
    let pushed = c.push_within.ensures in
    let made = inv.made in
    let room = inv.room in
    let len = pushed.len in
    let kept = pushed.capacity in
    record {
      left = n;
      count = omega arith;
      columns = columns-shorter size subs n l.columns.items new row.items c.requires.subs columns taken;
      rows = subst (λ (all : List (Vec PubSeat Global)). AreNewRows size subs n all) (sym pushed.items)
          (new-rows-push size subs n l.rows.items row rows
          (row-of-lasts size subs n l.columns.items new row.items c.requires.subs columns taken));
      made = omega arith;
      room = omega arith;
    }
