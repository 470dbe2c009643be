use Rattle.std.proofs.Common.{◌≤◌, ◌||◌, length, arith}
use Rattle.zk_show_order.proofs.Rounds.{goes-then, held-still, held-then, held-all}
use Rattle.zk_show_order.proofs.drawing.Drawing.draw_round.Goals as goal

pub loop-player-preserved : goal.loop-player-preserved
loop-player-preserved c =
    let l = c.loop-player in
    let start = c.args.self.now in
    let between = c.draw_before.new.self in
    let next = c.draw_next.new.self in
    let looks = c.in_ok-any.field-0 in
    let drawn = c.in_ok-any-2.field-0 in
    let turn = c.in_ok-any-2.ensures in
    record {
      goes = goes-then (l.any || looks) drawn start between next (goes-then l.any looks start l.self between l.invariant.goes c.in_ok-any.ensures)
          turn.goes_on;
      held = held-then (l.any || looks) drawn start between next l.player
          (held-still l.any looks l.self between l.player l.invariant.held c.in_ok-any.ensures) turn.goes_on turn.held;
    }

pub returns-clause-stuck : goal.returns-clause-stuck
returns-clause-stuck c =
    let l = c.loop-player in
    let past : length l.self.lanes.items ≤ l.player =
    let long = c.args.self.now.lanes.ok in
    let end = c.len-player-end.ensures in
    let over = c.loop-player-test.false in
    let same = l.invariant.goes.lanes in
    omega arith in
    held-all l.any l.self l.player past l.invariant.held
