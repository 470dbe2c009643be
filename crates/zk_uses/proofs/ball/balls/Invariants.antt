use Rattle.std.proofs.Common.{◌≡◌, ◌≤◌, All, vec_len, vec_capacity}
use Rattle.zk_uses.specs.Juggling.{IsWhole}
use Rattle.zk_uses.proofs.ball.balls.Given as goal

abbrev pub invariant-loop-number : goal.invariant-loop-number
invariant-loop-number l =
    (vec_len l.balls ≡ l.number)
    × (l.count ≤ vec_capacity l.balls)
    × All IsWhole l.balls.items
