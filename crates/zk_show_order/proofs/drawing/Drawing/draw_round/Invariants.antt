use Rattle.std.proofs.Common.{ℕ, ◌<◌}
use Rattle.std.specs.Bool.{OnFalse}
use Rattle.zk_show_order.specs.Drawing.{GoesOn, IsHeldIn}
use Rattle.zk_show_order.proofs.drawing.Drawing.draw_round.Given as goal

abbrev pub invariant-loop-player : goal.invariant-loop-player
invariant-loop-player l = record {
  goes : GoesOn l.fn.self l.self l.any;
  held : OnFalse l.any ((q : ℕ) → q < l.player → IsHeldIn l.self q);
}
