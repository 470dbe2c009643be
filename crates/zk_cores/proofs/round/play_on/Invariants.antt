use Rattle.std.proofs.Common.{◌≡◌}
use Rattle.zk_cores.specs.Seats.{seat_number, seat_kernel, IsSeated}
use Rattle.zk_cores.proofs.round.play_on.Given as goal

-- it is the caller of the same player, and the core keeps whom it kept
abbrev pub invariant-loop : goal.invariant-loop
invariant-loop g l = record {
  kernel : seat_kernel l.seat ≡ l.kernel;
  seated : IsSeated l.seat;
  number : seat_number l.seat ≡ seat_number l.initial.seat;
  home : seat_kernel l.seat ≡ seat_kernel l.initial.seat;
  keeper : l.core.keeper ≡ l.initial.core.keeper;
}
