use Rattle.std.proofs.Common.{◌≡◌, length}
use Rattle.zk_failures.specs.Played.{EachPlayedOut}
use Rattle.zk_failures.proofs.log.log_failure.Given as goal

-- the players so far stand where their logs lead them
abbrev pub invariant-loop-place : goal.invariant-loop-place
invariant-loop-place l = record {
  count : length l.players.items ≡ l.place;
  each : EachPlayedOut l.scenario l.trace l.players.items;
}
