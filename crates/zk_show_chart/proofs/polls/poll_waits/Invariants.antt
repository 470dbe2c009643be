use Rattle.std.proofs.Common.{◌≤◌}
use Rattle.zk_show_chart.proofs.polls.poll_waits.Given as goal

abbrev pub invariant-loop-step : goal.invariant-loop-step
invariant-loop-step l = l.next ≤ l.step
