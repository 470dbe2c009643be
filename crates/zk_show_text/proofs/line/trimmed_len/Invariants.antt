use Rattle.std.proofs.Common.{◌≡◌, ◌≤◌, ℕ, [], length, drop}
use Rattle.zk_show_text.specs.Line.{trimmed}
use Rattle.zk_show_text.proofs.line.trimmed_len.Given as goal

-- behind the end there are spaces alone
abbrev pub invariant-loop-end : goal.invariant-loop-end
invariant-loop-end l = record {
  within : l.end ≤ length l.text;
  spaces : trimmed (drop l.end l.text) ≡ [];
}

abbrev pub decreases-loop-end : goal.decreases-loop-end
decreases-loop-end l = l.end
