use Rattle.std.proofs.Common.{◌≡◌, ◌+◌, ◌-◌, ◌≤◌, vec_len}
use Rattle.std.specs.Io.KnownBytes.{Consumes}
use Rattle.zk_forms.proofs.input.read_input.Given as goal

abbrev pub invariant-loop-chunk : goal.invariant-loop-chunk
invariant-loop-chunk g l = record {
  within : vec_len l.bytes ≤ l.limit + 1;
  consumed : Consumes (g.S.Source.left l.initial.source) (g.S.Source.left l.source) l.bytes.items;
  counted : g.S.Source.faults l.source ≡ g.S.Source.faults l.initial.source;
}

-- each turn takes a byte at least
abbrev pub decreases-loop-chunk : goal.decreases-loop-chunk
decreases-loop-chunk g l = l.limit + 1 - vec_len l.bytes
