use Rattle.std.proofs.Common.{◌≡◌, ◌+◌, ◌≤◌, ◌++◌, length, map, reverse, All, List, vec_len, vec_capacity}
use Rattle.zk_kernel.specs.Callers.{IsCaller, place_of}
use Rattle.zk_kernel.specs.declared.caller.Caller.{Caller}
use Rattle.zk_kernel.specs.Gathered.{AreTogether}
use Rattle.zk_kernel.proofs.close.gather_all.Given as goal

-- the passes of the callers so far are together, and the others stand in reverse
abbrev pub invariant-loop-caller : goal.invariant-loop-caller
invariant-loop-caller l = record {
  front : List Caller;
  split : l.fn.callers.items ≡ front ++ reverse l.callers.items;
  together : AreTogether l.kernel.cells front l.all;
  own : All (IsCaller l.kernel) l.callers.items;
  placed : l.players.items ≡ map place_of front;
  room : vec_len l.players + length l.callers.items ≤ vec_capacity l.players;
}

abbrev pub decreases-loop-caller : goal.decreases-loop-caller
decreases-loop-caller l = length l.callers.items
