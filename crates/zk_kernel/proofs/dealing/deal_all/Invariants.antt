use Rattle.std.proofs.Common.{◌≡◌, ◌+◌, ◌≤◌, ◌++◌, map, reverse, All, vec_len, vec_capacity}
use Rattle.zk_kernel.specs.Callers.{place_of}
use Rattle.zk_cells.specs.Dealt.{AreUndealt}
use Rattle.zk_kernel.specs.Opened.{IsUnplayed}
use Rattle.zk_cells.specs.Joined.{whos}
use Rattle.zk_kernel.proofs.dealing.deal_all.Given as goal

-- the callers so far are those of the last players, the last of them first
abbrev pub invariant-loop-player : goal.invariant-loop-player
invariant-loop-player l = record {
  players : l.players.items ++ map place_of (reverse l.callers.items) ≡ l.fn.players.items;
  new : AreUndealt l.kernel.cells (whos l.fn.players.items) l.fn.undealt →
      AreUndealt l.kernel.cells (whos l.players.items) l.undealt × All (IsUnplayed l.kernel) (reverse l.callers.items);
  room : vec_len l.callers + vec_len l.players ≤ vec_capacity l.callers;
}

abbrev pub decreases-loop-player : goal.decreases-loop-player
decreases-loop-player l = vec_len l.players
