use Rattle.std.proofs.Common.{◌≡◌, ◌≤◌, length, map, option_map, take, All, vec_len, vec_capacity}
use Rattle.zk_poll.specs.Seen.{signal_start}
use Rattle.zk_cells.specs.Dealt.{AllSigLeft}
use Rattle.zk_cells.specs.Kernels.{IsSharedBy}
use Rattle.zk_cells.specs.Signals.{signal_family}
use Rattle.zk_cells.proofs.opening.open_signals.Given as goal

abbrev pub invariant-loop-service : goal.invariant-loop-service
invariant-loop-service l = record {
  starts : (signal_family l.signals.items).starts ≡ map (option_map signal_start) (take l.service-index l.services);
  whole : All (IsSharedBy (length l.whos)) l.signals.items;
  passes : AllSigLeft l.whos l.signals.items l.lists.items;
  made : (vec_len l.signals ≡ l.service-index) × (vec_len l.lists ≡ l.service-index);
  room : (length l.services ≤ vec_capacity l.signals) × (length l.services ≤ vec_capacity l.lists);
}
