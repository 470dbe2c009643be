use Rattle.std.proofs.Common.{◌≡◌, ℕ, ◌<◌, ◌≤◌, ◌++◌, length, drop, get_or}
use Rattle.zk_work.specs.Seen.{work_start, work_history}
use Rattle.zk_failures.specs.declared.item_looks.Fronted.{Fronted}
use Rattle.zk_failures.specs.ItemLooks.{IsReached, missed_places}
use Rattle.zk_failures.proofs.item_looks.missed_places.Given as goal

-- the service has come to a front that no look is before, and these looks missed so far
abbrev pub invariant-loop-one : goal.invariant-loop-one
invariant-loop-one l = record {
  start : work_start l.work ≡ work_start l.fn.work;
  reached : IsReached (work_history l.work) l.entries;
  ahead : (k : ℕ) (d : Fronted) → l.one-index ≤ k → k < length l.fronts → length (work_history l.work) ≤ (get_or l.fronts k d).look.at;
  missed : l.missed.items ++ missed_places (work_start l.fn.work) l.items l.entries (drop l.one-index l.fronts)
      ≡ missed_places (work_start l.fn.work) l.items l.entries l.fronts;
}
