use Rattle.std.proofs.Common.{◌≡◌, ◌++◌, take}
use Rattle.zk_work.specs.Seen.{work_start, work_history}
use Rattle.zk_failures.proofs.item_looks.play.Given as goal

-- the entries so far were added
abbrev pub invariant-loop-entry : goal.invariant-loop-entry
invariant-loop-entry l = record {
  start : work_start l.work ≡ work_start l.fn.work;
  history : work_history l.work ≡ work_history l.fn.work ++ take l.entry-index l.entries;
}
