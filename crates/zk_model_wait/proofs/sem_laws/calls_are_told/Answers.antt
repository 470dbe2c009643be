use Rattle.zk_model_wait.proofs.SemCounts.{take_waits_only_at_zero, count_tells_the_count, reset_ends_every_wait, decided_by_give_or_reset, may_always, give_is_done}
use Rattle.zk_model_wait.proofs.sem_laws.calls_are_told.Goals as goal

pub returns : goal.returns
returns c = record {
  takes = take_waits_only_at_zero;
  told = count_tells_the_count;
  done = give_is_done;
  reset = reset_ends_every_wait;
  decided = decided_by_give_or_reset;
  always = may_always;
}
