use Rattle.zk_model_wait.proofs.SemCounts.{count_within_limit, none_waits_while_count, gives_add_up, got_within_gives}
use Rattle.zk_model_wait.proofs.sem_laws.gives_add_up.Goals as goal

pub returns : goal.returns
returns c = record {
  add_up = gives_add_up;
  got = got_within_gives;
  within = count_within_limit;
  none_waits = none_waits_while_count;
}
