use Rattle.zk_model_wait.proofs.MsgqOrder.{put_waits_only_at_full, put_front_is_told, get_waits_only_at_empty, put_decided_by_get_or_purge, get_decided_by_its_put, looks_tell_the_ring, purge_ends_every_put, may_always, purge_is_done}
use Rattle.zk_model_wait.proofs.msgq_laws.queue_calls_are_told.Goals as goal

pub returns : goal.returns
returns c = record {
  put = put_waits_only_at_full;
  put_front = put_front_is_told;
  get = get_waits_only_at_empty;
  looks = looks_tell_the_ring;
  purge = purge_ends_every_put;
  put_decided = put_decided_by_get_or_purge;
  get_decided = get_decided_by_its_put;
  always = may_always;
  done = purge_is_done;
}
