use Rattle.zk_model_wait.proofs.Stamps.{stamp_is_its_number, look_tells_its_write, look_before_any_write, look_tells_the_last, may_always}
use Rattle.zk_model_wait.proofs.signal_laws.stamps_tell_writes.Goals as goal

pub returns : goal.returns
returns c = record {
  stamps = stamp_is_its_number;
  looks = look_tells_its_write;
  first = look_before_any_write;
  last = look_tells_the_last;
  always = may_always;
}
