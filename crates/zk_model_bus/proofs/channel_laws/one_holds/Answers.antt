use Rattle.zk_model_bus.proofs.ChannelHolds.{holder_gained_it_last, gained_only_where_free, decides_one_wait, handed_on_at_once, handed_on_by_a_free, only_the_holder_uses, freed_in_its_manner, holder_may_use, one_uses_at_a_time}
use Rattle.zk_model_bus.proofs.channel_laws.one_holds.Goals as goal

pub returns : goal.returns
returns c = record {
  holder = holder_gained_it_last;
  gained = gained_only_where_free;
  one_wait = decides_one_wait;
  at_once = handed_on_at_once;
  by_free = handed_on_by_a_free;
  only = only_the_holder_uses;
  freed = freed_in_its_manner;
  may_use = holder_may_use;
  one = one_uses_at_a_time;
}
