use Rattle.zk_model_bus.specs.Channel.{new_chan}
use Rattle.zk_model_bus.proofs.channel_laws.keeps_channel_laws.Goals as goal

pub returns : goal.returns
returns c = λ message valid observers h legal. record {
  holder = c.one_holds.ensures.holder message valid observers h legal;
  gained = c.one_holds.ensures.gained message valid observers h legal;
  one_wait = c.one_holds.ensures.one_wait message valid observers h legal;
  at_once = c.one_holds.ensures.at_once message valid observers h legal;
  by_free = c.one_holds.ensures.by_free message valid observers h legal;
  only = c.one_holds.ensures.only message valid observers h legal;
  freed = c.one_holds.ensures.freed message valid observers h legal;
  may_use = c.one_holds.ensures.may_use (new_chan message valid observers) h;
  one = c.one_holds.ensures.one message valid observers h legal;
  get = c.message_holds.ensures.get message valid observers h legal;
  list = c.message_holds.ensures.list message valid observers h legal;
  mask = c.message_holds.ensures.mask message valid observers h legal;
  refused = c.channel_calls_are_told.ensures.refused message valid observers h legal;
  calls = c.channel_calls_are_told.ensures.calls message valid observers h legal;
  always = c.channel_calls_are_told.ensures.always (new_chan message valid observers) h;
  waits = c.channel_waits_end.ensures.waits message valid observers h legal;
}
