use Rattle.zk_model_bus.proofs.ChannelWaits.{callers_hold}
use Rattle.zk_model_bus.proofs.channel_laws.channel_waits_end.Goals as goal

pub returns : goal.returns
returns c = record { waits = callers_hold }
