use Rattle.zk_model_bus.proofs.ChannelTells.{refused_by_its_validator, call_waits_only_where_held, may_always}
use Rattle.zk_model_bus.proofs.channel_laws.channel_calls_are_told.Goals as goal

pub returns : goal.returns
returns c = record { refused = refused_by_its_validator; calls = call_waits_only_where_held; always = may_always }
