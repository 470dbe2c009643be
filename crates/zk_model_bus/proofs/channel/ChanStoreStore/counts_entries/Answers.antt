use Rattle.zk_model_bus.proofs.ChannelOwed.{counts, ranges, adds, gives}
use Rattle.zk_model_bus.proofs.channel.ChanStoreStore.counts_entries.Goals as goal

pub returns : goal.returns
returns c = record { counts = counts; ranges = ranges; adds = adds; gives = gives }
