use Rattle.zk_event.proofs.EventOwed.{counts, ranges, adds, gives}
use Rattle.zk_event.proofs.event.EventStoreStore.counts_entries.Goals as goal

pub returns : goal.returns
returns c = record { counts = counts; ranges = ranges; adds = adds; gives = gives }
