use Rattle.zk_model_bus.proofs.ObserverOwed.{counts, ranges, adds, gives}
use Rattle.zk_model_bus.proofs.observer.ObsStoreStore.counts_entries.Goals as goal

pub returns : goal.returns
returns c = record { counts = counts; ranges = ranges; adds = adds; gives = gives }
