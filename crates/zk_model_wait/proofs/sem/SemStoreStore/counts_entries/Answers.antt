use Rattle.zk_model_wait.proofs.SemOwed.{counts, ranges, adds, gives}
use Rattle.zk_model_wait.proofs.sem.SemStoreStore.counts_entries.Goals as goal

pub returns : goal.returns
returns c = record { counts = counts; ranges = ranges; adds = adds; gives = gives }
