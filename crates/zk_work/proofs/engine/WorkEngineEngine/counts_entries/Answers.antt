use Rattle.zk_work.proofs.Owed.{counts, ranges, adds, gives}
use Rattle.zk_work.proofs.engine.WorkEngineEngine.counts_entries.Goals as goal

pub returns : goal.returns
returns c = record { counts = counts; ranges = ranges; adds = adds; gives = gives }
