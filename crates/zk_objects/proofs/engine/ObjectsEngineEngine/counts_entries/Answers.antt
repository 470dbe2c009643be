use Rattle.zk_objects.proofs.Owed.{counts, ranges, adds, gives}
use Rattle.zk_objects.proofs.engine.ObjectsEngineEngine.counts_entries.Goals as goal

pub returns : goal.returns
returns c = record { counts = counts; ranges = ranges; adds = adds; gives = gives }
