use Rattle.zk_time.proofs.ClockOwed.{counts, ranges, adds, gives}
use Rattle.zk_time.proofs.clock_engine.ClockEngineEngine.counts_entries.Goals as goal

pub returns : goal.returns
returns c = record { counts = counts; ranges = ranges; adds = adds; gives = gives }
