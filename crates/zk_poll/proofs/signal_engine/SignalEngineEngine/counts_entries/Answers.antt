use Rattle.zk_poll.proofs.SignalOwed.{counts, ranges, adds, gives}
use Rattle.zk_poll.proofs.signal_engine.SignalEngineEngine.counts_entries.Goals as goal

pub returns : goal.returns
returns c = record { counts = counts; ranges = ranges; adds = adds; gives = gives }
