use Rattle.zk_model_wait.proofs.MsgqOwed.{counts, ranges, adds, gives}
use Rattle.zk_model_wait.proofs.msgq.MsgqStoreStore.counts_entries.Goals as goal

pub returns : goal.returns
returns c = record { counts = counts; ranges = ranges; adds = adds; gives = gives }
