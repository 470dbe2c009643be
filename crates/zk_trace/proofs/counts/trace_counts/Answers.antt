use Rattle.std.proofs.Common.{◌<◌, ◌^◌, List, All, length, subst}
use Rattle.zk_base.specs.declared.ids.Entry.{Entry}
use Rattle.zk_model_bus.specs.declared.channel.ChanOp.{ChanOp}
use Rattle.zk_model_bus.specs.declared.channel.ChanReply.{ChanReply}
use Rattle.zk_model_bus.specs.declared.observer.ObsOp.{ObsOp}
use Rattle.zk_model_bus.specs.declared.observer.ObsReply.{ObsReply}
use Rattle.zk_model_wait.specs.declared.msgq.MsgqOp.{MsgqOp}
use Rattle.zk_model_wait.specs.declared.msgq.MsgqReply.{MsgqReply}
use Rattle.zk_model_wait.specs.declared.sem.SemOp.{SemOp}
use Rattle.zk_model_wait.specs.declared.sem.SemReply.{SemReply}
use Rattle.zk_model_wait.specs.declared.signal.SignalOp.{SignalOp}
use Rattle.zk_model_wait.specs.declared.signal.SignalReply.{SignalReply}
use Rattle.zk_worker.specs.declared.log.Log.{Log}
use Rattle.zk_trace.specs.declared.looks.SignalLook.{SignalLook}
use Rattle.zk_trace.proofs.ToldAll.{can-tell, all-tell}
use Rattle.zk_trace.proofs.counts.trace_counts.Goals as goal

pub returns : goal.returns
returns c = λ f.
    let t = c.args.trace.now in
    record {
      work = can-tell f (length t.work) (subst (λ l. length l < 2 ^ 64) c.items.ensures c.long.ensures);
      clock = can-tell f (length t.clock) (subst (λ l. length l < 2 ^ 64) c.items-2.ensures c.long-2.ensures);
      table = can-tell f (length t.table) (subst (λ l. length l < 2 ^ 64) c.items-3.ensures c.long-3.ensures);
      sems = all-tell f length t.sems (subst (All (λ (l : List (Entry SemOp SemReply)). length l < 2 ^ 64)) c.items-5.ensures c.all_long.ensures);
      msgqs = all-tell f length t.msgqs (subst (All (λ (l : List (Entry MsgqOp MsgqReply)). length l < 2 ^ 64)) c.items-6.ensures c.all_long-2.ensures);
      signals = all-tell f length t.signals (subst (All (λ (l : List (Entry SignalOp SignalReply)). length l < 2 ^ 64)) c.items-7.ensures c.all_long-3.ensures);
      chans = all-tell f length t.chans (subst (All (λ (l : List (Entry ChanOp ChanReply)). length l < 2 ^ 64)) c.items-8.ensures c.all_long-4.ensures);
      observers = all-tell f length t.observers (subst (All (λ (l : List (Entry ObsOp ObsReply)). length l < 2 ^ 64)) c.items-9.ensures c.all_long-5.ensures);
      item_looks = can-tell f (length t.looks.items) (subst (λ l. length l < 2 ^ 64) c.items-4.ensures c.long-4.ensures);
      signal_looks = all-tell f length t.looks.signals (subst (All (λ (l : List (SignalLook)). length l < 2 ^ 64)) c.items-10.ensures c.all_long-6.ensures);
      logs = all-tell f (λ (log : Log). length log.answers) t.logs (subst (All (λ (log : Log). length log.answers < 2 ^ 64)) c.items-11.ensures c.all_answers_long.ensures);
    }
