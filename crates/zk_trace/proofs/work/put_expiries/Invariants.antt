use Rattle.std.proofs.Common.{◌≡◌, ◌++◌, map, drop}
use Rattle.zk_words.specs.Bytes.{space}
use Rattle.zk_trace.specs.Parts.{each_behind}
use Rattle.zk_trace.specs.Work.{expiry_word}
use Rattle.zk_trace.proofs.work.put_expiries.Given as goal

abbrev pub invariant-loop-expiry : goal.invariant-loop-expiry
invariant-loop-expiry l = record {
  text : l.out.put ++ each_behind space (map (expiry_word l.scenario.decls) (drop l.expiry-index l.expiries)) ≡ l.initial.out.put ++ each_behind space (map (expiry_word l.scenario.decls) l.expiries);
  front : l.out.front ≡ l.initial.out.front;
}
