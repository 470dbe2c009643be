use Rattle.std.proofs.Common.{rules}
use Rattle.zk_kernel.proofs.Whole.{gone-on}
use Rattle.zk_test_kernel.proofs.ones.play_one.Goals as goal

pub returns-then-by_calls : goal.returns-then-by_calls
returns-then-by_calls g c = record {
  all = gone-on c.args.kernel.now c.args.callers.now.items c.args.number c.len.result c.index_mut.result.now c.play_calls.new.caller (search rules) c.if-number-len.false
      c.index_mut.ensures.value c.play_calls.ensures.own c.play_calls.ensures.who c.requires.all;
}

pub returns-else-by_calls : goal.returns-else-by_calls
returns-else-by_calls g c = record {
  all = gone-on c.args.kernel.now c.args.callers.now.items c.args.number c.len.result c.index_mut-else-by_calls.result.now c.play_steps.new.caller (search rules) c.if-number-len.false
      c.index_mut-else-by_calls.ensures.value c.play_steps.ensures.own c.play_steps.ensures.who c.requires.all;
}
