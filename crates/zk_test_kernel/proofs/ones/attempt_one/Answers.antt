use Rattle.std.proofs.Common.{rules}
use Rattle.zk_kernel.proofs.Whole.{gone-on}
use Rattle.zk_test_kernel.proofs.ones.attempt_one.Goals as goal

pub returns : goal.returns
returns g c = record {
  all = gone-on c.args.kernel.now c.args.callers.now.items c.args.number c.len.result c.index_mut.result.now c.attempt.new.self (search rules) c.if-number-len.false
      c.index_mut.ensures.value c.attempt.ensures.own c.attempt.ensures.who c.requires.all;
}
