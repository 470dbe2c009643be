use Rattle.std.proofs.Common.{rules}
use Rattle.zk_kernel.proofs.Whole.{gone-on}
use Rattle.zk_test_kernel.proofs.ones.step_one.Goals as goal

pub returns-in_err-stepped : goal.returns-in_err-stepped
returns-in_err-stepped g c = record {
  all = gone-on c.args.kernel.now c.args.callers.now.items c.args.number c.len.result c.index_mut.result.now c.step.new.self (search rules) c.if-number-len.false
      c.index_mut.ensures.value c.in_err-stepped.ensures.own c.in_err-stepped.ensures.who c.requires.all;
}

pub returns : goal.returns
returns g c = record {
  all = gone-on c.args.kernel.now c.args.callers.now.items c.args.number c.len.result c.index_mut.result.now c.step.new.self (search rules) c.if-number-len.false
      c.index_mut.ensures.value c.in_ok-stepped.ensures.own c.in_ok-stepped.ensures.who c.requires.all;
}
