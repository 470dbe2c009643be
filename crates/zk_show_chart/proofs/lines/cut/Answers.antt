use Rattle.zk_show_chart.proofs.Cuts.{cut_some, cut_none}
use Rattle.zk_show_chart.proofs.lines.cut.Goals as goal

pub returns-in-Some-clause-before : goal.returns-in-Some-clause-before
returns-in-Some-clause-before c = (cut_some c.args.text.now c.in-Some.end c.in-Some.ensures).0

pub returns-in-Some-clause-behind : goal.returns-in-Some-clause-behind
returns-in-Some-clause-behind c = (cut_some c.args.text.now c.in-Some.end c.in-Some.ensures).1

pub returns-in-None-clause-before : goal.returns-in-None-clause-before
returns-in-None-clause-before c = (cut_none c.args.text.now c.in-None.ensures).0

pub returns-in-None-clause-behind : goal.returns-in-None-clause-behind
returns-in-None-clause-behind c = (cut_none c.args.text.now c.in-None.ensures).1
