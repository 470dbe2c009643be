use Rattle.zk_line.proofs.Inverse.{objects_of-many}
use Rattle.zk_line.proofs.shapes.objects_of.Goals as goal

pub returns-then-args-gt-MOST_FEW : goal.returns-then-args-gt-MOST_FEW
returns-then-args-gt-MOST_FEW c = objects_of-many c.args.args.now c.if-args-gt-MOST_FEW.true
