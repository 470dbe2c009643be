use Rattle.zk_model_work.proofs.Weights.{weights_or}
use Rattle.zk_model_work.proofs.busy.united.Goals as goal

pub returns : goal.returns
returns c =
    let sum = weights_or c.args.running c.args.cancelling c.args.queued c.args.delayed c.args.flushing in
    cc (c.union.ensures tt, c.union-2.ensures tt, c.union-3.ensures tt, c.union-4.ensures tt)
