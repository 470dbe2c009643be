use Rattle.zk_queue.proofs.Flagged.{kept-fresh}
use Rattle.zk_queue.proofs.queues.Queues.new.Goals as goal

pub invariant_of-result : goal.invariant_of-result
invariant_of-result c =
    (kept-fresh c.args.items c.args.queues c.in_ok-waiting.waiting c.in_ok-runs.runs.items c.in_ok-words.words.items c.empty.result
    c.in_ok-waiting.ensures c.in_ok-runs.ensures c.in_ok-words.ensures (c.empty.ensures tt)).0

pub returns : goal.returns
returns c =
    (kept-fresh c.args.items c.args.queues c.in_ok-waiting.waiting c.in_ok-runs.runs.items c.in_ok-words.words.items c.empty.result
    c.in_ok-waiting.ensures c.in_ok-runs.ensures c.in_ok-words.ensures (c.empty.ensures tt)).1
