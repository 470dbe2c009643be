use Rattle.std.proofs.Common.{◌+◌, ◌∙◌, List, [], ◌∷◌, ◌++◌, ℕ, length, ap, rules}
use Rattle.zk_services.proofs.Firsts.{few-threads, few-queues, range_more}
use Rattle.zk_services.proofs.first.worker_numbers.Goals as goal

pub overflow_cast-threads : goal.overflow_cast-threads
overflow_cast-threads c =
    let few = few-threads c.args.scenario.now c.requires in
    let same = ap (λ (l : List ℕ). length l) c.threads.ensures in
    search rules

pub overflow_cast-queues : goal.overflow_cast-queues
overflow_cast-queues c =
    let few = few-queues c.args.scenario.now c.requires in
    let same = ap (λ (l : List ℕ). length l) c.queues.ensures in
    search rules

pub overflow_add-threads : goal.overflow_add-threads
overflow_add-threads c =
    let threads = few-threads c.args.scenario.now c.requires in
    let queues = few-queues c.args.scenario.now c.requires in
    let same = ap (λ (l : List ℕ). length l) c.threads.ensures in
    let same' = ap (λ (l : List ℕ). length l) c.queues.ensures in
    search rules

pub loop-queue-preserved : goal.loop-queue-preserved
loop-queue-preserved c =
    c.in_ok-push.ensures.items
    ∙ ap (λ (l : List ℕ). l ++ (length c.threads.result.now + c.loop-queue.queue) ∷ []) c.loop-queue.invariant
    ∙ range_more (length c.threads.result.now) c.loop-queue.queue
