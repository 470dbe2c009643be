use Rattle.std.proofs.Common.{rules}
use Rattle.std.proofs.lemmas.List.Sorted.{answers_always}
use Rattle.zk_trace.specs.declared.stood.Stood.{Stood}
use Rattle.zk_trace.proofs.Stable.{stable-by_key}
use Rattle.zk_trace.proofs.steps_read.sort_by_step.Goals as goal

pub returns : goal.returns
returns c =
    stable-by_key (λ (line : Stood). line.step) c.args.lines.now.items c.sort_by_key.new.self.items
    (c.in_ok-sort_by_key.ensures.sorted (λ (line : Stood). line.step) (answers_always _ _ _ (λ f a r g h. search rules)))
    (c.in_ok-sort_by_key.ensures.stable (λ (line : Stood). line.step) (answers_always _ _ _ (λ f a r g h. search rules)))
