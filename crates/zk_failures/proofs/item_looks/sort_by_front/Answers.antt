use Rattle.std.proofs.Common.{rules}
use Rattle.std.proofs.lemmas.List.Sorted.{answers_always}
use Rattle.zk_trace.proofs.Stable.{stable-by_key}
use Rattle.zk_failures.specs.declared.item_looks.Fronted.{Fronted}
use Rattle.zk_failures.proofs.item_looks.sort_by_front.Goals as goal

pub returns : goal.returns
returns c =
    stable-by_key (λ (one : Fronted). one.look.at) c.args.fronts.now.items c.sort_by_key.new.self.items
    (c.in_ok-sort_by_key.ensures.sorted (λ (one : Fronted). one.look.at) (answers_always _ _ _ (λ f a r g h. search rules)))
    (c.in_ok-sort_by_key.ensures.stable (λ (one : Fronted). one.look.at) (answers_always _ _ _ (λ f a r g h. search rules)))
