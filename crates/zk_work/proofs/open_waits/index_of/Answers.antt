use Rattle.std.proofs.Common.{ltb, arith, rules, ◌∙◌, ap}
use Rattle.std.proofs.lemmas.List.{get_or_default}
use Rattle.std.proofs.lemmas.List.Sorted.{IsPartitionPoint-from_clause}
use Rattle.zk_model_work.specs.declared.parts.Wait.{Wait}
use Rattle.zk_work.proofs.Placed.{parted, nowhere}
use Rattle.zk_work.proofs.open_waits.index_of.Goals as goal

pub returns-then-index-waits-clause-none : goal.returns-then-index-waits-clause-none
returns-then-index-waits-clause-none c =
    let ws = c.args.waits.now in
    let point = IsPartitionPoint-from_clause (λ (w : Wait). ltb w.place c.args.place) _ _
    c.partition_point-index.ensures.partitioned (parted c.args.place ws c.requires) (λ a r q k. search rules) in
    let all = c.if-index-waits.true in
    nowhere c.args.place c.partition_point-index.result ws c.requires point (λ d within. absurd (omega arith))

pub returns-then-waits-index-clause-none : goal.returns-then-waits-index-clause-none
returns-then-waits-index-clause-none c =
    let ws = c.args.waits.now in
    let i = c.partition_point-index.result in
    let point = IsPartitionPoint-from_clause (λ (w : Wait). ltb w.place c.args.place) _ _
    c.partition_point-index.ensures.partitioned (parted c.args.place ws c.requires) (λ a r q k. search rules) in
    nowhere c.args.place i ws c.requires point
    (λ d within is. c.if-waits-index.true (ap (λ (w : Wait). w.place) (get_or_default ws i _ d within) ∙ is))
