use Rattle.std.proofs.Common.{ltb, arith, rules, ◌∙◌, ap}
use Rattle.std.proofs.lemmas.List.{get_or_default}
use Rattle.std.proofs.lemmas.List.Sorted.{IsPartitionPoint-from_clause}
use Rattle.zk_base.specs.declared.slots.Slot.{Slot}
use Rattle.zk_base.specs.Slots.{place_of}
use Rattle.zk_base.proofs.Risen.{parted, nowhere}
use Rattle.zk_base.proofs.slots.index_of.Goals as goal

pub returns-then-index-slots-clause-none : goal.returns-then-index-slots-clause-none
returns-then-index-slots-clause-none g c =
    let ss = c.args.slots.now in
    let point = IsPartitionPoint-from_clause (λ (s : Slot g.row.M.Denot g.row.A.Denot). ltb (place_of s) c.args.place) _ _
    c.partition_point-index.ensures.partitioned (parted place_of c.args.place ss c.requires) (λ a r q k. search rules) in
    let all = c.if-index-slots.true in
    nowhere place_of c.args.place c.partition_point-index.result ss c.requires point (λ d within. absurd (omega arith))

pub returns-then-slots-index-clause-none : goal.returns-then-slots-index-clause-none
returns-then-slots-index-clause-none g c =
    let ss = c.args.slots.now in
    let i = c.partition_point-index.result in
    let point = IsPartitionPoint-from_clause (λ (s : Slot g.row.M.Denot g.row.A.Denot). ltb (place_of s) c.args.place) _ _
    c.partition_point-index.ensures.partitioned (parted place_of c.args.place ss c.requires) (λ a r q k. search rules) in
    nowhere place_of c.args.place i ss c.requires point
    (λ d within is. c.if-slots-index.true (ap (λ (s : Slot g.row.M.Denot g.row.A.Denot). place_of s)
    (get_or_default ss i _ d within) ∙ is))
