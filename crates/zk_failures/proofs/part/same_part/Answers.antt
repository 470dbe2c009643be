use Rattle.std.proofs.Common.{inl, inr, sym, ◌∙◌}
use Rattle.std.proofs.lemmas.Bool.{cases_Bool, both_ways, false_from_ne_true}
use Rattle.zk_failures.specs.PlaceFailure.{same_part}
use Rattle.zk_failures.proofs.Together.{same-part, part-same}
use Rattle.zk_failures.proofs.part.same_part.Goals as goal

pub returns : goal.returns
returns c =
    let a = c.args.spot in
    let b = c.args.other in
    elim (cases_Bool c.is_same.result) [
      | inl is ↦ is ∙ sym (part-same a b (sym c.part_of.ensures ∙ c.is_same.ensures.0 is ∙ c.part_of-2.ensures))
      | inr other ↦ other ∙ sym (false_from_ne_true (same_part a b) (λ same. both_ways c.is_same.result other (c.is_same.ensures.1 (c.part_of.ensures ∙ same-part a b same ∙ sym c.part_of-2.ensures))))
    ]
