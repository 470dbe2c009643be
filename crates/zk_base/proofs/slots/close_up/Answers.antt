use Rattle.std.proofs.Common.{inr, refl, ◌≡◌, filter, rules}
use Rattle.std.proofs.lemmas.Fn.{filter_same}
use Rattle.zk_base.specs.Slots.{is_open}
use Rattle.zk_base.proofs.slots.close_up.Goals as goal

pub returns-clause-slots : goal.returns-clause-slots
returns-clause-slots g c =
    let is : c.retain.new.self.items ≡ filter is_open c.args.slots.now.items =
    filter_same _ _ _ (λ x b f' k. search rules) _ _ c.retain.ensures.filtered in
    inr (is, refl)
