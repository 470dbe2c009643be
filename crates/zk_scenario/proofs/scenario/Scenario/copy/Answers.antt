use Rattle.std.proofs.Common.{◌∙◌, sym, subst}
use Rattle.zk_scenario.specs.Grammar.{IsReadable}
use Rattle.zk_scenario.proofs.scenario.Scenario.copy.Goals as goal

pub invariant_of-result : goal.invariant_of-result
invariant_of-result c =
    let old = c.self.inside in
    subst (λ ds. IsReadable (record { decls = ds; written = c.in_ok-from_slice.field-0.items; scripts = c.in_ok-copy-2.field-0 })) (sym c.in_ok-copy.ensures.copy)
    (subst (λ ls. IsReadable (record { decls = old.objects; written = ls; scripts = c.in_ok-copy-2.field-0 })) (sym (c.in_ok-from_slice.ensures.items ∙ c.deref.ensures.value))
    (subst (λ ss. IsReadable (record { decls = old.objects; written = old.written.items; scripts = ss })) (sym c.in_ok-copy-2.ensures.copy) c.self.invariant))
