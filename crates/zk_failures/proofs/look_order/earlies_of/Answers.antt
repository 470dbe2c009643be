use Rattle.std.proofs.Common.{rules, ◌≡◌, ℕ, ◌+◌, ◌-◌, ◌<◌, ◌∙◌, Bool, Option, List, [], ◌∷◌, length, drop, get_or, reverse, sym, ap, subst, arith}
use Rattle.std.specs.Vec.{with_items}
use Rattle.std.proofs.lemmas.List.{drop_more, reverse-append, with_items_is}
use Rattle.zk_worker.specs.declared.steps.Spot.TheVariants as spots
use Rattle.zk_failures.specs.LookOrder.{IsCeiling, is_early, earlies_of}
use Rattle.zk_failures.proofs.look_order.earlies_of.Goals as goal

pub loop-step-preserved : goal.loop-step-preserved
loop-step-preserved c =
    let steps = c.args.spots.now in
    let step = c.loop-step.step - 1 in
    let spot = get_or steps step (spots.Work 0) in
    let within : step < length steps = omega arith in
    let up : step + 1 ≡ c.loop-step.step = omega arith in
    let next : drop step steps ≡ spot ∷ drop c.loop-step.step steps = drop_more steps step (spots.Work 0) within ∙ ap (λ (n : ℕ). spot ∷ drop n steps) up in
    let old = c.loop-step.places in
    let new = c.lower.new.places in
    let long : length new ≡ old.len = search rules in
    let same : (with_items old new).items ≡ new = with_items_is old new long in
    let ceiling = subst (λ (l : List (Option ℕ)). IsCeiling l (drop c.loop-step.step steps)) (sym c.deref_mut.ensures.value) c.loop-step.invariant.ceiling in
    let early = c.is_early.ensures (drop c.loop-step.step steps)
    (subst (λ (l : List (Option ℕ)). IsCeiling l (drop c.loop-step.step steps)) (sym c.deref.ensures.value) c.loop-step.invariant.ceiling) in
    record {
      objects = ap length same ∙ c.lower.ensures.objects ∙ ap length c.deref_mut.ensures.value ∙ c.loop-step.invariant.objects;
      ceiling = subst (λ (l : List (Option ℕ)). IsCeiling l (drop step steps)) (sym same)
          (subst (IsCeiling new) (sym next) (c.lower.ensures.ceiling (drop c.loop-step.step steps) ceiling));
      earlies =
          ap reverse c.in_ok-push.ensures.items ∙ reverse-append c.loop-step.earlies.items (c.is_early.result ∷ [])
          ∙ ap (λ (b : Bool). b ∷ reverse c.loop-step.earlies.items) early ∙ ap (λ (l : List Bool). is_early (drop c.loop-step.step steps) spot ∷ l) c.loop-step.invariant.earlies
          ∙ sym (ap earlies_of next);
    }
