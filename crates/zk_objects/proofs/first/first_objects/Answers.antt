use Rattle.std.proofs.Common.{◌≡◌, ℕ, suc, ◌+◌, ◌<◌, ◌≤◌, All, List, length, take, get_or, sym, ap, subst, ◌∙◌, arith}
use Rattle.std.proofs.Math.Seq.{take-suc}
use Rattle.std.proofs.lemmas.List.{take_all}
use Rattle.std.proofs.lemmas.List.Elements.{All-get_or}
use Rattle.zk_base.specs.Limits.{most_players}
use Rattle.zk_model_bus.specs.Table.{Setup}
use Rattle.zk_objects.specs.First.{AreFirst, allowing}
use Rattle.zk_objects.proofs.Firsts.{allowed-more}
use Rattle.zk_objects.proofs.first.first_objects.Goals as goal

pub loop-permission-preserved : goal.loop-permission-preserved
loop-permission-preserved c =
    let setup = c.args.setup.now in
    let own = c.deref-permission-items.result.now in
    let i = c.loop-permission.permission-index in
    let within = c.loop-permission-test.true in
    let objects = c.grant.new.objects.items in
    let same = c.deref-permission-items.ensures.value ∙ ap (λ (s : Setup). s.allowed) c.setup.view_is in
    let Names : ℕ × ℕ → Type 0 = λ a. (a.0 < length setup.threads) × (a.1 < length setup.kinds) in
    let named = All-get_or Names own i (0, 0) within (subst (All Names) (sym same) c.requires.allowed) in
    let few = c.requires.few in
    let small : (get_or own i (0, 0)).0 < most_players = omega (arith, named.0, few) in
    let before = subst (λ (l : List (ℕ × ℕ)). AreFirst (allowing (take i l) setup) c.loop-permission.objects.items)
    (sym same) c.loop-permission.invariant in
    let more = allowed-more setup (take i own) (get_or own i (0, 0)) c.loop-permission.objects.items objects small before
    (c.grant.ensures 0) in
    let plus : suc i ≡ i + 1 = omega arith in
    let grown = ap (λ (n : ℕ). take n own) (sym plus) ∙ take-suc own i (0, 0) within in
    subst (λ (l : List (ℕ × ℕ)). AreFirst (allowing (take (i + 1) l) setup) objects) same
    (subst (λ (l : List (ℕ × ℕ)). AreFirst (allowing l setup) objects) (sym grown) more)

pub returns : goal.returns
returns c =
    let setup = c.args.setup.now in
    let i = c.loop-permission.permission-index in
    let same = c.deref-permission-items.ensures.value ∙ ap (λ (s : Setup). s.allowed) c.setup.view_is in
    let end : length setup.allowed ≤ i = subst (λ (l : List (ℕ × ℕ)). length l ≤ i) same c.loop-permission-test.false in
    subst (λ (l : List (ℕ × ℕ)). AreFirst (allowing l setup) c.loop-permission.objects.items)
    (take_all i setup.allowed end) c.loop-permission.invariant
