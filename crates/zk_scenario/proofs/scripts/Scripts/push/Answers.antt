use Rattle.std.proofs.Common.{◌≡◌, ◌∙◌, ◌<◌, ◌++◌, ◌∷◌, [], ap, sym, subst, arith, set, Some, length}
use Rattle.zk_scenario.specs.Scripts.{script_of, IsByOwner}
use Rattle.zk_scenario.proofs.ScriptTables.{IsByOwner-push}
use Rattle.zk_scenario.proofs.scripts.Scripts.push.Goals as goal

pub invariant_of-self-2 : goal.invariant_of-self-2
invariant_of-self-2 c =
    let ss = c.self.inside.scripts.items in
    let wide = c.widen.new.by_owner.items in
    let s = c.args.script in
    let view : ss ≡ c.args.self.now = c.self.view_is in
    let place : c.len-place.result ≡ length ss = omega (arith, c.len-place.ensures, c.make_room_for_one.new.items.ok.0, ap length c.make_room_for_one.ensures.unchanged) in
    let long : s.owner < length wide = omega (arith, c.in-Ok-widen.ensures.long, c.widen.new.by_owner.ok.0) in
    let fresh = ap (λ xs. script_of xs s.owner) view ∙ c.requires in
    let made = IsByOwner-push ss s c.self.inside.by_owner.items wide c.self.invariant fresh long c.widen.ensures.same in
    subst (λ xs. IsByOwner xs (set wide s.owner (Some c.len-place.result))) (sym (c.push_within.ensures.items ∙ ap (λ xs. xs ++ s ∷ []) c.make_room_for_one.ensures.unchanged))
    (subst (λ n. IsByOwner (ss ++ s ∷ []) (set wide s.owner (Some n))) (sym place) made)
