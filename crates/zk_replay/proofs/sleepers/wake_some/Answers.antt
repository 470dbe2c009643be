use Rattle.std.proofs.Common.{◌≡◌, cond, Option, Some, None, length, set, slice_get, option_and_then, refl, sym, ap, subst, ◌∙◌, arith}
use Rattle.std.specs.Vec.{with_item}
use Rattle.std.proofs.lemmas.Option.{slice_get_read}
use Rattle.zk_services.specs.declared.counted.ServiceId.{ServiceId}
use Rattle.zk_replay.specs.declared.sleepers.Sleepers.{Sleepers}
use Rattle.zk_replay.specs.Sleeping.{list_of, if_serving, serving, SleepOn}
use Rattle.zk_replay.proofs.Listed.{slept-list}
use Rattle.zk_replay.proofs.sleepers.wake_some.Goals as goal

pub returns : goal.returns
returns g c =
    let shown = g.V.Services.shown c.args.services.now in
    let old = c.args.sleepers.now in
    let lists = old.lists in
    let service = c.in-Some-last_entered.service in
    let new : Sleepers = record { asleep = c.some_of-sleepers.result; lists = with_item lists c.list_of-list.result c.none.result } in
    let is : serving shown c.args.player.now.spots ≡ Some service =
    ap (option_and_then (if_serving shown)) (sym c.last_entered.ensures ∙ c.in-Some-last_entered.is)
    ∙ ap (λ b. cond b (Some service) None) (sym c.may_serve.ensures ∙ c.if-not-may_serve.false) in
    let there : slice_get lists.items (list_of service) ≡ Some c.index.result.now =
    ap (slice_get lists.items) (sym c.list_of-list.ensures)
    ∙ slice_get_read lists.items (length lists.items) c.list_of-list.result c.index.result.now refl
    (omega (arith, lists.ok.0)) c.index.ensures in
    subst (λ (o : Option ServiceId). SleepOn o old new) (sym is)
    (slept-list old new c.in-Some.asleep c.without-left.result service c.index.result.now c.none.result c.in-Some.is c.some_of-sleepers.ensures there
    (ap (λ n. set lists.items n c.none.result) c.list_of-list.ensures) c.without-left.ensures)
