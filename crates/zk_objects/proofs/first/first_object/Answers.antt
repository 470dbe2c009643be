use Rattle.std.proofs.Common.{◌≡◌, Bool, List, length, get_or, refl, ap, subst, arith}
use Rattle.std.proofs.lemmas.Option.{slice_get_within, slice_get_read}
use Rattle.zk_model_bus.specs.Table.{Setup}
use Rattle.zk_objects.proofs.Firsts.{first-object}
use Rattle.zk_objects.proofs.first.first_object.Goals as goal

pub returns : goal.returns
returns c =
    let setup = c.args.setup.now in
    let object = c.args.object in
    let view = c.setup.view_is in
    let within = slice_get_within setup.kinds object c.args.kind c.requires.kind in
    let long = c.requires.setup.long in
    let ready = subst (λ (l : List Bool). c.index.result.now ≡ get_or l object c.index.result.now)
    (ap (λ (s : Setup). s.ready) view) c.index.ensures in
    first-object setup object _ c.requires.setup c.requires.kind c.none.ensures refl
    (slice_get_read setup.ready (length setup.ready) object c.index.result.now refl (omega arith) ready)
    c.requires.player
