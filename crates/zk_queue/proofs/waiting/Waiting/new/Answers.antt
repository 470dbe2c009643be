use Rattle.std.proofs.Common.{◌*◌, Option, None, [], length, refl, arith, ap}
use Rattle.zk_queue.specs.declared.place.Place.{Place}
use Rattle.zk_queue.proofs.Keeping.{kept-fresh, lines-fresh}
use Rattle.std.proofs.lemmas.List.{length-replicate}
use Rattle.zk_queue.proofs.waiting.Waiting.new.Goals as goal

pub invariant_of-result : goal.invariant_of-result
invariant_of-result c =
    kept-fresh c.args.items c.args.queues (record { entries = []; front = 0; capacity = 2 * c.args.items })
    c.in_ok-places.places.items c.in_ok-rings.rings.items
    refl (omega arith) c.in_ok-places.ensures c.in_ok-rings.ensures

pub returns : goal.returns
returns c =
    let long = ap length c.in_ok-places.ensures in
    let lines = lines-fresh c.args.queues (record { entries = []; front = 0; capacity = 2 * c.args.items })
    c.in_ok-rings.rings.items refl c.in_ok-rings.ensures in
    cc (lines, c.in_ok-places.ensures, length-replicate {A = Option Place} c.args.items None)
