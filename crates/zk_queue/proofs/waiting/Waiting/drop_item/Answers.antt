use Rattle.std.proofs.Common.{sym, ◌∙◌, arith}
use Rattle.zk_queue.proofs.Keeping.{drops_none, drops, drops_some, drops_kept, drops_next, number_at, gone}
use Rattle.zk_queue.proofs.waiting.Waiting.drop_item.Goals as goal

pub returns-in_err-place-clause-reply : goal.returns-in_err-place-clause-reply
returns-in_err-place-clause-reply c =
    c.from_residual.ensures
    ∙ sym (drops_none c.self.inside.places.items c.self.inside.rings.items c.args.self.now c.args.item c.index.result.now
    c.self.view_is c.self.invariant c.requires c.index.ensures c.in_err-place.was).0

pub returns-in_err-place-clause-next : goal.returns-in_err-place-clause-next
returns-in_err-place-clause-next c =
    sym (drops_none c.self.inside.places.items c.self.inside.rings.items c.args.self.now c.args.item c.index.result.now
    c.self.view_is c.self.invariant c.requires c.index.ensures c.in_err-place.was).1

pub returns-in_err-place-clause-gone : goal.returns-in_err-place-clause-gone
returns-in_err-place-clause-gone c =
    (drops_none c.self.inside.places.items c.self.inside.rings.items c.args.self.now c.args.item c.index.result.now
    c.self.view_is c.self.invariant c.requires c.index.ensures c.in_err-place.was).0

pub index_mut-ring-requires : goal.index_mut-ring-requires
index_mut-ring-requires c =
    let d = drops c.self.inside.places.items c.self.inside.rings.items c.args.self.now c.args.item c.in_ok-place.place
    c.index.result.now
    c.self.view_is c.self.invariant c.requires c.index.ensures c.in_ok-place.was in
    omega (arith, d.queue_in, c.self.inside.rings.ok.0)

pub drop_at-requires : goal.drop_at-requires
drop_at-requires c =
    let d = drops c.self.inside.places.items c.self.inside.rings.items c.args.self.now c.args.item c.in_ok-place.place
    c.index.result.now
    c.self.view_is c.self.invariant c.requires c.index.ensures c.in_ok-place.was in
    drops_some _ _ _ _ _ c.index_mut-ring.result.now d c.index_mut-ring.ensures.value

pub invariant_of-self : goal.invariant_of-self
invariant_of-self c =
    let d = drops c.self.inside.places.items c.self.inside.rings.items c.args.self.now c.args.item c.in_ok-place.place
    c.index.result.now
    c.self.view_is c.self.invariant c.requires c.index.ensures c.in_ok-place.was in
    drops_kept _ _ _ _ _ c.index_mut-ring.result.now c.drop_at.new.self d c.index_mut-ring.ensures.value
    c.drop_at.ensures.next c.drop_at.ensures.capacity c.drop_at.ensures.keeps

pub returns-clause-reply : goal.returns-clause-reply
returns-clause-reply c =
    let d = drops c.self.inside.places.items c.self.inside.rings.items c.args.self.now c.args.item c.in_ok-place.place
    c.index.result.now
    c.self.view_is c.self.invariant c.requires c.index.ensures c.in_ok-place.was in
    sym (number_at _ _ _ _ _ c.index_mut-ring.result.now d c.index_mut-ring.ensures.value ∙ c.drop_at.ensures.reply)

pub returns-clause-next : goal.returns-clause-next
returns-clause-next c =
    let d = drops c.self.inside.places.items c.self.inside.rings.items c.args.self.now c.args.item c.in_ok-place.place
    c.index.result.now
    c.self.view_is c.self.invariant c.requires c.index.ensures c.in_ok-place.was in
    drops_next _ _ _ _ _ c.index_mut-ring.result.now c.drop_at.new.self d c.index_mut-ring.ensures.value c.drop_at.ensures.next

pub returns-clause-gone : goal.returns-clause-gone
returns-clause-gone c =
    let d = drops c.self.inside.places.items c.self.inside.rings.items c.args.self.now c.args.item c.in_ok-place.place
    c.index.result.now
    c.self.view_is c.self.invariant c.requires c.index.ensures c.in_ok-place.was in
    gone c.self.inside.places.items _ c.args.item
    (drops_kept _ _ _ _ _ c.index_mut-ring.result.now c.drop_at.new.self d c.index_mut-ring.ensures.value
    c.drop_at.ensures.next c.drop_at.ensures.capacity c.drop_at.ensures.keeps) d.item_in
