use Rattle.std.proofs.Common.{◌≡◌, List, Option, Some, length, set, All, sym, subst, ◌∙◌}
use Rattle.std.proofs.lemmas.List.{with_items_is}
use Rattle.zk_queue.specs.declared.place.Place.{Place}
use Rattle.zk_queue.specs.Places.{IsHome, StandsIn, LeavesPlaces, IsKept}
use Rattle.zk_queue.specs.Ring.{living}
use Rattle.zk_queue.proofs.Keeping.{reads, admits, admits_fits, admits_kept, admits_next, leaves-length}
use Rattle.zk_queue.proofs.waiting.Waiting.admit.Goals as goal

pub make_room-requires-clause-homes : goal.make_room-requires-clause-homes
make_room-requires-clause-homes c =
    let a = admits c.self.inside.places.items c.self.inside.rings.items c.args.self.now c.args.item c.args.queue c.args.number
    c.self.view_is c.self.invariant c.requires.item c.requires.queue c.requires.free c.requires.above in
    subst (λ (ps : List (Option Place)). All (IsHome ps c.args.queue) (living c.index_mut-ring.result.now.entries))
    (sym c.deref_mut.ensures.value)
    (reads _ _ c.args.queue c.index_mut-ring.result.now a.kept a.queue_in c.index_mut-ring.ensures.value).homes

pub make_room-requires-clause-stands : goal.make_room-requires-clause-stands
make_room-requires-clause-stands c =
    let a = admits c.self.inside.places.items c.self.inside.rings.items c.args.self.now c.args.item c.args.queue c.args.number
    c.self.view_is c.self.invariant c.requires.item c.requires.queue c.requires.free c.requires.above in
    subst (λ (ps : List (Option Place)). StandsIn ps c.args.queue c.index_mut-ring.result.now)
    (sym c.deref_mut.ensures.value)
    (reads _ _ c.args.queue c.index_mut-ring.result.now a.kept a.queue_in c.index_mut-ring.ensures.value).stands

pub push-position-requires : goal.push-position-requires
push-position-requires c =
    admits_fits _ _ _ _ _ _ c.index_mut-ring.result.now c.make_room.new.ring
    (admits c.self.inside.places.items c.self.inside.rings.items c.args.self.now c.args.item c.args.queue c.args.number
    c.self.view_is c.self.invariant c.requires.item c.requires.queue c.requires.free c.requires.above)
    c.index_mut-ring.ensures.value c.make_room.ensures.line c.make_room.ensures.capacity c.make_room.ensures.dense

pub invariant_of-self : goal.invariant_of-self
invariant_of-self c =
    let leaves = subst (λ (ps : List (Option Place)). LeavesPlaces c.args.queue ps c.make_room.new.places)
    c.deref_mut.ensures.value c.make_room.ensures.places in
    let long : length c.make_room.new.places ≡ c.self.inside.places.len =
    leaves-length c.args.queue c.self.inside.places.items c.make_room.new.places leaves ∙ sym c.self.inside.places.ok.0 in
    subst (λ (ps : List (Option Place)). IsKept (set ps c.args.item
    (Some (record { queue = c.args.queue; position = c.push-position.result })))
    (set c.self.inside.rings.items c.args.queue c.push-position.new.self))
    (sym (with_items_is c.self.inside.places c.make_room.new.places long))
    (admits_kept _ c.make_room.new.places _ _ _ _ _ c.index_mut-ring.result.now c.make_room.new.ring c.push-position.new.self
    c.push-position.result
    (admits c.self.inside.places.items c.self.inside.rings.items c.args.self.now c.args.item c.args.queue c.args.number
    c.self.view_is c.self.invariant c.requires.item c.requires.queue c.requires.free c.requires.above)
    c.index_mut-ring.ensures.value c.make_room.ensures.line c.make_room.ensures.capacity c.make_room.ensures.stands leaves
    c.push-position.ensures.next c.push-position.ensures.capacity c.push-position.ensures.position c.push-position.ensures.keeps)

pub returns-clause-next : goal.returns-clause-next
returns-clause-next c =
    admits_next _ _ _ _ _ _ c.index_mut-ring.result.now c.make_room.new.ring c.push-position.new.self
    (admits c.self.inside.places.items c.self.inside.rings.items c.args.self.now c.args.item c.args.queue c.args.number
    c.self.view_is c.self.invariant c.requires.item c.requires.queue c.requires.free c.requires.above)
    c.index_mut-ring.ensures.value c.make_room.ensures.line c.push-position.ensures.next
