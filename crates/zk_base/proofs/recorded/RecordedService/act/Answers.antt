use Rattle.std.proofs.Common.{◌≡◌, ◌≤◌, ◌+◌, ◌∙◌, ap, sym, subst, false, ◌∷◌, [], ◌++◌, vec_len, vec_capacity, length, is_some, arith, Some}
use Rattle.zk_base.specs.Legal.{state_after}
use Rattle.zk_base.specs.History.{entry, IsAbove}
use Rattle.zk_base.specs.Touched.{LeavesOthers}
use Rattle.zk_base.proofs.Histories.{in_range-after, entries-after, state_after-snoc, room-step, IsRecorded-snoc, room-falls}
use Rattle.zk_base.proofs.recorded.RecordedService.act.Goals as goal

pub step-requires : goal.step-requires
step-requires g c =
    let m = g.C.Engine.machine in
    let past = c.self.inside.past.items in
    let start = ap (λ v. v.start) c.self.view_is in
    let same = ap (λ f. f c.args.op) (in_range-after m c.counts_entries.ensures.ranges c.self.inside.start.value past) in
    let range = same ∙ ap (λ s. m.in_range s c.args.op) start ∙ c.requires.range in
    let counted = entries-after m g.C.Engine.entries c.counts_entries.ensures.counts c.self.inside.start.value past in
    let long = ap (λ v. length v.history) c.self.view_is in
    let first = c.self.invariant.first in
    let short = c.requires.short in
    record { ready = (state_after m c.self.inside.start.value past, c.self.invariant.stands_for, range, omega arith) }

pub invariant_of-self-in-Some : goal.invariant_of-self-in-Some
invariant_of-self-in-Some g c =
    let m = g.C.Engine.machine in
    let past = c.self.inside.past.items in
    let first = c.self.inside.start.value in
    let s = state_after m first past in
    let e = entry c.args.who c.args.step c.args.op c.in-Some.kept in
    let start = ap (λ v. v.start) c.self.view_is in
    let history = ap (λ v. v.history) c.self.view_is in
    let steps = rw c.in-Some.is at (c.in_ok-step.ensures.step s c.self.invariant.stands_for) in
    let closes = g.C.Engine.closes s c.args.who c.args.op in
    let owed = g.C.Engine.owed in
    let possible = steps.0 ∙ ap Some (sym steps.1) in
    let some = ap is_some possible in
    let grown : vec_capacity c.self.inside.past ≤ vec_capacity c.push_within.new.items =
    omega (arith, c.make_room.ensures.capacity, c.push_within.ensures.capacity) in
    let made : closes ≡ false → vec_len c.self.inside.past + owed s + 3 ≤ vec_capacity c.push_within.new.items =
    λ still. omega (
      arith,
      c.in_ok-make_room.ensures.ok s c.self.invariant.stands_for still,
      c.make_room.ensures.len,
      c.push_within.ensures.capacity,
    ) in
    let fits = room-step closes (owed s) (owed (m.next s c.args.who c.args.op)) (vec_len c.self.inside.past)
    (vec_capacity c.self.inside.past) (vec_capacity c.push_within.new.items)
    c.self.invariant.room grown (λ closing. c.counts_entries.ensures.gives s c.args.who c.args.op closing some) made
    (c.counts_entries.ensures.adds s c.args.who c.args.op) in
    IsRecorded-snoc m owed g.C.Engine.entries (g.C.Engine.stands_for c.self.inside.engine)
    (g.C.Engine.stands_for c.step.new.self) first past c.push_within.new.items.items
    (vec_len c.self.inside.past) (vec_len c.push_within.new.items) (vec_capacity c.self.inside.past)
    (vec_capacity c.push_within.new.items) e c.self.invariant
    (c.push_within.ensures.items ∙ ap (λ h. h ++ e ∷ []) c.make_room.ensures.items)
    (c.push_within.ensures.len ∙ ap (λ n. n + 1) c.make_room.ensures.len)
    possible
    (subst (λ h. IsAbove h c.args.who.number c.args.step) (sym history) c.requires.later)
    (ap (λ v. m.in_range v c.args.op) start ∙ c.requires.range)
    steps.2 fits

pub returns-in-Some-clause-room : goal.returns-in-Some-clause-room
returns-in-Some-clause-room g c =
    let m = g.C.Engine.machine in
    let past = c.self.inside.past.items in
    let first = c.self.inside.start.value in
    let s = state_after m first past in
    let owed = g.C.Engine.owed in
    let e = entry c.args.who c.args.step c.args.op c.in-Some.kept in
    let items = c.push_within.ensures.items ∙ ap (λ h. h ++ e ∷ []) c.make_room.ensures.items in
    let after = ap owed (ap (λ h. state_after m first h) items ∙ state_after-snoc m first past e) in
    let adds = c.counts_entries.ensures.adds s c.args.who c.args.op in
    let len = c.push_within.ensures.len ∙ ap (λ n. n + 1) c.make_room.ensures.len in
    let grown : vec_capacity c.self.inside.past ≤ vec_capacity c.push_within.new.items =
    omega (arith, c.make_room.ensures.capacity, c.push_within.ensures.capacity) in
    room-falls c.args.self.now.room (vec_len c.self.inside.past) (vec_len c.push_within.new.items) (owed s)
    (owed (state_after m first c.push_within.new.items.items)) (vec_capacity c.self.inside.past)
    (vec_capacity c.push_within.new.items)
    (g.C.Engine.room c.self.inside.engine) (g.C.Engine.room c.step.new.self) (sym (ap (λ v. v.room) c.self.view_is)) len
    grown (omega (arith, after, adds)) c.step.ensures.room

pub returns-in-Some-clause-touched : goal.returns-in-Some-clause-touched
returns-in-Some-clause-touched g c =
    let m = g.C.Engine.machine in
    let past = c.self.inside.past.items in
    let first = c.self.inside.start.value in
    let s = state_after m first past in
    let word = g.C.Engine.word in
    let touched = g.C.Engine.touched c.step.new.self in
    let e = entry c.args.who c.args.step c.args.op c.in-Some.kept in
    let steps = rw c.in-Some.is at (c.in_ok-step.ensures.step s c.self.invariant.stands_for) in
    let left = c.step.ensures.touched s (m.next s c.args.who c.args.op) c.self.invariant.stands_for steps.2 in
    let items = c.push_within.ensures.items ∙ ap (λ h. h ++ e ∷ []) c.make_room.ensures.items in
    let after = ap (λ h. state_after m first h) items ∙ state_after-snoc m first past e in
    let before = ap (λ v. state_after m v.start v.history) c.self.view_is in
    subst (λ t. LeavesOthers g.C.Engine.WORDS touched (word t) (word (state_after m first c.push_within.new.items.items))) before
    (subst (λ t. LeavesOthers g.C.Engine.WORDS touched (word s) (word t)) (sym after) left)
