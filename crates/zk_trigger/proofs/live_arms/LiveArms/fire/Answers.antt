use Rattle.std.proofs.Common.{◌≡◌, ℕ, ◌≤◌, not, filter, length, vec_len, vec_capacity, deque_len, deque_capacity, sym, ap, subst, ◌∙◌, arith}
use Rattle.std.proofs.lemmas.Bool.{eqb-true}
use Rattle.zk_trigger.specs.Live.{LiveView, room_for, meets_sought, all_sought}
use Rattle.zk_trigger.proofs.Rooms.{long-parts, none-sought, room-kept}
use Rattle.zk_trigger.proofs.live_arms.LiveArms.fire.Goals as goal

pub returns-then-is_empty-clause-waiting : goal.returns-then-is_empty-clause-waiting
returns-then-is_empty-clause-waiting c =
    let waiting = c.self.inside.waiting.items in
    let empty : vec_len c.find_all.new.found ≡ 0 =
    eqb-true (vec_len c.find_all.new.found) 0 (sym c.is_empty.ensures ∙ c.if-is_empty.true) in
    let found : c.find_all.new.found.items ≡ all_sought c.args.sought waiting =
    c.find_all.ensures.items ∙ ap (all_sought c.args.sought) c.deref.ensures.value in
    let long = ap length found in
    let none : length (all_sought c.args.sought waiting) ≡ 0 = cc in
    subst (λ (v : LiveView). waiting ≡ filter (λ a. not (meets_sought c.args.sought a)) v.waiting) c.self.view_is
    (sym (none-sought c.args.sought waiting none))

pub add_fires-requires : goal.add_fires-requires
add_fires-requires c =
    let waiting = c.self.inside.waiting.items in
    let found : c.find_all.new.found.items ≡ all_sought c.args.sought waiting =
    c.find_all.ensures.items ∙ ap (all_sought c.args.sought) c.deref.ensures.value in
    let long = ap length found in
    let parts = long-parts c.args.sought waiting in
    let same = ap length c.deref-2.ensures.value in
    let fits = c.self.invariant.1.fired in
    let whole : length waiting ≡ vec_len c.self.inside.waiting = cc in
    omega arith

pub invariant_of-self-2 : goal.invariant_of-self-2
invariant_of-self-2 c =
    let a = c.self.inside in
    let waiting = a.waiting.items in
    let left = c.keep_others.new.waiting in
    let found : c.find_all.new.found.items ≡ all_sought c.args.sought waiting =
    c.find_all.ensures.items ∙ ap (all_sought c.args.sought) c.deref.ensures.value in
    let long = ap length found in
    let parts = long-parts c.args.sought waiting in
    let same = ap length c.deref-2.ensures.value in
    let fits = c.self.invariant.1.fired in
    let order = c.self.invariant.1.sorted in
    let whole : length waiting ≡ vec_len a.waiting = cc in
    let rest = ap length c.keep_others.ensures.items in
    let short : length left.items ≡ vec_len left = cc in
    (c.clear.ensures.items, record { sorted = omega arith; fired = omega arith })

pub returns-clause-room : goal.returns-clause-room
returns-clause-room c =
    let a = c.self.inside in
    let waiting = a.waiting.items in
    let left = c.keep_others.new.waiting in
    let found : c.find_all.new.found.items ≡ all_sought c.args.sought waiting =
    c.find_all.ensures.items ∙ ap (all_sought c.args.sought) c.deref.ensures.value in
    let long = ap length found in
    let parts = long-parts c.args.sought waiting in
    let same = ap length c.deref-2.ensures.value in
    let whole : length waiting ≡ vec_len a.waiting = cc in
    let rest = ap length c.keep_others.ensures.items in
    let short : length left.items ≡ vec_len left = cc in
    let kept = room-kept (vec_len a.waiting) (vec_len left) (vec_capacity a.waiting) (vec_capacity a.found)
    (vec_capacity c.clear.new.self) (deque_len a.fires) (deque_len c.add_fires.new.fires) (deque_capacity a.fires)
    c.keep_others.ensures.len (omega arith) (omega arith) in
    let Fits : ℕ → ℕ → ℕ → Type 0 = λ room capacity more. room ≤ room_for (vec_len left) capacity (vec_capacity c.clear.new.self)
    (deque_len c.add_fires.new.fires) more in
    subst (λ n. Fits c.args.self.now.room n (deque_capacity c.add_fires.new.fires)) (sym c.keep_others.ensures.capacity)
    (subst (λ n. Fits c.args.self.now.room (vec_capacity a.waiting) n) (sym c.add_fires.ensures.capacity)
    (subst (λ (v : LiveView). Fits v.room (vec_capacity a.waiting) (deque_capacity a.fires)) c.self.view_is kept))
