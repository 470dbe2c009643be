use Rattle.std.proofs.Common.{◌≤◌, vec_len, vec_capacity, deque_len, deque_capacity, sym, subst, arith}
use Rattle.zk_trigger.specs.Live.{LiveView, room_for}
use Rattle.zk_trigger.proofs.Rooms.{room-kept}
use Rattle.zk_trigger.proofs.live_arms.LiveArms.cancel.Goals as goal

pub returns-clause-room : goal.returns-clause-room
returns-clause-room c =
    let a = c.self.inside in
    let left = c.keep_other_items.new.waiting in
    let kept = room-kept (vec_len a.waiting) (vec_len left) (vec_capacity a.waiting) (vec_capacity a.found) (vec_capacity a.found)
    (deque_len a.fires) (deque_len a.fires) (deque_capacity a.fires) c.keep_other_items.ensures.len (omega arith) (omega arith) in
    subst (λ n. c.args.self.now.room ≤ room_for (vec_len left) n (vec_capacity a.found) (deque_len a.fires) (deque_capacity a.fires))
    (sym c.keep_other_items.ensures.capacity)
    (subst (λ (v : LiveView). v.room ≤ room_for (vec_len left) (vec_capacity a.waiting) (vec_capacity a.found) (deque_len a.fires)
    (deque_capacity a.fires)) c.self.view_is kept)
