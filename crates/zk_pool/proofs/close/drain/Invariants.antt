use Rattle.std.proofs.Common.{◌≡◌, ◌≤◌, map, All, vec_len, vec_capacity}
use Rattle.crossbeam_queue.specs.Passes.{view, IsPassOf, ruled_capacity}
use Rattle.zk_pool.specs.Rule.{Suits}
use Rattle.zk_pool.specs.Views.{holding}
use Rattle.zk_pool.proofs.close.drain.Given as goal

abbrev pub invariant-loop : goal.invariant-loop
invariant-loop g l =
    IsPassOf l.queue l.pass
    × (view l.pass ≡ holding (view l.fn.pass) (map g.T.Numbered.number l.room.items))
    × (vec_len l.room ≡ l.counter)
    × (ruled_capacity l.queue ≤ vec_capacity l.room)
    × All (Suits g.T.Numbered.number g.T.Numbered.home g.T.Numbered.kept (view l.fn.pass).home) l.room.items
