use Rattle.std.proofs.Common.{◌≡◌, ◌≤◌, vec_len, vec_capacity}
use Rattle.zk_work.specs.EngineState.{IsWhole}
use Rattle.zk_work.specs.Engine.{expired, told}
use Rattle.zk_work.proofs.engine.WorkEngine.expire.Given as goal

abbrev pub invariant-loop : goal.invariant-loop
invariant-loop l =
    (l.self.state ≡ expired l.counter l.time l.fn.self.state)
    × (l.expiries.items ≡ told l.counter l.time l.fn.self.state)
    × (l.copy.items ≡ told l.counter l.time l.fn.self.state)
    × IsWhole l.self.state
    × (l.self.room ≡ l.fn.self.room)
    × (vec_len l.expiries ≡ l.counter)
    × (vec_len l.copy ≡ l.counter)
    × (vec_capacity l.fn.expiries ≤ vec_capacity l.expiries)
    × (vec_capacity l.fn.copy ≤ vec_capacity l.copy)
