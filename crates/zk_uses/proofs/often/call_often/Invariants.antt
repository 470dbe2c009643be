use Rattle.std.proofs.Common.{◌≡◌, ◌+◌, ◌≤◌, [], ◌∷◌}
use Rattle.zk_base.specs.History.{IsAbove}
use Rattle.zk_base.specs.Legal.{IsLegal}
use Rattle.zk_turn.specs.Passes.{IsPassOf, given_to, pass_players, pass_who, pass_seen, pass_mine, pass_room, pass_holds}
use Rattle.zk_uses.proofs.Called.{HaveLed}
use Rattle.zk_uses.proofs.often.call_often.Given as goal

abbrev pub invariant-loop-step : goal.invariant-loop-step
invariant-loop-step g l =
    IsPassOf (IsLegal g.S.Service.machine) g.S.Service.start l.cell l.pass
    × (pass_players l.pass ≡ l.fn.caller.who ∷ [])
    × (pass_who l.pass ≡ l.fn.caller.who)
    × IsAbove (pass_mine l.pass) l.fn.caller.who.number l.step
    × (20000 ≤ l.step + pass_room l.pass)
    × HaveLed g.S.Service.machine (g.S.Service.start (given_to l.cell)) l.fn.caller.who (λ step. l.op) l.step (pass_seen l.pass)
    × (pass_holds l.pass ≡ l.step)
