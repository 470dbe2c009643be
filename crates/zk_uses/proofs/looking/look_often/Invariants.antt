use Rattle.std.proofs.Common.{◌≡◌, ◌+◌, ◌≤◌, [], ◌∷◌, All, length, vec_capacity}
use Rattle.zk_base.specs.Legal.{IsLegal}
use Rattle.zk_turn.specs.Passes.{IsPassOf, pass_players, pass_seen, pass_room}
use Rattle.zk_uses.specs.Looks.{IsLookAt}
use Rattle.zk_uses.proofs.looking.look_often.Given as goal

abbrev pub invariant-loop-round : goal.invariant-loop-round
invariant-loop-round g l =
    let m = g.S.Service.machine in
    let start = g.S.Service.start in
    IsPassOf (IsLegal m) start l.cell l.pass
    × (pass_players l.pass ≡ l.fn.looker.who ∷ [])
    × All (IsLookAt m start g.S.Service.word l.cell l.index (pass_seen l.pass)) l.looks.items
    × (length l.looks.items ≡ l._round)
    × (pass_room l.pass + l._round ≡ 20000)
    × (l.times ≤ vec_capacity l.looks)
