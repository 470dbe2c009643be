use Rattle.std.proofs.Common.{◌≡◌}
use Rattle.zk_base.specs.Legal.{IsLegal}
use Rattle.zk_event.specs.Event.{event_machine}
use Rattle.zk_event.specs.Seen.{event_start}
use Rattle.zk_event.specs.Waiting.{HasMadeNone}
use Rattle.zk_turn.specs.Passes.{IsPassOf, pass_players, pass_who}
use Rattle.zk_event.proofs.waiting.await_end.Given as goal

abbrev pub invariant-loop : goal.invariant-loop
invariant-loop g l =
    (goal.iterator-loop g).can_next l.iterator' × (goal.iterator-loop g).is_finite l.iterator'
    × IsPassOf (IsLegal event_machine) event_start l.cell l.pass
    × (pass_players l.pass ≡ pass_players l.fn.pass)
    × (pass_who l.pass ≡ pass_who l.fn.pass)
    × HasMadeNone (pass_who l.fn.pass) l.step l.fn.pass l.pass
