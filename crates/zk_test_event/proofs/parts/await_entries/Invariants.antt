use Rattle.zk_test_event.specs.Parts.{IsFresh}
use Rattle.zk_test_event.proofs.parts.await_entries.Given as goal

abbrev pub invariant-loop : goal.invariant-loop
invariant-loop g l =
    (goal.iterator-loop g).can_next l.iterator' × (goal.iterator-loop g).is_finite l.iterator'
    × IsFresh l.cell l.pass
