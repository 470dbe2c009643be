use Rattle.zk_test_event.proofs.Fresh.{all-fresh}
use Rattle.zk_test_event.proofs.thread_tests.played.Goals as goal

pub parts_of-requires : goal.parts_of-requires
parts_of-requires g c = all-fresh c.in_ok-cell.cell c.args.players.now c.in_ok-cell.passes.items c.in_ok-cell.ensures.passes
