use Rattle.zk_test_msgsub.specs.Parts.{IsDone}
use Rattle.zk_test_msgsub.proofs.Rounds.{of-last, of-others}
use Rattle.zk_test_msgsub.proofs.playing.close_two.Goals as goal

pub take_apart-pass-requires-clause-done : goal.take_apart-pass-requires-clause-done
take_apart-pass-requires-clause-done g c =
    let done = of-others (IsDone c.args.shared) c.args.parts.items c.pop.new.self.items c.in-Some.other
    c.in-Some.ensures.items c.requires.done in
    of-last (IsDone c.args.shared) c.pop.new.self.items c.pop-2.new.self.items c.in-Some-pop.one c.in-Some-pop.ensures.items done

pub take_apart-all-requires-clause-done : goal.take_apart-all-requires-clause-done
take_apart-all-requires-clause-done g c =
    of-last (IsDone c.args.shared) c.args.parts.items c.pop.new.self.items c.in-Some.other c.in-Some.ensures.items
    c.requires.done
