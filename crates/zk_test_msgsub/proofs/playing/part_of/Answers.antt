use Rattle.zk_test_msgsub.proofs.Starts.{changes, sends}
use Rattle.zk_test_msgsub.proofs.playing.part_of.Goals as goal

pub returns : goal.returns
returns c =
    let f = c.args.shared.now in
    let fresh = c.requires.pass in
    let seats = c.requires.seats in
    let own = c.new.ensures.own f.fan f.subs.items fresh.0 fresh.1 seats.own in
    record {
      publisher = sends f c.new.result c.args.pass c.args.seats.items fresh seats c.new.ensures.pass c.new.ensures.seats own;
      changer = changes f.fan c.args.changer c.requires.changer;
      subscriber = c.requires.range;
    }
