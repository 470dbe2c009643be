use Rattle.std.proofs.Common.{◌<◌, length, arith}
use Rattle.crossbeam_queue.specs.Passes.{view, ruled_capacity}
use Rattle.zk_msgsub.specs.Steps.{first_messages}
use Rattle.zk_msgsub.proofs.Dealing.{finds_full}
use Rattle.zk_msgsub.proofs.Learning.{has_few}
use Rattle.zk_msgsub.proofs.Moving.{pushes}
use Rattle.zk_msgsub.proofs.msg_sub.MsgSub.push.Goals as goal

pub push_as-requires-clause-rule : goal.push_as-requires-clause-rule
push_as-requires-clause-rule g c =
    let seat = c.args.seat.now in
    let v = view seat.pass in
    let own = c.requires.own in
    let calls = own.calls in
    let each = own.stands.of_each in
    let room = c.requires.room in
    let some_room : length (first_messages v.lists) < v.each = omega arith in (
      pushes (ruled_capacity c.args.self.now.queue) seat.pass.id v (record {
        publisher = seat.publisher;
        number = seat.next;
        message = c.args.message;
      })
          own.stands.one_list own.number some_room,
      has_few seat.pass.id v seat.publisher own.stands.one_list some_room,
    )

pub another-requires-clause-rule : goal.another-requires-clause-rule
another-requires-clause-rule g c = finds_full _ _
