use Rattle.std.proofs.Common.{◌+◌, Global, Vec, take, ap, refl, subst, sym, ◌∙◌}
use Rattle.zk_msgsub.specs.declared.publisher.Sent.{Sent}
use Rattle.zk_msgsub.specs.declared.seats.PubSeat.{PubSeat}
use Rattle.zk_msgsub.specs.Fan.{is_once_each}
use Rattle.zk_msgsub.specs.Publishers.{AreSeatsOf, HasPushed, members}
use Rattle.zk_msgsub.proofs.Sending.{after-push, full-room, own-seat, passed-over, pushed-room, seat-room}
use Rattle.zk_msgsub.proofs.publisher.push_all.Goals as goal
use Rattle.zk_msgsub.proofs.publisher.push_all.Goals.{then-index-subs, else-index-subs}

pub push_one-requires-clause-own : goal.push_one-requires-clause-own
push_one-requires-clause-own g c =
    let l = c.loop-number in
    let once = ap is_once_each c.numbers-numbers.ensures.same ∙ c.requires.once in
    own-seat c.args.subs.now c.args.message c.args.seats.now.items l.seats.items l.sent.pushed l.sent.full
    c.numbers-numbers.result.now l.number-index once c.loop-number-test.true
    l.invariant.0 l.invariant.1 c.index-subs-index.result c.index_mut.result.now c.if-index-subs.true c.index-subs-index.is
    c.index_mut.ensures.value

pub push_one-requires-clause-room : goal.push_one-requires-clause-room
push_one-requires-clause-room g c =
    let l = c.loop-number in
    let once = ap is_once_each c.numbers-numbers.ensures.same ∙ c.requires.once in
    seat-room c.args.subs.now c.args.message c.args.seats.now.items l.seats.items l.sent.pushed l.sent.full
    c.numbers-numbers.result.now l.number-index once c.loop-number-test.true
    l.invariant.0 l.invariant.1 c.index-subs-index.result c.index_mut.result.now c.if-index-subs.true c.index-subs-index.is
    c.index_mut.ensures.value c.requires.room

pub push_one-requires-clause-pushed : goal.push_one-requires-clause-pushed
push_one-requires-clause-pushed g c =
    let l = c.loop-number in
    let once = ap is_once_each c.numbers-numbers.ensures.same ∙ c.requires.once in
    pushed-room c.args.subs.now c.args.message c.args.seats.now.items l.seats.items l.sent.pushed l.sent.full
    c.numbers-numbers.result.now l.number-index once c.loop-number-test.true
    l.invariant.0 l.invariant.1 c.numbers-numbers.ensures.few

pub push_one-requires-clause-full : goal.push_one-requires-clause-full
push_one-requires-clause-full g c =
    let l = c.loop-number in
    let once = ap is_once_each c.numbers-numbers.ensures.same ∙ c.requires.once in
    full-room c.args.subs.now c.args.message c.args.seats.now.items l.seats.items l.sent.pushed l.sent.full
    c.numbers-numbers.result.now l.number-index once c.loop-number-test.true
    l.invariant.0 l.invariant.1 c.numbers-numbers.ensures.few

pub loop-number-preserved : goal.loop-number-preserved
loop-number-preserved g c =
    let l = c.loop-number in
    let numbers = c.numbers-numbers.result.now in
    let subs = c.args.subs.now in
    let message = c.args.message in
    let old = c.args.seats.now.items in
    let once = ap is_once_each c.numbers-numbers.ensures.same ∙ c.requires.once in
    elim c.if-index-subs.branch [
      | then-index-subs w ↦
          let now = after-push subs message old l.seats.items l.sent.pushed l.sent.full numbers l.number-index once
          c.loop-number-test.true
          l.invariant.0 l.invariant.1 w.index-subs-index.result w.index_mut.result.now w.push_one.new.seat l.sent
          w.push_one.new.sent w.if-index-subs.true
          w.index-subs-index.is w.index_mut.ensures.value refl refl w.push_one.ensures.own w.push_one.ensures.one in
          subst (λ (y : Vec PubSeat Global × Sent). AreSeatsOf subs y.0.items
          × HasPushed subs (members subs (take (l.number-index + 1) numbers)) message old y.0.items y.1.pushed y.1.full)
          (λ i. (sym w.seats-is i, sym w.sent-is i)) now
      | else-index-subs w ↦
          let past = passed-over subs message old l.seats.items l.sent.pushed l.sent.full numbers l.number-index once
          c.loop-number-test.true
          l.invariant.0 l.invariant.1 w.if-index-subs.false in
          subst (λ (y : Vec PubSeat Global × Sent). AreSeatsOf subs y.0.items
          × HasPushed subs (members subs (take (l.number-index + 1) numbers)) message old y.0.items y.1.pushed y.1.full)
          (λ i. (sym w.seats-is i, sym w.sent-is i)) (l.invariant.0, past)
    ]
