use Rattle.std.proofs.Common.{◌≡◌, All, Contains, [], ◌∷◌, ◌++◌, sym, ap, subst, ◌∙◌}
use Rattle.std.proofs.lemmas.List.{append_assoc}
use Rattle.std.proofs.lemmas.List.Elements.{All-cons, All-weaker}
use Rattle.crossbeam_queue.specs.Passes.{view}
use Rattle.zk_msgsub.specs.declared.views.View.{View}
use Rattle.zk_msgsub.specs.Seats.{IsSeatOf, seat_publisher, seat_sent}
use Rattle.zk_msgsub.specs.Views.{pushed_by}
use Rattle.zk_msgsub.proofs.Closing.{All-last, no-seat, now-there, still-there, stays-pass}
use Rattle.zk_msgsub.proofs.Dealing.{merges}
use Rattle.zk_msgsub.proofs.msg_sub.MsgSub.gather.Goals as goal

pub absorb-requires-clause-rule : goal.absorb-requires-clause-rule
absorb-requires-clause-rule c = merges _ _ _ _ c.loop-seat.invariant.0.takes

pub loop-seat-preserved : goal.loop-seat-preserved
loop-seat-preserved c =
    let sub = c.args.self.now in
    let pass = c.loop-seat.pass in
    let seat = c.in-Some.seat in
    let inv = c.loop-seat.invariant in
    let before = c.loop-seat.seats in
    let after = c.pop.new.self in
    let is = c.in-Some.ensures.items in
    let own = All-last (IsSeatOf sub) before.items after.items seat is inv.2 in
    let now = c.absorb.ensures.rule in
    let v = view pass in
    let u = view seat.pass in
    let w = view c.absorb.new.pass in
    let done = inv.3.0 in (
      record {
        own = stays-pass sub.queue pass c.absorb.new.pass inv.0.own c.absorb.ensures.queue;
        takes = ap (λ (x : View). x.takes) now ∙ inv.0.takes;
        of_publishers = ap (λ (x : View). x.publishers) now ∙ inv.0.of_publishers;
      },
      ap (λ (x : View). x.taken) now ∙ inv.1,
      own.0,
      (
        seat ∷ done,
        sym (append_assoc after.items (seat ∷ []) done) ∙ ap (λ l. l ++ done) (sym is) ∙ inv.3.1,
        All-cons (λ s. Contains w.lists (pushed_by (seat_publisher s) (seat_sent s))) seat done
            (now-there v u w now (pushed_by (seat_publisher seat) (seat_sent seat)) own.1.stands.one_list)
            (All-weaker (λ s. Contains v.lists (pushed_by (seat_publisher s) (seat_sent s))) (λ s. Contains w.lists
            (pushed_by (seat_publisher s) (seat_sent s)))
            (still-there v u w now) done inv.3.2),
      ),
    )

pub returns : goal.returns
returns c =
    let inv = c.loop-seat.invariant in
    let none = no-seat c.loop-seat.seats.items (sym c.loop-seat.seats.ok.0 ∙ c.in_default.ensures.cases.0) in
    let done = inv.3.0 in
    let same : done ≡ c.args.seats.items = ap (λ l. l ++ done) (sym none) ∙ inv.3.1 in
    record {
      all = record {
        is = inv.0;
        lists = subst (All (λ s. Contains (view c.loop-seat.pass).lists (pushed_by (seat_publisher s) (seat_sent s)))) same
            inv.3.2;
        taken_is = inv.1;
      };
    }
