use Rattle.std.proofs.Common.{◌≡◌, ℕ, suc, ◌+◌, false, refl, ◌++◌, ◌∷◌, [], Some, List, length, slice_get, sym, ap, subst, ◌∙◌, arith, append_assoc}
use Rattle.std.proofs.lemmas.List.{length-append}
use Rattle.std.specs.Vec.Iter.{into_iter_items}
use Rattle.zk_base.proofs.Lists.{All-at}
use Rattle.zk_msgsub.specs.Publishers.{FanPass, IsPublisherOf}
use Rattle.zk_feed.specs.declared.feeder.Feeder.{Feeder}
use Rattle.zk_feed.specs.Feeding.{AreNewRows, AreReady, IsReady, players_upto}
use Rattle.zk_feed.proofs.Opening.{IsFresh, new-passes, new-rows-pop, players-many, ready-push, starts-feeding}
use Rattle.zk_feed.proofs.Places.{at-end, none-at}
use Rattle.zk_feed.proofs.shared.Shared.feeders.Goals as goal

pub loop-pass-init : goal.loop-pass-init
loop-pass-init c =
    let f = c.args.self.now in
    let none = c.in_ok-feeders.ensures.items in
    let capacity = c.in_ok-feeders.ensures.capacity in
    let len = c.len.ensures in
    let ok = c.args.passes.ok.0 in
    record {
      items = c.into_iter-pass-iterator.ensures.into_iter_gives.0;
      many = (new-passes f.fan (players_upto f.size.publishers) c.args.passes.items c.requires.passes).0
          ∙ players-many f.size.publishers;
      rows = c.requires.rows;
      ready = record {
        count = ap (λ (l : List Feeder). length l) none;
        each = λ p x at. absurd (none-at x p (subst (λ (l : List Feeder). slice_get l p ≡ Some x) none at));
      };
      made = c.in_ok-feeders.ensures.len;
      room = omega arith;
    }

pub unreachable-requires : goal.unreachable-requires
unreachable-requires c =
    let l = c.loop-pass in
    let f = c.args.self.now in
    let rest = into_iter_items c.next.new.self in
    let pass = c.in-Some.pass in
    let many = l.invariant.rows.many in
    let none = c.in_default.ensures.cases.0 in
    let ok = l.rows.ok.0 in
    let whole : l.yielded ++ (pass ∷ rest) ≡ c.args.passes.items =
    ap (λ (ps : List FanPass). l.yielded ++ ps) (sym c.in-Some.ensures.steps.0) ∙ l.invariant.items in
    let long = length-append l.yielded (pass ∷ rest) in
    let all = ap (λ (ps : List FanPass). length ps) whole in
    let passes = (new-passes f.fan (players_upto f.size.publishers) c.args.passes.items c.requires.passes).0 in
    let players = players-many f.size.publishers in
    omega arith

pub loop-pass-preserved : goal.loop-pass-preserved
loop-pass-preserved c =
    let l = c.loop-pass in
    let f = c.args.self.now in
    let rest = into_iter_items c.next.new.self in
    let pass = c.in-Some.pass in
    let n = length l.yielded in
    let seats = c.in-Some-pop.seats in
    let publisher = c.new.result in
    let whole : l.yielded ++ (pass ∷ rest) ≡ c.args.passes.items =
    ap (λ (ps : List FanPass). l.yielded ++ ps) (sym c.in-Some.ensures.steps.0) ∙ l.invariant.items in
    let here = subst (λ (ps : List FanPass). slice_get ps n ≡ Some pass) whole (at-end l.yielded rest pass) in
    let all = new-passes f.fan (players_upto f.size.publishers) c.args.passes.items c.requires.passes in
    let fresh = All-at (IsFresh f.fan) c.args.passes.items n pass all.1 here in
    let rows = new-rows-pop f.size f.subs.items n l.rows.items c.pop.new.self.items seats c.in-Some-pop.ensures.items
    l.invariant.rows in
    let own : IsPublisherOf f.fan f.subs.items publisher = c.new.ensures.own f.fan f.subs.items fresh.0 fresh.1 rows.1.row.own in
    let feeding = starts-feeding f n publisher pass seats.items fresh.0 fresh.1 rows.1 c.new.ensures.pass c.new.ensures.seats
    own in
    let pushed = c.push_within.ensures in
    let long = length-append l.yielded (pass ∷ []) in
    let long' = length-append l.yielded (pass ∷ rest) in
    let count = ap (λ (ps : List FanPass). length ps) whole in
    let many = all.0 in
    let players = players-many f.size.publishers in
    let one : IsReady f n (record { publisher = publisher; refused = false }) =
    record { below = omega arith; fine = refl; feeding = feeding } in
    let made = l.invariant.made in
    let room = l.invariant.room in
    let len = pushed.len in
    let kept = pushed.capacity in
    let next : n + 1 ≡ length (l.yielded ++ pass ∷ []) = omega arith in
    let next' : suc n ≡ length (l.yielded ++ pass ∷ []) = omega arith in
    record {
      items = append_assoc l.yielded (pass ∷ []) rest ∙ whole;
      many = l.invariant.many;
      rows = subst (λ (k : ℕ). AreNewRows f.size f.subs.items k c.pop.new.self.items) next' rows.0;
      ready = subst (λ (y : ℕ × List Feeder). AreReady f y.0 y.1) (λ i. (next i, sym pushed.items i))
          (ready-push f n l.feeders.items (record { publisher = publisher; refused = false }) l.invariant.ready one);
      made = omega arith;
      room = omega arith;
    }
