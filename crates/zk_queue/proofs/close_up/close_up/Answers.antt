use Rattle.std.proofs.Common.{◌≡◌, ℕ, ◌-◌, All, Option, List, Some, length, map, refl, sym, ap, subst, ◌∙◌, arith}
use Rattle.zk_queue.specs.declared.ticket.Ticket.{Ticket}
use Rattle.zk_queue.specs.Places.{IsHome}
use Rattle.zk_queue.specs.Ring.{living}
use Rattle.zk_queue.proofs.Keeping.{leaves-all, leaves-both, homes-turned, homes-left}
use Rattle.zk_queue.proofs.Lives.{turns, turns-all, turns-next, length-turned}
use Rattle.zk_queue.proofs.close_up.close_up.Goals as goal

pub loop-init : goal.loop-init
loop-init c =
    let all : length c.args.ring.now.entries - 0 ≡ length c.args.ring.now.entries = omega arith in
    record {
      turns = ap (λ (n : ℕ). turns n c.args.ring.now.entries) all ∙ turns-all c.args.ring.now.entries;
      left = omega arith;
      capacity = refl;
      homes = c.requires.homes;
      stands = c.requires.stands;
      places = leaves-all c.args.queue c.args.places.now;
    }

pub loop-preserved : goal.loop-preserved
loop-preserved c =
    let inv = c.loop.invariant in
    let next = c.turn.ensures.next in
    let fewer = length-turned c.loop.ring.entries in
    let shorter = ap length next in
    let left = inv.left in
    let more = c.loop-test.true in
    record {
      turns = turns-next (length c.args.ring.now.entries) c.loop.counter c.loop.ring.entries c.turn.new.ring.entries
          (map (λ (t : Ticket). Some t) (living c.args.ring.now.entries)) (omega (arith, c.len-end.ensures)) next inv.turns;
      left = omega arith;
      capacity = c.turn.ensures.capacity ∙ inv.capacity;
      homes = subst (λ (es : List (Option Ticket)). All (IsHome c.turn.new.places c.args.queue) (living es)) (sym next)
          (homes-turned (IsHome c.turn.new.places c.args.queue) c.loop.ring.entries
          (homes-left c.args.queue c.loop.places c.turn.new.places (living c.loop.ring.entries) c.turn.ensures.places inv.homes));
      stands = c.turn.ensures.stands;
      places = leaves-both c.args.queue c.args.places.now c.loop.places c.turn.new.places inv.places c.turn.ensures.places;
    }
