use Rattle.std.proofs.Common.{rules, ◌++◌, ◌∷◌, [], length, List, reverse, refl, sym, ap, ◌∙◌, arith}
use Rattle.std.proofs.lemmas.List.{reverse-reverse, map_push}
use Rattle.zk_scenario.specs.Players.{players}
use Rattle.zk_worker.specs.Places.{PlayerPlace}
use Rattle.zk_kernel.specs.Callers.{IsCaller, place_of}
use Rattle.zk_kernel.proofs.Gathering.{popped, split-next, one_fewer, none-left, gathered-whole, placed-whole, some-gathered}
use Rattle.zk_kernel.proofs.close.gather_all.Goals as goal

pub loop-caller-init : goal.loop-caller-init
loop-caller-init c =
    let callers = c.args.callers.items in
    record {
      front = [];
      split = sym (ap reverse c.reverse.ensures.items ∙ reverse-reverse callers);
      together = refl;
      own = search rules;
      placed = c.in_ok-players.ensures.items;
      room = search rules;
    }

pub gather_one-requires-clause-own : goal.gather_one-requires-clause-own
gather_one-requires-clause-own c =
    let l = c.loop-caller in
    (popped (IsCaller c.args.kernel.now) l.callers.items c.pop.new.self.items c.pop.result c.in-Some.caller c.pop.ensures.items c.in-Some.is l.invariant.own).1

pub gather_one-requires-clause-all : goal.gather_one-requires-clause-all
gather_one-requires-clause-all c = (c.loop-caller.invariant.front, c.loop-caller.invariant.together)

pub loop-caller-preserved : goal.loop-caller-preserved
loop-caller-preserved c =
    let l = c.loop-caller in
    let x = c.in-Some.caller in
    let front = l.invariant.front in
    let few = one_fewer l.callers.items c.pop.new.self.items c.pop.result x c.pop.ensures.items c.in-Some.is in
    let was = l.invariant.room in
    let len = c.in_ok-gather_one.ensures.len in
    let kept = c.in_ok-gather_one.ensures.capacity in
    record {
      front = front ++ x ∷ [];
      split = l.invariant.split ∙ split-next l.callers.items c.pop.new.self.items c.pop.result x front c.pop.ensures.items c.in-Some.is;
      together = c.in_ok-gather_one.ensures.all front l.invariant.together;
      own = (popped (IsCaller c.args.kernel.now) l.callers.items c.pop.new.self.items c.pop.result x c.pop.ensures.items c.in-Some.is l.invariant.own).0;
      placed = c.in_ok-gather_one.ensures.players ∙ ap (λ (ps : List PlayerPlace). ps ++ place_of x ∷ []) l.invariant.placed ∙ sym (map_push place_of front x);
      room = omega arith;
    }

pub unreachable-requires : goal.unreachable-requires
unreachable-requires c =
    let l = c.loop-caller in
    let left = l.callers.items in
    let gone = c.in_default.ensures in
    let none = none-left left c.pop.new.self.items _ gone.items gone.rest gone.cases.0 in
    some-gathered c.args.kernel.now.cells c.args.callers.items l.invariant.front left l.all (length (players c.args.kernel.now.scenario.decls))
    c.cells-cells.ensures.made.some c.requires.all.all l.invariant.together c.in_default-all.is l.invariant.split none

pub returns-clause-together : goal.returns-clause-together
returns-clause-together c =
    let l = c.loop-caller in
    let left = l.callers.items in
    let gone = c.in_default.ensures in
    let none = none-left left c.pop.new.self.items _ gone.items gone.rest gone.cases.0 in
    gathered-whole c.args.kernel.now.cells c.args.callers.items l.invariant.front left l.all c.in-Some-all.all l.invariant.together c.in-Some-all.is l.invariant.split none

pub returns-clause-players : goal.returns-clause-players
returns-clause-players c =
    let l = c.loop-caller in
    let left = l.callers.items in
    let gone = c.in_default.ensures in
    let none = none-left left c.pop.new.self.items _ gone.items gone.rest gone.cases.0 in
    placed-whole l.players.items c.args.callers.items l.invariant.front left l.invariant.placed l.invariant.split none
