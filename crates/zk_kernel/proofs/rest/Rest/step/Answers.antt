use Rattle.std.proofs.Common.{◌≡◌, ◌-◌, ◌^◌, true, Some, length, set, refl, sym, ap, subst, ◌∙◌, arith}
use Rattle.std.specs.Prelude.{IfOk, OnErr}
use Rattle.std.specs.List.{slice_get}
use Rattle.std.proofs.lemmas.Option.{slice_get_read}
use Rattle.zk_services.specs.Alone.{plain_machines, plain_shown}
use Rattle.zk_worker.specs.Attempt.{Counts}
use Rattle.zk_worker.specs.Machines.{Machines}
use Rattle.zk_worker.specs.Playing.{StepOutcome}
use Rattle.zk_worker.specs.Right.{LooksRight}
use Rattle.zk_world.specs.World.{world}
use Rattle.zk_world.proofs.Readiness.{short-shown}
use Rattle.zk_kernel.specs.Rests.{Left, HasGoneOn, HasWantedThere}
use Rattle.zk_kernel.proofs.GoingOn.{result-sound, gone-on, wanted-there}
use Rattle.zk_kernel.proofs.rest.Rest.step.Goals as goal

-- plain services count nothing
abbrev uncounted : Counts
uncounted step = 2 ^ 64 - 1

pub step-requires-clause-log : goal.step-requires-clause-log
step-requires-clause-log c =
    let players = c.self.inside.players in
    let at = c.index_mut-player.result.now in
    let view = ap (λ (l : Left). length l.world.players) c.self.view_is in
    let is : slice_get players.items c.args.number ≡ Some at = slice_get_read players.items (length players.items) c.args.number at refl (omega (arith, view, c.requires.player, players.ok.0)) c.index_mut-player.ensures.value in
    c.self.invariant.1.ready.shows c.args.number at is

pub step-requires-clause-looks : goal.step-requires-clause-looks
step-requires-clause-looks c =
    let players = c.self.inside.players in
    let at = c.index_mut-player.result.now in
    let view = ap (λ (l : Left). length l.world.players) c.self.view_is in
    let is : slice_get players.items c.args.number ≡ Some at = slice_get_read players.items (length players.items) c.args.number at refl (omega (arith, view, c.requires.player, players.ok.0)) c.index_mut-player.ensures.value in
    subst (λ (m : Machines). LooksRight m (plain_shown c.self.inside.services) at.spots) (sym c.self.invariant.0) (c.self.invariant.1.ready.looks c.args.number at is)

pub step-requires-clause-short : goal.step-requires-clause-short
step-requires-clause-short c = λ alone. short-shown c.self.inside.scenario (world (plain_shown c.self.inside.services) c.self.inside.players.items) c.self.invariant.1.ready

pub invariant_of-self : goal.invariant_of-self
invariant_of-self c =
    let inside = c.self.inside in
    let players = inside.players in
    let at = c.index_mut-player.result.now in
    let view = ap (λ (l : Left). length l.world.players) c.self.view_is in
    let is : slice_get players.items c.args.number ≡ Some at = slice_get_read players.items (length players.items) c.args.number at refl (omega (arith, view, c.requires.player, players.ok.0)) c.index_mut-player.ensures.value in (
      c.step.ensures.machines ∙ c.self.invariant.0,
      result-sound (plain_machines inside.services) inside.scenario at c.step.new.self (plain_shown inside.services) (plain_shown c.step.new.services) players.items c.args.number uncounted uncounted c.step.result
          c.self.invariant.0 c.self.invariant.1 is c.step.ensures.does c.step.ensures.unchanged c.step.ensures.err,
    )

pub returns-clause-does : goal.returns-clause-does
returns-clause-does c =
    let inside = c.self.inside in
    let players = inside.players in
    let at = c.index_mut-player.result.now in
    let view = ap (λ (l : Left). length l.world.players) c.self.view_is in
    let is : slice_get players.items c.args.number ≡ Some at = slice_get_read players.items (length players.items) c.args.number at refl (omega (arith, view, c.requires.player, players.ok.0)) c.index_mut-player.ensures.value in
    let does = subst (λ (m : Machines). IfOk c.step.result (λ stepped. StepOutcome true m inside.scenario at c.step.new.self (plain_shown inside.services) (plain_shown c.step.new.services) uncounted uncounted stepped)) c.self.invariant.0 c.step.ensures.does in
    let new : Left = record { scenario = inside.scenario; world = world (plain_shown c.step.new.services) (set players.items c.args.number c.step.new.self) } in
    subst (λ (old : Left). IfOk c.step.result (λ stepped. HasGoneOn old new c.args.number stepped)) c.self.view_is
    (gone-on (record { scenario = inside.scenario; world = world (plain_shown inside.services) players.items }) new c.args.number at c.step.new.self uncounted uncounted c.step.result refl is refl does)

pub returns-clause-memory : goal.returns-clause-memory
returns-clause-memory c =
    let inside = c.self.inside in
    let players = inside.players in
    let at = c.index_mut-player.result.now in
    let view = ap (λ (l : Left). length l.world.players) c.self.view_is in
    let is : slice_get players.items c.args.number ≡ Some at = slice_get_read players.items (length players.items) c.args.number at refl (omega (arith, view, c.requires.player, players.ok.0)) c.index_mut-player.ensures.value in
    subst (λ (old : Left). OnErr c.step.result (HasWantedThere old c.args.number)) c.self.view_is
    (wanted-there (record { scenario = inside.scenario; world = world (plain_shown inside.services) players.items }) c.args.number at (plain_machines inside.services) (plain_shown c.step.new.services) c.step.result
    c.self.invariant.0 is c.step.ensures.err c.step.ensures.memory)
