use Rattle.std.proofs.Common.{ℕ, false, length, Option, refl, sym, ap, subst, ◌∙◌, arith}
use Rattle.zk_base.specs.declared.ids.Who.{Who}
use Rattle.zk_scenario.specs.Content.{Content}
use Rattle.zk_scenario.specs.Steps.{steps_of}
use Rattle.zk_worker.specs.Machines.{Machines, machines_of}
use Rattle.zk_worker.specs.Places.{PlayerPlace}
use Rattle.zk_worker.specs.Protocol.{after}
use Rattle.zk_worker.specs.Shown.{IsLater}
use Rattle.zk_worker.proofs.Between.{log-later}
use Rattle.zk_worker.proofs.CheckedSteps.{after-spots}
use Rattle.zk_worker.proofs.Limits.{ahead_left}
use Rattle.zk_worker.proofs.Ranges.{ahead-takes}
use Rattle.zk_worker.proofs.Trying.{attempted-some, attempted-none, attempted-err}
use Rattle.zk_world.proofs.Players.{player-still, player-made}
use Rattle.zk_cells.specs.declared.cells.Cells.{Cells}
use Rattle.zk_cells.specs.declared.passes.Passes.{Passes}
use Rattle.zk_kernel.specs.Callers.{IsAtDesk}
use Rattle.zk_cells.specs.Desks.{cells_machines, IsServed, desk_shown}
use Rattle.zk_cells.proofs.Attempts.{memory-told}
use Rattle.zk_kernel.proofs.Callers.{playing-on}
use Rattle.zk_kernel.proofs.caller.Caller.attempt.Goals as goal

pub attempt-reply-requires-clause-served : goal.attempt-reply-requires-clause-served
attempt-reply-requires-clause-served g c =
    let k = c.args.kernel.now in
    let at = c.args.self.now.player in
    let was = subst (λ (o : Option Passes). IsAtDesk k.cells k.scenario at o) (sym c.take.ensures.value ∙ c.in-Some.is) c.requires.own.1 in
    subst (λ (w : Who). IsServed c.cells-cells.result.now c.in-Some.passes w) (sym c.who.ensures)
    (subst (λ (cs : Cells). IsServed cs c.in-Some.passes at.who) (sym c.cells-cells.ensures.cells) was.served)

pub attempt-reply-requires-clause-range : goal.attempt-reply-requires-clause-range
attempt-reply-requires-clause-range g c =
    let k = c.args.kernel.now in
    let at = c.args.self.now.player in
    let was = subst (λ (o : Option Passes). IsAtDesk k.cells k.scenario at o) (sym c.take.ensures.value ∙ c.in-Some.is) c.requires.own.1 in
    let made = c.cells-cells.ensures.made in
    ahead-takes k.scenario (cells_machines c.cells-cells.result.now) at made.valid (ap cells_machines c.cells-cells.ensures.cells ∙ made.machines) was.sound.fits
    c.args.step.now c.requires.ahead

pub attempt-reply-requires-clause-later : goal.attempt-reply-requires-clause-later
attempt-reply-requires-clause-later g c =
    let k = c.args.kernel.now in
    let at = c.args.self.now.player in
    let was = subst (λ (o : Option Passes). IsAtDesk k.cells k.scenario at o) (sym c.take.ensures.value ∙ c.in-Some.is) c.requires.own.1 in
    let shown = desk_shown c.in-Some.passes in
    subst (λ (n : ℕ). IsLater shown c.who.result.number n) (sym c.steps.ensures.count)
    (subst (λ (w : Who). IsLater shown w.number (length at.spots)) (sym c.who.ensures) (log-later at.who.number at.spots shown was.sound.log))

pub attempt-reply-requires-clause-room : goal.attempt-reply-requires-clause-room
attempt-reply-requires-clause-room g c =
    let k = c.args.kernel.now in
    let most = ap (λ (m : Machines). m.most) (ap cells_machines c.cells-cells.ensures.cells ∙ c.cells-cells.ensures.made.machines) in
    let left = ahead_left k.scenario c.args.self.now.player c.args.step.now c.requires.ahead in
    omega (arith, most, left, c.steps.ensures.count)

pub made-requires-clause-room : goal.made-requires-clause-room
made-requires-clause-room g c =
    let k = c.args.kernel.now in
    let at = c.args.self.now.player in
    let was = subst (λ (o : Option Passes). IsAtDesk k.cells k.scenario at o) (sym c.take.ensures.value ∙ c.in-Some.is) c.requires.own.1 in
    was.sound.fits.room ∙ ap steps_of (sym c.scenario.ensures.scenario)

pub returns-in_err-reply-clause-own : goal.returns-in_err-reply-clause-own
returns-in_err-reply-clause-own g c =
    let k = c.args.kernel.now in
    let at = c.args.self.now.player in
    let old = c.in-Some.passes in
    let new = c.attempt-reply.new.self.passes in
    let was = subst (λ (o : Option Passes). IsAtDesk k.cells k.scenario at o) (sym c.take.ensures.value ∙ c.in-Some.is) c.requires.own.1 in
    let m = cells_machines c.cells-cells.result.now in
    let others = attempted-err false false m m at.who c.who.result (length at.spots) c.steps.result c.args.step.now (desk_shown old) (desk_shown new) c.in_err-reply.field-0.0
    refl refl c.who.ensures c.steps.ensures.count c.in_err-reply.ensures.attempted in
    let playing = playing-on c.cells-cells.result.now k.cells k.scenario at at c.attempt-reply.new.self.cells.now old new c.cells-cells.ensures.cells c.attempt-reply.ensures.home refl was.served
    (c.attempt-reply.ensures.serves at.who).0 (player-still false k.scenario at (desk_shown old) (desk_shown new) others was.sound) in
    (c.requires.own.0, playing)

pub returns-in_default-2-clause-own : goal.returns-in_default-2-clause-own
returns-in_default-2-clause-own g c =
    let k = c.args.kernel.now in
    let at = c.args.self.now.player in
    let old = c.in-Some.passes in
    let new = c.attempt-reply.new.self.passes in
    let was = subst (λ (o : Option Passes). IsAtDesk k.cells k.scenario at o) (sym c.take.ensures.value ∙ c.in-Some.is) c.requires.own.1 in
    let m = cells_machines c.cells-cells.result.now in
    let none = attempted-none false false m m at.who c.who.result (length at.spots) c.steps.result c.args.step.now (desk_shown old) (desk_shown new) c.in_ok-reply.field-0
    refl refl c.who.ensures c.steps.ensures.count c.in_ok-reply.ensures.attempted c.in_default-2.is in
    let playing = playing-on c.cells-cells.result.now k.cells k.scenario at at c.attempt-reply.new.self.cells.now old new c.cells-cells.ensures.cells c.attempt-reply.ensures.home refl was.served
    (c.attempt-reply.ensures.serves at.who).0 (player-still false k.scenario at (desk_shown old) (desk_shown new) none.0 was.sound) in
    (c.requires.own.0, playing)

pub returns-clause-own : goal.returns-clause-own
returns-clause-own g c =
    let k = c.args.kernel.now in
    let at = c.args.self.now.player in
    let next = c.made.new.self in
    let old = c.in-Some.passes in
    let new = c.attempt-reply.new.self.passes in
    let was = subst (λ (o : Option Passes). IsAtDesk k.cells k.scenario at o) (sym c.take.ensures.value ∙ c.in-Some.is) c.requires.own.1 in
    let cells = c.cells-cells.result.now in
    let m = cells_machines cells in
    let kernel = c.cells-cells.ensures.made in
    let made = attempted-some false false m m at.who c.who.result (length at.spots) c.steps.result c.args.step.now (desk_shown old) (desk_shown new) c.in_ok-reply.field-0 c.in-Some-2.reply
    refl refl c.who.ensures c.steps.ensures.count c.in_ok-reply.ensures.attempted c.in-Some-2.is in
    let led = c.made.ensures.next ∙ ap (λ (s : Content). after s at c.args.step.now c.in-Some-2.reply) c.scenario.ensures.scenario in
    let playing = playing-on cells k.cells k.scenario at next c.attempt-reply.new.self.cells.now old new c.cells-cells.ensures.cells c.attempt-reply.ensures.home
    (ap (λ (a : PlayerPlace). a.who) led ∙ (after-spots k.scenario at c.args.step.now c.in-Some-2.reply).0) was.served (c.attempt-reply.ensures.serves at.who).0
    (player-made false m k.scenario at next c.args.step.now c.in-Some-2.reply (desk_shown old) (desk_shown new) kernel.valid (ap cells_machines c.cells-cells.ensures.cells ∙ kernel.machines)
    was.sound c.requires.ahead made led) in
    (c.requires.own.0, playing)

pub returns-clause-who : goal.returns-clause-who
returns-clause-who g c =
    let k = c.args.kernel.now in
    let at = c.args.self.now.player in
    let led = c.made.ensures.next ∙ ap (λ (s : Content). after s at c.args.step.now c.in-Some-2.reply) c.scenario.ensures.scenario in
    ap (λ (a : PlayerPlace). a.who) led ∙ (after-spots k.scenario at c.args.step.now c.in-Some-2.reply).0

pub returns-in_err-reply-clause-memory : goal.returns-in_err-reply-clause-memory
returns-in_err-reply-clause-memory g c =
    let k = c.args.kernel.now in
    let at = c.args.self.now.player in
    let m = cells_machines c.cells-cells.result.now in
    let same = ap cells_machines c.cells-cells.ensures.cells ∙ c.cells-cells.ensures.made.machines in
    let shown = desk_shown c.attempt-reply.new.self.passes in
    memory-told m (machines_of k.scenario) shown c.who.result at.who c.args.step.now c.from_residual.result same c.who.ensures c.in_err-reply.ensures.memory
