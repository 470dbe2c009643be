use Rattle.std.proofs.Common.{false, Option, sym, ap, subst, ◌∙◌}
use Rattle.std.specs.Prelude.{IfOk, OnErr}
use Rattle.zk_base.specs.declared.ids.Who.{Who}
use Rattle.zk_scenario.specs.Content.{Content}
use Rattle.zk_worker.specs.Machines.{Machines, machines_of}
use Rattle.zk_worker.specs.Playing.{HasWanted, StepOutcome}
use Rattle.zk_cells.specs.declared.cells.Cells.{Cells}
use Rattle.zk_cells.specs.declared.passes.Passes.{Passes}
use Rattle.zk_cells.specs.Desks.{cells_machines, IsServed, desk_shown, desk_counts}
use Rattle.zk_cells.specs.Memory.{wants_none}
use Rattle.zk_kernel.specs.Callers.{IsAtDesk, shown_by, counts_by}
use Rattle.zk_kernel.proofs.Callers.{same-who, still-sound}
use Rattle.zk_kernel.proofs.caller.Caller.step.Goals as goal

pub returns-clause-who : goal.returns-clause-who
returns-clause-who g c =
    let old = c.in-Some.passes in
    let new = c.step-stepped.new.services.passes in
    same-who false (cells_machines c.cells-cells.result.now) c.scenario.result.now c.args.self.now.player c.step-stepped.new.self (desk_shown old) (desk_shown new)
    (desk_counts old) (desk_counts new) c.step-stepped.result c.step-stepped.ensures.does c.step-stepped.ensures.unchanged

pub returns-clause-own : goal.returns-clause-own
returns-clause-own g c =
    let k = c.args.kernel.now in
    let at = c.args.self.now.player in
    let made = c.step-stepped.new.self in
    let old = c.in-Some.passes in
    let new = c.step-stepped.new.services.passes in
    let cells = c.cells-cells.result.now in
    let same = c.cells-cells.ensures.cells in
    let kernel = c.cells-cells.ensures.made in
    let was = subst (λ (o : Option Passes). IsAtDesk k.cells k.scenario at o) (sym c.take.ensures.value ∙ c.in-Some.is) c.requires.own.1 in
    let who = same-who false (cells_machines cells) c.scenario.result.now at made (desk_shown old) (desk_shown new) (desk_counts old) (desk_counts new) c.step-stepped.result
    c.step-stepped.ensures.does c.step-stepped.ensures.unchanged in
    let served = (c.step-stepped.ensures.serves at.who).0 (subst (λ (cs : Cells). IsServed cs old at.who) (sym same) was.served) in
    let does = subst (λ (s : Content). IfOk c.step-stepped.result (λ stepped. StepOutcome false (cells_machines cells) s at made (desk_shown old) (desk_shown new) (desk_counts old) (desk_counts new) stepped))
    c.scenario.ensures.scenario c.step-stepped.ensures.does in (
      c.requires.own.0,
      record {
        served = subst (λ (w : Who). IsServed k.cells new w) (sym who) (subst (λ (cs : Cells). IsServed cs new at.who) (c.step-stepped.ensures.home ∙ same) served);
        sound = still-sound (cells_machines cells) k.scenario at made (desk_shown old) (desk_shown new) (desk_counts old) (desk_counts new) c.step-stepped.result
            kernel.valid (ap cells_machines same ∙ kernel.machines) was.sound does c.step-stepped.ensures.unchanged c.step-stepped.ensures.err;
      },
    )

pub returns-clause-does : goal.returns-clause-does
returns-clause-does g c =
    let k = c.args.kernel.now in
    let at = c.args.self.now.player in
    let made = c.step-stepped.new.self in
    let old = c.in-Some.passes in
    let new = c.step-stepped.new.services.passes in
    let cells = c.cells-cells.result.now in
    let machines = ap cells_machines c.cells-cells.ensures.cells ∙ c.cells-cells.ensures.made.machines in
    let does = subst (λ (s : Content). IfOk c.step-stepped.result (λ stepped. StepOutcome false (cells_machines cells) s at made (desk_shown old) (desk_shown new) (desk_counts old) (desk_counts new) stepped))
    c.scenario.ensures.scenario c.step-stepped.ensures.does in
    let there = subst (λ (m : Machines). IfOk c.step-stepped.result (λ stepped. StepOutcome false m k.scenario at made (desk_shown old) (desk_shown new) (desk_counts old) (desk_counts new) stepped)) machines does in
    subst (λ (o : Option Passes). IfOk c.step-stepped.result (λ stepped. StepOutcome false (machines_of k.scenario) k.scenario at made (shown_by o) (desk_shown new) (counts_by o) (desk_counts new) stepped))
    (sym (sym c.take.ensures.value ∙ c.in-Some.is)) there

pub returns-clause-memory : goal.returns-clause-memory
returns-clause-memory g c =
    let k = c.args.kernel.now in
    let at = c.args.self.now.player in
    let new = c.step-stepped.new.services.passes in
    let cells = c.cells-cells.result.now in
    let machines = ap cells_machines c.cells-cells.ensures.cells ∙ c.cells-cells.ensures.made.machines in
    let wanted = subst (λ (s : Content). OnErr c.step-stepped.result (HasWanted wants_none (cells_machines cells) (desk_shown new) s at)) c.scenario.ensures.scenario c.step-stepped.ensures.memory in
    subst (λ (m : Machines). OnErr c.step-stepped.result (HasWanted wants_none m (desk_shown new) k.scenario at)) machines wanted
