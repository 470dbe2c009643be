use Rattle.std.proofs.Common.{◌<◌, All, List, length, refl, sym, ap, subst, ◌∙◌}
use Rattle.zk_base.specs.declared.ids.Who.{Who}
use Rattle.zk_scenario.specs.Content.{Content}
use Rattle.zk_scenario.specs.Players.{players}
use Rattle.zk_cells.specs.Dealt.{AreUndealt}
use Rattle.zk_cells.specs.Joined.{whos}
use Rattle.zk_cells.specs.Kernels.{Shared}
use Rattle.zk_kernel.specs.Opened.{IsUnplayed, AreNewCallers}
use Rattle.zk_kernel.proofs.NewCallers.{unused-all, whos-differ, whos-few, made-for, callers-new}
use Rattle.zk_kernel.proofs.kernel.Kernel.new.Goals as goal

pub open_cells-requires-clause-unused : goal.open_cells-requires-clause-unused
open_cells-requires-clause-unused c =
    unused-all c.in_ok-services.services c.in_ok-own.own c.in_ok-services.ensures.machines c.in_ok-services.ensures.shown

pub open_cells-requires-clause-few : goal.open_cells-requires-clause-few
open_cells-requires-clause-few c =
    whos-few c.in_ok-own.own c.in_ok-players.players.items c.deref-2.result.now c.in_ok-services.ensures.valid
    (c.in_ok-players.ensures, c.deref-2.ensures.value ∙ c.in_ok-whos.ensures ∙ ap whos c.deref.ensures.value)

pub open_cells-requires-clause-differ : goal.open_cells-requires-clause-differ
open_cells-requires-clause-differ c =
    whos-differ c.in_ok-own.own c.in_ok-players.players.items c.deref-2.result.now
    (c.in_ok-players.ensures, c.deref-2.ensures.value ∙ c.in_ok-whos.ensures ∙ ap whos c.deref.ensures.value)

pub of-kernel-requires : goal.of-kernel-requires
of-kernel-requires c =
    made-for c.in_ok-own.own c.in_ok-players.players.items c.deref-2.result.now c.in_ok-cells.cells c.in_ok-services.services
    c.in_ok-services.ensures.valid
    (c.in_ok-players.ensures, c.deref-2.ensures.value ∙ c.in_ok-whos.ensures ∙ ap whos c.deref.ensures.value)
    c.in_ok-cells.ensures.machines c.in_ok-services.ensures.machines c.in_ok-cells.ensures.whole
    (subst (λ (s : Content). 0 < length (players s.decls)) (sym c.in_ok-own.ensures.copy) c.requires.some)

pub returns-clause-callers : goal.returns-clause-callers
returns-clause-callers c =
    let own = c.in_ok-own.own in
    let cells = c.in_ok-cells.cells in
    let known = c.deref-2.ensures.value ∙ c.in_ok-whos.ensures ∙ ap whos c.deref.ensures.value in
    let callers = c.in_ok-callers.callers.items in
    let k : Shared = record { cells = cells; scenario = own } in
    let dealt = subst (λ (j : Shared). AreUndealt j.cells (whos c.in_ok-players.players.items) c.in_ok-cells.undealt → All (IsUnplayed j) callers) c.of-kernel.ensures c.in_ok-callers.ensures.new in
    subst (λ (k : Shared). AreNewCallers k callers) (sym c.of-kernel.ensures)
    (callers-new k (length (players own.decls)) callers c.in_ok-services.ensures.valid
    (c.in_ok-cells.ensures.machines ∙ c.in_ok-services.ensures.machines) refl
    (c.in_ok-callers.ensures.players ∙ c.in_ok-players.ensures)
    (dealt (subst (λ (ws : List Who). AreUndealt cells ws c.in_ok-cells.undealt) known c.in_ok-cells.ensures.passes)))
