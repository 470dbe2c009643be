use Rattle.std.proofs.Common.{ℕ, length, All, sym, ap, subst, ◌∙◌}
use Rattle.zk_worker.specs.declared.log.Log.{Log}
use Rattle.zk_trace.specs.Stood.{stood}
use Rattle.zk_failures.specs.LookOrder.{IsWithin}
use Rattle.zk_failures.specs.LooksHeld.{all_orders, AreHeld, IsFirstUnheld}
use Rattle.zk_failures.proofs.LooksFound.{held-right, unheld-first, steps-within, missed-below, missed_row}
use Rattle.zk_failures.proofs.LooksTold.{moved}
use Rattle.zk_failures.proofs.PlacedFew.{placed-short}
use Rattle.zk_failures.proofs.looks.look_failure.Goals as goal

pub first_missed-requires-clause-short : goal.first_missed-requires-clause-short
first_missed-requires-clause-short c = (placed-short c.args.scenario.now c.args.trace.now c.decls-valid.ensures.valid c.requires.form c.requires.placed).work

pub row_of_look-missed_row-requires : goal.row_of_look-missed_row-requires
row_of_look-missed_row-requires c =
    missed-below c.args.scenario.now c.args.trace.now c.requires.form c.requires.placed c.decls-valid.ensures.valid c.in_ok-missed.missed c.in_ok-missed.ensures

pub all_orders-requires : goal.all_orders-requires
all_orders-requires c =
    let s = c.args.scenario.now in
    let t = c.args.trace.now in
    let short = placed-short s t c.decls-valid.ensures.valid c.requires.form c.requires.placed in
    subst (λ (n : ℕ). All (λ (log : Log). All (IsWithin n) log.steps) c.items.result.now) (sym (ap length c.items-objects.ensures))
    (subst (All (λ (log : Log). All (IsWithin (length t.signals)) log.steps)) (sym c.items.ensures) (steps-within s t c.requires.form c.requires.placed short))

pub returns-in-Some : goal.returns-in-Some
returns-in-Some c =
    let s = c.args.scenario.now in
    let t = c.args.trace.now in
    unheld-first s t c.requires.form c.requires.placed c.in_ok-missed.missed c.in_ok-missed.ensures c.in-Some.row
    (moved (λ signals orders missed rows. IsFirstUnheld signals orders missed rows c.in-Some.row)
    c.items-2.result.now t.signals c.deref.result.now (all_orders t.logs) c.row_of_look-missed_row.result (missed_row s t c.requires.form c.requires.placed c.in_ok-missed.missed)
    c.args.rows.now (stood t) c.items-2.ensures (c.deref.ensures.value ∙ c.in_ok-orders.ensures ∙ ap all_orders c.items.ensures) c.row_of_look-missed_row.ensures c.requires.rows c.in-Some.ensures)

pub returns : goal.returns
returns c =
    let s = c.args.scenario.now in
    let t = c.args.trace.now in
    held-right s t c.requires.form c.requires.placed c.in_ok-missed.missed c.in_ok-missed.ensures
    (moved AreHeld
    c.items-2.result.now t.signals c.deref.result.now (all_orders t.logs) c.row_of_look-missed_row.result (missed_row s t c.requires.form c.requires.placed c.in_ok-missed.missed)
    c.args.rows.now (stood t) c.items-2.ensures (c.deref.ensures.value ∙ c.in_ok-orders.ensures ∙ ap all_orders c.items.ensures) c.row_of_look-missed_row.ensures c.requires.rows c.in-None.ensures)
