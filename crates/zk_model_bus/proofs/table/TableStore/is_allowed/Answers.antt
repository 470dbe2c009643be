use Rattle.std.proofs.Common.{Bool, List, fold, ap, ◌∙◌, arith}
use Rattle.std.proofs.lemmas.Grind.{common_steps}
use Rattle.std.proofs.lemmas.List.{take_all}
use Rattle.std.proofs.lemmas.List.Sums.{fold_more}
use Rattle.zk_model_bus.specs.declared.table.TableEntry.{TableEntry}
use Rattle.zk_model_bus.specs.Table.{is_declared, is_allowed, said}
use Rattle.zk_model_bus.proofs.table.TableStore.is_allowed.Goals as goal

pub loop-entry-preserved : goal.loop-entry-preserved
loop-entry-preserved c =
    let setup = c.self.inside.setup in
    let word : Bool → TableEntry → Bool = λ before e. said setup c.args.player c.args.object before e.player e.op in
    grind (arith, common_steps, fold_more)

pub returns : goal.returns
returns c =
    let setup = c.self.inside.setup in
    let word : Bool → TableEntry → Bool = λ before e. said setup c.args.player c.args.object before e.player e.op in
    let whole = take_all c.loop-entry.entry-index c.deref-entry-items.result.now c.loop-entry-test.false
    ∙ c.deref-entry-items.ensures.value in
    c.loop-entry.invariant
    ∙ ap (λ (es : List TableEntry). fold word (is_declared setup c.args.player c.args.object) es) whole
    ∙ ap (λ t. is_allowed t.table c.args.player c.args.object) c.self.view_is
