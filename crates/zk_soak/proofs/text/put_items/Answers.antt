use Rattle.std.proofs.Common.{List, ℕ, ◌∙◌}
use Rattle.zk_scenario.specs.declared.types.Script.{Script}
use Rattle.zk_scenario.specs.Spelling.{script_lines, lines_text}
use Rattle.zk_soak.proofs.Left.{items_step}
use Rattle.zk_soak.proofs.text.put_items.Goals as goal

pub loop-item-preserved : goal.loop-item-preserved
loop-item-preserved c =
    let text : Script → List ℕ = λ script. lines_text (script_lines c.args.decls.now script) in
    items_step 16 c.loop-item.item c.loop-item-test.true text c.loop-item.out.items c.put_item.new.out.items c.in_ok-put_item.ensures ∙ c.loop-item.invariant
