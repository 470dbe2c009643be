use Rattle.std.proofs.Common.{◌+◌, ◌∙◌, ap, arith}
use Rattle.crossbeam_queue.specs.Passes.{view}
use Rattle.zk_msgsub.specs.declared.views.View.{View}
use Rattle.zk_msgsub.proofs.Dealing.{grows}
use Rattle.zk_msgsub.proofs.opening.+set_each.Goals as goal

pub another-requires-clause-rule : goal.another-requires-clause-rule
another-requires-clause-rule _ c =
    let pass = c.set_each.new.pass in
    let v = view pass in
    let is = c.set_each.ensures.set in
    grows pass.id v v.publishers (v.each + v.each) (ap (λ (u : View). u.takes) is) (ap (λ (u : View). u.dealt) is)
    (omega arith) (omega arith)

pub another-requires-then-each-eq1-clause-rule : goal.another-requires-then-each-eq1-clause-rule
another-requires-then-each-eq1-clause-rule _ c =
    let pass = c.another.new.pass in
    let v = view pass in
    let before = c.set_each.ensures.set in
    let is = c.another.ensures.rule.0 in
    grows pass.id v v.publishers (v.each + 1) (ap (λ (u : View). u.takes) is ∙ ap (λ (u : View). u.takes) before)
    (ap (λ (u : View). u.dealt) is ∙ ap (λ (u : View). u.dealt) before) (omega arith) (omega arith)
