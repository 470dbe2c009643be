use Rattle.std.proofs.Common.{◌≡◌, ◌++◌, ◌∙◌, ap}
use Rattle.std.proofs.lemmas.Result.{IfOk-from_err}
use Rattle.zk_soak.specs.Objects.{soak_decls}
use Rattle.zk_soak.specs.Soak.{soak_written, declared_text, thread_scripts, item_scripts}
use Rattle.zk_soak.proofs.SoakText.{scripts_text, text-parts}
use Rattle.zk_soak.proofs.text.soak_text.Goals as goal

pub returns : goal.returns
returns c =
    let decls = c.args.decls.now in
    let threads = thread_scripts 12 300 0 c.args.number in
    let front : c.put.new.out.items ≡ declared_text = c.in_ok-put.ensures.ok ∙ ap (λ l. c.new-text.result.items ++ l) c.declarations.ensures ∙ ap (λ l. l ++ declared_text) c.new-text.ensures.items in
    let drawn : c.put_threads.new.out.items ≡ c.put.new.out.items ++ scripts_text decls threads =
    c.in_ok-put_threads.ensures ∙ ap (λ x. c.put.new.out.items ++ scripts_text decls (thread_scripts 12 300 0 x)) c.from-draws.ensures in
    let first : c.put_threads.new.out.items ≡ declared_text ++ scripts_text decls threads = drawn ∙ ap (λ l. l ++ scripts_text decls threads) front in
    let second : c.put_items.new.out.items ≡ declared_text ++ scripts_text decls threads ++ scripts_text decls item_scripts = c.in_ok-put_items.ensures ∙ ap (λ l. l ++ scripts_text decls item_scripts) first in
    second ∙ ap (λ ds. declared_text ++ scripts_text ds threads ++ scripts_text ds item_scripts) c.requires ∙ text-parts soak_decls soak_written threads item_scripts

pub returns-in_err-put_items : goal.returns-in_err-put_items
returns-in_err-put_items c = IfOk-from_err c.from_residual-in_err-put_items.result _ c.from_residual-in_err-put_items.ensures.0
