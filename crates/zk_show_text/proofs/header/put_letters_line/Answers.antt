use Rattle.std.proofs.Common.{List, ℕ, [], ◌++◌, ◌∙◌, ap}
use Rattle.std.proofs.lemmas.Result.{on_ok_weaker}
use Rattle.zk_show_text.specs.Header.{letter_cell}
use Rattle.zk_show_text.specs.Line.{line}
use Rattle.zk_show_text.proofs.NameLines.{all_names}
use Rattle.zk_show_text.proofs.header.put_letters_line.Goals as goal

pub returns : goal.returns
returns c =
    let names =
    all_names (letter_cell c.args.width c.args.place) c.args.scenario.now.decls c.decls-decls.result.now c.threads.result.now c.queues.result.now
    [] c.new-line.result.items c.put_letters.new.out.items c.put_letters-2.new.out.items
    c.decls-decls.ensures.all c.threads.ensures c.queues.ensures c.new-line.ensures.items c.in_ok-put_letters.ensures c.in_ok-put_letters-2.ensures in
    on_ok_weaker c.put_line.result (λ done. done ∙ ap (λ (text : List ℕ). c.args.out.now.items ++ line text) (c.deref.ensures.value ∙ names)) c.put_line.ensures
