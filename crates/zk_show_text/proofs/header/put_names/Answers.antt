use Rattle.std.proofs.Common.{List, ℕ, ◌++◌, replicate, ◌∙◌, ap}
use Rattle.std.proofs.lemmas.Result.{on_ok_weaker}
use Rattle.zk_show_text.specs.Header.{name_cell}
use Rattle.zk_show_text.specs.Line.{line}
use Rattle.zk_show_text.proofs.NameLines.{all_names}
use Rattle.zk_show_text.proofs.header.put_names.Goals as goal

pub returns : goal.returns
returns c =
    let l = c.args.layout.now in
    let front = c.in_ok-put_spaces.ensures ∙ ap (λ (text : List ℕ). text ++ replicate l.gutter 32) c.new-line.ensures.items in
    let names =
    all_names (name_cell l.width) c.args.scenario.now.decls c.decls-decls.result.now c.threads.result.now c.queues.result.now
    (replicate l.gutter 32) c.put_spaces.new.out.items c.put_cells.new.out.items c.put_cells-2.new.out.items
    c.decls-decls.ensures.all c.threads.ensures c.queues.ensures front c.in_ok-put_cells.ensures c.in_ok-put_cells-2.ensures in
    on_ok_weaker c.put_line.result (λ done. done ∙ ap (λ (text : List ℕ). c.args.out.now.items ++ line text) (c.deref.ensures.value ∙ names)) c.put_line.ensures
