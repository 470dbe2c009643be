use Rattle.std.proofs.Common.{◌++◌, map, ap, sym, ◌∙◌, append_assoc}
use Rattle.std.proofs.lemmas.Result.{IfOk-equal}
use Rattle.zk_words.specs.Table.{row_of}
use Rattle.zk_line.specs.Args.{arg_text}
use Rattle.zk_line.specs.Calls.{standing}
use Rattle.zk_line.specs.Text.{behind}
use Rattle.zk_line.proofs.Joined.{line_text-behind}
use Rattle.zk_line.proofs.print.put_said.Goals as goal

pub returns-clause-text : goal.returns-clause-text
returns-clause-text c =
    let out = c.args.out.now.items in
    let first = (row_of c.args.head).first in
    let words = map (arg_text c.args.decls.now) (standing c.args.args.now) in
    IfOk-equal _ _ _ _ c.put_args.ensures.text
    (ap (λ l. l ++ behind words) c.in_ok-put_first.ensures.text ∙ append_assoc out first (behind words) ∙ ap (λ l. out ++ l) (sym (line_text-behind first words)))
