use Rattle.std.proofs.Common.{◌∙◌, ℕ, ◌/◌, ◌%◌, List, ◌++◌, sym, ap, arith}
use Rattle.std.proofs.lemmas.List.{append_assoc}
use Rattle.std.specs.Fmt.{decimal}
use Rattle.zk_paper.proofs.Figures.{last_figure}
use Rattle.zk_paper.proofs.row.Row.put_two.Goals as goal

pub returns-clause-text : goal.returns-clause-text
returns-clause-text c =
    let n = c.args.number in
    let ten = c.if-number-lt10.false in
    let few = c.requires.few in
    c.put_pair.ensures.text ∙ append_assoc c.args.self.now (decimal (n / 10)) (decimal (n % 10)) ∙
    ap (λ (l : List ℕ). c.args.self.now ++ l) (sym (last_figure n (omega arith) (omega arith)))
