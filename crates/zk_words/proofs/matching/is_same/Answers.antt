use Rattle.std.proofs.Common.{◌≤◌, ◌∙◌, sym, subst, length}
use Rattle.std.proofs.lemmas.List.{take_all}
use Rattle.std.proofs.lemmas.Slice.Eq.{bytes_eq-Decides}
use Rattle.zk_words.proofs.matching.is_same.Goals as goal

pub returns : goal.returns
returns c =
    let word = c.args.word.now in
    let other = c.args.other.now in
    let at = c.loop-at.at in
    let past : length other ≤ at = subst (λ n. n ≤ at) c.if-word-other.false c.loop-at-test.false in
    sym ((bytes_eq-Decides word other).1 (sym (take_all at word c.loop-at-test.false) ∙ c.loop-at.invariant ∙ take_all at other past))
