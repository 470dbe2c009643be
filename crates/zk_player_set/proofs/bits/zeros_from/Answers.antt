use Rattle.std.proofs.Common.{◌+◌, sym, ◌∙◌, arith}
use Rattle.zk_player_set.specs.Players.{has_bit}
use Rattle.zk_player_set.proofs.BitWords.{turned-bit, not-true, not-false}
use Rattle.zk_player_set.proofs.bits.zeros_from.Goals as goal

pub returns-clause-zeros : goal.returns-clause-zeros
returns-clause-zeros c = λ other low high.
    let within = c.ones_from.ensures.within in
    not-true (has_bit c.args.word other)
    (sym (turned-bit c.args.word other (omega arith) (omega (arith, within))) ∙ c.ones_from.ensures.ones other low high)

pub returns-clause-end : goal.returns-clause-end
returns-clause-end c = λ high.
    not-false (has_bit c.args.word (c.args.bit + c.ones_from.result))
    (sym (turned-bit c.args.word (c.args.bit + c.ones_from.result) (omega arith) high) ∙ c.ones_from.ensures.end high)
