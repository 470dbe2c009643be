use Rattle.zk_turn.specs.Words.{AreFirstWords}
use Rattle.zk_turn.proofs.opening.first_words.Given as goal

abbrev pub invariant-loop-index : goal.invariant-loop-index
invariant-loop-index g l = AreFirstWords l.index (g.S.Service.word (g.S.Service.start l.service)) l.words.items
