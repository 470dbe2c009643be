use Rattle.std.proofs.Common.{eqb, sym, ◌∙◌}
use Rattle.zk_words.specs.Bytes.{space}
use Rattle.zk_side.proofs.FirstWord.{first_within}
use Rattle.zk_side.proofs.play.play_line.Goals as goal

pub put_entry-requires : goal.put_entry-requires
put_entry-requires g c =
    first_within (λ b. eqb b space) c.args.line.now c.in-Some.word.now c.next.new.self
    (sym c.of-words.ensures ∙ c.in-Some.ensures)
