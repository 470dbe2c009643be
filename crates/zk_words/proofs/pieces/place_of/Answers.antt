use Rattle.zk_words.proofs.FirstPlace.{first-place}
use Rattle.zk_words.proofs.pieces.place_of.Goals as goal

pub returns : goal.returns
returns c = first-place c.args.byte c.args.text.now c.memchr.result c.memchr.ensures
