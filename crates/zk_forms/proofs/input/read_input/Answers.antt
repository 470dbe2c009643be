use Rattle.zk_forms.proofs.Pieces.{GaveAtMost-more}
use Rattle.zk_forms.proofs.input.read_input.Goals as goal

pub returns-in_err-read_some-clause-most : goal.returns-in_err-read_some-clause-most
returns-in_err-read_some-clause-most g c =
    GaveAtMost-more c.args.limit (g.S.Source.left c.args.source.now) (g.S.Source.left c.loop-chunk.source) (g.S.Source.left c.read_some.new.source)
    c.loop-chunk.bytes.items (rw c.loop-chunk.bytes.ok.0 at (rw c.len.ensures at c.loop-chunk-test.true)) c.loop-chunk.invariant.consumed (rw c.loop-chunk.bytes.ok.0 at c.read_some.ensures.most)
