use Rattle.std.proofs.lemmas.Result.{on_ok_weaker}
use Rattle.zk_trace.proofs.Lines.{line-put}
use Rattle.zk_trace.proofs.lined.EntryLined.put_line.Goals as goal

pub returns-clause-text : goal.returns-clause-text
returns-clause-text g c =
    on_ok_weaker c.push.result
    (line-put _ _ _ _ _ _ _ _ _ c.in_ok-put_spot.ensures.text c.in_ok-put_words.ensures.text c.in_ok-put.ensures.text c.in_ok-put_words-2.ensures.text)
    c.push.ensures.text
