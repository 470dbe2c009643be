use Rattle.std.proofs.Common.{sym}
use Rattle.zk_turn.proofs.Passes.{short_now, acted_now}
use Rattle.zk_base.specs.Legal.{IsLegal}
use Rattle.zk_turn.specs.Words.{KeepsOthers}
use Rattle.zk_turn.proofs.held.Held.act.Goals as goal

pub act-requires-clause-short : goal.act-requires-clause-short
act-requires-clause-short g c = short_now (IsLegal g.S.Service.machine) g.S.Service.start g.S.Service.history
    (KeepsOthers g.S.Service.machine g.S.Service.start g.S.Service.history g.S.Service.word g.S.Service.WORDS g.S.Service.touched) c.args.self.now c.requires.held c.requires.fresh

pub returns-in-Ok-Some-clause-held : goal.returns-in-Ok-Some-clause-held
returns-in-Ok-Some-clause-held g c =
    acted_now g.S.Service.machine g.S.Service.start g.S.Service.history g.S.Service.word g.S.Service.WORDS
    g.S.Service.touched c.args.self.now c.act.new.self c.args.step
    c.args.op c.in-Ok-Some.reply c.requires.held c.requires.fresh c.requires.alone c.requires.later
    c.requires.range (sym (rw c.in-Ok-Some.field-0-is at c.in-Ok-Some.ensures.reply))
    (rw c.in-Ok-Some.field-0-is at c.in-Ok-Some.ensures.entry) c.act.ensures.start c.act.ensures.touched
