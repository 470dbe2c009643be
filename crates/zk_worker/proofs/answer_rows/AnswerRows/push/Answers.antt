use Rattle.std.proofs.Common.{ap}
use Rattle.zk_worker.proofs.KeptAnswers.{kept-now, told-now}
use Rattle.zk_worker.proofs.answer_rows.AnswerRows.push.Goals as goal

pub invariant_of-self : goal.invariant_of-self
invariant_of-self c =
    let rows = c.push_within.ensures.items in
    let brief = c.brief_by-brief.ensures in
    let count = c.len.ensures in
    let ready_count = c.len-2.ensures in
    kept-now c.self.inside.messages.items c.self.inside.ready.items c.self.inside.rows.items c.args.step c.args.word c.args.answer.now c.self.invariant
    c.put_apart.new.messages.items c.put_apart.new.ready.items c.push_within.new.items.items c.put_apart.ensures.with_message c.put_apart.ensures.with_positions (cc)

pub returns-clause-items : goal.returns-clause-items
returns-clause-items c =
    let rows = c.push_within.ensures.items in
    let brief = c.brief_by-brief.ensures in
    let count = c.len.ensures in
    let ready_count = c.len-2.ensures in
    told-now c.self.inside.messages.items c.self.inside.ready.items c.self.inside.rows.items c.args.step c.args.word c.args.answer.now c.self.invariant
    c.put_apart.new.messages.items c.put_apart.new.ready.items c.push_within.new.items.items c.args.self.now.items c.put_apart.ensures.with_message c.put_apart.ensures.with_positions (cc) (ap (λ v. v.items) c.self.view_is)
