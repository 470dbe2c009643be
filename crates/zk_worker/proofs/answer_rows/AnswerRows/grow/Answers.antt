use Rattle.std.proofs.Common.{ap}
use Rattle.zk_worker.proofs.KeptAnswers.{kept-now, told-now}
use Rattle.zk_worker.proofs.answer_rows.AnswerRows.grow.Goals as goal

pub invariant_of-self-2 : goal.invariant_of-self-2
invariant_of-self-2 c =
    let rows = c.push_within.ensures.items in
    let brief = c.brief_by-brief.ensures in
    let count = c.len.ensures in
    let ready_count = c.len-2.ensures in
    kept-now c.self.inside.messages.items c.self.inside.ready.items c.self.inside.rows.items c.args.answered.step c.args.answered.word c.args.answered.answer c.self.invariant
    c.grow_apart.new.messages.items c.grow_apart.new.ready.items c.push_within.new.items.items c.in_ok-grow_apart.ensures.with_message c.in_ok-grow_apart.ensures.with_positions (cc)

pub returns-clause-ok : goal.returns-clause-ok
returns-clause-ok c =
    let rows = c.push_within.ensures.items in
    let brief = c.brief_by-brief.ensures in
    let count = c.len.ensures in
    let ready_count = c.len-2.ensures in
    told-now c.self.inside.messages.items c.self.inside.ready.items c.self.inside.rows.items c.args.answered.step c.args.answered.word c.args.answered.answer c.self.invariant
    c.grow_apart.new.messages.items c.grow_apart.new.ready.items c.push_within.new.items.items c.args.self.now.items c.in_ok-grow_apart.ensures.with_message c.in_ok-grow_apart.ensures.with_positions (cc) (ap (λ v. v.items) c.self.view_is)
