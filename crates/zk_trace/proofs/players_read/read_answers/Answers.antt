use Rattle.std.proofs.Common.{◌≡◌, ℕ, Option, List, length, sym, ap, subst, ◌∙◌}
use Rattle.std.specs.Prelude.{option_map}
use Rattle.zk_line.specs.declared.types.Decl.{Decl}
use Rattle.zk_worker.specs.declared.answers.Answered.{Answered}
use Rattle.zk_trace.specs.AnswerRead.{answered_of}
use Rattle.zk_trace.specs.SectionRead.{are_all}
use Rattle.zk_trace.proofs.RowsRead.{last_of, IsWithin, reads_on, counted_begin, counted_more, within_more, counted_over, untold-seen, within_none}
use Rattle.zk_trace.proofs.players_read.read_answers.Goals as goal

-- each answer is said whatever stands before it
abbrev says_of : List Decl → Option Answered → List ℕ → Option Answered
says_of decls last = answered_of decls

pub loop-alloc-init : goal.loop-alloc-init
loop-alloc-init c =
    let says = says_of c.args.scenario.now.decls in
    let none = sym c.new-answers.ensures in
    record {
      read = counted_begin says c.args.count c.args.feed.now ∙ ap (λ l. reads_on says c.args.count l (last_of l) c.args.feed.now) none;
      within = subst (λ l. IsWithin c.args.count (length l)) none (within_none c.args.count);
    }

pub loop-alloc-preserved : goal.loop-alloc-preserved
loop-alloc-preserved c =
    let says = says_of c.args.scenario.now.decls in
    let answers = c.loop-alloc.answers in
    let long : length answers ≡ c.len.result = sym c.len.ensures in
    let some = ap (are_all c.args.count) long ∙ sym c.are_all.ensures ∙ c.loop-alloc-test.true in
    let read = rw c.in-Some.is at c.in_ok-answered.ensures.row in
    let more = sym c.in_ok-push.ensures.ok in
    record {
      read = c.loop-alloc.invariant.read
          ∙ counted_more says c.args.count answers c.in-Some.answered (last_of answers) c.loop-alloc.feed c.read_row.new.feed some c.loop-alloc.invariant.within read
          ∙ ap (λ l. reads_on says c.args.count l (last_of l) c.read_row.new.feed) more;
      within = subst (λ l. IsWithin c.args.count (length l)) more (within_more says c.args.count answers c.in-Some.answered some c.loop-alloc.invariant.within);
    }

pub returns-in_default : goal.returns-in_default
returns-in_default c =
    let says = says_of c.args.scenario.now.decls in
    let answers = c.loop-alloc.answers in
    let long : length answers ≡ c.len.result = sym c.len.ensures in
    let some = ap (are_all c.args.count) long ∙ sym c.are_all.ensures ∙ c.loop-alloc-test.true in
    let read = rw c.in_default.is at c.in_ok-answered.ensures.row in
    c.loop-alloc.invariant.read
    ∙ counted_over says c.args.count answers (last_of answers) c.loop-alloc.feed c.read_row.new.feed some c.loop-alloc.invariant.within read
    ∙ ap (λ o. (o, c.read_row.new.feed)) (sym (ap (option_map (λ x. x)) c.where_untold.ensures ∙ untold-seen (λ x. x) c.args.count answers))
