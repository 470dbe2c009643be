use Rattle.std.proofs.Common.{true, false, Some, refl, ap, ◌∙◌, rules}
use Rattle.zk_scenario.specs.Verdict.{is_past_limit}
use Rattle.zk_scenario.proofs.Verdicts.{verdict_number, verdict_name, verdict_right}
use Rattle.zk_scenario.proofs.reader.Reader.judge.Goals as goal

pub returns-in-Some-OutOfRange : goal.returns-in-Some-OutOfRange
returns-in-Some-OutOfRange c =
    verdict_number c.args.self.now c.self.inside.objects c.args.head c.args.parts.now c.in_ok-judge_words.field-0 c.judge_words.new.args (ap (λ r. r.decls) c.self.view_is) c.is_free_line.result c.is_free_line.ensures c.in_ok-judge_words.ensures (search rules)
    (c.in-Some-OutOfRange.is ∙ ap Some c.in-Some-OutOfRange.field-0-is)

pub returns-in-Some-Misnamed : goal.returns-in-Some-Misnamed
returns-in-Some-Misnamed c =
    verdict_name c.args.self.now c.self.inside.objects c.args.head c.args.parts.now c.in_ok-judge_words.field-0 c.judge_words.new.args (ap (λ r. r.decls) c.self.view_is) c.is_free_line.result c.is_free_line.ensures c.in_ok-judge_words.ensures (search rules)
    (c.in-Some-Misnamed.is ∙ ap Some c.in-Some-Misnamed.field-0-is)

pub returns-then-is_said_before : goal.returns-then-is_said_before
returns-then-is_said_before c =
    (verdict_right c.args.self.now c.self.inside.objects c.args.head c.args.parts.now c.in_ok-judge_words.field-0 c.judge_words.new.args (ap (λ r. r.decls) c.self.view_is) c.is_free_line.result c.is_free_line.ensures c.in_ok-judge_words.ensures (search rules) true (is_past_limit c.args.self.now c.args.head c.args.parts.now) c.in-None.is (search rules) refl).0

pub returns-then-is_past_limit : goal.returns-then-is_past_limit
returns-then-is_past_limit c =
    (verdict_right c.args.self.now c.self.inside.objects c.args.head c.args.parts.now c.in_ok-judge_words.field-0 c.judge_words.new.args (ap (λ r. r.decls) c.self.view_is) c.is_free_line.result c.is_free_line.ensures c.in_ok-judge_words.ensures (search rules) false true c.in-None.is (search rules) (search rules)).0

pub returns-else-is_past_limit : goal.returns-else-is_past_limit
returns-else-is_past_limit c =
    verdict_right c.args.self.now c.self.inside.objects c.args.head c.args.parts.now c.in_ok-judge_words.field-0 c.judge_words.new.args (ap (λ r. r.decls) c.self.view_is) c.is_free_line.result c.is_free_line.ensures c.in_ok-judge_words.ensures (search rules) false false c.in-None.is (search rules) (search rules)
