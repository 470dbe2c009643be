use Rattle.std.proofs.Common.{rules, ap, subst, ◌∙◌}
use Rattle.zk_scenario.specs.Reading.{parts_of}
use Rattle.zk_scenario.specs.Valid.{IsValid}
use Rattle.zk_scenario.proofs.RightCalls.{right_call, IsValid-right, taken-right}
use Rattle.zk_scenario.proofs.reader.Reader.read_call_of.Goals as goal

pub call-requires-clause-valid : goal.call-requires-clause-valid
call-requires-clause-valid c =
    let right = right_call c.args.self.now c.args.word c.args.words c.self.inside.objects c.next_is_free-free.result c.clear.new.self c.say_words.new.args c.put_call_of.new.place (search rules) (ap (λ r. r.decls) c.self.view_is) c.next_is_free-free.ensures c.clear.ensures (search rules) (search rules) in
    IsValid-right _ _ _ _ _ right (subst (λ r. IsValid (parts_of r)) c.self.view_is c.self.invariant.valid)

pub returns-clause-taken : goal.returns-clause-taken
returns-clause-taken c =
    let right = right_call c.args.self.now c.args.word c.args.words c.self.inside.objects c.next_is_free-free.result c.clear.new.self c.say_words.new.args c.put_call_of.new.place (search rules) (ap (λ r. r.decls) c.self.view_is) c.next_is_free-free.ensures c.clear.ensures (search rules) (search rules) in
    λ done. taken-right _ _ _ _ _ right ∙ search rules
