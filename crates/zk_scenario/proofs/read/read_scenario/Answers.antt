use Rattle.std.proofs.Common.{◌≡◌, nat_lt, Ok, Err, ap, arith, rules, sym, ◌∙◌, eqb, length}
use Rattle.std.proofs.lemmas.Bool.{cond-false, le-ltb}
use Rattle.std.proofs.lemmas.List.Splits.{length-slice_split}
use Rattle.std.proofs.lemmas.List.Sums.{count_by-le-length}
use Rattle.zk_words.specs.Bytes.{line_feed}
use Rattle.zk_scenario.specs.declared.limits.TheConstants.{LONGEST_SCENARIO}
use Rattle.zk_scenario.specs.declared.refused.ScenarioRefused.TheVariants.{At}
use Rattle.zk_scenario.specs.declared.refused.Why.TheVariants as why
use Rattle.zk_scenario.specs.Grammar.{read_pieces, pieces_of, scenario_of}
use Rattle.zk_scenario.specs.Content.{Content}
use Rattle.zk_scenario.proofs.ReadText.{IsReadable-read, text_of-read}
use Rattle.zk_scenario.proofs.read.read_scenario.Goals as goal

pub read_pieces-requires : goal.read_pieces-requires
read_pieces-requires c =
    let text = c.args.text.now in
    omega (arith, ap length c.of-lines.ensures, length-slice_split (λ b. eqb b line_feed) text, count_by-le-length (λ b. eqb b line_feed) text)

pub of-requires : goal.of-requires
of-requires c =
    let parts : Content = record { decls = c.into_parts-objects.result.0; written = c.into_parts-objects.result.1.items; scripts = c.into_parts-objects.result.2 } in
    IsReadable-read c.args.text.now parts (search rules)

pub returns-in-Ok-clause-spelled : goal.returns-in-Ok-clause-spelled
returns-in-Ok-clause-spelled c =
    let text = c.args.text.now in
    let read : scenario_of text ≡ Ok c.of.result =
    cond-false (nat_lt LONGEST_SCENARIO (length text)) (Err (At 0 why.Length)) (read_pieces (pieces_of text)) (le-ltb LONGEST_SCENARIO (length text) c.if-text-gt-LONGEST_SCENARIO.false)
    ∙ ap read_pieces (sym c.of-lines.ensures) ∙ c.in-Ok.ensures
    ∙ cc in
    text_of-read text c.of.result read
