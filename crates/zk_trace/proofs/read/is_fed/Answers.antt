use Rattle.std.proofs.Common.{eqb, eqb-true, inl, inr}
use Rattle.std.proofs.lemmas.Bool.{cases_Bool, eqb-false}
use Rattle.zk_words.specs.Bytes.{line_feed}
use Rattle.zk_trace.proofs.Feeds.{fed-is, is-fed}
use Rattle.zk_trace.proofs.read.is_fed.Goals as goal

pub returns-in-Some : goal.returns-in-Some
returns-in-Some c =
    let text = c.args.text.now in
    let front = c.in-Some.field-0-1.now in
    let last = c.in-Some.last.now in
    let whole = c.in-Some.ensures.cases.0 in (
      λ is. fed-is text front last whole (eqb-true last line_feed is),
      λ none. elim (cases_Bool (eqb last line_feed)) [
        | inl is ↦ is
        | inr other ↦ absurd (is-fed text front last whole (eqb-false last line_feed other) none)
      ],
    )
