use Rattle.std.proofs.Common.{◌<◌, length, arith, refl, sym, ◌∙◌}
use Rattle.std.proofs.lemmas.Option.{slice_get_read}
use Rattle.zk_failures.proofs.Owns.{owns-put, owns-past}
use Rattle.zk_failures.proofs.place.put_row.Goals as goal

pub returns-then-player-len-clause-put : goal.returns-then-player-len-clause-put
returns-then-player-len-clause-put c = λ same lines are. owns-past lines c.args.row c.args.owns.now.items are (omega arith)

pub returns-then-not-may_stand-clause-may : goal.returns-then-not-may_stand-clause-may
returns-then-not-may_stand-clause-may c = λ lines are within.
    let owns = c.args.owns.now.items in
    let player = c.args.row.player in
    let there = slice_get_read owns (length owns) player c.index.result.now refl within c.index.ensures in
    sym c.if-not-may_stand.true ∙ c.may_stand.ensures lines (are player c.index.result.now there)

pub returns-clause-may : goal.returns-clause-may
returns-clause-may c = λ lines are within.
    let owns = c.args.owns.now.items in
    let player = c.args.row.player in
    let there = slice_get_read owns (length owns) player c.index.result.now refl within c.index.ensures in
    sym c.if-not-may_stand.false ∙ c.may_stand.ensures lines (are player c.index.result.now there)

pub returns-clause-put : goal.returns-clause-put
returns-clause-put c = λ same lines are.
    let owns = c.args.owns.now.items in
    let player = c.args.row.player in
    let within : player < length owns = omega arith in
    let there = slice_get_read owns (length owns) player c.index_mut.result.now refl within c.index_mut.ensures.value in
    owns-put lines c.args.row owns c.index_mut.result.now c.put.new.self are there (c.in_ok-put.ensures lines)
