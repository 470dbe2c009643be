use Rattle.std.proofs.Common.{◌≡◌, Some, length, slice_get, refl, arith}
use Rattle.std.proofs.lemmas.Option.{slice_get_read}
use Rattle.zk_replay.proofs.Listed.{put-itself, put-still, listed-set, listed-here}
use Rattle.zk_replay.proofs.sleepers.join.Goals as goal

pub returns-clause-joined : goal.returns-clause-joined
returns-clause-joined c = λ yes.
    let lists = c.args.lists.now in
    let set = c.index_mut.result.now in
    let there : slice_get lists.items c.args.list ≡ Some set =
    slice_get_read lists.items (length lists.items) c.args.list set refl (omega (arith, lists.ok.0)) c.index_mut.ensures.value in
    listed-here lists.items c.args.list set c.insert.new.self c.args.player there
    (put-itself set c.insert.new.self c.args.player c.insert.ensures c.requires)

pub returns-clause-kept : goal.returns-clause-kept
returns-clause-kept c = λ k p stood.
    let lists = c.args.lists.now in
    let set = c.index_mut.result.now in
    let there : slice_get lists.items c.args.list ≡ Some set =
    slice_get_read lists.items (length lists.items) c.args.list set refl (omega (arith, lists.ok.0)) c.index_mut.ensures.value in
    listed-set lists.items c.args.list set c.insert.new.self k p there
    (put-still set c.insert.new.self c.args.player c.insert.ensures p) stood
