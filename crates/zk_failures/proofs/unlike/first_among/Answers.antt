use Rattle.std.proofs.Common.{◌≡◌, ◌+◌, Some, None, length, set, refl, sym, ap, subst, ◌∙◌, arith}
use Rattle.std.specs.List.{slice_get}
use Rattle.std.specs.Option.{option_map}
use Rattle.std.proofs.lemmas.List.{length-map}
use Rattle.std.proofs.lemmas.Option.{slice_get_read, slice_get-map}
use Rattle.std.proofs.lemmas.Slice.Zip.{AllZip-long}
use Rattle.zk_services.specs.Objects.{starts_of, history_of, histories_of}
use Rattle.zk_services.proofs.Among.{starts-same}
use Rattle.zk_trace.specs.Text.{looks_at}
use Rattle.zk_failures.specs.Answering.{FirstUnlikeAt, StandsAt, FirstAmong, line_count}
use Rattle.zk_failures.specs.Playable.{IsPlayableAt}
use Rattle.zk_failures.proofs.AmongObjects.{zip-at, objects-long, cut-there, none-first, none-there, none-next, none-last, histories-set, first-within, found-here, found-behind, found-none, passed-both, passed-none}
use Rattle.zk_failures.proofs.unlike.first_among.Goals as goal

pub loop-object-init : goal.loop-object-init
loop-object-init g c =
    let objects = c.args.objects.now.items in
    let hs = c.args.histories.now in
    let starts = starts_of g.S.Service.start objects in
    let long = objects-long (IsPlayableAt g.S.Service.machine) g.S.Service.start objects starts hs refl c.requires.playable in
    let named = length-map objects (history_of g.S.Service.history) in
    record {
      counted = omega arith;
      found = λ row found. subst (FirstAmong g.S.Service.machine c.args.looks.now 0 starts hs) (sym (passed-none g.S.Service.machine c.args.looks.now row)) found;
      histories = none-first (histories_of g.S.Service.history objects) hs (omega arith) c.requires.none;
      starts = refl;
    }

pub first_unlike_at-requires-clause-none : goal.first_unlike_at-requires-clause-none
first_unlike_at-requires-clause-none g c =
    let m = g.S.Service.machine in
    let start = g.S.Service.start in
    let history = g.S.Service.history in
    let was = c.loop-object.invariant in
    let objects = c.loop-object.objects.items in
    let hs = c.args.histories.now in
    let k = c.loop-object.object in
    let h = c.index-histories-object.result in
    let slot = c.index_mut.result.now in
    let long = objects-long (IsPlayableAt m) start objects (starts_of start c.args.objects.now.items) hs was.starts c.requires.playable in
    let there = slice_get_read objects (length objects) k slot refl (omega (arith, long, c.loop-object-test.true)) c.index_mut.ensures.value in
    let own = slice_get_read hs (length hs) k h refl c.loop-object-test.true c.index-histories-object.is in
    let named : slice_get (histories_of history objects) k ≡ Some (history_of history slot) = slice_get-map (history_of history) objects k ∙ ap (option_map (history_of history)) there in
    none-there hs k (history_of history slot) c.loop-object-test.true (ap (λ l. slice_get l k) (sym was.histories) ∙ named)

pub first_unlike_at-requires-clause-playable : goal.first_unlike_at-requires-clause-playable
first_unlike_at-requires-clause-playable g c =
    let m = g.S.Service.machine in
    let start = g.S.Service.start in
    let history = g.S.Service.history in
    let was = c.loop-object.invariant in
    let objects = c.loop-object.objects.items in
    let hs = c.args.histories.now in
    let k = c.loop-object.object in
    let h = c.index-histories-object.result in
    let slot = c.index_mut.result.now in
    let long = objects-long (IsPlayableAt m) start objects (starts_of start c.args.objects.now.items) hs was.starts c.requires.playable in
    let there = slice_get_read objects (length objects) k slot refl (omega (arith, long, c.loop-object-test.true)) c.index_mut.ensures.value in
    let own = slice_get_read hs (length hs) k h refl c.loop-object-test.true c.index-histories-object.is in
    let first : slice_get (starts_of start c.args.objects.now.items) k ≡ Some (option_map start slot) =
    ap (λ l. slice_get l k) (sym was.starts) ∙ slice_get-map (option_map start) objects k ∙ ap (option_map (option_map start)) there in
    subst (IsPlayableAt m (option_map start slot)) (sym c.items.ensures)
    (zip-at (IsPlayableAt m) (starts_of start c.args.objects.now.items) hs k (option_map start slot) h c.requires.playable first own)

pub returns-in_err-place-clause-starts : goal.returns-in_err-place-clause-starts
returns-in_err-place-clause-starts g c =
    let m = g.S.Service.machine in
    let start = g.S.Service.start in
    let history = g.S.Service.history in
    let was = c.loop-object.invariant in
    let objects = c.loop-object.objects.items in
    let hs = c.args.histories.now in
    let k = c.loop-object.object in
    let h = c.index-histories-object.result in
    let slot = c.index_mut.result.now in
    let long = objects-long (IsPlayableAt m) start objects (starts_of start c.args.objects.now.items) hs was.starts c.requires.playable in
    let there = slice_get_read objects (length objects) k slot refl (omega (arith, long, c.loop-object-test.true)) c.index_mut.ensures.value in
    let own = slice_get_read hs (length hs) k h refl c.loop-object-test.true c.index-histories-object.is in
    starts-same m start history objects k slot c.first_unlike_at.new.object there c.first_unlike_at.ensures.start ∙ was.starts

pub overflow_add-result : goal.overflow_add-result
overflow_add-result g c =
    let m = g.S.Service.machine in
    let start = g.S.Service.start in
    let history = g.S.Service.history in
    let was = c.loop-object.invariant in
    let objects = c.loop-object.objects.items in
    let hs = c.args.histories.now in
    let k = c.loop-object.object in
    let h = c.index-histories-object.result in
    let slot = c.index_mut.result.now in
    let long = objects-long (IsPlayableAt m) start objects (starts_of start c.args.objects.now.items) hs was.starts c.requires.playable in
    let there = slice_get_read objects (length objects) k slot refl (omega (arith, long, c.loop-object-test.true)) c.index_mut.ensures.value in
    let own = slice_get_read hs (length hs) k h refl c.loop-object-test.true c.index-histories-object.is in
    let told = subst (λ l. FirstUnlikeAt m (option_map start slot) l c.in_ok-place.field-0) c.items.ensures c.in_ok-place.ensures.found in
    let less = first-within m c.args.looks.now (option_map start slot) h c.in-Some.place (subst (FirstUnlikeAt m (option_map start slot) h) c.in-Some.is told) in
    let cut = ap (λ l. line_count c.args.looks.now k l) (cut-there hs k h own) in
    let few = c.requires.few in
    let all = was.counted in
    omega arith

pub returns-in-Some-clause-found : goal.returns-in-Some-clause-found
returns-in-Some-clause-found g c =
    let m = g.S.Service.machine in
    let start = g.S.Service.start in
    let history = g.S.Service.history in
    let was = c.loop-object.invariant in
    let objects = c.loop-object.objects.items in
    let hs = c.args.histories.now in
    let k = c.loop-object.object in
    let h = c.index-histories-object.result in
    let slot = c.index_mut.result.now in
    let long = objects-long (IsPlayableAt m) start objects (starts_of start c.args.objects.now.items) hs was.starts c.requires.playable in
    let there = slice_get_read objects (length objects) k slot refl (omega (arith, long, c.loop-object-test.true)) c.index_mut.ensures.value in
    let own = slice_get_read hs (length hs) k h refl c.loop-object-test.true c.index-histories-object.is in
    let first : slice_get (starts_of start c.args.objects.now.items) k ≡ Some (option_map start slot) =
    ap (λ l. slice_get l k) (sym was.starts) ∙ slice_get-map (option_map start) objects k ∙ ap (option_map (option_map start)) there in
    let told = subst (λ l. FirstUnlikeAt m (option_map start slot) l c.in_ok-place.field-0) c.items.ensures c.in_ok-place.ensures.found in
    was.found (Some c.in-Some.place)
    (found-here m c.args.looks.now k (starts_of start c.args.objects.now.items) hs k (option_map start slot) h c.in-Some.place first own
    (subst (FirstUnlikeAt m (option_map start slot) h) c.in-Some.is told))

pub returns-in-Some-clause-starts : goal.returns-in-Some-clause-starts
returns-in-Some-clause-starts g c =
    let m = g.S.Service.machine in
    let start = g.S.Service.start in
    let history = g.S.Service.history in
    let was = c.loop-object.invariant in
    let objects = c.loop-object.objects.items in
    let hs = c.args.histories.now in
    let k = c.loop-object.object in
    let h = c.index-histories-object.result in
    let slot = c.index_mut.result.now in
    let long = objects-long (IsPlayableAt m) start objects (starts_of start c.args.objects.now.items) hs was.starts c.requires.playable in
    let there = slice_get_read objects (length objects) k slot refl (omega (arith, long, c.loop-object-test.true)) c.index_mut.ensures.value in
    let own = slice_get_read hs (length hs) k h refl c.loop-object-test.true c.index-histories-object.is in
    starts-same m start history objects k slot c.first_unlike_at.new.object there c.first_unlike_at.ensures.start ∙ was.starts

pub loop-object-preserved : goal.loop-object-preserved
loop-object-preserved g c =
    let m = g.S.Service.machine in
    let start = g.S.Service.start in
    let history = g.S.Service.history in
    let was = c.loop-object.invariant in
    let objects = c.loop-object.objects.items in
    let hs = c.args.histories.now in
    let k = c.loop-object.object in
    let h = c.index-histories-object.result in
    let slot = c.index_mut.result.now in
    let long = objects-long (IsPlayableAt m) start objects (starts_of start c.args.objects.now.items) hs was.starts c.requires.playable in
    let there = slice_get_read objects (length objects) k slot refl (omega (arith, long, c.loop-object-test.true)) c.index_mut.ensures.value in
    let own = slice_get_read hs (length hs) k h refl c.loop-object-test.true c.index-histories-object.is in
    let first : slice_get (starts_of start c.args.objects.now.items) k ≡ Some (option_map start slot) =
    ap (λ l. slice_get l k) (sym was.starts) ∙ slice_get-map (option_map start) objects k ∙ ap (option_map (option_map start)) there in
    let told = subst (λ l. FirstUnlikeAt m (option_map start slot) l c.in_ok-place.field-0) c.items.ensures c.in_ok-place.ensures.found in
    let looks = c.args.looks.now in
    let starts = starts_of start c.args.objects.now.items in
    let lines = c.loop-object.lines in
    let slot' = c.first_unlike_at.new.object in
    let stands : StandsAt m (option_map start slot) h = subst (FirstUnlikeAt m (option_map start slot) h) c.in_default.is told in
    let cut = ap (λ l. line_count looks k l) (cut-there hs k h own) in
    let size = ap (λ l. length l) c.items-in-loop-object.ensures in
    let seen = c.look_count.ensures in
    let all = was.counted in
    let more = length c.items-in-loop-object.result.now + c.look_count.result in
    let by = length h + length (looks_at looks k) in
    let passed : lines + more ≡ lines + by = omega arith in
    record {
      counted = omega arith;
      found = λ row found.
          subst (FirstAmong m looks 0 starts hs) (sym (passed-both m looks lines by (lines + more) row passed))
          (was.found (option_map (λ n. by + n) row) (found-behind m looks k starts hs k (option_map start slot) h row first own stands found));
      histories = histories-set history objects k slot'
          ∙ ap (λ l. set (histories_of history objects) k l) (c.in_ok-place.ensures.history c.in_default.is ∙ c.items.ensures)
          ∙ ap (λ l. set l k h) was.histories ∙ none-next hs k h own;
      starts = starts-same m start history objects k slot slot' there c.first_unlike_at.ensures.start ∙ was.starts;
    }

pub returns-clause-found : goal.returns-clause-found
returns-clause-found g c =
    let m = g.S.Service.machine in
    let looks = c.args.looks.now in
    let hs = c.args.histories.now in
    let starts = starts_of g.S.Service.start c.args.objects.now.items in
    let long = AllZip-long (IsPlayableAt m) starts hs c.requires.playable in
    let over = c.loop-object-test.false in
    c.loop-object.invariant.found None (found-none m looks c.loop-object.object starts hs c.loop-object.object (omega arith) over)

pub returns-clause-histories : goal.returns-clause-histories
returns-clause-histories g c = λ none. c.loop-object.invariant.histories ∙ none-last c.args.histories.now c.loop-object.object c.loop-object-test.false
