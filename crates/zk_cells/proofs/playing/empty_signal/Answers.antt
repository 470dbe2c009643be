use Rattle.std.proofs.Common.{◌≡◌, List, length, map, IsPermutation, Some, refl, sym, ap, subst, ◌∙◌}
use Rattle.std.proofs.lemmas.List.Sorted.{length_permutation}
use Rattle.zk_base.specs.History.{Rises}
use Rattle.zk_base.specs.Legal.{IsLegal}
use Rattle.zk_model_wait.specs.Signal.{new_signal, signal_machine}
use Rattle.zk_model_wait.specs.declared.signal.SignalOp.{SignalOp}
use Rattle.zk_model_wait.specs.declared.signal.SignalReply.{SignalReply}
use Rattle.zk_poll.specs.Seen.{left_by}
use Rattle.zk_signal.specs.Passes.{pass_stamps, pass_writes}
use Rattle.zk_cells.specs.declared.notes.Note.{Note}
use Rattle.zk_cells.specs.Closed.{IsPlayedIn}
use Rattle.zk_cells.specs.Joined.{HasSharedIn, left_at}
use Rattle.zk_cells.specs.Notes.{entries_of, notes_at, writes_at}
use Rattle.zk_cells.proofs.Played.{each-noted, rises-noted, in-step-kept, in-step-permuted, at-one, signal-played}
use Rattle.zk_cells.proofs.Slices.{written-back}
use Rattle.zk_cells.proofs.playing.empty_signal.Goals as goal

pub in_stamp_order-requires : goal.in_stamp_order-requires
in_stamp_order-requires c =
    let all = c.requires.all in
    let p = c.in-Some-pass.pass in
    let shared = subst (λ o. HasSharedIn all.0 (left_at c.args.notes.now c.args.object) all.1 (Some c.in-Some.signal) o) c.in-Some-pass.is
    (subst (λ s. HasSharedIn all.0 (left_at c.args.notes.now c.args.object) all.1 s c.args.pass) c.in-Some.is all.2) in
    let same : c.deref_mut.result.now ≡ notes_at c.args.notes.now c.args.object = c.deref_mut.ensures.value ∙ c.in_ok-own.ensures in
    record {
      stamps = each-noted (pass_stamps p) (pass_writes p) c.deref_mut.result.now c.close-count.result refl
          (shared.writes ∙ ap (λ l. map left_by (entries_of l)) (sym same)) c.close-count.ensures.stamps c.close-count.ensures.count;
    }

pub play-requires-clause-steps : goal.play-requires-clause-steps
play-requires-clause-steps c =
    let notes = c.args.notes.now in
    let object = c.args.object in
    let ms = c.in_stamp_order.new.writes in
    let moved : IsPermutation (notes_at notes object) ms = subst (λ (l : List Note). IsPermutation l ms) (c.deref_mut.ensures.value ∙ c.in_ok-own.ensures) c.in_stamp_order.ensures.same in
    let back : c.deref.result.now ≡ ms = c.deref.ensures.value
    ∙ written-back c.in_ok-own.own.items ms c.in_ok-own.own.len (length_permutation c.deref_mut.result.now ms c.in_stamp_order.ensures.same ∙ ap length c.deref_mut.ensures.value) c.in_ok-own.own.ok.0 in
    let rise = rises-noted ms 0 object c.in_stamp_order.ensures.order (in-step-permuted (notes_at notes object) ms moved (in-step-kept notes object c.requires.steps)) (at-one notes ms object moved) in
    subst (λ (l : List Note). Rises {O = SignalOp} {R = SignalReply} (entries_of l)) (sym back) rise

pub returns : goal.returns
returns c = λ numbers looks has.
    let notes = c.args.notes.now in
    let object = c.args.object in
    let p = c.in-Some-pass.pass in
    let ms = c.in_stamp_order.new.writes in
    let moved : IsPermutation (notes_at notes object) ms = subst (λ (l : List Note). IsPermutation l ms) (c.deref_mut.ensures.value ∙ c.in_ok-own.ensures) c.in_stamp_order.ensures.same in
    let back : c.deref.result.now ≡ ms = c.deref.ensures.value
    ∙ written-back c.in_ok-own.own.items ms c.in_ok-own.own.len (length_permutation c.deref_mut.result.now ms c.in_stamp_order.ensures.same ∙ ap length c.deref_mut.ensures.value) c.in_ok-own.own.ok.0 in
    let shared = subst (λ o. HasSharedIn numbers (left_at notes object) looks (Some c.in-Some.signal) o) c.in-Some-pass.is
    (subst (λ s. HasSharedIn numbers (left_at notes object) looks s c.args.pass) c.in-Some.is has) in
    let history = c.in_ok-play.ensures.history ∙ ap entries_of back in
    subst (λ s. IsPlayedIn (writes_at notes object) looks s (Some c.in_ok-play.field-0)) (sym c.in-Some.is)
    (signal-played notes ms object p looks c.in_ok-play.field-0 moved c.in_stamp_order.ensures.order history c.in_ok-play.ensures.start (subst (λ h. IsLegal signal_machine new_signal h) (sym c.in_ok-play.ensures.history) c.in_ok-play.ensures.legal) shared.writes shared.looks c.close-count.ensures.looks)
