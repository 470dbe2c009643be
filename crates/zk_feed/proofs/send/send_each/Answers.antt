use contract.Lifetimes.{Lfts}
use denote.Param.Laws.{Laws}
use denote.RattleType.{RattleType}
use denote.Param.{param}
use denote.Param.Send.{IsSync, arg_send, arg_sync, param_send, param_sync}
use denote.Exit.{no}
use denote.Ref.{NamedLft}
use denote.Struct.Field as Field
use mir.Syntax.{Dict, named}
use Rattle.std.proofs.Common.{◌≡◌, ◌<◌, ℕ, length, List, get_or, Some, sym, ap, subst, ◌∙◌}
use Rattle.std.specs.List.{slice_get}
use Rattle.std.proofs.lemmas.Option.{slice_get_within, slice_get-get_or, get_or_from_slice_get}
use Rattle.zk_feed.specs.contracts.shared.Shared as shared
use Rattle.zk_feed.specs.declared.feeder.Feeder.{Feeder}
use Rattle.zk_feed.specs.Feeding.{AreFed, IsFed, IsReady}
use Rattle.zk_feed.proofs.Crossing.{feeder_send, shared_sync, ref_sync, closure_of_three}
use Rattle.zk_feed.proofs.Places.{written-back}
use Rattle.zk_feed.proofs.send.send_each.Lts as lts
use Rattle.zk_feed.proofs.send.send_each.Goals as goal

pub for_each_mut-requires-send-T : goal.for_each_mut-requires-send-T
for_each_mut-requires-send-T g c κs within =
    param_send 1 (lts.arg-2-1 g.row.R g.row.G g.R.laws g.G.laws g.R.Threads-dict g.R.Wait-dict g.G.Gate-dict κs)
    (arg_send _ no _ feeder_send)

-- what all publishers look at
looked_at : (R G : RattleType) (laws : Laws R) (laws' : Laws G) (threads wait gate : Dict) (κs : Lfts 9) →
    IsSync (param 0 R) → IsSync (param 1 G) → IsSync (lts.arg-2-2 R G laws laws' threads wait gate κs)
looked_at R G laws laws' threads wait gate κs sync sync' =
    let to_rt : NamedLft = record { mir = named 6; lft = κs.1.1.1.1.1.1.0 } in
    let to_shared : NamedLft = record { mir = named 7; lft = κs.1.1.1.1.1.1.1.0 } in
    let to_gate : NamedLft = record { mir = named 8; lft = κs.1.1.1.1.1.1.1.1.0 } in
    let held = closure_of_three _ (Field.shr_ref_field to_rt (param 0 R) tt).row
    (Field.shr_ref_field to_shared shared.the_row tt).row
    (Field.shr_ref_field to_gate (param 1 G) tt).row
    (ref_sync to_rt (param 0 R) tt sync) (ref_sync to_shared shared.the_row tt shared_sync)
    (ref_sync to_gate (param 1 G) tt sync') in
    arg_sync _ no _ held

pub for_each_mut-requires-sync-F : goal.for_each_mut-requires-sync-F
for_each_mut-requires-sync-F g c κs within =
    param_sync 2 (lts.arg-2-2 g.row.R g.row.G g.R.laws g.G.laws g.R.Threads-dict g.R.Wait-dict g.G.Gate-dict κs)
    (looked_at g.row.R g.row.G g.R.laws g.G.laws g.R.Threads-dict g.R.Wait-dict g.G.Gate-dict κs c.type_bounds.sync-R
    c.type_bounds.sync-G)

pub returns : goal.returns
returns g c =
    let f = c.args.shared.now in
    let old = c.args.feeders.now.items in
    let given = c.as_mut_slice.result.now in
    let new = c.for_each_mut.new.s in
    let same : given ≡ old = c.as_mut_slice.ensures.value in
    let long : length new ≡ length old = c.for_each_mut.auto.s ∙ ap (λ (l : List Feeder). length l) same in
    let many : c.args.feeders.now.len ≡ length old = sym c.as_mut_slice.ensures.len ∙ ap (λ (l : List Feeder). length l) same in
    let after : (p : ℕ) (x : Feeder) → slice_get new p ≡ Some x → IsFed f p x = λ p x there.
    let inside : p < length old = subst (λ (n : ℕ). p < n) long (slice_get_within new p x there) in
    let changes = (c.for_each_mut.ensures p x (subst (λ (l : List Feeder). p < length l) (sym same) inside)).1 in
    let is : changes.after_call.now ≡ x = changes.left ∙ get_or_from_slice_get new p x x there in
    subst (IsFed f p) is changes.call in
    record {
      fed = subst (AreFed f f.size.publishers) (sym (written-back old new c.args.feeders.now.len long many))
          (record { count = long ∙ c.requires.ready.count; each = after });
    }

pub for_each_mut-requires-clause-accepts : goal.for_each_mut-requires-clause-accepts
for_each_mut-requires-clause-accepts g c κs within = λ i p inside is.
    let given = c.as_mut_slice.result.now in
    let stands = subst (λ (l : List Feeder). slice_get l i ≡ Some (get_or given i p.now)) c.as_mut_slice.ensures.value
    (slice_get-get_or given i p.now inside) in
    (c.requires.open, subst (IsReady c.args.shared.now i) (sym is) (c.requires.ready.each i (get_or given i p.now) stands))
