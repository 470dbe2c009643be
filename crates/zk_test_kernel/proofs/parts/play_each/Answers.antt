use contract.Lifetimes.{Lfts}
use denote.Param.Laws.{Laws}
use denote.RattleType.{RattleType}
use denote.Param.{param}
use denote.Param.Send.{IsSend, IsSync, arg_send, arg_sync, param_send, param_sync, sendable}
use denote.Exit.{no}
use denote.Ref.{NamedLft}
use denote.Struct.Field as Field
use mir.Syntax.{Dict, named}
use Rattle.zk_kernel.specs.contracts.kernel.Kernel as kernel
use Rattle.std.proofs.Common.{rules, ◌≡◌, ◌<◌, ℕ, length, List, get_or, refl, sym, ap, subst, ◌∙◌, Some, arith}
use Rattle.std.specs.List.{slice_get}
use Rattle.std.proofs.lemmas.Option.{slice_get_within, slice_get-get_or, get_or_from_slice_get}
use Rattle.zk_kernel.specs.declared.caller.Caller.{Caller}
use Rattle.zk_kernel.specs.Callers.{IsCaller, place_of}
use Rattle.zk_kernel.specs.Rests.{AreAllCallers}
use Rattle.zk_kernel.proofs.Crossing.{caller_send, kernel_sync, ref_sync, closure_of_three}
use Rattle.zk_kernel.proofs.Whole.{IsAfter, all-still}
use Rattle.zk_cells.proofs.Slices.{written-back}
use Rattle.zk_test_kernel.proofs.parts.play_each.Lts as lts
use Rattle.zk_test_kernel.proofs.parts.play_each.Goals as goal

pub for_each_mut-requires-send-T : goal.for_each_mut-requires-send-T
for_each_mut-requires-send-T g c κs within =
    param_send 1 (lts.arg-2-1 g.row.R g.R.laws g.R.Threads-dict g.R.Wait-dict κs) (arg_send _ no _ caller_send)

-- what each thread looks at
shared : (R : RattleType) (laws : Laws R) (threads wait : Dict) (κs : Lfts 8) → IsSync (param 0 R) → IsSync (lts.arg-2-2 R laws threads wait κs)
shared R laws threads wait κs sync =
    let to_rt : NamedLft = record { mir = named 6; lft = κs.1.1.1.1.1.1.0 } in
    let to_kernel : NamedLft = record { mir = named 7; lft = κs.1.1.1.1.1.1.1.0 } in
    let held = closure_of_three _ (Field.shr_ref_field to_rt (param 0 R) tt).row (Field.shr_ref_field to_kernel kernel.the_row tt).row Field.bool-field.row
    (ref_sync to_rt (param 0 R) tt sync) (ref_sync to_kernel kernel.the_row tt kernel_sync) (search sendable depth 8) in
    arg_sync _ no _ held

pub for_each_mut-requires-sync-F : goal.for_each_mut-requires-sync-F
for_each_mut-requires-sync-F g c κs within =
    param_sync 2 (lts.arg-2-2 g.row.R g.R.laws g.R.Threads-dict g.R.Wait-dict κs)
    (shared g.row.R g.R.laws g.R.Threads-dict g.R.Wait-dict κs c.type_bounds.sync-R)

pub returns : goal.returns
returns g c =
    let k = c.args.kernel.now in
    let old = c.args.callers.now.items in
    let given = c.as_mut_slice.result.now in
    let new = c.for_each_mut.new.s in
    let same : given ≡ old = c.as_mut_slice.ensures.value in
    let long : length new ≡ length old = c.for_each_mut.auto.s ∙ ap (λ (l : List Caller). length l) same in
    let many : c.args.callers.now.len ≡ length old = sym c.as_mut_slice.ensures.len ∙ ap (λ (l : List Caller). length l) same in
    let after : (p : ℕ) (x : Caller) → slice_get new p ≡ Some x → IsAfter k old p x = λ p x there.
    let inside : p < length old = subst (λ (n : ℕ). p < n) long (slice_get_within new p x there) in
    let changes = (c.for_each_mut.ensures p x (subst (λ (l : List Caller). p < length l) (sym same) inside)).1 in
    let is : changes.after_call.now ≡ x = changes.left ∙ get_or_from_slice_get new p x x there in
    record {
      own = subst (IsCaller k) is changes.call.0;
      before = get_or old p x;
      stood = slice_get-get_or old p x inside;
      same = ap (λ (y : Caller). (place_of y).who) (sym is) ∙ changes.call.1 ∙ ap (λ (y : Caller). (place_of y).who) (changes.argument_is ∙ ap (λ (l : List Caller). get_or l p x) same);
    } in
    record { all = subst (AreAllCallers k) (sym (written-back old new c.args.callers.now.len long many)) (all-still k old new long after c.requires.all) }
