use Rattle.std.proofs.Common.{◌≡◌, ℕ, List, Option, sym, ap, subst, ◌∙◌}
use Rattle.zk_base.specs.Order.{Ascends}
use Rattle.zk_base.specs.declared.ids.Entry.{Entry}
use Rattle.zk_model_work.specs.declared.ops.WorkOp.{WorkOp}
use Rattle.zk_model_work.specs.declared.ops.WorkReply.{WorkReply}
use Rattle.zk_model_work.specs.State.{State}
use Rattle.zk_trace.proofs.Stable.{ascends-by_key}
use Rattle.zk_work.specs.Seen.{work_start}
use Rattle.zk_worker.specs.Machines.{Machines, work_start_of, items_of}
use Rattle.zk_failures.specs.declared.item_looks.Fronted.{Fronted}
use Rattle.zk_failures.specs.ItemLooks.{fronts_from, by_front, missed_places}
use Rattle.zk_failures.proofs.ItemsFound.{first-told}
use Rattle.zk_failures.proofs.item_looks.first_missed.Goals as goal

pub missed_places-requires-clause-sorted : goal.missed_places-requires-clause-sorted
missed_places-requires-clause-sorted c =
    let at : Fronted → ℕ = λ one. one.look.at in
    subst (Ascends at) (sym (c.deref-2.ensures.value ∙ c.in_ok-fronts.ensures)) (ascends-by_key at (fronts_from 0 c.items.result.now))

pub returns : goal.returns
returns c =
    let s = c.args.scenario.now in
    let t = c.args.trace.now in
    let start : work_start c.in_ok-services.services.work ≡ work_start_of s = ap (λ (m : Machines). m.work_start) c.in_ok-services.ensures.machines in
    let items : c.deref.result.now ≡ items_of s.decls = c.deref.ensures.value ∙ ap (λ (m : Machines). m.items) c.in_ok-services.ensures.machines in
    let fronts = c.deref-2.ensures.value ∙ c.in_ok-fronts.ensures ∙ ap by_front c.items.ensures in
    let places =
    c.deref-3.ensures.value ∙ c.in_ok-missed.ensures
    ∙ ap (λ (x : State). missed_places x c.deref.result.now c.items-2.result.now c.deref-2.result.now) start
    ∙ ap (λ (l : List (Option ℕ)). missed_places (work_start_of s) l c.items-2.result.now c.deref-2.result.now) items
    ∙ ap (λ (h : List (Entry WorkOp WorkReply)). missed_places (work_start_of s) (items_of s.decls) h c.deref-2.result.now) c.items-2.ensures
    ∙ ap (λ (f : List Fronted). missed_places (work_start_of s) (items_of s.decls) t.work f) fronts in
    first-told (work_start_of s) (items_of s.decls) t.work t.looks.items c.deref-3.result.now c.lowest.result places c.lowest.ensures
