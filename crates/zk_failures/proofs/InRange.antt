-- What an operation in form names is in range at its machine.
use Rattle.std.proofs.Common.{◌≡◌, ℕ, zero, suc, ◌<◌, true, nat_lt, ◌&&◌, Option, Some, None, List, [], ◌∷◌, length, refl, arith}
use Rattle.std.specs.List.{AllByRecursion}
use Rattle.std.specs.Option.{option_map_or}
use Rattle.std.proofs.lemmas.Bool.{and_from, lt-ltb}
use Rattle.std.proofs.lemmas.List.Elements.{All-nil, All-cons}
use Rattle.zk_base.specs.declared.ids.Entry.{Entry}
use Rattle.zk_base.specs.declared.kinds.Need.TheVariants as needs
use Rattle.zk_base.specs.Legal.{Machine, AreInRange}
use Rattle.zk_line.specs.declared.types.Decl.{Decl}
use Rattle.zk_line.specs.Objects.{places, is_at, is_met, is_thread, is_item, is_queue}
use Rattle.zk_model_bus.specs.declared.table.TableOp.{TableOp}
use Rattle.zk_model_bus.specs.declared.table.TableOp.TheVariants as table_ops
use Rattle.zk_model_bus.specs.declared.table.TableReply.{TableReply}
use Rattle.zk_model_bus.specs.Table.{new_table, table_machine}
use Rattle.zk_model_work.specs.declared.ops.WorkOp.{WorkOp}
use Rattle.zk_model_work.specs.declared.ops.WorkOp.TheVariants as ops
use Rattle.zk_model_work.specs.declared.ops.WorkReply.{WorkReply}
use Rattle.zk_model_work.specs.Machine.{work_machine}
use Rattle.zk_scenario.specs.Content.{Content}
use Rattle.zk_worker.specs.declared.steps.Step.TheVariants as steps
use Rattle.zk_worker.specs.Machines.{work_start_of}
use Rattle.zk_worker.specs.Ranges.{step_fits}
use Rattle.zk_worker.specs.TableSetup.{setup_of, is_object}
use Rattle.zk_worker.proofs.Ranges.{takes-declared}
use Rattle.zk_trace.specs.EntryKinds.{IsWork, IsTable}
use Rattle.zk_trace.specs.Fields.{IsItem, IsQueue, IsTarget, IsObject}
use Rattle.zk_trace.specs.TableRead as table_read
use Rattle.zk_trace.specs.WorkRead as work_read

-- an object that is there is one of any kind
object-is : (decls : List Decl) (object : ℕ) → object < length decls → is_at (is_met needs.Any) decls object ≡ true
object-is [] object below = absurd (omega arith)
object-is (d ∷ ds) zero below = refl
object-is (d ∷ ds) (suc object) below = object-is ds object (omega arith)

module _ (decls : List Decl) where
  item-is : (item : ℕ) → IsItem decls item → nat_lt item (length (places is_item decls)) ≡ true
  item-is item is = lt-ltb item (length (places is_item decls)) is

  queue-is : (queue : ℕ) → IsQueue decls queue → nat_lt queue (length (places is_queue decls)) ≡ true
  queue-is queue is = lt-ltb queue (length (places is_queue decls)) is

  target-is : (named : Option ℕ) → IsTarget decls named → option_map_or (λ queue. nat_lt queue (length (places is_queue decls))) named true ≡ true
  target-is None is = refl
  target-is (Some queue) is = queue-is queue is

  both-are : (item queue : ℕ) → IsItem decls item → IsQueue decls queue → (nat_lt item (length (places is_item decls)) && nat_lt queue (length (places is_queue decls))) ≡ true
  both-are item queue is to = and_from (nat_lt item (length (places is_item decls))) (nat_lt queue (length (places is_queue decls))) (item-is item is) (queue-is queue to)

  -- the items and queues of an operation of the work service
  work-fits : (op : WorkOp) → work_read.FitsOp decls op → step_fits decls (steps.Work op) ≡ true
  work-fits (ops.Submit item named) fits =
      and_from (nat_lt item (length (places is_item decls))) (option_map_or (λ queue. nat_lt queue (length (places is_queue decls))) named true) (item-is item fits.0) (target-is named fits.1)
  work-fits (ops.Cancel item) fits = item-is item fits
  work-fits (ops.CancelStart item) fits = item-is item fits
  work-fits (ops.CancelDone place) fits = refl
  work-fits (ops.FlushStart item) fits = item-is item fits
  work-fits (ops.FlushDone place) fits = refl
  work-fits (ops.Schedule item queue delay) fits = both-are item queue fits.0 fits.1
  work-fits (ops.Reschedule item queue delay) fits = both-are item queue fits.0 fits.1
  work-fits (ops.Remaining item) fits = item-is item fits
  work-fits (ops.Start queue) fits = queue-is queue fits
  work-fits (ops.DrainStart queue plug) fits = queue-is queue fits
  work-fits (ops.DrainDone place) fits = refl
  work-fits (ops.Unplug queue) fits = queue-is queue fits
  work-fits (ops.Stop queue) fits = queue-is queue fits
  work-fits (ops.Announce ticks) fits = refl
  work-fits (ops.Begin queue) fits = queue-is queue fits
  work-fits (ops.End queue) fits = queue-is queue fits

  thread-fits : (thread object : ℕ) → is_at is_thread decls thread ≡ true → IsObject decls object →
      (is_at (is_met needs.Thread) decls thread && is_object decls object) ≡ true
  thread-fits thread object is below = and_from (is_at (is_met needs.Thread) decls thread) (is_object decls object) is (object-is decls object below)

  -- the objects of an operation of the object table
  table-fits : (op : TableOp) → table_read.FitsOp decls op → step_fits decls (steps.Table op) ≡ true
  table-fits (table_ops.Check None need) fits = refl
  table-fits (table_ops.Check (Some object) need) fits = object-is decls object fits
  table-fits (table_ops.Grant thread object) fits = thread-fits thread object fits.0 fits.1
  table-fits (table_ops.Revoke thread object) fits = thread-fits thread object fits.0 fits.1
  table-fits (table_ops.Release object) fits = object-is decls object fits
  table-fits (table_ops.Public object) fits = object-is decls object fits
  table-fits (table_ops.Init object) fits = object-is decls object fits
  table-fits table_ops.EnterUser fits = refl

module _ {S O R : Type 0} (m : Machine S O R) (start : S) where
  -- what each entry in form has all have
  pub each-range : (Fits : Entry O R → Type 0) → ((e : Entry O R) → Fits e → m.in_range start e.op ≡ true) → (h : List (Entry O R)) → AllByRecursion Fits h →
      AreInRange m start h
  each-range Fits range [] fit = let P : Entry O R → Type 0 = λ e. m.in_range start e.op ≡ true in All-nil P
  each-range Fits range (e ∷ h) fit =
      let P : Entry O R → Type 0 = λ e. m.in_range start e.op ≡ true in All-cons P e h (range e fit.0) (each-range Fits range h fit.1)

pub work-range : (s : Content) (h : List (Entry WorkOp WorkReply)) → AllByRecursion (IsWork s.decls) h → AreInRange work_machine (work_start_of s) h
work-range s h fit = each-range work_machine (work_start_of s) (IsWork s.decls) (λ e is. takes-declared s (steps.Work e.op) (work-fits s.decls e.op is.op)) h fit

pub table-range : (s : Content) (h : List (Entry TableOp TableReply)) → AllByRecursion (IsTable s.decls) h → AreInRange table_machine (new_table (setup_of s)) h
table-range s h fit = each-range table_machine (new_table (setup_of s)) (IsTable s.decls) (λ e is. takes-declared s (steps.Table e.op) (table-fits s.decls e.op is.op)) h fit
