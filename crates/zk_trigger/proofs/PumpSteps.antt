-- A pump stays one through the two parts of a step.
use Rattle.std.proofs.Common.{◌≡◌, ℕ, ◌+◌, ◌<◌, true, Option, Some, None, IfSome, option_map, option_to_list, Result, Ok, Err, is_err, List, [], ◌∷◌, ◌++◌, sym, ap, subst, ◌∙◌, inl, inr, arith}
use Rattle.std.specs.List.{filter_map}
use Rattle.std.proofs.lemmas.List.{append-nil}
use Rattle.std.proofs.lemmas.List.Elements.{filter_map-append}
use Rattle.zk_base.specs.declared.ids.Who.{Who}
use Rattle.zk_base.specs.declared.ids.Entry.{Entry}
use Rattle.zk_base.specs.declared.errors.NoMemory.{NoMemory}
use Rattle.zk_base.specs.History.{entry}
use Rattle.zk_base.specs.Legal.{IsLegal}
use Rattle.zk_model_trigger.specs.declared.ops.TriggerOp.{TriggerOp}
use Rattle.zk_model_trigger.specs.declared.ops.TriggerOp.TheVariants.{Next}
use Rattle.zk_model_trigger.specs.declared.ops.TriggerReply.{TriggerReply}
use Rattle.zk_model_trigger.specs.declared.ops.TriggerReply.TheVariants.{Fire}
use Rattle.zk_model_trigger.specs.Machine.{Triggers, trigger_machine, new_triggers}
use Rattle.zk_model_work.specs.declared.ops.Submitted.{Submitted}
use Rattle.zk_model_work.specs.declared.ops.WorkOp.{WorkOp}
use Rattle.zk_model_work.specs.declared.ops.WorkOp.TheVariants.{Submit}
use Rattle.zk_model_work.specs.declared.ops.WorkReply.{WorkReply}
use Rattle.zk_model_work.specs.declared.ops.WorkReply.TheVariants.{Sub}
use Rattle.zk_model_work.specs.Machine.{work_machine}
use Rattle.zk_model_work.specs.State.{State}
use Rattle.zk_turn.specs.declared.cell.Cell.{Cell}
use Rattle.zk_turn.specs.declared.pass.Pass.{Pass}
use Rattle.zk_turn.specs.Passes.{pass_seen, pass_mine}
use Rattle.zk_turn.specs.Players.{own, GoesOn}
use Rattle.zk_work.specs.declared.work.Work.{Work}
use Rattle.zk_work.specs.Seen.{work_start}
use Rattle.zk_trigger.specs.declared.pump.Owed.{Owed}
use Rattle.zk_trigger.specs.declared.pump.Pump.{Pump}
use Rattle.zk_trigger.specs.declared.trigger.Trigger.{Trigger}
use Rattle.zk_trigger.specs.Seen.{trigger_start}
use Rattle.zk_trigger.specs.Pumps.{TriggerCell, WorkCell, seen_at, mine_at, room_at, IsSeat, taken_one, submitted_one, taken_by, submitted_by, owed_by, IsPump, IsTaken, HasNext, IsPaid, IsUnpaid, HasPaid}
use Rattle.zk_trigger.proofs.PumpEntries.{own-others, own-entered, above-more}

module _ {S O R T : Type 0} (legal : T → List (Entry O R) → Type 0) (start : S → T) (c : Cell S O R T) (who : Who) (step : ℕ) where
  -- its player's entries are those of one player
  mine-is : (o : Option (Pass S O R T)) → IsSeat legal start c who step o → mine_at o ≡ own (who ∷ []) (seen_at o)
  mine-is None seat = absurd seat
  mine-is (Some p) seat = ap (λ (l : List Who). own l (pass_seen p)) seat.alone

  -- a later step is above its entries too
  seat-later : (o : Option (Pass S O R T)) → IsSeat legal start c who step o → IsSeat legal start c who (step + 1) o
  seat-later None seat = seat
  seat-later (Some p) seat =
      record { of_cell = seat.of_cell; player = seat.player; alone = seat.alone; later = above-more (pass_mine p) who.number step seat.later }

module _ (t : TriggerCell) (w : WorkCell) (who : Who) (old new : Pump) (is : IsPump t w who old) where
  module _ (seat : IsSeat (IsLegal trigger_machine) trigger_start t who new.step new.triggers) where
    -- others alone made entries
    pump-others : GoesOn (who ∷ []) (seen_at old.triggers) (seen_at new.triggers) → room_at new.triggers ≡ room_at old.triggers →
        new ≡ record old { triggers = new.triggers } → IsPump t w who new
    pump-others goes room next =
        let same : mine_at new.triggers ≡ mine_at old.triggers =
        mine-is (IsLegal trigger_machine) trigger_start t who new.step new.triggers seat
        ∙ own-others (who ∷ []) (seen_at old.triggers) (seen_at new.triggers) goes
        ∙ sym (mine-is (IsLegal trigger_machine) trigger_start t who old.step old.triggers is.at_triggers) in
        let step = ap (λ (p : Pump). p.step) next in
        let work = ap (λ (p : Pump). p.work) next in
        let owed = ap (λ (p : Pump). p.owed) next in
        let short = is.short in
        let room_of_work = ap room_at work in
        record {
          at_triggers = seat;
          at_work = subst (λ n. IsSeat (IsLegal work_machine) work_start w who n new.work) (sym step)
              (subst (IsSeat (IsLegal work_machine) work_start w who old.step) (sym work) is.at_work);
          short = omega arith;
          range = subst (λ (o : Option Owed). IfSome o (λ x. (x.item < 256) × (x.queue < 8))) (sym owed) is.range;
          balanced =
              ap (λ (o : Option (Pass Work WorkOp WorkReply State)). filter_map (λ e. submitted_one e.op) (mine_at o)
              ++ owed_by new) work
              ∙ ap (λ (o : Option Owed). submitted_by old ++ option_to_list (option_map (λ x. (x.item, x.queue)) o)) owed
              ∙ is.balanced
              ∙ ap (filter_map (λ (e : Entry TriggerOp TriggerReply). taken_one e.reply)) (sym same);
        }

    -- a fire was taken
    pump-taken : (owed : Owed) → IsTaken who owed old new → IsPump t w who new
    pump-taken owed taken =
        let has = taken.taken in
        let e : Entry TriggerOp TriggerReply =
        entry who old.step Next (Fire has.number owed.item owed.queue has.cause) in
        let more : mine_at new.triggers ≡ mine_at old.triggers ++ e ∷ [] =
        mine-is (IsLegal trigger_machine) trigger_start t who new.step new.triggers seat
        ∙ own-entered trigger_machine new_triggers who old.step Next (Fire has.number owed.item owed.queue has.cause) has.place
        (seen_at old.triggers) (seen_at new.triggers) has.entered
        ∙ ap (λ (l : List (Entry TriggerOp TriggerReply)). l ++ e ∷ [])
        (sym (mine-is (IsLegal trigger_machine) trigger_start t who old.step old.triggers is.at_triggers)) in
        let step = ap (λ (p : Pump). p.step) taken.next in
        let work = ap (λ (p : Pump). p.work) taken.next in
        let now = ap (λ (p : Pump). p.owed) taken.next in
        let short = is.short in
        let room = taken.room in
        let room_of_work = ap room_at work in
        let nothing : owed_by old ≡ [] =
        ap (λ (o : Option Owed). option_to_list (option_map (λ x. (x.item, x.queue)) o)) taken.owes in
        let before : submitted_by old ≡ taken_by old =
        sym (append-nil (submitted_by old)) ∙ ap (λ (l : List (ℕ × ℕ)). submitted_by old ++ l) (sym nothing) ∙ is.balanced in
        record {
          at_triggers = seat;
          at_work = subst (λ n. IsSeat (IsLegal work_machine) work_start w who n new.work) (sym step)
              (subst (IsSeat (IsLegal work_machine) work_start w who (old.step + 1)) (sym work)
              (seat-later (IsLegal work_machine) work_start w who old.step old.work is.at_work));
          short = omega arith;
          range = subst (λ (o : Option Owed). IfSome o (λ x. (x.item < 256) × (x.queue < 8))) (sym now) (has.item, has.queue);
          balanced =
              ap (λ (o : Option (Pass Work WorkOp WorkReply State)). filter_map (λ e. submitted_one e.op) (mine_at o)
              ++ owed_by new) work
              ∙ ap (λ (o : Option Owed). submitted_by old ++ option_to_list (option_map (λ x. (x.item, x.queue)) o)) now
              ∙ ap (λ (l : List (ℕ × ℕ)). l ++ (owed.item, owed.queue) ∷ []) before
              ∙ sym (ap (filter_map (λ (x : Entry TriggerOp TriggerReply). taken_one x.reply)) more
              ∙ filter_map-append (λ (x : Entry TriggerOp TriggerReply). taken_one x.reply) (mine_at old.triggers) (e ∷ []));
        }

    pub pump-next : (result : Result (Option Owed) NoMemory) → HasNext who old new result → IsPump t w who new
    pump-next (Ok (Some owed)) (inl was) = subst (IsPump t w who) (sym was.same) is
    pump-next (Ok (Some owed)) (inr taken) = pump-taken owed taken
    pump-next (Ok None) idle = pump-others idle.none.since idle.room idle.next
    pump-next (Err e) left = pump-others left.since left.room left.next

  module _ (seat : IsSeat (IsLegal work_machine) work_start w who new.step new.work) (owed : Owed) (owes : old.owed ≡ Some owed)
      (start : State) where
    -- what was owed is submitted
    pump-submitted : (told : Submitted) → IsPaid who start owed told old new → IsPump t w who new
    pump-submitted told paid =
        let has = paid.submitted in
        let e : Entry WorkOp WorkReply = entry who old.step (Submit owed.item (Some owed.queue)) (Sub told) in
        let more : mine_at new.work ≡ mine_at old.work ++ e ∷ [] =
        mine-is (IsLegal work_machine) work_start w who new.step new.work seat
        ∙ own-entered work_machine start who old.step (Submit owed.item (Some owed.queue)) (Sub told) has.place
        (seen_at old.work) (seen_at new.work) has.entered
        ∙ ap (λ (l : List (Entry WorkOp WorkReply)). l ++ e ∷ [])
        (sym (mine-is (IsLegal work_machine) work_start w who old.step old.work is.at_work)) in
        let step = ap (λ (p : Pump). p.step) paid.next in
        let triggers = ap (λ (p : Pump). p.triggers) paid.next in
        let now = ap (λ (p : Pump). p.owed) paid.next in
        let short = is.short in
        let room = paid.room in
        let room_of_triggers = ap room_at triggers in
        record {
          at_triggers = subst (λ n. IsSeat (IsLegal trigger_machine) trigger_start t who n new.triggers) (sym step)
              (subst (IsSeat (IsLegal trigger_machine) trigger_start t who (old.step + 1)) (sym triggers)
              (seat-later (IsLegal trigger_machine) trigger_start t who old.step old.triggers is.at_triggers));
          at_work = seat;
          short = omega arith;
          range = subst (λ (o : Option Owed). IfSome o (λ x. (x.item < 256) × (x.queue < 8))) (sym now) tt;
          balanced =
              ap (λ (o : Option Owed). submitted_by new ++ option_to_list (option_map (λ x. (x.item, x.queue)) o)) now
              ∙ append-nil (submitted_by new)
              ∙ ap (filter_map (λ (x : Entry WorkOp WorkReply). submitted_one x.op)) more
              ∙ filter_map-append (λ (x : Entry WorkOp WorkReply). submitted_one x.op) (mine_at old.work) (e ∷ [])
              ∙ ap (λ (o : Option Owed). submitted_by old ++ option_to_list (option_map (λ x. (x.item, x.queue)) o)) (sym owes)
              ∙ is.balanced
              ∙ ap (λ (o : Option (Pass Trigger TriggerOp TriggerReply Triggers)).
              filter_map (λ e. taken_one e.reply) (mine_at o)) (sym triggers);
        }

    -- the submission wanted memory
    pump-unpaid : IsUnpaid who old new → IsPump t w who new
    pump-unpaid left =
        let same : mine_at new.work ≡ mine_at old.work =
        mine-is (IsLegal work_machine) work_start w who new.step new.work seat
        ∙ own-others (who ∷ []) (seen_at old.work) (seen_at new.work) left.since
        ∙ sym (mine-is (IsLegal work_machine) work_start w who old.step old.work is.at_work) in
        let step = ap (λ (p : Pump). p.step) left.next in
        let triggers = ap (λ (p : Pump). p.triggers) left.next in
        let now = ap (λ (p : Pump). p.owed) left.next in
        let short = is.short in
        let room = left.room in
        let room_of_triggers = ap room_at triggers in
        record {
          at_triggers = subst (λ n. IsSeat (IsLegal trigger_machine) trigger_start t who n new.triggers) (sym step)
              (subst (IsSeat (IsLegal trigger_machine) trigger_start t who old.step) (sym triggers) is.at_triggers);
          at_work = seat;
          short = omega arith;
          range = subst (λ (o : Option Owed). IfSome o (λ x. (x.item < 256) × (x.queue < 8))) (sym now) is.range;
          balanced =
              ap (λ (l : List (Entry WorkOp WorkReply)). filter_map (λ e. submitted_one e.op) l ++ owed_by new) same
              ∙ ap (λ (o : Option Owed). submitted_by old ++ option_to_list (option_map (λ x. (x.item, x.queue)) o)) now
              ∙ is.balanced
              ∙ ap (λ (o : Option (Pass Trigger TriggerOp TriggerReply Triggers)).
              filter_map (λ e. taken_one e.reply) (mine_at o)) (sym triggers);
        }

    pub pump-paid : (result : Result Submitted NoMemory) → HasPaid who start owed old new result → IsPump t w who new
    pump-paid (Ok told) paid = pump-submitted told paid
    pump-paid (Err e) left = pump-unpaid left

-- what holds of each error holds of a result that is one
pub err-only : {A : Type 0} (P : Result A NoMemory → Type 0) (r : Result A NoMemory) → is_err r ≡ true →
    ((e : NoMemory) → P (Err e)) → P r
err-only P (Ok a) is each = absurd (cc)
err-only P (Err e) is each = each e

-- what is to be submitted is owed from then on, and the other pass is as it was
pub next-owes : (who : Who) (owed : Owed) (old new : Pump) → HasNext who old new (Ok (Some owed)) →
    (new.owed ≡ Some owed) × (new.work ≡ old.work)
next-owes who owed old new (inl was) = (ap (λ (p : Pump). p.owed) was.same ∙ was.owes, ap (λ (p : Pump). p.work) was.same)
next-owes who owed old new (inr taken) = (ap (λ (p : Pump). p.owed) taken.next, ap (λ (p : Pump). p.work) taken.next)
