-- Machines that are wrong in one line. Of each a short history that it lets stand, and the law that is false of it.
use Rattle.std.proofs.Common.{◌≡◌, ℕ, ◌+◌, ◌≤◌, Bool, false, ◌&&◌, cond, ltb, Option, Some, None, [], ◌∷◌, ◌++◌, map, pos, refl, arith}
use Rattle.std.specs.List.{filter}
use Rattle.zk_base.specs.declared.ids.Who.{Who}
use Rattle.zk_base.specs.History.{entry}
use Rattle.zk_base.specs.Legal.{Machine, Replays}
use Rattle.zk_model_trigger.specs.declared.ops.Cause.TheVariants.{Event, Time}
use Rattle.zk_model_trigger.specs.declared.ops.TriggerOp.{TriggerOp}
use Rattle.zk_model_trigger.specs.declared.ops.TriggerOp.TheVariants as ops
use Rattle.zk_model_trigger.specs.declared.ops.TriggerReply.{TriggerReply}
use Rattle.zk_model_trigger.specs.declared.ops.TriggerReply.TheVariants as replies
use Rattle.zk_model_trigger.specs.declared.parts.Armed.{Armed}
use Rattle.zk_model_trigger.specs.declared.parts.Life.TheVariants.{Fired}
use Rattle.zk_model_trigger.specs.Arms.{is_waiting, is_live, is_among, waiting, meets, fire_of, change_all, has_live}
use Rattle.zk_model_trigger.specs.declared.parts.Change.TheVariants as changes
use Rattle.zk_model_trigger.specs.declared.parts.Occasion.TheVariants.{Posted, Reached}
use Rattle.zk_model_trigger.specs.Machine.{Triggers, new_triggers, trigger_reply, trigger_next, trigger_machine, posted, asked, armed_with}
use Rattle.zk_model_trigger.specs.Histories.{TriggerHistory}
use Rattle.zk_model_trigger.specs.Laws.{EachIsTold, EndsOnce}

abbrev one : Who
one = record { number = 0; prio = pos 0 }

-- A tick that fires by number, whatever the deadlines.

abbrev pub next_by_number : Triggers → Who → TriggerOp → Triggers
next_by_number s who (ops.Tick ticks) = record s {
  now = s.now + ticks;
  entries = s.entries + 1;
  arms = change_all (changes.Fire (Reached (s.now + ticks))) s.arms;
  fires = s.fires ++ map (fire_of Time) (filter (meets (Reached (s.now + ticks))) (waiting s.arms));
}
next_by_number s who op = trigger_next s who op

abbrev pub fires_in_the_order_of_arms : Machine Triggers TriggerOp TriggerReply
fires_in_the_order_of_arms = record trigger_machine { next = next_by_number }

-- the arm with the earlier deadline is the second one
abbrev before : TriggerHistory
before =
    entry one 0 (ops.Arm 0 0 (2 ∷ []) (Some 10)) (replies.Armed 0) ∷ entry one 1 (ops.Arm 1 0 (2 ∷ []) (Some 5)) (replies.Armed 1)
    ∷ entry one 2 (ops.Tick 10) (replies.Now 10) ∷ []

abbrev pub by_number : TriggerHistory
by_number = before ++ entry one 3 ops.Next (replies.Fire 0 0 0 Time) ∷ []

pub by_number-replays : Replays fires_in_the_order_of_arms new_triggers by_number
by_number-replays = (refl, (refl, (refl, (refl, tt))))

pub by_number-refused : EachIsTold by_number → ⊥
by_number-refused law =
    let is : Some (replies.Fire 1 1 0 Time) ≡ Some (replies.Fire 0 0 0 Time) =
    law before [] (entry one 3 ops.Next (replies.Fire 0 0 0 Time)) refl in
    cc

-- A deadline that is reached a tick late.

abbrev pub is_past : ℕ → Option ℕ → Bool
is_past time None = false
is_past time (Some deadline) = ltb deadline time

abbrev pub next_late : Triggers → Who → TriggerOp → Triggers
next_late s who (ops.Tick ticks) =
    let due : Armed → Bool = λ a. is_waiting a.life && is_past (s.now + ticks) a.arm.deadline in
    record s {
      now = s.now + ticks;
      entries = s.entries + 1;
      arms = map (λ (a : Armed). record a { life = cond (due a) (Fired Time) a.life }) s.arms;
      fires = s.fires ++ map (λ (a : Armed). fire_of Time a.arm) (filter due s.arms);
    }
next_late s who op = trigger_next s who op

abbrev pub fires_a_tick_late : Machine Triggers TriggerOp TriggerReply
fires_a_tick_late = record trigger_machine { next = next_late }

abbrev at_its_deadline : TriggerHistory
at_its_deadline =
    entry one 0 (ops.Arm 0 0 (2 ∷ []) (Some 1)) (replies.Armed 0) ∷ entry one 1 (ops.Tick 1) (replies.Now 1) ∷ []

-- so an arm whose time is out can still be given up
abbrev pub late : TriggerHistory
late = at_its_deadline ++ entry one 2 (ops.Cancel 0) replies.Done ∷ []

pub late-replays : Replays fires_a_tick_late new_triggers late
late-replays = (refl, (refl, (refl, tt)))

pub late-refused : EachIsTold late → ⊥
late-refused law =
    let is : Some replies.Inval ≡ Some replies.Done = law at_its_deadline [] (entry one 2 (ops.Cancel 0) replies.Done) refl in
    cc

-- A post that fires what has fired already once more.

abbrev pub next_again : Triggers → Who → TriggerOp → Triggers
next_again s who (ops.Post event) =
    let named : Armed → Bool = λ a. is_live a.life && is_among a.arm.events event in
    record s {
      entries = s.entries + 1;
      ready = posted s.ready event;
      arms = change_all (changes.Fire (Posted event)) s.arms;
      fires = s.fires ++ map (λ (a : Armed). fire_of (Event event) a.arm) (filter named s.arms);
    }
next_again s who op = trigger_next s who op

abbrev pub submits_again_on_each_post : Machine Triggers TriggerOp TriggerReply
submits_again_on_each_post = record trigger_machine { next = next_again }

abbrev posted_twice : TriggerHistory
posted_twice =
    entry one 0 (ops.Arm 0 0 (2 ∷ []) None) (replies.Armed 0) ∷ entry one 1 (ops.Post 2) replies.Done
    ∷ entry one 2 (ops.Post 2) replies.Done ∷ entry one 3 ops.Next (replies.Fire 0 0 0 (Event 2)) ∷ []

abbrev pub again : TriggerHistory
again = posted_twice ++ entry one 4 ops.Next (replies.Fire 0 0 0 (Event 2)) ∷ []

pub again-replays : Replays submits_again_on_each_post new_triggers again
again-replays = (refl, (refl, (refl, (refl, (refl, tt)))))

pub again-refused : EachIsTold again → ⊥
again-refused law =
    let is : ◌≡◌ {A = Option TriggerReply} None (Some (replies.Fire 0 0 0 (Event 2))) =
    law posted_twice [] (entry one 4 ops.Next (replies.Fire 0 0 0 (Event 2))) refl in
    cc

-- A cancel that takes a fire back.

abbrev pub reply_back : Triggers → Who → TriggerOp → Option TriggerReply
reply_back s who (ops.Cancel item) = Some (cond (has_live s.arms item) replies.Done replies.Inval)
reply_back s who op = trigger_reply s who op

abbrev pub cancels_what_has_fired : Machine Triggers TriggerOp TriggerReply
cancels_what_has_fired = record trigger_machine { reply_of = reply_back }

abbrev fired_before : TriggerHistory
fired_before =
    entry one 0 (ops.Arm 0 0 (2 ∷ []) None) (replies.Armed 0) ∷ entry one 1 (ops.Post 2) replies.Done ∷ []

abbrev pub back : TriggerHistory
back = fired_before ++ entry one 2 (ops.Cancel 0) replies.Done ∷ []

pub back-replays : Replays cancels_what_has_fired new_triggers back
back-replays = (refl, (refl, (refl, tt)))

pub back-refused : EachIsTold back → ⊥
back-refused law =
    let is : Some replies.Inval ≡ Some replies.Done = law fired_before [] (entry one 2 (ops.Cancel 0) replies.Done) refl in
    cc

-- and so the same arm fires, is given up, and is submitted all the same
pub back-ends_twice : EndsOnce back → ⊥
back-ends_twice law = let most : 2 ≤ 1 = law 0 in absurd (omega arith)

-- An arm that waits though its event is ready.

abbrev pub next_waiting : Triggers → Who → TriggerOp → Triggers
next_waiting s who (ops.Arm item queue events ticks) =
    let a = asked s item queue events ticks in
    let grown = cond (has_live s.arms item) s (armed_with s a None) in
    record grown { entries = s.entries + 1 }
next_waiting s who op = trigger_next s who op

abbrev pub waits_for_the_next_post : Machine Triggers TriggerOp TriggerReply
waits_for_the_next_post = record trigger_machine { next = next_waiting }

abbrev armed_after : TriggerHistory
armed_after =
    entry one 0 (ops.Post 2) replies.Done ∷ entry one 1 (ops.Arm 0 0 (2 ∷ []) None) (replies.Armed 0) ∷ []

abbrev pub overlooked : TriggerHistory
overlooked = armed_after ++ entry one 2 (ops.Cancel 0) replies.Done ∷ []

pub overlooked-replays : Replays waits_for_the_next_post new_triggers overlooked
overlooked-replays = (refl, (refl, (refl, tt)))

pub overlooked-refused : EachIsTold overlooked → ⊥
overlooked-refused law =
    let is : Some replies.Inval ≡ Some replies.Done = law armed_after [] (entry one 2 (ops.Cancel 0) replies.Done) refl in
    cc
