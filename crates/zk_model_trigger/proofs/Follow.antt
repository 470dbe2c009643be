-- The machine's state after a history, in the words of histories.
use Rattle.std.proofs.Common.{◌≡◌, ℕ, ◌+◌, ◌≤◌, Bool, not, ◌&&◌, ◌||◌, cond, Option, Some, None, option_map, option_to_list, is_some, List, [], ◌∷◌, ◌++◌, length, drop, refl, sym, ap, subst, ◌∙◌, arith}
use Rattle.std.specs.List.{filter, filter_map, find}
use Rattle.std.proofs.lemmas.List.{drop-drop, drop-append-le, length-append, length-drop}
use Rattle.std.proofs.lemmas.List.Elements.{All-nil, filter_agree}
use Rattle.std.proofs.lemmas.List.Sums.{sum_by_push}
use Rattle.zk_base.specs.Legal.{Replays}
use Rattle.zk_base.proofs.Firsts.{one_if}
use Rattle.zk_base.proofs.Histories.{state_after-snoc, by_entries}
use Rattle.zk_model_trigger.specs.declared.ops.Cause.{Cause}
use Rattle.zk_model_trigger.specs.declared.ops.TriggerOp.{TriggerOp}
use Rattle.zk_model_trigger.specs.declared.ops.TriggerOp.TheVariants as ops
use Rattle.zk_model_trigger.specs.declared.ops.TriggerReply.{TriggerReply}
use Rattle.zk_model_trigger.specs.declared.ops.TriggerReply.TheVariants as replies
use Rattle.zk_model_trigger.specs.declared.parts.Arm.{Arm}
use Rattle.zk_model_trigger.specs.declared.parts.Fire.{Fire}
use Rattle.zk_model_trigger.specs.Arms.{is_among, is_reached, waiting, found_cause, first_cause, has_live, fire_of}
use Rattle.zk_model_trigger.specs.Machine.{Triggers, new_triggers, trigger_reply, trigger_next, trigger_machine}
use Rattle.zk_model_trigger.specs.Histories.{TriggerEntry, TriggerHistory, IsTriggerHistory, triggers_after, posts, unposts, event_ready, ticks_of, time_after, is_armed, arms_in, arms_item, cancels_item, takes_item, is_busy, made_by, cause_after, if_waiting, waiting_after, firing_order, fire_after, fires_by, fires_of, is_next, taken_in}
use Rattle.zk_model_trigger.specs.Steady.{IsSound, IsQuiet, cause_in}
use Rattle.zk_model_trigger.proofs.Lists.{find_agree, filter_map-agree}
use Rattle.zk_model_trigger.proofs.Stands.{stands-snoc}
use Rattle.zk_model_trigger.proofs.Waiting.{stays_by, waiting_from-snoc, fires_from-snoc}
use Rattle.zk_model_trigger.proofs.Steps.{IsStep, made_in, goes_on, if_quiet, fire_by, step, quiet-after}

-- the state is the one after the history
pub record Follows (h : TriggerHistory) (s : Triggers) : Type 0 where
  pub now : s.now ≡ time_after h
  pub ready : (event : ℕ) → is_among s.ready event ≡ event_ready h event
  pub made : length s.arms ≡ arms_in h
  pub busy : (item : ℕ) → has_live s.arms item ≡ is_busy h item
  pub waits : waiting s.arms ≡ waiting_after h
  pub enough : taken_in h ≤ length (fires_of h)
  pub fires : s.fires ≡ drop (taken_in h) (fires_of h)
  pub sound : IsSound s
  pub quiet : IsQuiet s

-- of one arm the cause is the same where the events and the time are
cause-same : (p q : ℕ → Bool) (now time : ℕ) → ((event : ℕ) → p event ≡ q event) → now ≡ time → (a : Arm) →
    first_cause p now a ≡ first_cause q time a
cause-same p q now time agree same a =
    ap (λ (o : Option ℕ). found_cause o (is_reached now a.deadline)) (find_agree p q agree a.events)
    ∙ ap (λ (n : ℕ). found_cause (find q a.events) (is_reached n a.deadline)) same

-- an operation makes the same arm
made-same : (h : TriggerHistory) (s : Triggers) → s.now ≡ time_after h → length s.arms ≡ arms_in h →
    (op : TriggerOp) (reply : TriggerReply) → made_in s op reply ≡ made_by h op reply
made-same h s now made (ops.Arm item queue events ticks) (replies.Armed number) =
    let Of : ℕ → ℕ → Option Arm = λ n t. Some (record {
      number = n;
      item = item;
      queue = queue;
      events = events;
      deadline = option_map (λ k. t + k) ticks;
    }) in
    ap (λ (n : ℕ). Of n s.now) made ∙ ap (λ (t : ℕ). Of (arms_in h) t) now
made-same h s now made (ops.Arm item queue events ticks) replies.Busy = refl
made-same h s now made (ops.Arm item queue events ticks) replies.Done = refl
made-same h s now made (ops.Arm item queue events ticks) replies.Inval = refl
made-same h s now made (ops.Arm item queue events ticks) (replies.Now time) = refl
made-same h s now made (ops.Arm item queue events ticks) (replies.Fire number of to cause) = refl
made-same h s now made (ops.Post event) reply = refl
made-same h s now made (ops.Unpost event) reply = refl
made-same h s now made (ops.Tick ticks) reply = refl
made-same h s now made (ops.Cancel item) reply = refl
made-same h s now made ops.Next reply = refl

own-same : (h : TriggerHistory) (cause : Arm → Option Cause) → ((a : Arm) → cause a ≡ cause_after h a) → (o : Option Arm) →
    if_quiet cause o ≡ if_waiting o h []
own-same h cause same None = refl
own-same h cause same (Some a) = ap (λ (c : Option Cause). cond (not (is_some c)) (a ∷ []) []) (same a)

-- with one entry more
follow-step : (h : TriggerHistory) (s s' : Triggers) (e : TriggerEntry) → Follows h s → IsStep s s' e.op e.reply →
    Follows (h ++ e ∷ []) s'
follow-step h s s' e f made = record {
  now = let before = f.now in let more = sum_by_push (λ (x : TriggerEntry). ticks_of x.op) h e in let here = made.now in omega arith;
  ready = ready;
  made = let before = f.made in let more = sum_by_push (λ (x : TriggerEntry). one_if (is_armed x.reply)) h e in
      let here = made.made in omega arith;
  busy = λ item.
      made.busy item
      ∙ ap (λ (b : Bool). arms_item item e.op e.reply
      || (b && not (cancels_item item e.op e.reply || takes_item item e.op e.reply))) (f.busy item)
      ∙ sym (stands-snoc (λ (x : TriggerEntry). arms_item item x.op x.reply)
      (λ (x : TriggerEntry). cancels_item item x.op x.reply || takes_item item x.op x.reply) h e);
  waits = waits;
  enough = enough;
  fires = fires;
  sound = made.sound;
  quiet = quiet;
} where
  after : TriggerHistory
  after = h ++ e ∷ []

  ready : (event : ℕ) → is_among s'.ready event ≡ event_ready after event
  ready event =
      made.ready event
      ∙ ap (λ (b : Bool). posts event e.op || (b && not (unposts event e.op))) (f.ready event)
      ∙ sym (stands-snoc (λ (x : TriggerEntry). posts event x.op) (λ (x : TriggerEntry). unposts event x.op) h e)

  now : s'.now ≡ time_after after
  now = let before = f.now in let more = sum_by_push (λ (x : TriggerEntry). ticks_of x.op) h e in let here = made.now in omega arith

  cause : (a : Arm) → cause_in s' a ≡ cause_after after a
  cause a = cause-same (is_among s'.ready) (event_ready after) s'.now (time_after after) ready now a

  arm : made_in s e.op e.reply ≡ made_by h e.op e.reply
  arm = made-same h s f.now f.made e.op e.reply

  waits : waiting s'.arms ≡ waiting_after after
  waits =
      made.waits
      ∙ ap (λ (l : List Arm). l ++ if_quiet (cause_in s') (made_in s e.op e.reply))
      (filter_agree (goes_on e.op e.reply (cause_in s')) (stays_by h e)
      (λ a. ap (λ (c : Option Cause). not (cancels_item a.item e.op e.reply) && not (is_some c)) (cause a)) (waiting s.arms))
      ∙ ap (λ (l : List Arm). filter (stays_by h e) l ++ if_quiet (cause_in s') (made_in s e.op e.reply)) f.waits
      ∙ ap (λ (l : List Arm). filter (stays_by h e) (waiting_after h) ++ l)
      (own-same after (cause_in s') cause (made_in s e.op e.reply) ∙ ap (λ (o : Option Arm). if_waiting o after []) arm)
      ∙ sym (waiting_from-snoc [] h e)

  one : ℕ
  one = one_if (is_next e.op)

  taken : taken_in after ≡ taken_in h + one
  taken = sum_by_push (λ (x : TriggerEntry). one_if (is_next x.op)) h e

  fits : taken_in h + one ≤ length (fires_of h)
  fits =
      let here = made.enough in
      let before = f.enough in
      let left = ap length f.fires in
      let long = length-drop (taken_in h) (fires_of h) in
      omega arith

  more : fires_of after ≡ fires_of h ++ fires_by h e
  more = fires_from-snoc [] h e

  enough : taken_in after ≤ length (fires_of after)
  enough =
      let counted = taken in
      let here = fits in
      let both = ap length more in
      let long = length-append (fires_of h) (fires_by h e) in
      omega arith

  new : filter_map (fire_by (cause_in s')) (firing_order e.op (waiting s.arms ++ option_to_list (made_in s e.op e.reply)))
      ≡ fires_by h e
  new =
      filter_map-agree (fire_by (cause_in s')) (fire_after after)
      (λ a. ap (option_map (λ (c : Cause). fire_of c a)) (cause a))
      (firing_order e.op (waiting s.arms ++ option_to_list (made_in s e.op e.reply)))
      ∙ ap (λ (l : List Arm). filter_map (fire_after after) (firing_order e.op (l ++ option_to_list (made_in s e.op e.reply)))) f.waits
      ∙ ap (λ (o : Option Arm). filter_map (fire_after after) (firing_order e.op (waiting_after h ++ option_to_list o))) arm

  fires : s'.fires ≡ drop (taken_in after) (fires_of after)
  fires =
      made.fires
      ∙ ap (λ (l : List Fire). drop one s.fires ++ l) new
      ∙ ap (λ (l : List Fire). drop one l ++ fires_by h e) f.fires
      ∙ ap (λ (l : List Fire). l ++ fires_by h e) (drop-drop one (taken_in h) (fires_of h))
      ∙ sym (drop-append-le (taken_in h + one) (fires_of h) (fires_by h e) fits)
      ∙ ap (drop (taken_in h + one)) (sym more)
      ∙ ap (λ (n : ℕ). drop n (fires_of after)) (sym taken)

  quiet : IsQuiet s'
  quiet = quiet-after s s' e.op e.reply made

-- with the entry of an operation that is possible
pub follow-next : (h : TriggerHistory) (e : TriggerEntry) → Follows h (triggers_after h) →
    trigger_reply (triggers_after h) e.who e.op ≡ Some e.reply →
    Follows (h ++ e ∷ []) (trigger_next (triggers_after h) e.who e.op)
follow-next h e is reply =
    follow-step h (triggers_after h) (trigger_next (triggers_after h) e.who e.op) e is
    (step (triggers_after h) e.who is.sound is.quiet e.op e.reply reply)

follows-start : Follows [] new_triggers
follows-start = record {
  now = refl;
  ready = λ event. refl;
  made = refl;
  busy = λ item. refl;
  waits = refl;
  enough = omega arith;
  fires = refl;
  sound = record { one = λ item. omega arith; fired = λ item. refl };
  quiet = All-nil (λ a. cause_in new_triggers a ≡ None);
}

-- the state after each history that the machine replays is told by its entries
pub follows-replayed : (h : TriggerHistory) → Replays trigger_machine new_triggers h → Follows h (triggers_after h)
follows-replayed h replays =
    by_entries trigger_machine new_triggers (λ g. Follows g (triggers_after g))
    (λ g e before reply is. subst (Follows (g ++ e ∷ [])) (sym (state_after-snoc trigger_machine new_triggers g e))
    (follow-next g e is reply))
    [] h replays follows-start

pub follows : (h : TriggerHistory) → IsTriggerHistory h → Follows h (triggers_after h)
follows h legal = follows-replayed h legal.0
