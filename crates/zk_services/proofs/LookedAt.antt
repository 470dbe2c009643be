-- Looks on services that nobody else uses: they leave all that is shown as it is.
use Rattle.std.proofs.Common.{◌≡◌, ℕ, ◌+◌, Bool, true, false, cond, nat_lt, Option, Some, None, Ok, List, [], ◌∷◌, length, ltb, get_or, refl, sym, ap, subst, ◌∙◌}
use Rattle.std.specs.List.{slice_get}
use Rattle.std.specs.Option.{option_map, option_map_or, option_and_then}
use Rattle.std.proofs.lemmas.Bool.{ltb-true}
use Rattle.std.proofs.lemmas.Option.{slice_get-map, slice_get_read}
use Rattle.zk_base.specs.declared.ids.Who.{Who}
use Rattle.zk_base.specs.declared.ids.Entry.{Entry}
use Rattle.zk_base.specs.declared.seen.Seen.{Seen}
use Rattle.zk_base.specs.Legal.{state_after}
use Rattle.zk_model_wait.specs.Signal.{Signal, new_signal, signal_seen, signal_machine}
use Rattle.zk_model_wait.specs.declared.signal.SignalOp.{SignalOp}
use Rattle.zk_model_wait.specs.declared.signal.SignalReply.{SignalReply}
use Rattle.zk_model_work.specs.declared.ops.WorkOp.{WorkOp}
use Rattle.zk_model_work.specs.declared.ops.WorkOp.TheVariants as work_ops
use Rattle.zk_model_work.specs.declared.ops.WorkReply.{WorkReply}
use Rattle.zk_model_work.specs.Machine.{work_machine, in_range, flags_of}
use Rattle.zk_model_work.specs.State.{State}
use Rattle.zk_work.proofs.Owed.{ranges}
use Rattle.zk_work.specs.Words.{work_word}
use Rattle.zk_worker.specs.declared.steps.Step.{Step}
use Rattle.zk_worker.specs.declared.steps.Step.TheVariants as steps
use Rattle.zk_worker.specs.declared.steps.StepReply.{StepReply}
use Rattle.zk_worker.specs.declared.steps.StepReply.TheVariants as step_replies
use Rattle.zk_worker.specs.Attempt.{reply_in, Attempted}
use Rattle.zk_worker.specs.Machines.{Machines}
use Rattle.zk_worker.specs.Shown.{Shown, shown_after}
use Rattle.zk_worker.specs.Looks.{looks_at, found_by, look_reply, look_at}
use Rattle.zk_worker.proofs.Looking.{reads-whole}
use Rattle.zk_worker.proofs.SignalWrites.{seen-state}
use Rattle.zk_services.specs.Objects.{history_of, histories_of}

-- what is in range at first is in range after each history
in_range-after : (start : State) (h : List (Entry WorkOp WorkReply)) → in_range (state_after work_machine start h) ≡ in_range start
in_range-after start [] = refl
in_range-after start (e ∷ es) = in_range-after (work_machine.next start e.who e.op) es ∙ ranges start e.who e.op

-- what was read at a place stands there
pub there-read : {A : Type 0} (xs ys : List A) (i : ℕ) (x y : A) → ys ≡ xs → true ≡ ltb i (length ys) → x ≡ get_or ys i x → x ≡ y → slice_get xs i ≡ Some y
there-read {A} xs ys i x y same within read is =
    subst (λ (l : List A). slice_get l i ≡ Some y) same
    (slice_get_read ys (length ys) i x refl (ltb-true i (length ys) (sym within)) read ∙ ap (λ (z : A). Some z) is)

-- what a look at a signal is answered, by what its service has seen
pub signal-told : {V : Type 0} (start : V → Signal) (history : V → List (Entry SignalOp SignalReply)) (signals : List (Option V)) (object : ℕ) (must : Bool) (service : V) (seen : Seen) (result : Option StepReply) →
    slice_get signals object ≡ Some (Some service) → seen ≡ signal_seen (state_after signal_machine (start service) (history service)) → start service ≡ new_signal → result ≡ look_reply must seen →
    look_at None (histories_of history signals) object must ≡ result
signal-told {V} start history signals object must service seen result there found fresh is =
    ap (λ (o : Option (List (Entry SignalOp SignalReply))). option_and_then (λ h. option_and_then (look_reply must) (found_by (looks_at None object) h)) o)
    (slice_get-map (history_of history) signals object ∙ ap (option_map (history_of history)) there)
    ∙ ap (look_reply must) (sym (found ∙ seen-state (start service) (history service) fresh))
    ∙ sym is

-- the word of an item that is in range is what a look at it is answered
pub flags-told : (start : State) (h : List (Entry WorkOp WorkReply)) (items : List (Option ℕ)) (object item word : ℕ) → slice_get items object ≡ Some (Some item) →
    option_map_or (λ i. in_range start (work_ops.Remaining i)) (option_and_then (λ (i : Option ℕ). i) (slice_get items object)) false ≡ true →
    word ≡ work_word (state_after work_machine start h) item →
    option_map (λ flags. step_replies.Flags flags (length h)) (option_map (flags_of (state_after work_machine start h)) (option_and_then (λ (i : Option ℕ). i) (slice_get items object)))
    ≡ Some (step_replies.Flags word (length h))
flags-told start h items object item word there taken is =
    ap (λ (o : Option (Option ℕ)). option_map (λ flags. step_replies.Flags flags (length h)) (option_map (flags_of (state_after work_machine start h)) (option_and_then (λ (i : Option ℕ). i) o))) there
    ∙ ap (λ (n : ℕ). Some (step_replies.Flags n (length h))) (sym (is ∙ ap (λ (b : Bool). cond b (flags_of (state_after work_machine start h) item) 0) within))
  where
    first : in_range start (work_ops.Remaining item) ≡ true
    first = ap (λ (o : Option (Option ℕ)). option_map_or (λ i. in_range start (work_ops.Remaining i)) (option_and_then (λ (i : Option ℕ). i) o) false) (sym there) ∙ taken

    within : nat_lt item (state_after work_machine start h).items ≡ true
    within = ap (λ (f : WorkOp → Bool). f (work_ops.Remaining item)) (in_range-after start h) ∙ first

-- what is shown is whole: no look is counted
module _ (old : Shown) (whole : old.looks ≡ None) (unlooked : old.looked ≡ None) (m : Machines) (who : Who) (number object : ℕ) where
  uncounted : old.looked ≡ option_map (λ n. number + 1) old.looked
  uncounted = unlooked ∙ ap (option_map (λ (n : ℕ). number + 1)) (sym unlooked)

  item-still : (reply : StepReply) → old ≡ shown_after old who number (steps.LookItem object) reply
  item-still (step_replies.Flags flags at) = ap (λ (looked : Option ℕ). record old { looked = looked }) uncounted
  item-still reply = refl

  -- a look at an item
  pub item-looked : (step : Step) (reply : StepReply) → reply_in m old who (steps.LookItem object) ≡ Some reply → step ≡ steps.LookItem object →
      Attempted true m who number step old old (Ok (Some reply))
  item-looked step reply is asked = subst (λ (s : Step). Attempted true m who number s old old (Ok (Some reply))) (sym asked) (record {
    found = old;
    since = refl;
    replied = is;
    read_at = reads-whole m old who (steps.LookItem object) reply whole is;
    shown = item-still reply;
  })

  -- a look at a signal, which may find nothing
  pub signal-looked : (must : Bool) (step : Step) (told : Option StepReply) → reply_in m old who (steps.LookSignal object must) ≡ told → step ≡ steps.LookSignal object must →
      Attempted true m who number step old old (Ok told)
  signal-looked must step told is asked = subst (λ (s : Step). Attempted true m who number s old old (Ok told)) (sym asked) (by told is)
    where
      by : (told : Option StepReply) → reply_in m old who (steps.LookSignal object must) ≡ told → Attempted true m who number (steps.LookSignal object must) old old (Ok told)
      by None is = (refl, is)
      by (Some reply) is = record {
        found = old;
        since = refl;
        replied = is;
        read_at = reads-whole m old who (steps.LookSignal object must) reply whole is;
        shown = refl;
      }
