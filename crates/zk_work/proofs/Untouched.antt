-- The words of the items that an entry doesn't touch: they stay.
use Rattle.std.proofs.Common.{◌≡◌, ℕ, ◌+◌, false, cond, eqb, ltb, Option, Some, None, option_map, option_to_list, [], ◌∷◌, refl, sym, ap, ◌∙◌}
use Rattle.std.proofs.lemmas.Option.{same_Some}
use Rattle.zk_base.specs.declared.ids.Who.{Who}
use Rattle.zk_base.specs.Touched.{is_touched}
use Rattle.zk_base.proofs.Lists.{cond_chosen}
use Rattle.zk_model_work.specs.declared.ops.WorkOp.{WorkOp}
use Rattle.zk_model_work.specs.declared.ops.WorkOp.TheVariants.{Submit, Cancel, CancelStart, CancelDone, FlushStart, FlushDone, Schedule, Reschedule, Remaining, Start, DrainStart, DrainDone, Unplug, Stop, Announce, Begin, End}
use Rattle.zk_model_work.specs.declared.ops.WorkReply.{WorkReply}
use Rattle.zk_model_work.specs.declared.ops.WorkReply.TheVariants.{Run}
use Rattle.zk_model_work.specs.declared.parts.Closing.TheVariants as closings
use Rattle.zk_model_work.specs.Answers.{is_worker}
use Rattle.zk_model_work.specs.Lists.{first}
use Rattle.zk_model_work.specs.Machine.{disarm, flags_of, may_begin, taken_up, work_reply, work_next}
use Rattle.zk_model_work.specs.Questions.{due}
use Rattle.zk_model_work.specs.State.{State}
use Rattle.zk_model_work.proofs.Moves.{delayed-keeps, schedule-keeps}
use Rattle.zk_queue.specs.declared.ticket.Ticket.{Ticket}
use Rattle.zk_queue.specs.Open as active
use Rattle.zk_work.specs.EngineState.{EngineState, StandsFor}
use Rattle.zk_work.specs.Engine.{reply_of}
use Rattle.zk_work.specs.Touched.{touched_item, touched_by, told_items}
use Rattle.zk_work.specs.Words.{work_word}
use Rattle.zk_work.proofs.Awaiting.{flags-same}
use Rattle.zk_work.proofs.Items.{run_of}
use Rattle.zk_work.proofs.Touching.{or-first, kept-submit, kept-cancel, kept-cancel_start, kept-flush_start, kept-schedule, kept-reschedule, kept-drain_start, kept-answered, kept-announce, kept-begin, kept-end, told-items}

-- two states that the engine stands for have the same words
pub words-same : (k : EngineState) (s t : State) (index : ℕ) → StandsFor k s → StandsFor k t →
    work_word t index ≡ work_word s index
words-same k s t index st also =
    ap (λ n. cond (ltb index n) (flags_of t index) 0) (sym also.admissions.items ∙ st.admissions.items)
    ∙ ap (λ f. cond (ltb index s.items) f 0) (sym (flags-same k t also index) ∙ flags-same k s st index)

-- what the worker takes up
begun-kept : (k : EngineState) (s : State) (who : Who) (queue j : ℕ) (reply : WorkReply) →
    reply_of k who (Begin queue) ≡ Some reply → work_reply s who (Begin queue) ≡ Some reply →
    is_touched (option_to_list (touched_item k (Begin queue))) j ≡ false → flags_of (work_next s who (Begin queue)) j ≡ flags_of s j
begun-kept k s who queue j reply is said others =
    by (active.run k.active queue) (first (active.line k.active queue)) (λ t is. ap (λ (o : Option Ticket).
    is_touched (option_to_list (option_map (λ t. t.item) o)) j) (sym is) ∙ others) refl
    (cond_chosen (is_worker k.queues queue who.number)
    (option_map (λ (t : Ticket). Run t.item t.number) (active.next k.active queue)) reply is).1 where
      taken : taken_up s.admissions queue ≡ Some reply
      taken = (cond_chosen (may_begin s.admissions s.queues who queue) (taken_up s.admissions queue) reply said).1

      by : (r l : Option Ticket) →
          ((t : Ticket) → first (active.line k.active queue) ≡ Some t → is_touched (t.item ∷ []) j ≡ false) →
          first (active.line k.active queue) ≡ l →
          option_map (λ (t : Ticket). Run t.item t.number) (active.if_free r l) ≡ Some reply →
          flags_of (work_next s who (Begin queue)) j ≡ flags_of s j
      by None None other at same = absurd (cc)
      by (Some run) l other at same = absurd (cc)
      by None (Some t) other at same =
          kept-begin s who j queue t.item t.number (or-first (eqb t.item j) false (other t at)) (taken ∙ sym same)

-- what the worker ends
ended-kept : (k : EngineState) (s : State) (who : Who) (queue j : ℕ) → StandsFor k s →
    is_touched (option_to_list (touched_item k (End queue))) j ≡ false → flags_of (work_next s who (End queue)) j ≡ flags_of s j
ended-kept k s who queue j st others = kept-end s who j queue (λ n a at runs.
    let run = run_of (active.run k.active queue) queue s.admissions n a (st.admissions.runs queue) at runs in
    let here = ap (λ (o : Option Ticket). is_touched (option_to_list (option_map (λ t. t.item) o)) j) (sym run) ∙ others in
    or-first (eqb a.item j) false here)

-- the busy flags of an item that an entry doesn't touch
flags-kept : (k : EngineState) (s : State) (who : Who) (op : WorkOp) (reply : WorkReply) (j : ℕ) → StandsFor k s →
    reply_of k who op ≡ Some reply → work_reply s who op ≡ Some reply → is_touched (touched_by k op reply) j ≡ false →
    flags_of (work_next s who op) j ≡ flags_of s j
flags-kept k s who (Submit item named) reply j st is said others = kept-submit s who j item named (or-first (eqb item j) false others)
flags-kept k s who (Cancel item) reply j st is said others = kept-cancel s who j item (or-first (eqb item j) false others)
flags-kept k s who (CancelStart item) reply j st is said others =
    kept-cancel_start s who j item (or-first (eqb item j) false others)
flags-kept k s who (CancelDone place) reply j st is said others = kept-answered s who j closings.Cancel place
flags-kept k s who (FlushStart item) reply j st is said others =
    kept-flush_start s who j item (or-first (eqb item j) false others)
flags-kept k s who (FlushDone place) reply j st is said others = kept-answered s who j closings.Flush place
flags-kept k s who (Schedule item queue delay) reply j st is said others =
    kept-schedule s who j item queue delay (or-first (eqb item j) false others)
flags-kept k s who (Reschedule item queue delay) reply j st is said others =
    kept-reschedule s who j item queue delay (or-first (eqb item j) false others)
flags-kept k s who (Remaining item) reply j st is said others = refl
flags-kept k s who (Start queue) reply j st is said others = refl
flags-kept k s who (DrainStart queue plug) reply j st is said others = kept-drain_start s who j queue plug
flags-kept k s who (DrainDone place) reply j st is said others = kept-answered s who j closings.Drain place
flags-kept k s who (Unplug queue) reply j st is said others = refl
flags-kept k s who (Stop queue) reply j st is said others = refl
flags-kept k s who (Announce ticks) reply j st is said others =
    kept-announce s who j ticks
    (sym (told-items j s.marks s.queues (due (s.time + ticks) s.arms) s.admissions)
    ∙ ap (λ (r : WorkReply). is_touched (told_items r) j) (same_Some _ reply said) ∙ others)
flags-kept k s who (Begin queue) reply j st is said others = begun-kept k s who queue j reply is said others
flags-kept k s who (End queue) reply j st is said others = ended-kept k s who queue j st others

-- what an operation touches that isn't an announce
touched-item : (k : EngineState) (op : WorkOp) (reply : WorkReply) → ((ticks : ℕ) → op ≡ Announce ticks → ⊥) →
    touched_by k op reply ≡ option_to_list (touched_item k op)
touched-item k (Announce ticks) reply other = absurd (other ticks refl)
touched-item k op reply other = refl

-- and its word
pub word-kept : (k : EngineState) (s : State) (who : Who) (op : WorkOp) (reply : WorkReply) (index : ℕ) → StandsFor k s →
    reply_of k who op ≡ Some reply → work_reply s who op ≡ Some reply → is_touched (touched_by k op reply) index ≡ false →
    work_word (work_next s who op) index ≡ work_word s index
word-kept k s who op reply index st is said others =
    ap (λ n. cond (ltb index n) (flags_of (work_next s who op) index) 0) (items-kept op)
    ∙ ap (λ f. cond (ltb index s.items) f 0) (flags-kept k s who op reply index st is said others) where
      items-kept : (op : WorkOp) → (work_next s who op).items ≡ s.items
      items-kept (Schedule item queue delay) =
          schedule-keeps (λ t. t.items ≡ s.items) s who item queue delay refl refl (λ free later. refl)
      items-kept (Reschedule item queue delay) =
          delayed-keeps (λ t. t.items ≡ s.items) (record s { arms = disarm s.arms item }) who item queue delay refl (λ later. refl)
      items-kept op = refl

-- the word where the operation isn't an announce
pub word-kept_item : (k : EngineState) (s : State) (who : Who) (op : WorkOp) (reply : WorkReply) (index : ℕ) → StandsFor k s →
    reply_of k who op ≡ Some reply → work_reply s who op ≡ Some reply → ((ticks : ℕ) → op ≡ Announce ticks → ⊥) →
    is_touched (option_to_list (touched_item k op)) index ≡ false →
    work_word (work_next s who op) index ≡ work_word s index
word-kept_item k s who op reply index st is said other untouched =
    word-kept k s who op reply index st is said
    (ap (λ items. is_touched items index) (touched-item k op reply other) ∙ untouched)

-- the word where it is one
pub word-kept_told : (k : EngineState) (s : State) (who : Who) (op : WorkOp) (ticks : ℕ) (reply : WorkReply) (index : ℕ) →
    StandsFor k s → reply_of k who op ≡ Some reply → work_reply s who op ≡ Some reply → op ≡ Announce ticks →
    is_touched (told_items reply) index ≡ false →
    work_word (work_next s who op) index ≡ work_word s index
word-kept_told k s who op ticks reply index st is said same untouched =
    word-kept k s who op reply index st is said
    (ap (λ o. is_touched (touched_by k o reply) index) same ∙ untouched)
