-- What is shown stays legal: each entry is what its machine answers.
use Rattle.std.proofs.Common.{◌≡◌, ℕ, zero, suc, true, false, Option, Some, None, List, [], ◌∷◌, ◌++◌, length, map, refl, sym, ap, subst, ◌∙◌}
use Rattle.std.specs.List.{slice_get, AllZip}
use Rattle.std.specs.Option.{option_and_then, option_map_or}
use Rattle.std.proofs.lemmas.Option.{option_and_then_some}
use Rattle.zk_base.specs.declared.ids.Who.{Who}
use Rattle.zk_base.specs.declared.ids.Entry.{Entry}
use Rattle.zk_base.specs.History.{entry, IsAbove}
use Rattle.zk_base.specs.Legal.{Machine, state_after, IsLegal}
use Rattle.zk_base.proofs.Histories.{IsLegal-nil, IsLegal-snoc}
use Rattle.zk_scenario.specs.Content.{Content}
use Rattle.zk_model_bus.specs.declared.channel.ChanOp.{ChanOp}
use Rattle.zk_model_bus.specs.declared.channel.ChanReply.{ChanReply}
use Rattle.zk_model_bus.specs.declared.observer.ObsOp.{ObsOp}
use Rattle.zk_model_bus.specs.declared.observer.ObsReply.{ObsReply}
use Rattle.zk_model_bus.specs.declared.table.TableOp.{TableOp}
use Rattle.zk_model_bus.specs.declared.table.TableReply.{TableReply}
use Rattle.zk_model_wait.specs.declared.clock.ClockOp.{ClockOp}
use Rattle.zk_model_wait.specs.declared.clock.ClockReply.{ClockReply}
use Rattle.zk_model_wait.specs.declared.msgq.MsgqOp.{MsgqOp}
use Rattle.zk_model_wait.specs.declared.msgq.MsgqReply.{MsgqReply}
use Rattle.zk_model_wait.specs.declared.sem.SemOp.{SemOp}
use Rattle.zk_model_wait.specs.declared.sem.SemReply.{SemReply}
use Rattle.zk_model_wait.specs.declared.signal.SignalOp.{SignalOp}
use Rattle.zk_model_wait.specs.declared.signal.SignalReply.{SignalReply}
use Rattle.zk_model_work.specs.declared.ops.WorkOp.{WorkOp}
use Rattle.zk_model_work.specs.declared.ops.WorkReply.{WorkReply}
use Rattle.zk_worker.specs.declared.steps.Step.{Step}
use Rattle.zk_worker.specs.declared.steps.Step.TheVariants as steps
use Rattle.zk_worker.specs.declared.steps.StepReply.{StepReply}
use Rattle.zk_worker.specs.declared.steps.StepReply.TheVariants as step_replies
use Rattle.zk_line.specs.declared.types.Decl.{Decl}
use Rattle.zk_model_wait.specs.Msgq.{msgq_machine}
use Rattle.zk_model_wait.specs.Sem.{sem_machine}
use Rattle.zk_model_wait.specs.Signal.{signal_machine}
use Rattle.zk_model_bus.specs.Channel.{chan_machine}
use Rattle.zk_model_bus.specs.Observer.{obs_machine}
use Rattle.zk_worker.specs.Machines.{Machines, machines_of, sem_start, msgq_start, signal_start, chan_start, observer_start}
use Rattle.zk_worker.specs.Single.{answer_in}
use Rattle.zk_worker.specs.Families.{Family, start_of, no_entries, with_entry, answer_at, takes_at}
use Rattle.zk_worker.specs.Shown.{Shown, nothing_shown, shown_after, IsLater}
use Rattle.zk_worker.specs.Attempt.{reply_in, is_in_range}
use Rattle.zk_worker.proofs.Between.{above-work, above-clock, above-table, above-sems, above-msgqs, above-signals, above-chans, above-observers}
use Rattle.zk_worker.proofs.ShownSteps.{made-of}
use Rattle.zk_world.specs.Legal.{IsLegalAt, EachLegal, IsLegalShown}

module _ {S O R : Type 0} where
  -- nothing that was done is legal
  none-legal : (m : Machine S O R) (start : Decl → Option S) (decls : List Decl) → AllZip (IsLegalAt m) (map start decls) (no_entries decls)
  none-legal m start [] = tt
  none-legal m start (d ∷ ds) = (nothing (start d), none-legal m start ds)
    where
      nothing : (first : Option S) → IsLegalAt m first []
      nothing None = refl
      nothing (Some first) = IsLegal-nil m first

  -- an answer of one history is its machine's
  one-answer : (m : Machine S O R) (start : S) (h : List (Entry O R)) (tell : R → ℕ → StepReply) (who : Who) (op : O) (told : StepReply) →
      answer_in m start h tell who op ≡ Some told → (reply : R) × (m.reply_of (state_after m start h) who op ≡ Some reply) × (tell reply (length h) ≡ told)
  one-answer m start h tell who op told is = made-of (λ reply. tell reply (length h)) (m.reply_of (state_after m start h) who op) told is

  -- an object that answered: where it starts, its history, and the reply of its machine
  pub record IsAnswer (family : Family S O R) (hs : List (List (Entry O R))) (tell : R → ℕ → StepReply) (who : Who) (object : ℕ) (op : O) (told : StepReply) : Type 0 where
    start : S
    history : List (Entry O R)
    reply : R
    starts : start_of family object ≡ Some start
    there : slice_get hs object ≡ Some history
    replies : family.machine.reply_of (state_after family.machine start history) who op ≡ Some reply
    tells : tell reply (length history) ≡ told

  one-of-many : (family : Family S O R) (hs : List (List (Entry O R))) (step_reply : ℕ → R → ℕ → StepReply) (who : Who) (object : ℕ) (op : O) (told : StepReply) →
      answer_at family hs step_reply who object op ≡ Some told → IsAnswer family hs (step_reply object) who object op told
  one-of-many family hs step_reply who object op told is =
      let Q : Type 0 = IsAnswer family hs (step_reply object) who object op told in
      option_and_then_some {P = Q} (λ start. option_and_then (λ h. answer_in family.machine start h (step_reply object) who op) (slice_get hs object)) (start_of family object) told is
      (λ start started after. option_and_then_some {P = Q} (λ h. answer_in family.machine start h (step_reply object) who op) (slice_get hs object) told after
      (λ h there answered.
      let one = one-answer family.machine start h (step_reply object) who op told answered in
      record { start = start; history = h; reply = one.0; starts = started; there = there; replies = one.1; tells = one.2 }))

  -- the history of an object is legal by itself
  pub legal-one : (m : Machine S O R) (starts : List (Option S)) (hs : List (List (Entry O R))) (object : ℕ) (start : S) (h : List (Entry O R)) → AllZip (IsLegalAt m) starts hs →
      option_and_then (λ start. start) (slice_get starts object) ≡ Some start → slice_get hs object ≡ Some h → IsLegal m start h
  legal-one m [] hs object start h all is there = absurd (cc)
  legal-one m (s ∷ ss) [] object start h all is there = absurd (cc)
  legal-one m (s ∷ ss) (g ∷ gs) zero start h all is there =
      let same : g ≡ h = cc in
      subst (λ (o : Option S). IsLegalAt m o h) is (subst (IsLegalAt m s) same all.0)
  legal-one m (s ∷ ss) (g ∷ gs) (suc object) start h all is there = legal-one m ss gs object start h all.1 is there

  -- where it is so with an entry more, all are
  legal-with : (m : Machine S O R) (starts : List (Option S)) (hs : List (List (Entry O R))) (object : ℕ) (start : S) (h : List (Entry O R)) (e : Entry O R) → AllZip (IsLegalAt m) starts hs →
      option_and_then (λ start. start) (slice_get starts object) ≡ Some start → slice_get hs object ≡ Some h → IsLegal m start (h ++ e ∷ []) → AllZip (IsLegalAt m) starts (with_entry hs object e)
  legal-with m [] hs object start h e all is there longer = absurd (cc)
  legal-with m (s ∷ ss) [] object start h e all is there longer = absurd (cc)
  legal-with m (s ∷ ss) (g ∷ gs) zero start h e all is there longer =
      let same : g ≡ h = cc in
      (subst (λ (o : Option S). IsLegalAt m o (g ++ e ∷ [])) (sym is) (subst (λ (l : List (Entry O R)). IsLegal m start (l ++ e ∷ [])) (sym same) longer), all.1)
  legal-with m (s ∷ ss) (g ∷ gs) (suc object) start h e all is there longer = (all.0, legal-with m ss gs object start h e all.1 is there longer)

  -- an entry that an object's machine gives keeps all histories legal
  entry-legal : (family : Family S O R) (hs : List (List (Entry O R))) (tell : R → ℕ → StepReply) (who : Who) (number object : ℕ) (op : O) (told : StepReply) (reply : R) →
      (answer : IsAnswer family hs tell who object op told) → answer.reply ≡ reply → EachLegal family hs → takes_at family object op ≡ true →
      ((h : List (Entry O R)) → slice_get hs object ≡ Some h → IsAbove h who.number number) → EachLegal family (with_entry hs object (entry who number op reply))
  entry-legal family hs tell who number object op told reply answer same legal taken above =
      legal-with family.machine family.starts hs object answer.start answer.history (entry who number op reply) legal answer.starts answer.there
      (IsLegal-snoc family.machine answer.start answer.history (entry who number op reply)
      (legal-one family.machine family.starts hs object answer.start answer.history legal answer.starts answer.there)
      (answer.replies ∙ ap (λ (r : R). Some r) same) (above answer.history answer.there)
      (sym (ap (λ (o : Option S). option_map_or (λ s. family.machine.in_range s op) o false) answer.starts) ∙ taken))

module _ (m : Machines) (shown : Shown) (legal : IsLegalShown m shown) where
  -- one more of these histories is legal, and the others are as they were
  work-legal : (h : List (Entry WorkOp WorkReply)) → IsLegal m.work m.work_start h → IsLegalShown m (record shown { work = h })
  work-legal h new = record { work = new; clock = legal.clock; table = legal.table; sems = legal.sems; msgqs = legal.msgqs; signals = legal.signals; chans = legal.chans; observers = legal.observers }

  clock-legal : (h : List (Entry ClockOp ClockReply)) → IsLegal m.clock m.clock_start h → IsLegalShown m (record shown { clock = h })
  clock-legal h new = record { work = legal.work; clock = new; table = legal.table; sems = legal.sems; msgqs = legal.msgqs; signals = legal.signals; chans = legal.chans; observers = legal.observers }

  table-legal : (h : List (Entry TableOp TableReply)) → IsLegal m.table m.table_start h → IsLegalShown m (record shown { table = h })
  table-legal h new = record { work = legal.work; clock = legal.clock; table = new; sems = legal.sems; msgqs = legal.msgqs; signals = legal.signals; chans = legal.chans; observers = legal.observers }

  sems-legal : (h : List (List (Entry SemOp SemReply))) → EachLegal m.sems h → IsLegalShown m (record shown { sems = h })
  sems-legal h new = record { work = legal.work; clock = legal.clock; table = legal.table; sems = new; msgqs = legal.msgqs; signals = legal.signals; chans = legal.chans; observers = legal.observers }

  msgqs-legal : (h : List (List (Entry MsgqOp MsgqReply))) → EachLegal m.msgqs h → IsLegalShown m (record shown { msgqs = h })
  msgqs-legal h new = record { work = legal.work; clock = legal.clock; table = legal.table; sems = legal.sems; msgqs = new; signals = legal.signals; chans = legal.chans; observers = legal.observers }

  signals-legal : (h : List (List (Entry SignalOp SignalReply))) → EachLegal m.signals h → IsLegalShown m (record shown { signals = h })
  signals-legal h new = record { work = legal.work; clock = legal.clock; table = legal.table; sems = legal.sems; msgqs = legal.msgqs; signals = new; chans = legal.chans; observers = legal.observers }

  chans-legal : (h : List (List (Entry ChanOp ChanReply))) → EachLegal m.chans h → IsLegalShown m (record shown { chans = h })
  chans-legal h new = record { work = legal.work; clock = legal.clock; table = legal.table; sems = legal.sems; msgqs = legal.msgqs; signals = legal.signals; chans = new; observers = legal.observers }

  observers-legal : (h : List (List (Entry ObsOp ObsReply))) → EachLegal m.observers h → IsLegalShown m (record shown { observers = h })
  observers-legal h new = record { work = legal.work; clock = legal.clock; table = legal.table; sems = legal.sems; msgqs = legal.msgqs; signals = legal.signals; chans = legal.chans; observers = new }

-- a step that the machines answer keeps what is shown legal
pub legal-after : (m : Machines) (shown : Shown) (who : Who) (number : ℕ) (step : Step) (reply : StepReply) → IsLegalShown m shown → reply_in m shown who step ≡ Some reply →
    is_in_range m step ≡ true → IsLater shown who.number number → IsLegalShown m (shown_after shown who number step reply)
legal-after m shown who number (steps.Work op) (step_replies.Work reply place) legal answered taken later =
    let one = one-answer m.work m.work_start shown.work step_replies.Work who op (step_replies.Work reply place) answered in
    let same : one.0 ≡ reply = cc in
    work-legal m shown legal (shown.work ++ entry who number op reply ∷ [])
    (IsLegal-snoc m.work m.work_start shown.work (entry who number op reply) legal.work (one.1 ∙ ap Some same) (above-work shown who.number number later) taken)
legal-after m shown who number (steps.Clock op) (step_replies.Clock reply place) legal answered taken later =
    let one = one-answer m.clock m.clock_start shown.clock step_replies.Clock who op (step_replies.Clock reply place) answered in
    let same : one.0 ≡ reply = cc in
    clock-legal m shown legal (shown.clock ++ entry who number op reply ∷ [])
    (IsLegal-snoc m.clock m.clock_start shown.clock (entry who number op reply) legal.clock (one.1 ∙ ap Some same) (above-clock shown who.number number later) taken)
legal-after m shown who number (steps.Table op) (step_replies.Table reply place) legal answered taken later =
    let one = one-answer m.table m.table_start shown.table step_replies.Table who op (step_replies.Table reply place) answered in
    let same : one.0 ≡ reply = cc in
    table-legal m shown legal (shown.table ++ entry who number op reply ∷ [])
    (IsLegal-snoc m.table m.table_start shown.table (entry who number op reply) legal.table (one.1 ∙ ap Some same) (above-table shown who.number number later) taken)
legal-after m shown who number (steps.Sem object op) (step_replies.Sem at reply place) legal answered taken later =
    let one = one-of-many m.sems shown.sems step_replies.Sem who object op (step_replies.Sem at reply place) answered in
    let same : one.reply ≡ reply = let tells = one.tells in cc in
    sems-legal m shown legal (with_entry shown.sems object (entry who number op reply))
    (entry-legal m.sems shown.sems (step_replies.Sem object) who number object op (step_replies.Sem at reply place) reply one same legal.sems taken
    (λ h there. above-sems shown who.number number object h there later))
legal-after m shown who number (steps.Msgq object op) (step_replies.Msgq at reply place) legal answered taken later =
    let one = one-of-many m.msgqs shown.msgqs step_replies.Msgq who object op (step_replies.Msgq at reply place) answered in
    let same : one.reply ≡ reply = let tells = one.tells in cc in
    msgqs-legal m shown legal (with_entry shown.msgqs object (entry who number op reply))
    (entry-legal m.msgqs shown.msgqs (step_replies.Msgq object) who number object op (step_replies.Msgq at reply place) reply one same legal.msgqs taken
    (λ h there. above-msgqs shown who.number number object h there later))
legal-after m shown who number (steps.Signal object op) (step_replies.Signal at reply place) legal answered taken later =
    let one = one-of-many m.signals shown.signals step_replies.Signal who object op (step_replies.Signal at reply place) answered in
    let same : one.reply ≡ reply = let tells = one.tells in cc in
    signals-legal m shown legal (with_entry shown.signals object (entry who number op reply))
    (entry-legal m.signals shown.signals (step_replies.Signal object) who number object op (step_replies.Signal at reply place) reply one same legal.signals taken
    (λ h there. above-signals shown who.number number object h there later))
legal-after m shown who number (steps.Chan object op) (step_replies.Chan at reply place) legal answered taken later =
    let one = one-of-many m.chans shown.chans step_replies.Chan who object op (step_replies.Chan at reply place) answered in
    let same : one.reply ≡ reply = let tells = one.tells in cc in
    chans-legal m shown legal (with_entry shown.chans object (entry who number op reply))
    (entry-legal m.chans shown.chans (step_replies.Chan object) who number object op (step_replies.Chan at reply place) reply one same legal.chans taken
    (λ h there. above-chans shown who.number number object h there later))
legal-after m shown who number (steps.Obs object op) (step_replies.Obs at reply place) legal answered taken later =
    let one = one-of-many m.observers shown.observers step_replies.Obs who object op (step_replies.Obs at reply place) answered in
    let same : one.reply ≡ reply = let tells = one.tells in cc in
    observers-legal m shown legal (with_entry shown.observers object (entry who number op reply))
    (entry-legal m.observers shown.observers (step_replies.Obs object) who number object op (step_replies.Obs at reply place) reply one same legal.observers taken
    (λ h there. above-observers shown who.number number object h there later))
legal-after m shown who number (steps.LookItem object) (step_replies.Flags flags at) legal answered taken later =
    record { work = legal.work; clock = legal.clock; table = legal.table; sems = legal.sems; msgqs = legal.msgqs; signals = legal.signals; chans = legal.chans; observers = legal.observers }
legal-after m shown who number step reply legal answered taken later = legal

-- at first nothing was done, which is legal
pub legal-first : (s : Content) → IsLegalShown (machines_of s) (nothing_shown s.decls)
legal-first s = record {
  work = IsLegal-nil (machines_of s).work (machines_of s).work_start;
  clock = IsLegal-nil (machines_of s).clock (machines_of s).clock_start;
  table = IsLegal-nil (machines_of s).table (machines_of s).table_start;
  sems = none-legal sem_machine sem_start s.decls;
  msgqs = none-legal msgq_machine msgq_start s.decls;
  signals = none-legal signal_machine signal_start s.decls;
  chans = none-legal chan_machine chan_start s.decls;
  observers = none-legal obs_machine observer_start s.decls;
}
