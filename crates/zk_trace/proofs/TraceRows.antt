-- Each sort of line behind a head is read exactly as a row, and no head is such a row.
use Rattle.std.proofs.Common.{◌≡◌, ◌⊎◌, ℕ, false, eqb, Option, None, List, ◌∷◌, ◌++◌, get_or, refl, ap, inl, inr, ◌∙◌}
use Rattle.zk_base.specs.declared.ids.Entry.{Entry}
use Rattle.zk_blocks.specs.Heads.{IsAnyHead, EndsRows}
use Rattle.zk_blocks.specs.Rows.{IsRow}
use Rattle.zk_blocks.proofs.Families.{rows_end}
use Rattle.zk_line.specs.Objects.{AreNames}
use Rattle.zk_line.specs.declared.types.Decl.{Decl}
use Rattle.zk_model_bus.specs.declared.channel.ChanOp.{ChanOp}
use Rattle.zk_model_bus.specs.declared.channel.ChanReply.{ChanReply}
use Rattle.zk_model_bus.specs.declared.observer.ObsOp.{ObsOp}
use Rattle.zk_model_bus.specs.declared.observer.ObsReply.{ObsReply}
use Rattle.zk_model_bus.specs.declared.table.TableOp.{TableOp}
use Rattle.zk_model_bus.specs.declared.table.TableReply.{TableReply}
use Rattle.zk_model_wait.specs.declared.clock.ClockOp.{ClockOp}
use Rattle.zk_model_wait.specs.declared.clock.ClockReply.{ClockReply}
use Rattle.zk_model_wait.specs.declared.msgq.MsgqOp.{MsgqOp}
use Rattle.zk_model_wait.specs.declared.msgq.MsgqReply.{MsgqReply}
use Rattle.zk_model_wait.specs.declared.sem.SemOp.{SemOp}
use Rattle.zk_model_wait.specs.declared.sem.SemReply.{SemReply}
use Rattle.zk_model_wait.specs.declared.signal.SignalOp.{SignalOp}
use Rattle.zk_model_wait.specs.declared.signal.SignalReply.{SignalReply}
use Rattle.zk_model_work.specs.declared.ops.WorkOp.{WorkOp}
use Rattle.zk_model_work.specs.declared.ops.WorkReply.{WorkReply}
use Rattle.zk_words.specs.Bytes.{space}
use Rattle.zk_worker.specs.declared.answers.Answered.{Answered}
use Rattle.zk_trace.specs.declared.format.Format.{Format}
use Rattle.zk_trace.specs.declared.format.Format.TheVariants.{One, Two}
use Rattle.zk_trace.specs.declared.looks.ItemLook.{ItemLook}
use Rattle.zk_trace.specs.declared.looks.SignalLook.{SignalLook}
use Rattle.zk_trace.specs.AnswerRead.{answered_row, answered_of, IsAnswered}
use Rattle.zk_trace.specs.EntryKinds.{work_row, work_of, IsWork, clock_row, clock_of, IsClock, table_row, table_of, IsTable, sem_row, sem_of, IsSem, msgq_row, msgq_of, IsMsgq, signal_row, signal_of, IsSignal, chan_row, chan_of, IsChan, obs_row, obs_of, IsObs}
use Rattle.zk_trace.specs.EntryRead.{entry_of}
use Rattle.zk_trace.specs.Exact.{IsExactRow, IsSpelled}
use Rattle.zk_trace.specs.LookRead.{item_look_row, says_item_look, FitsItemLook, signal_look_row, says_signal_look, FitsSignalLook}
use Rattle.zk_trace.specs.Looks.{look_word}
use Rattle.zk_trace.specs.SectionRead.{head_of, IsPlayerRow}
use Rattle.zk_trace.specs.Text.{head_row, player_word}
use Rattle.zk_trace.proofs.AnswerRead.{answered_exact, answered_apart}
use Rattle.zk_trace.proofs.ChanRead.{chan_spelled}
use Rattle.zk_trace.proofs.ClockRead.{clock_spelled}
use Rattle.zk_trace.proofs.EntryRead.{first_step, entry_exact, no_entry}
use Rattle.zk_trace.proofs.HeadRead.{head-spelled}
use Rattle.zk_trace.proofs.LookRead.{item_looks_exact, signal_looks_exact, item_look_apart, signal_look_apart}
use Rattle.zk_trace.proofs.MsgqRead.{msgq_spelled}
use Rattle.zk_trace.proofs.ObsRead.{obs_spelled}
use Rattle.zk_trace.proofs.SemRead.{sem_spelled}
use Rattle.zk_trace.proofs.SignalRead.{signal_spelled}
use Rattle.zk_trace.proofs.TableRead.{table_spelled}
use Rattle.zk_trace.proofs.WorkRead.{work_spelled}

-- a line that begins with the head of a player, or none
abbrev pub IsPlayers : List ℕ → Type 0
IsPlayers line = IsPlayerRow line ⊎ ⊥

-- a line that is read exactly whichever row is before it is a row
pub row_of : {X : Type 0} {text : X → List ℕ} {Fits : Option X → X → Type 0} {says : Option X → List ℕ → Option X} →
    ((last : Option X) → IsExactRow text (Fits last) (says last)) → IsRow text Fits says
row_of exact = record { again = λ last. (exact last).again; spelled = λ last. (exact last).spelled }

-- what says nothing of the heads of services and of players is over where they stand
over_heads : {X : Type 0} (f : Format) (says : Option X → List ℕ → Option X) →
    ((name : List ℕ) (entries looks : ℕ) (last : Option X) → says last (head_row f name entries looks) ≡ None) →
    ((rest : List ℕ) (last : Option X) → says last (player_word ++ space ∷ rest) ≡ None) → (line : List ℕ) → EndsRows (head_of f) IsPlayers line → (last : Option X) → says last line ≡ None
over_heads {X = X} f says no_service no_player = rows_end says no_services no_players where
  no_services : (name line : List ℕ) → IsAnyHead (head_of f name) line → (last : Option X) → says last line ≡ None
  no_services name line (counts, known) last =
      let it = head-spelled f name line counts known in ap (says last) it.row_is ∙ no_service name it.entries it.looks last

  no_players : (line : List ℕ) → IsPlayers line → (last : Option X) → says last line ≡ None
  no_players line (inl (rest, is)) last = ap (says last) is ∙ no_player rest last
  no_players line (inr none) last = absurd none

-- the head of a service begins with no step
no_step : (decls : List Decl) (f : Format) (name : List ℕ) (entries looks : ℕ) → first_step decls (head_row f name entries looks) ≡ None
no_step decls One name entries looks = refl
no_step decls Two name entries looks = refl

-- nor as a look does
no_look : (f : Format) (name : List ℕ) (entries looks : ℕ) → eqb (get_or (head_row f name entries looks) 0 0) (get_or look_word 0 0) ≡ false
no_look One name entries looks = refl
no_look Two name entries looks = refl

module _ (decls : List Decl) (are : AreNames decls) where
  -- Entries.

  module _ {O R : Type 0} {op_words : O → List (List ℕ)} {reply_words : R → List (List ℕ)} {FitsOp : O → Type 0} {Answers : O → R → Type 0}
      {op_of : List (List ℕ) → Option O} {reply_of : O → List ℕ → Option R} (service : IsSpelled op_words reply_words FitsOp Answers op_of reply_of) where
    over_entry : (f : Format) (line : List ℕ) → EndsRows (head_of f) IsPlayers line → (last : Option (Entry O R)) → entry_of decls op_of reply_of line ≡ None
    over_entry f =
        over_heads f (λ last. entry_of decls op_of reply_of)
        (λ name entries looks last. no_entry decls are service (head_row f name entries looks) (no_step decls f name entries looks))
        (λ rest last. no_entry decls are service (player_word ++ space ∷ rest) refl)

  pub work_rows : IsRow (work_row decls) (λ last. IsWork decls) (λ last. work_of decls)
  work_rows = row_of (λ last. entry_exact decls are (work_spelled decls are))

  pub over_work : (f : Format) (line : List ℕ) → EndsRows (head_of f) IsPlayers line → (last : Option (Entry WorkOp WorkReply)) → work_of decls line ≡ None
  over_work = over_entry (work_spelled decls are)

  pub clock_rows : IsRow (clock_row decls) (λ last. IsClock decls) (λ last. clock_of decls)
  clock_rows = row_of (λ last. entry_exact decls are (clock_spelled decls are))

  pub over_clock : (f : Format) (line : List ℕ) → EndsRows (head_of f) IsPlayers line → (last : Option (Entry ClockOp ClockReply)) → clock_of decls line ≡ None
  over_clock = over_entry (clock_spelled decls are)

  pub table_rows : IsRow (table_row decls) (λ last. IsTable decls) (λ last. table_of decls)
  table_rows = row_of (λ last. entry_exact decls are (table_spelled decls are))

  pub over_table : (f : Format) (line : List ℕ) → EndsRows (head_of f) IsPlayers line → (last : Option (Entry TableOp TableReply)) → table_of decls line ≡ None
  over_table = over_entry (table_spelled decls are)

  pub sem_rows : IsRow (sem_row decls) (λ last. IsSem decls) (λ last. sem_of decls)
  sem_rows = row_of (λ last. entry_exact decls are (sem_spelled decls are))

  pub over_sem : (f : Format) (line : List ℕ) → EndsRows (head_of f) IsPlayers line → (last : Option (Entry SemOp SemReply)) → sem_of decls line ≡ None
  over_sem = over_entry (sem_spelled decls are)

  pub msgq_rows : IsRow (msgq_row decls) (λ last. IsMsgq decls) (λ last. msgq_of decls)
  msgq_rows = row_of (λ last. entry_exact decls are (msgq_spelled decls are))

  pub over_msgq : (f : Format) (line : List ℕ) → EndsRows (head_of f) IsPlayers line → (last : Option (Entry MsgqOp MsgqReply)) → msgq_of decls line ≡ None
  over_msgq = over_entry (msgq_spelled decls are)

  pub signal_rows : IsRow (signal_row decls) (λ last. IsSignal decls) (λ last. signal_of decls)
  signal_rows = row_of (λ last. entry_exact decls are (signal_spelled decls are))

  pub over_signal : (f : Format) (line : List ℕ) → EndsRows (head_of f) IsPlayers line → (last : Option (Entry SignalOp SignalReply)) → signal_of decls line ≡ None
  over_signal = over_entry (signal_spelled decls are)

  pub chan_rows : IsRow (chan_row decls) (λ last. IsChan decls) (λ last. chan_of decls)
  chan_rows = row_of (λ last. entry_exact decls are (chan_spelled decls are))

  pub over_chan : (f : Format) (line : List ℕ) → EndsRows (head_of f) IsPlayers line → (last : Option (Entry ChanOp ChanReply)) → chan_of decls line ≡ None
  over_chan = over_entry (chan_spelled decls are)

  pub obs_rows : IsRow (obs_row decls) (λ last. IsObs decls) (λ last. obs_of decls)
  obs_rows = row_of (λ last. entry_exact decls are (obs_spelled decls are))

  pub over_obs : (f : Format) (line : List ℕ) → EndsRows (head_of f) IsPlayers line → (last : Option (Entry ObsOp ObsReply)) → obs_of decls line ≡ None
  over_obs = over_entry (obs_spelled decls are)

  -- Looks.

  pub item_look_rows : IsRow (item_look_row decls) (FitsItemLook decls) (says_item_look decls)
  item_look_rows = row_of (item_looks_exact decls are)

  pub over_item_look : (f : Format) (line : List ℕ) → EndsRows (head_of f) IsPlayers line → (last : Option ItemLook) → says_item_look decls last line ≡ None
  over_item_look f =
      over_heads f (says_item_look decls)
      (λ name entries looks last. item_look_apart decls are last (head_row f name entries looks) (no_look f name entries looks)) (λ rest last. item_look_apart decls are last (player_word ++ space ∷ rest) refl)

  pub signal_look_rows : IsRow (signal_look_row decls) (FitsSignalLook decls) (says_signal_look decls)
  signal_look_rows = row_of (signal_looks_exact decls are)

  pub over_signal_look : (f : Format) (line : List ℕ) → EndsRows (head_of f) IsPlayers line → (last : Option SignalLook) → says_signal_look decls last line ≡ None
  over_signal_look f =
      over_heads f (says_signal_look decls)
      (λ name entries looks last. signal_look_apart decls are last (head_row f name entries looks) (no_look f name entries looks)) (λ rest last. signal_look_apart decls are last (player_word ++ space ∷ rest) refl)

  -- no look is an entry
  pub work_apart : (look : ItemLook) → work_of decls (item_look_row decls look) ≡ None
  work_apart look = no_entry decls are (work_spelled decls are) (item_look_row decls look) refl

  pub signal_apart : (look : SignalLook) → signal_of decls (signal_look_row decls look) ≡ None
  signal_apart look = no_entry decls are (signal_spelled decls are) (signal_look_row decls look) refl

  -- Answers.

  pub answer_rows : IsRow (answered_row decls) (λ last. IsAnswered decls) (λ last. answered_of decls)
  answer_rows = row_of (λ last. answered_exact decls are)

  pub over_answer : (line : List ℕ) → IsPlayers line → (last : Option Answered) → answered_of decls line ≡ None
  over_answer line (inl (rest, is)) last = ap (answered_of decls) is ∙ answered_apart decls are (player_word ++ space ∷ rest) refl
  over_answer line (inr none) last = absurd none
