use Rattle.std.specs.Prelude.{◌≡◌, ℕ, Bool, None, List, [], length}
use Rattle.std.specs.List.{AllByRecursion, range_with_len}
use Rattle.zk_blocks.specs.Blocks.{FitsGiven}
use Rattle.zk_blocks.specs.Each.{EachFits}
use Rattle.zk_blocks.specs.Rows.{AllFit}
use Rattle.zk_line.specs.Objects.{is_sem, is_msgq, is_signal, is_chan, is_observer}
use Rattle.zk_line.specs.declared.types.Decl.{Decl}
use Rattle.zk_scenario.specs.Content.{Content}
use Rattle.zk_scenario.specs.Players.{players}
use Rattle.zk_worker.specs.declared.log.Log.{Log}
use Rattle.zk_trace.specs.declared.stood.Stood.{Stood}
use Rattle.zk_trace.specs.declared.trace.Trace.{Trace}
use Rattle.zk_trace.specs.AnswerRead.{IsAnswered}
use Rattle.zk_trace.specs.EntryKinds.{IsWork, IsClock, IsTable, IsSem, IsMsgq, IsSignal, IsChan, IsObs}
use Rattle.zk_trace.specs.LookRead.{FitsItemLook, FitsSignalLook}
use Rattle.zk_trace.specs.Stood.{stood, steps_of}

-- there is a list for each declaration: it fits where the declaration is of the kind, and is empty where it isn't
abbrev pub AreOfKind : {X : Type 0} → (Decl → Bool) → (List X → Type 0) → List Decl → List (List X) → Type 0
AreOfKind of_kind Fits decls lists = EachFits (λ d. FitsGiven (of_kind d) [] Fits) decls lists

-- the log of a player is in form: its steps are the player's lines, by step, and at equal steps in the order of the text; its
-- answers are ones that their calls can have
pub record IsLog (decls : List Decl) (lines : List Stood) (player : ℕ) (log : Log) : Type 0 where
  pub steps : log.steps ≡ steps_of lines player
  pub answers : AllByRecursion (IsAnswered decls) log.answers

-- the players of some declarations, by their numbers
abbrev pub player_numbers : List Decl → List ℕ
player_numbers decls = range_with_len 0 (length (players decls))

-- a trace is in form for a scenario
pub record IsInForm (s : Content) (t : Trace) : Type 0 where
  -- each entry is in form
  pub work : AllByRecursion (IsWork s.decls) t.work
  pub clock : AllByRecursion (IsClock s.decls) t.clock
  pub table : AllByRecursion (IsTable s.decls) t.table
  -- for each declaration of a kind there is a history of such entries
  pub sems : AreOfKind is_sem (AllByRecursion (IsSem s.decls)) s.decls t.sems
  pub msgqs : AreOfKind is_msgq (AllByRecursion (IsMsgq s.decls)) s.decls t.msgqs
  pub signals : AreOfKind is_signal (AllByRecursion (IsSignal s.decls)) s.decls t.signals
  pub chans : AreOfKind is_chan (AllByRecursion (IsChan s.decls)) s.decls t.chans
  pub observers : AreOfKind is_observer (AllByRecursion (IsObs s.decls)) s.decls t.observers
  -- each look is in form, and none stands behind one of a later player, or of a later step of the same
  pub item_looks : AllFit (FitsItemLook s.decls) None t.looks.items
  pub signal_looks : AreOfKind is_signal (AllFit (FitsSignalLook s.decls) None) s.decls t.looks.signals
  -- for each player there is a log
  pub logs : EachFits (IsLog s.decls (stood t)) (player_numbers s.decls) t.logs
