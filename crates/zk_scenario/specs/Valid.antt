use Rattle.std.specs.Prelude.{◌≡◌, ℕ, ◌≤◌, Bool, true, false, not, ◌&&◌, ◌||◌, Some, List, [], ◌∷◌, length, slice_get, count_by}
use Rattle.std.specs.List.{list_all, sum_by}
use Rattle.zk_base.specs.Limits.{most_players}
use Rattle.zk_words.specs.declared.word.Word.{Word}
use Rattle.zk_words.specs.declared.word.Word.TheVariants as word
use Rattle.zk_line.specs.declared.types.Decl.{Decl}
use Rattle.zk_line.specs.declared.types.Call.{Call}
use Rattle.zk_line.specs.Calls.{word_of, is_user_call}
use Rattle.zk_line.specs.Fits.{call_fits, decl_fits, AreObserved}
use Rattle.zk_line.specs.Objects.{AreNames, is_at, is_user, plays_script, is_queue, is_item, is_sem, is_msgq, is_signal, is_listener, is_chan, is_observer, player_count}
use Rattle.zk_scenario.specs.declared.limits.TheConstants.{MOST_QUEUES, MOST_ITEMS, MOST_SEMS, MOST_MSGQS, MOST_SIGNALS, MOST_OBSERVERS, MOST_CHANS, MOST_CALLS}
use Rattle.zk_scenario.specs.declared.types.Script.{Script}
use Rattle.zk_scenario.specs.Content.{Content}
use Rattle.zk_scenario.specs.Scripts.{script_of}
use Rattle.zk_scenario.specs.Written.{AreInOrder}

-- whether calls pass a test, one behind the other: the first is free or isn't, and those behind a call that makes its
-- caller a user are
abbrev pub calls_pass : (Bool → Call → Bool) → Bool → List Call → Bool
calls_pass test free [] = true
calls_pass test free (call ∷ calls) = test free call && calls_pass test (free || is_user_call call) calls

-- whether calls fit, the first of them in a line that is free or isn't
abbrev pub calls_fit : Bool → List Decl → List Call → Bool
calls_fit free decls calls = calls_pass (λ free call. call_fits free decls call) free calls

-- whether a thread, a handler or a listener plays a script, and its calls fit; those of a user are free
abbrev pub script_fits : List Decl → Script → Bool
script_fits decls script =
    is_at plays_script decls script.owner && calls_fit (is_at is_user decls script.owner) decls script.calls

-- whether a call is a supervisor's: it takes a permission away, gives one to all, initialises, or makes its caller a user
abbrev pub is_supervisors : Word → Bool
is_supervisors word.Revoke = true
is_supervisors word.Public = true
is_supervisors word.Init = true
is_supervisors word.User = true
is_supervisors word = false

-- whether a call makes its caller a user
abbrev pub makes_user : Word → Bool
makes_user word.User = true
makes_user word = false

-- whether a call may not stand in a line: a supervisor's in one that is free or in a listener's script, and one that makes
-- its caller a user in an item's script
abbrev pub forbids_call : Bool → Bool → Bool → Word → Bool
forbids_call free listener item word = is_supervisors word && (free || listener) || makes_user word && item

-- whether a call may stand in the script of an object, in a line that is free or isn't
abbrev pub call_stands : List Decl → ℕ → Bool → Call → Bool
call_stands decls owner free call =
    not (forbids_call free (is_at is_listener decls owner) (is_at is_item decls owner) (word_of call))

-- whether each call of a script stands where it may
abbrev pub script_stands : List Decl → Script → Bool
script_stands decls script =
    calls_pass (call_stands decls script.owner) (is_at is_user decls script.owner) script.calls

-- how many calls there are in all scripts
abbrev pub call_count : List Script → ℕ
call_count scripts = sum_by (λ script. length script.calls) scripts

-- each object has at most one script
abbrev pub OneEach : List Script → Type 0
OneEach scripts = (n : ℕ) (script : Script) → slice_get scripts n ≡ Some script → script_of scripts script.owner ≡ Some n

-- within the limits, the declared names are well formed and differ, each declaration is in range, the observers of each
-- channel are declared before it, the lines of objects and permissions are in order, each script fits, its calls stand
-- where they may, and each object has at most one
pub record IsValid (p : Content) : Type 0 where
  pub players : player_count p.decls ≤ most_players
  pub queues : count_by is_queue p.decls ≤ MOST_QUEUES
  pub items : count_by is_item p.decls ≤ MOST_ITEMS
  pub sems : count_by is_sem p.decls ≤ MOST_SEMS
  pub msgqs : count_by is_msgq p.decls ≤ MOST_MSGQS
  pub signals : count_by is_signal p.decls ≤ MOST_SIGNALS
  pub chans : count_by is_chan p.decls ≤ MOST_CHANS
  pub observers : count_by is_observer p.decls ≤ MOST_OBSERVERS
  pub calls : call_count p.scripts ≤ MOST_CALLS
  pub named : AreNames p.decls
  pub in_range : list_all decl_fits p.decls ≡ true
  pub observed : AreObserved p.decls
  pub in_order : AreInOrder p.decls p.written
  pub fit : list_all (script_fits p.decls) p.scripts ≡ true
  pub stand : list_all (script_stands p.decls) p.scripts ≡ true
  pub one_each : OneEach p.scripts
