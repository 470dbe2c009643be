use Rattle.std.specs.Prelude.{◌≡◌, ℕ, List, [], ◌++◌, codes, decimal, length, slice_get}
use Rattle.std.specs.List.{AllZip, concat}
use Rattle.std.specs.Option.{option_map_or}
use Rattle.zk_line.specs.declared.types.Decl.{Decl}
use Rattle.zk_worker.specs.declared.log.PlayerState.{PlayerState}
use Rattle.zk_worker.specs.declared.log.PlayerState.TheVariants as states
use Rattle.zk_trace.specs.declared.trace.Ending.{Ending}
use Rattle.zk_trace.specs.declared.trace.Ending.TheVariants.{Ended, Stuck, Spent}
use Rattle.zk_trace.specs.declared.trace.Trace.{Trace}
use Rattle.zk_show_why.specs.Leavings.{TellsLeft}
use Rattle.zk_show_why.specs.Oops.{oops_words}
use Rattle.zk_show_why.specs.Players.{open_players, oops_players, spent_players, player_name}
use Rattle.zk_show_why.specs.Times.{time_line}
use Rattle.zk_show_why.specs.Waits.{wait_words}

-- what is said of a player that stands so, behind its name
abbrev pub state_words : PlayerState → List ℕ
state_words states.Spent = codes " has made all the steps that a player may make, "
state_words states.Oops = codes " was ended by an oops "
state_words states.Done = codes " is through"
state_words states.Standing = codes " stands "

-- how many steps a player has made, in words
abbrev pub steps_words : Trace → ℕ → List ℕ
steps_words t player = option_map_or (λ log. decimal (length log.steps)) (slice_get t.logs player) []

-- what the trace alone says of a player that stands so, in words: how many steps it has made; which check has ended it; what it
-- waits for, since which of its steps, and who holds that
abbrev pub facts : List Decl → Trace → PlayerState → ℕ → List ℕ
facts decls t states.Spent player = steps_words t player
facts decls t states.Oops player = oops_words decls t player
facts decls t states.Done player = []
facts decls t states.Standing player = wait_words decls t player

-- a sentence on a player that stands so: its name, how it stands, where that is, what the trace alone says of it, and more
pub record IsSentence (decls : List Decl) (t : Trace) (state : PlayerState) (player : ℕ) (text : List ℕ) : Type 0 where
  pub place : List ℕ
  pub more : List ℕ
  pub says : text ≡ player_name decls player ++ state_words state ++ place ++ facts decls t state player ++ more

-- behind what was there stands a sentence on a player that stands so, and nothing else
pub record Tells (decls : List Decl) (t : Trace) (state : PlayerState) (player : ℕ) (old new : List ℕ) : Type 0 where
  pub text : List ℕ
  pub sentence : IsSentence decls t state player text
  pub behind : new ≡ old ++ text

-- behind what was there stands a sentence on each of the players, which stand so, in order, and nothing else
pub record TellsEach (decls : List Decl) (t : Trace) (state : PlayerState) (players : List ℕ) (old new : List ℕ) : Type 0 where
  pub texts : List (List ℕ)
  pub each : AllZip (IsSentence decls t state) players texts
  pub behind : new ≡ old ++ concat texts

-- who waits for each other, then the time with what it would end, and whether a `tick` is left
pub record IsStuckText (decls : List Decl) (t : Trace) (text : List ℕ) : Type 0 where
  pub circles : List ℕ
  pub ticks : List ℕ
  pub says : text ≡ circles ++ time_line decls t ++ ticks

-- behind what was there stands that, and nothing else
pub record TellsStuck (decls : List Decl) (t : Trace) (old new : List ℕ) : Type 0 where
  pub text : List ℕ
  pub is : IsStuckText decls t text
  pub behind : new ≡ old ++ text

-- how a run ended, in words
abbrev pub ending_words : Ending → List ℕ
ending_words Ended = codes "ended: each thread is through or was ended by an oops, and no admission waits.\n"
ending_words Stuck = codes "stuck: no player can go on.\n"
ending_words Spent = codes "spent: a player has made all its steps.\n"

-- behind what was there stands why a run ended so
pub record TellsWhy (decls : List Decl) (t : Trace) (old new : List ℕ) : Type 0 where
  pub spent_end : List ℕ
  pub open_end : List ℕ
  pub oops_end : List ℕ
  -- first how it ended, and a sentence on each player that has made all its steps,
  pub each_spent : TellsEach decls t states.Spent (spent_players t) (old ++ ending_words t.ending) spent_end
  -- then one on each that stands in a call,
  pub each_open : TellsEach decls t states.Standing (open_players t) spent_end open_end
  -- then one on each that an oops has ended,
  pub each_oops : TellsEach decls t states.Oops (oops_players t) open_end oops_end
  -- then what it leaves behind, where it has ended, and more where it is stuck
  pub left : t.ending ≡ Ended → TellsLeft decls t oops_end new
  pub more : t.ending ≡ Stuck → TellsStuck decls t oops_end new
  pub no_more : t.ending ≡ Spent → new ≡ oops_end
