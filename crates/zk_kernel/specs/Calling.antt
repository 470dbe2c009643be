-- Inner: no contract of a top call is made of this file.
-- A whole call of a caller, by steps of its player.
use Rattle.std.specs.Prelude.{◌≡◌, ℕ, Bool, true, false, ◌&&◌, ◌||◌, nat_le, nat_lt, is_some, Result, Ok, Err, List, [], ◌∷◌, ◌++◌, length, All}
use Rattle.zk_line.specs.declared.types.Call.{Call}
use Rattle.zk_line.specs.Calls.{word_of}
use Rattle.zk_scenario.specs.Content.{Content}
use Rattle.zk_words.specs.declared.word.Word.{Word}
use Rattle.zk_worker.specs.declared.answers.Answer.{Answer}
use Rattle.zk_worker.specs.declared.playing.Stepped.{Stepped}
use Rattle.zk_worker.specs.Attempt.{Counts}
use Rattle.zk_worker.specs.Checks.{next_check, is_oops}
use Rattle.zk_worker.specs.Follows.{is_dead, is_spent_at}
use Rattle.zk_worker.specs.Machines.{machines_of}
use Rattle.zk_worker.specs.Places.{PlayerPlace}
use Rattle.zk_worker.specs.Playing.{StepOutcome}
use Rattle.zk_worker.specs.Shown.{Shown, OnlyOthersCame}
use Rattle.zk_kernel.specs.declared.caller.Caller.{Caller}
use Rattle.zk_kernel.specs.declared.stop.Stop.{Stop}
use Rattle.zk_kernel.specs.declared.stop.Stop.TheVariants as stops
use Rattle.zk_kernel.specs.Callers.{place_of, shown_to, counts_of}
use Rattle.zk_cells.specs.Kernels.{Shared}

-- a moment of a caller: where its player stands, what it has seen, and how many turns it had
pub record Moment : Type 0 where
  pub place : PlayerPlace
  pub shown : Shown
  pub counts : Counts

-- how a caller stands
abbrev pub moment_of : Caller → Moment
moment_of c = record { place = place_of c; shown = shown_to c; counts = counts_of c }

-- one step of the protocol leads from one moment to the next, or none was possible and nothing is done
abbrev pub IsNext : Shared → Moment → Moment → Type 0
IsNext k old new = (stepped : Stepped) × StepOutcome false (machines_of k.scenario) k.scenario old.place new.place
    old.shown new.shown old.counts new.counts stepped

-- a step answered the call that began when so many scripts were open: it made an answer, and was of the call's own script, or
-- was a check that ended the player
abbrev pub is_answered : ℕ → PlayerPlace → PlayerPlace → Bool
is_answered depth old new = nat_lt (length old.answers) (length new.answers)
    && (nat_le (length old.frames) depth || is_dead new.mode)

-- from one moment to another by these moments between, the latest first, by steps of which none answered the call
abbrev pub CameBy : Shared → ℕ → Moment → List Moment → Moment → Type 0
CameBy k depth old [] new = old ≡ new
CameBy k depth old (before ∷ earlier) new =
    IsNext k before new × (is_answered depth before.place new.place ≡ false) × CameBy k depth old earlier before

-- what comes next for a player is a check
abbrev pub is_checking : Content → PlayerPlace → Bool
is_checking s at = is_some (next_check s at.mode at.passed at.frames)

-- a call was played up to its answer, which the last step made
pub record IsCalled (k : Shared) (call : Call) (old new : Moment) (answer : Answer) : Type 0 where
  pub before : Moment
  pub earlier : List Moment
  pub came : CameBy k (length old.place.frames) old earlier before
  pub last : IsNext k before new
  pub answers : is_answered (length old.place.frames) before.place new.place ≡ true
  -- the answer stands behind the earlier ones, under the call's word where it is its own
  pub word : Word
  pub added : new.place.answers ≡ before.place.answers
      ++ record { step = length before.place.spots; word = word; answer = answer } ∷ []
  pub own : nat_le (length before.place.frames) (length old.place.frames) ≡ true → word ≡ word_of call
  -- where a check failed, the player is dead; and where it was one of the call's own, all that the call did were checks
  pub dead : is_dead new.place.mode ≡ is_oops answer
  pub checks : is_oops answer ≡ true → nat_le (length before.place.frames) (length old.place.frames) ≡ true →
      All (λ m. is_checking k.scenario m.place ≡ true) (before ∷ earlier)

-- a call was left before its answer: its steps so far stay, and no other was made
pub record IsLeft (k : Shared) (old new : Moment) : Type 0 where
  pub before : Moment
  pub earlier : List Moment
  pub came : CameBy k (length old.place.frames) old earlier before
  pub place : new.place ≡ before.place
  pub others : OnlyOthersCame false before.place.who.number before.shown new.shown

-- a call was left before its answer since its player had made all its steps
pub record IsSpent (k : Shared) (old new : Moment) : Type 0 where
  pub earlier : List Moment
  pub came : CameBy k (length old.place.frames) old earlier new
  pub spent : is_spent_at k.scenario new.place ≡ true

-- what a call did, by what it gives
abbrev pub HasCalled : Shared → Call → Moment → Moment → Result Answer Stop → Type 0
HasCalled k call old new (Ok answer) = IsCalled k call old new answer
HasCalled k call old new (Err stops.NoMemory) = IsLeft k old new
HasCalled k call old new (Err stops.Spent) = IsSpent k old new

-- whether a stop ended the caller
abbrev pub stops_by : Result Answer Stop → Bool
stops_by (Ok answer) = false
stops_by (Err stop) = true
