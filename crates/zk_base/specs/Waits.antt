use Rattle.std.specs.Prelude.{ℕ, ◌+◌, Bool, true, false, ◌==◌, ◌&&◌, int_lt, Option, Some, None, is_some, option_map, not, List, [], ◌∷◌, ◌++◌, length, map, filter}
use Rattle.std.specs.List.{find, list_any}
use Rattle.zk_base.specs.declared.waits.Waiter.{Waiter}
use Rattle.zk_base.specs.declared.waits.Decision.{Decision}
use Rattle.zk_base.specs.Lists.{put_before, without_first}

-- who waits at an object, in the order in which they are served, and whose wait is decided and hasn't ended
pub record Waits (M A : Type 0) : Type 0 where
  pub waiting : List (Waiter M)
  pub decided : List (Decision A)

-- what a contract sees of waits that are kept: the waits, how many more fit without memory, and a number above all places so far
pub record WaitView (M A : Type 0) : Type 0 where
  pub waits : Waits M A
  pub room : ℕ
  pub next : ℕ

-- nobody waits
abbrev pub no_waits : {M A : Type 0} → Waits M A
no_waits = record { waiting = []; decided = [] }

-- the second is served after the first, whenever it came: its priority number is higher
abbrev pub is_served_after : {M : Type 0} → Waiter M → Waiter M → Bool
is_served_after w other = int_lt w.who.prio other.who.prio

-- it is the wait of this player that the entry at this place began
abbrev pub is_waiter : {M : Type 0} → ℕ → ℕ → Waiter M → Bool
is_waiter player place w = w.place == place && w.who.number == player

-- it is the decision of that wait
abbrev pub is_decision : {A : Type 0} → ℕ → ℕ → Decision A → Bool
is_decision player place d = d.place == place && d.player == player

-- the decision of a wait, with this answer
abbrev pub decide : {M A : Type 0} → A → Waiter M → Decision A
decide answer w = record { place = w.place; player = w.who.number; answer = answer }

-- the answer by which a wait is decided, if it is
abbrev pub decision_of : {M A : Type 0} → Waits M A → ℕ → ℕ → Option A
decision_of ws player place = option_map (λ d. d.answer) (find (is_decision player place) ws.decided)

-- the wait goes on
abbrev pub goes_on : {M A : Type 0} → Waits M A → ℕ → ℕ → Bool
goes_on ws player place = list_any (is_waiter player place) ws.waiting

-- how many waits haven't ended
abbrev pub open_waits : {M A : Type 0} → Waits M A → ℕ
open_waits ws = length ws.waiting + length ws.decided

-- The seven moves of waits. The first is that they stay as they are.

-- one more waits: behind all of its priority
abbrev pub joined : {M A : Type 0} → Waits M A → Waiter M → Waits M A
joined ws w = record ws { waiting = put_before (is_served_after w) w ws.waiting }

-- a decided wait ends
abbrev pub ended : {M A : Type 0} → Waits M A → ℕ → ℕ → Waits M A
ended ws player place = record ws { decided = without_first (is_decision player place) ws.decided }

-- a wait that goes on is taken out
abbrev pub left : {M A : Type 0} → Waits M A → ℕ → ℕ → Waits M A
left ws player place = record ws { waiting = without_first (is_waiter player place) ws.waiting }

-- a wait is given up, decided or not
abbrev pub quitted : {M A : Type 0} → Waits M A → ℕ → ℕ → Waits M A
quitted ws player place = left (ended ws player place) player place

-- the first who waits is decided, if anybody waits
abbrev pub decides_first : {M A : Type 0} → A → List (Waiter M) → List (Decision A) → Waits M A
decides_first answer [] decided = record { waiting = []; decided = decided }
decides_first answer (w ∷ ws) decided = record { waiting = ws; decided = decided ++ decide answer w ∷ [] }

abbrev pub first_decided : {M A : Type 0} → A → Waits M A → Waits M A
first_decided answer ws = decides_first answer ws.waiting ws.decided

-- all who wait are decided alike
abbrev pub all_decided : {M A : Type 0} → A → Waits M A → Waits M A
all_decided answer ws = record { waiting = []; decided = ws.decided ++ map (decide answer) ws.waiting }

-- what a test says of one who waits: the answer that decides the wait, if it has one
abbrev pub says : {M A : Type 0} → (M → Option A) → Waiter M → Option A
says test w = test w.payload

-- the test has no answer for whom it leaves waiting
abbrev pub is_left : {M A : Type 0} → (M → Option A) → Waiter M → Bool
is_left test w = not (is_some (says test w))

-- the decision of a wait, where there is an answer
abbrev pub decided_by : {M A : Type 0} → Option A → Waiter M → List (Decision A)
decided_by None w = []
decided_by (Some answer) w = decide answer w ∷ []

-- the decisions of those for whom the test has an answer, in their order
abbrev pub decisions_by : {M A : Type 0} → (M → Option A) → List (Waiter M) → List (Decision A)
decisions_by test [] = []
decisions_by test (w ∷ ws) = decided_by (says test w) w ++ decisions_by test ws

-- each for whom the test has an answer is decided with it, in their order. The others go on
abbrev pub each_decided : {M A : Type 0} → (M → Option A) → Waits M A → Waits M A
each_decided test ws = record {
  waiting = filter (is_left test) ws.waiting;
  decided = ws.decided ++ decisions_by test ws.waiting;
}

-- what the end of a wait that is given up answers, where that is possible: its decision, else that it was given up
abbrev pub given_up : {A : Type 0} → A → Bool → Option A → Option A
given_up gives_up waits (Some answer) = Some answer
given_up gives_up true None = Some gives_up
given_up gives_up false None = None

abbrev pub quit_answer : {M A : Type 0} → A → Waits M A → ℕ → ℕ → Option A
quit_answer gives_up ws player place = given_up gives_up (goes_on ws player place) (decision_of ws player place)
