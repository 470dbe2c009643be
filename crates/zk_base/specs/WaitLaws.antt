use Rattle.std.specs.Prelude.{◌≡◌, ℕ, zero, suc, ◌+◌, ◌≤◌, Bool, true, false, not, ◌==◌, ◌&&◌, ◌||◌, ◌⊎◌, if◌then◌else◌, int_lt, nat_lt, count_by, Option, Some, None, is_some, List, [], ◌∷◌, ◌++◌, length, All}
use Rattle.std.specs.List.{Contains, list_any}
use Rattle.zk_base.specs.declared.ids.Who.{Who}
use Rattle.zk_base.specs.declared.ids.Entry.{Entry}
use Rattle.zk_base.specs.declared.waits.Waiter.{Waiter}
use Rattle.zk_base.specs.declared.waits.Decision.{Decision}
use Rattle.zk_base.specs.History.{IsEntry}
use Rattle.zk_base.specs.Legal.{Machine, state_after}
use Rattle.zk_base.specs.Waits.{Waits, no_waits, joined, ended, quitted, first_decided, all_decided, each_decided, decision_of, quit_answer}

-- whom an entry that ends no wait decides: nobody, the first who waits, all who wait, or each for whose payload a test has
-- an answer, with that answer
pub data Decides (R M : Type 0) : Type 0 where
  nobody : Decides R M
  first : R → Decides R M
  all : R → Decides R M
  each : (M → Option R) → Decides R M

-- a list of waits of a machine: where it stands in the state, and what opens, ends and decides its waits
pub record WaitKind (S O R M : Type 0) : Type 0 where
  pub waits : S → Waits M R
  -- how many entries there are
  pub entries : S → ℕ
  -- what the wait that an entry opens is for, if it opens one
  pub opens : O → R → Option M
  -- the place of the wait that an operation ends, if it ends one
  pub ends : O → Option ℕ
  -- and of the one that it gives up
  pub quits : O → Option ℕ
  -- what giving up a wait that isn't decided answers
  pub gives_up : R
  -- whom an entry decides, and how
  pub decides : S → O → R → Decides R M

-- the waits after an entry that decides
abbrev pub after_decision : {R M : Type 0} → Decides R M → Waits M R → Waits M R
after_decision nobody ws = ws
after_decision (first answer) ws = first_decided answer ws
after_decision (all answer) ws = all_decided answer ws
after_decision (each test) ws = each_decided test ws

-- the waits after an entry: one more, one less, or as it decides
abbrev pub after_entry : {R M : Type 0} → Waits M R → ℕ → Who → Decides R M → Option M →
    Option ℕ → Option ℕ → Waits M R
after_entry ws place who decides (Some payload) ends quits = joined ws (record { place = place; who = who; payload = payload })
after_entry ws place who decides None (Some at) quits = ended ws who.number at
after_entry ws place who decides None None (Some at) = quitted ws who.number at
after_entry ws place who decides None None None = after_decision decides ws

-- a machine has such waits: this is all that happens to them, and an end or a quit is possible just where the wait is there
pub record HasWaits {S O R M : Type 0} (m : Machine S O R) (k : WaitKind S O R M) : Type 0 where
  pub counts : (s : S) (who : Who) (op : O) → k.entries (m.next s who op) ≡ k.entries s + 1
  pub moves : (s : S) (who : Who) (op : O) (reply : R) → m.reply_of s who op ≡ Some reply →
      k.waits (m.next s who op)
      ≡ after_entry (k.waits s) (k.entries s) who (k.decides s op reply) (k.opens op reply) (k.ends op) (k.quits op)
  pub ends : (s : S) (who : Who) (op : O) (place : ℕ) → k.ends op ≡ Some place →
      m.reply_of s who op ≡ decision_of (k.waits s) who.number place
  pub quits : (s : S) (who : Who) (op : O) (place : ℕ) → k.quits op ≡ Some place →
      m.reply_of s who op ≡ quit_answer k.gives_up (k.waits s) who.number place
  -- an entry opens, ends or gives up one at most
  pub opens_alone : (op : O) (reply : R) (payload : M) → k.opens op reply ≡ Some payload →
      (k.ends op ≡ None) × (k.quits op ≡ None)
  pub ends_alone : (op : O) (place : ℕ) → k.ends op ≡ Some place → k.quits op ≡ None

-- a first state: nobody waits, and there is no entry
pub record IsFirst {S O R M : Type 0} (k : WaitKind S O R M) (s : S) : Type 0 where
  pub none : k.waits s ≡ no_waits
  pub new : k.entries s ≡ 0

-- the wait of this place was opened there, by this player, for this
pub record WasOpened {S O R M : Type 0} (k : WaitKind S O R M) (h : List (Entry O R))
    (place : ℕ) (who : Who) (payload : M) : Type 0 where
  pub front : List (Entry O R)
  pub e : Entry O R
  pub at : IsEntry h front e
  pub there : length front ≡ place
  pub by : e.who ≡ who
  pub opening : k.opens e.op e.reply ≡ Some payload

-- the wait that is decided was opened by the player of the decision
abbrev pub WasOpenedBy : {S O R M : Type 0} → WaitKind S O R M → List (Entry O R) → Decision R → Type 0
WasOpenedBy {M = M} k h d = (who : Who) × (payload : M) × (who.number ≡ d.player) × WasOpened k h d.place who payload

-- how many waits of this place go on, and how many are decided
abbrev pub waiting_at : {M A : Type 0} → ℕ → Waits M A → ℕ
waiting_at place ws = count_by (λ w. w.place == place) ws.waiting

abbrev pub decided_at : {M A : Type 0} → ℕ → Waits M A → ℕ
decided_at place ws = count_by (λ d. d.place == place) ws.decided

-- what those who wait are handed: of these decisions, what the answers hold whose wait wasn't decided before
abbrev pub handed_by : {M A B : Type 0} → (A → List B) → Waits M A → List (Decision A) → List B
handed_by content before [] = []
handed_by content before (d ∷ ds) =
    (if decided_at d.place before == 0 then content d.answer else []) ++ handed_by content before ds

-- it is this place
abbrev pub is_at : ℕ → Option ℕ → Bool
is_at place None = false
is_at place (Some at) = at == place

-- the entry ends the wait of this place, or gives it up
abbrev pub finishes : {S O R M : Type 0} → WaitKind S O R M → ℕ → Entry O R → Bool
finishes k place e = is_at place (k.ends e.op) || is_at place (k.quits e.op)

-- 1 where the entry at this place opened a wait, else 0
abbrev pub opened_at : {S O R M : Type 0} → WaitKind S O R M → List (Entry O R) → ℕ → ℕ
opened_at k [] place = 0
opened_at k (e ∷ es) zero = if is_some (k.opens e.op e.reply) then 1 else 0
opened_at k (e ∷ es) (suc place) = opened_at k es place

-- the decision of the wait of a place and a player
abbrev pub decision : {A : Type 0} → ℕ → ℕ → A → Decision A
decision place player answer = record { place = place; player = player; answer = answer }

-- the wait is decided so
abbrev pub IsDecided : {S O R M : Type 0} → WaitKind S O R M → S → Decision R → Type 0
IsDecided k s d = Contains (k.waits s).decided d

-- the wait of this place and player goes on
abbrev pub WaitsAt : {S O R M : Type 0} → WaitKind S O R M → S → ℕ → ℕ → Type 0
WaitsAt {M = M} k s place player =
    (w : Waiter M) × Contains (k.waits s).waiting w × (w.place ≡ place) × (w.who.number ≡ player)

-- the entry behind this front decides the wait so: it isn't decided before
pub record IsDecidedBy {S O R M : Type 0} (m : Machine S O R) (k : WaitKind S O R M) (s : S) (front : List (Entry O R))
    (e : Entry O R) (d : Decision R) : Type 0 where
  pub before : decided_at d.place (k.waits (state_after m s front)) ≡ 0
  pub after : IsDecided k (state_after m s (front ++ e ∷ [])) d

-- an entry of the history decides the wait so
pub record WasDecided {S O R M : Type 0} (m : Machine S O R) (k : WaitKind S O R M) (s : S) (h : List (Entry O R))
    (d : Decision R) : Type 0 where
  pub front : List (Entry O R)
  pub e : Entry O R
  pub at : IsEntry h front e
  pub here : IsDecidedBy m k s front e d

-- how many entries decide the wait of this place
abbrev pub decisions : {S O R M : Type 0} → Machine S O R → WaitKind S O R M → ℕ → S → List (Entry O R) → ℕ
decisions m k place s [] = 0
decisions m k place s (e ∷ es) =
    (if decided_at place (k.waits s) == 0 && nat_lt 0 (decided_at place (k.waits (m.next s e.who e.op))) then 1 else 0)
    + decisions m k place (m.next s e.who e.op) es

-- Each of what follows is said of one history of a machine, from a first state on.

-- a wait is there once from its opening until its end, waiting or decided, and ends once.
-- Where none was opened none is there, and none ends
abbrev pub EachWaitOnce : {S O R M : Type 0} → Machine S O R → WaitKind S O R M → S → List (Entry O R) → Type 0
EachWaitOnce m k s h = (place : ℕ) →
    waiting_at place (k.waits (state_after m s h)) + decided_at place (k.waits (state_after m s h))
    + count_by (finishes k place) h ≡ opened_at k h place

-- no wait ends twice
abbrev pub EachEndsOnce : {S O R M : Type 0} → Machine S O R → WaitKind S O R M → S → List (Entry O R) → Type 0
EachEndsOnce m k s h = (place : ℕ) → count_by (finishes k place) h ≤ 1

-- who waits, and whose wait is decided, has opened it at its place
abbrev pub EachWaitHasItsOpening : {S O R M : Type 0} → Machine S O R → WaitKind S O R M → S → List (Entry O R) → Type 0
EachWaitHasItsOpening m k s h =
    All (λ w. WasOpened k h w.place w.who w.payload) (k.waits (state_after m s h)).waiting
    × All (WasOpenedBy k h) (k.waits (state_after m s h)).decided

-- the end of a wait is answered its decision
abbrev pub EndTellsItsDecision : {S O R M : Type 0} → Machine S O R → WaitKind S O R M → S → List (Entry O R) → Type 0
EndTellsItsDecision {O = O} {R = R} m k s h = (front : List (Entry O R)) (e : Entry O R) (place : ℕ) → IsEntry h front e →
    k.ends e.op ≡ Some place → IsDecided k (state_after m s front) (decision place e.who.number e.reply)

-- a wait that is given up is answered its decision, if it has one, else that it was given up
abbrev pub QuitTellsItsDecision : {S O R M : Type 0} → Machine S O R → WaitKind S O R M → S → List (Entry O R) → Type 0
QuitTellsItsDecision {O = O} {R = R} m k s h = (front : List (Entry O R)) (e : Entry O R) (place : ℕ) → IsEntry h front e →
    k.quits e.op ≡ Some place →
    IsDecided k (state_after m s front) (decision place e.who.number e.reply)
    ⊎ ((e.reply ≡ k.gives_up) × (decided_at place (k.waits (state_after m s front)) ≡ 0)
    × WaitsAt k (state_after m s front) place e.who.number)

-- who ends a wait, or gives it up, is the player who opened it before
abbrev pub EndedByItsOwnPlayer : {S O R M : Type 0} → Machine S O R → WaitKind S O R M → S → List (Entry O R) → Type 0
EndedByItsOwnPlayer {O = O} {R = R} {M = M} m k s h = (front : List (Entry O R)) (e : Entry O R) (place : ℕ) →
    IsEntry h front e → finishes k place e ≡ true →
    (who : Who) × (payload : M) × (who.number ≡ e.who.number) × WasOpened k front place who payload

-- a wait that is decided may end, with its decision
abbrev pub MayEndOnceDecided : {S O R M : Type 0} → Machine S O R → WaitKind S O R M → S → List (Entry O R) → Type 0
MayEndOnceDecided {O = O} {R = R} m k s h = (who : Who) (op : O) (d : Decision R) → k.ends op ≡ Some d.place →
    who.number ≡ d.player → IsDecided k (state_after m s h) d → m.reply_of (state_after m s h) who op ≡ Some d.answer

-- a wait that goes on, or is decided, may be given up
pub record MayQuitUntilEnded {S O R M : Type 0} (m : Machine S O R) (k : WaitKind S O R M) (s : S)
    (h : List (Entry O R)) : Type 0 where
  pub decided : (who : Who) (op : O) (d : Decision R) → k.quits op ≡ Some d.place → who.number ≡ d.player →
      IsDecided k (state_after m s h) d → m.reply_of (state_after m s h) who op ≡ Some d.answer
  pub waiting : (who : Who) (op : O) (place : ℕ) → k.quits op ≡ Some place →
      WaitsAt k (state_after m s h) place who.number → m.reply_of (state_after m s h) who op ≡ Some k.gives_up

-- a decision stays as it is until its wait ends or is given up
abbrev pub DecisionStays : {S O R M : Type 0} → Machine S O R → WaitKind S O R M → S → List (Entry O R) → Type 0
DecisionStays {O = O} {R = R} m k s h = (front rest : List (Entry O R)) (d : Decision R) → h ≡ front ++ rest →
    IsDecided k (state_after m s front) d →
    IsDecided k (state_after m s h) d ⊎ (list_any (finishes k d.place) rest ≡ true)

-- of the entries before the end of a wait just one decides it, with its reply. Or none does, and it is given up
abbrev pub AnswersItsOneDecision : {S O R M : Type 0} → Machine S O R → WaitKind S O R M → S → List (Entry O R) → Type 0
AnswersItsOneDecision {O = O} {R = R} m k s h = (front : List (Entry O R)) (e : Entry O R) (place : ℕ) → IsEntry h front e →
    finishes k place e ≡ true →
    ((decisions m k place s front ≡ 1) × WasDecided m k s front (decision place e.who.number e.reply))
    ⊎ ((decisions m k place s front ≡ 0) × (k.quits e.op ≡ Some place) × (e.reply ≡ k.gives_up))

-- the first is served before the second: its priority number is lower, or it is the same and it has waited longer
abbrev pub is_before : {M : Type 0} → Waiter M → Waiter M → Bool
is_before w v =
    int_lt w.who.prio v.who.prio || not (int_lt v.who.prio w.who.prio) && nat_lt w.place v.place

-- the entry decides by a test that has no answer for this payload
abbrev pub passes_over : {R M : Type 0} → Decides R M → M → Bool
passes_over (each test) payload = not (is_some (test payload))
passes_over decides payload = false

-- where an entry that gives nobody up takes a waiter out, so decides its wait, whoever still waits comes behind it, or the
-- entry passes over it
abbrev pub NoneOvertakes : {S O R M : Type 0} → Machine S O R → WaitKind S O R M → S → List (Entry O R) → Type 0
NoneOvertakes {O = O} {R = R} {M = M} m k s h = (front : List (Entry O R)) (e : Entry O R) (w v : Waiter M) →
    IsEntry h front e → k.quits e.op ≡ None →
    Contains (k.waits (state_after m s front)).waiting w →
    (Contains (k.waits (state_after m s (front ++ e ∷ []))).waiting w → ⊥) →
    Contains (k.waits (state_after m s (front ++ e ∷ []))).waiting v →
    (is_before w v || passes_over (k.decides (state_after m s front) e.op e.reply) v.payload) ≡ true

-- the laws of waits
pub record KeepsWaits {S O R M : Type 0} (m : Machine S O R) (k : WaitKind S O R M) (s : S) (h : List (Entry O R)) : Type 0 where
  pub opened : EachWaitHasItsOpening m k s h
  pub once : EachWaitOnce m k s h
  pub ends_once : EachEndsOnce m k s h
  pub ends : EndTellsItsDecision m k s h
  pub quits : QuitTellsItsDecision m k s h
  pub own : EndedByItsOwnPlayer m k s h
  pub stays : DecisionStays m k s h
  pub answers : AnswersItsOneDecision m k s h
  pub may_end : MayEndOnceDecided m k s h
  pub may_quit : MayQuitUntilEnded m k s h
  pub in_order : NoneOvertakes m k s h
