-- Inner: no contract of a top call is made of this file.
-- Published words: what one says, what all of them say of a history, and what a look at one says.
use Rattle.std.specs.Prelude.{◌≡◌, ℕ, ◌+◌, ◌*◌, ◌/◌, ◌%◌, ◌^◌, ◌<◌, ◌≤◌, ◌⊎◌, true, false, max, Option, Some, None, List, [], ◌∷◌, ◌++◌, length, take, slice_index}
use Rattle.zk_base.specs.declared.ids.Entry.{Entry}
use Rattle.zk_base.specs.Legal.{Machine, state_after}
use Rattle.zk_base.specs.Touched.{is_touched, LeavesOthers}
use Rattle.zk_turn.specs.declared.views.Note.{Note}
use Rattle.zk_turn.specs.declared.views.Flight.{Flight}

-- of a published word: the position of its last change, its value from there on, and its value before
abbrev pub position_of : ℕ → ℕ
position_of n = n / 2 ^ 32

abbrev pub after_of : ℕ → ℕ
after_of n = n / 2 ^ 16 % 2 ^ 16

abbrev pub before_of : ℕ → ℕ
before_of n = n % 2 ^ 16

-- the word that says all three
abbrev pub packed : ℕ → ℕ → ℕ → ℕ
packed position after before = position * 2 ^ 32 + after * 2 ^ 16 + before

-- the words of a new cell: three of the turn, and then each word with the value that it has at first
pub record AreFirstWords (width : ℕ) (value : ℕ → ℕ) (words : List ℕ) : Type 0 where
  pub long : 3 + width ≡ length words
  pub turn : (i : ℕ) → i < 3 → slice_index words i ≡ 0
  pub each : (index : ℕ) → index < width → slice_index words (3 + index) ≡ value index * 65536
  pub small : (index : ℕ) → index < width → value index < 65536

-- the value that the word of an index has after a history
abbrev pub word_after : {S O R : Type 0} → Machine S O R → (S → ℕ → ℕ) → S → List (Entry O R) → ℕ → ℕ
word_after m word start history index = word (state_after m start history) index

-- each word of a service is as it was after this history, but for those that it says it touched
abbrev pub KeepsOthers : {S T O R : Type 0} → Machine T O R → (S → T) → (S → List (Entry O R)) → (T → ℕ → ℕ) → ℕ →
    (S → List ℕ) → S → List (Entry O R) → Type 0
KeepsOthers m start_of history_of word words touched service seen =
    LeavesOthers words (touched service) (word (state_after m (start_of service) seen))
    (word (state_after m (start_of service) (history_of service)))

module _ {O R : Type 0} where
  -- no entry is in flight
  abbrev pub at_rest : Flight O R
  at_rest = record { pending = []; stamped = [] }

module _ {O R : Type 0} (value : List (Entry O R) → ℕ) (history : List (Entry O R)) where
  -- the word has its value from its position on
  pub record IsSettled (n : ℕ) : Type 0 where
    pub in_history : position_of n ≤ length history
    pub same : (k : ℕ) → position_of n ≤ k → k ≤ length history → value (take k history) ≡ after_of n

  -- the word changes with the entry in flight
  pub record IsFlying (pending : List (Entry O R)) (n : ℕ) : Type 0 where
    pub one : (e : Entry O R) × (pending ≡ e ∷ [])
    pub position : position_of n ≡ length history + 1
    pub before : value history ≡ before_of n
    pub after : value (history ++ pending) ≡ after_of n

  -- what holds of the word of an index: it changes with the entry in flight only where it is stamped
  pub record WordStands (flight : Flight O R) (index n : ℕ) : Type 0 where
    pub now : IsSettled n ⊎ IsFlying flight.pending n
    pub unstamped : is_touched flight.stamped index ≡ false → IsSettled n
    pub ready : is_touched flight.stamped index ≡ true → value (history ++ flight.pending) ≡ after_of n

  -- the entry in flight may be counted as for this index: its word is stamped, or has the same value after it
  abbrev pub MayCount : Flight O R → ℕ → Type 0
  MayCount flight index = (is_touched flight.stamped index ≡ true) ⊎ (value (history ++ flight.pending) ≡ value history)

  -- the word that was loaded has its value after as much of the history as was seen, or as it is the position of
  pub record IsOfPast (front n : ℕ) : Type 0 where
    pub in_history : position_of n ≤ length history
    pub seen : front ≤ length history
    pub same : value (take (max (position_of n) front) history) ≡ after_of n

module _ {O R : Type 0} where
  -- what holds of the word that a seat has loaded
  abbrev pub NoteStands : (List (Entry O R) → ℕ → ℕ) → List (Entry O R) → List (Entry O R) → ℕ → Option Note → Type 0
  NoteStands word history pending front None = Unit {0}
  NoteStands word history pending front (Some note) = IsOfPast (λ h. word h note.index) history front note.word
      ⊎ IsFlying (λ h. word h note.index) history pending note.word
