-- Inner: no contract of a top call is made of this file.
-- What each atomic step tells the seat that makes it.
use Rattle.std.specs.Prelude.{◌≡◌, ℕ, ◌+◌, ◌*◌, ◌%◌, ◌^◌, ◌<◌, ◌≤◌, max, Option, Some, List, [], ◌∷◌, ◌++◌, length, drop}
use Rattle.atomic_table.specs.Table.{Me, Step, rest}
use Rattle.zk_base.specs.declared.ids.Entry.{Entry}
use Rattle.zk_turn.specs.declared.views.Stage.TheVariants.{Idle, Waiting}
use Rattle.zk_turn.specs.declared.views.Note.{Note}
use Rattle.zk_turn.specs.declared.views.View.{View}
use Rattle.zk_turn.specs.Players.{GoesOn, room_of_a_pass}
use Rattle.zk_turn.specs.Views.{staged, holding, with_entry, in_flight, with_stamped, noted, looked}
use Rattle.zk_turn.specs.Turn.{Continues}
use Rattle.zk_turn.specs.Words.{position_of, after_of, before_of}

-- the service has this first state and this history
pub record Fits {S T H : Type 0} (start_of : S → T) (history_of : S → H) (service : S) (first : T) (all : H) : Type 0 where
  pub history : history_of service ≡ all
  pub start : start_of service ≡ first

-- the slots of a seat that has the service out
abbrev pub out_with : {S : Type 0} → S → List (ℕ × Option S)
out_with service = (0, Some service) ∷ []

module _ {S O R T : Type 0} (legal : T → List (Entry O R) → Type 0) (fits : S → T → List (Entry O R) → Type 0) where
  -- a seat took the service with its turn: it goes on from what it had seen with entries of others, and is legal
  pub record Took (ticket : ℕ) (old new : Me (Option S) (View O R T)) : Type 0 where
    pub service : S
    pub history : List (Entry O R)
    pub now : new ≡ (holding old.0 ticket history, (0, Some service) ∷ old.1)
    pub fit : (start : T) → old.0.start ≡ Some start → fits service start history × legal start history
    pub goes_on : GoesOn old.0.players old.0.seen history
    pub short : length history ≤ room_of_a_pass * 256

  -- await: where the word shows the ticket the turn has come and the service was taken, else nothing changed
  pub record Came (ticket : ℕ) (old : Me (Option S) (View O R T)) (found : ℕ) (new : Me (Option S) (View O R T)) : Type 0 where
    pub served : found ≡ ticket % 2 ^ 64 → Took ticket old new
    pub not_yet : ¬ (found ≡ ticket % 2 ^ 64) → new ≡ old

  abbrev pub Awaits : Step (Option S) → Me (Option S) (View O R T) → ℕ → Me (Option S) (View O R T) → Type 0
  Awaits step old found new = (ticket : ℕ) → old.0.stage ≡ Waiting ticket → Came ticket old found new

module _ {S O R T : Type 0} where
  -- draw: the seat waits with the ticket that it found
  pub record Draws (step : Step (Option S)) (old : Me (Option S) (View O R T)) (found : ℕ)
      (new : Me (Option S) (View O R T)) : Type 0 where
    pub ticket : ℕ
    pub shown : found ≡ ticket % 2 ^ 64
    pub now : new ≡ (staged old.0 (Waiting ticket), old.1)

  -- announce: the entry that the service which is out has got is in flight; and how many words are published
  pub record Announces (width : ℕ) (history : S → List (Entry O R)) (step : Step (Option S))
      (old : Me (Option S) (View O R T)) (found : ℕ) (new : Me (Option S) (View O R T)) : Type 0 where
    pub words : old.0.words ≡ width
    pub now : (service : S) → old.1 ≡ out_with service →
        new ≡ (in_flight old.0 (drop (length old.0.seen) (history service)), old.1)

  -- measure: how many words are published
  pub record Measures (width : ℕ) (step : Step (Option S)) (old : Me (Option S) (View O R T)) (found : ℕ)
      (new : Me (Option S) (View O R T)) : Type 0 where
    pub same : new ≡ old
    pub words : old.0.words ≡ width

  -- weigh: the word of an index has its value after the entry in flight and is ready, or it has the value before it
  pub record IsWeighed (value : List (Entry O R) → ℕ) (index : ℕ) (old : Me (Option S) (View O R T)) (found : ℕ)
      (new : Me (Option S) (View O R T)) : Type 0 where
    pub ready : value (old.0.seen ++ old.0.flight.pending) ≡ after_of found →
        new ≡ (with_stamped old.0 (index ∷ old.0.flight.stamped), old.1)
    pub other : ¬ (value (old.0.seen ++ old.0.flight.pending) ≡ after_of found) →
        (new ≡ old) × (value old.0.seen ≡ after_of found)

  abbrev pub Weighs : (T → List (Entry O R) → ℕ → ℕ) → Step (Option S) → Me (Option S) (View O R T) → ℕ →
      Me (Option S) (View O R T) → Type 0
  Weighs word step old found new = (index : ℕ) (start : T) → step.word ≡ 3 + index → old.0.start ≡ Some start →
      IsWeighed (λ h. word start h index) index old found new

  -- stamp: the word of an index is ready
  abbrev pub Stamps : Step (Option S) → Me (Option S) (View O R T) → ℕ → Me (Option S) (View O R T) → Type 0
  Stamps step old found new = (index : ℕ) → step.word ≡ 3 + index →
      new ≡ (with_stamped old.0 (index ∷ old.0.flight.stamped), old.1)

  -- publish: the entry in flight is in the history, and seen
  abbrev pub Publishes : Step (Option S) → Me (Option S) (View O R T) → ℕ → Me (Option S) (View O R T) → Type 0
  Publishes step old found new = new ≡ (with_entry old.0 (old.0.seen ++ old.0.flight.pending), old.1)

  -- load word: the word of an index is noted
  abbrev pub LoadsWord : Step (Option S) → Me (Option S) (View O R T) → ℕ → Me (Option S) (View O R T) → Type 0
  LoadsWord step old found new = (index : ℕ) → step.word ≡ 3 + index →
      new ≡ (noted old.0 (record { index = index; word = found }), old.1)

  -- load count: what the word that was noted says, of a history that goes on from what was seen with entries of others
  pub record IsLooked (legal : T → List (Entry O R) → Type 0) (word : T → List (Entry O R) → ℕ → ℕ) (note : Note)
      (start : T) (old : Me (Option S) (View O R T)) (found : ℕ) (new : Me (Option S) (View O R T)) : Type 0 where
    pub history : List (Entry O R)
    pub now : new ≡ (looked old.0 history, old.1)
    pub goes_on : GoesOn old.0.players old.0.seen history
    pub lawful : legal start history
    pub settled : position_of note.word ≤ found → (length history ≡ max (position_of note.word) (length old.0.seen))
        × (word start history note.index ≡ after_of note.word)
    pub flying : found < position_of note.word → (length history ≡ found)
        × (word start history note.index ≡ before_of note.word)

  abbrev pub LoadsCount : (T → List (Entry O R) → Type 0) → (T → List (Entry O R) → ℕ → ℕ) → Step (Option S) →
      Me (Option S) (View O R T) → ℕ → Me (Option S) (View O R T) → Type 0
  LoadsCount legal word step old found new = (note : Note) (start : T) → old.0.note ≡ Some note → old.0.start ≡ Some start →
      IsLooked legal word note start old found new

  -- pass on: the service was given back, and the turn with it
  abbrev pub PassesOn : Step (Option S) → Me (Option S) (View O R T) → ℕ → Me (Option S) (View O R T) → Type 0
  PassesOn step old found new = new ≡ (staged old.0 Idle, rest old.1)

  -- recall: what a joined seat has seen goes on from what its parts had seen
  pub record Recalls (step : Step (Option S)) (old : Me (Option S) (View O R T)) (found : ℕ)
      (new : Me (Option S) (View O R T)) : Type 0 where
    pub same : new ≡ old
    pub parts : Continues old.0.parts old.0.seen
