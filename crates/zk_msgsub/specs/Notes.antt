-- Notes of a publisher, and the notes of its messages in order.
use Rattle.std.specs.Prelude.{ℕ, zero, suc, ◌==◌, List, [], ◌∷◌, ◌++◌, filter}
use Rattle.zk_msgsub.specs.declared.note.Note.{Note}

-- a message is its bytes
abbrev pub Message : Type 0
Message = List ℕ

-- the notes of one publisher, in order
abbrev pub part : ℕ → List Note → List Note
part p notes = filter (λ n. p == n.publisher) notes

-- a message as a note with this number
abbrev pub note_of : ℕ → ℕ → Message → Note
note_of p k m = record { publisher = p; number = k; message = m }

-- messages as notes, with their numbers from k
abbrev pub numbered_from : ℕ → ℕ → List Message → List Note
numbered_from p k [] = []
numbered_from p k (m ∷ ms) = note_of p k m ∷ numbered_from p (suc k) ms

-- messages as notes, with the numbers 0, 1, 2 and on
abbrev pub numbered : ℕ → List Message → List Note
numbered p ms = numbered_from p 0 ms

-- the numbers below n, in order
abbrev pub upto : ℕ → List ℕ
upto zero = []
upto (suc n) = upto n ++ n ∷ []
