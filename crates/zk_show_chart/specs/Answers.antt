-- What a step was answered, as its line says it.
use Rattle.std.specs.Prelude.{ℕ, ◌-◌, ◌==◌, ◌||◌, ◌&&◌, not, Bool, Option, Some, None, List, [], take, drop, position, codes}
use Rattle.std.specs.Str.{bytes_eq}

-- what stands from a sign on, with the space before it
abbrev pub from_sign : List ℕ → Option ℕ → List ℕ
from_sign text None = []
from_sign text (Some sign) = drop (sign - 1) text

-- the end of a step's words: a space, the sign `=`, and what was answered
abbrev pub answer_in : List ℕ → List ℕ
answer_in text = from_sign text (position (λ c. c == 61) text)

-- what stands before the first space
abbrev pub before_space : List ℕ → Option ℕ → List ℕ
before_space text None = text
before_space text (Some space) = take space text

abbrev pub first_word : List ℕ → List ℕ
first_word text = before_space text (position (λ c. c == 32) text)

-- the first word of what was answered
abbrev pub answer_word : List ℕ → List ℕ
answer_word words = first_word (drop 3 (answer_in words))

-- a word by which a call or a check tells that it failed
abbrev pub is_failure : List ℕ → Bool
is_failure word =
    bytes_eq word (codes "busy") || bytes_eq word (codes "nomsg") || bytes_eq word (codes "again") || bytes_eq word (codes "oops")
    || bytes_eq word (codes "nodev") || bytes_eq word (codes "inval") || bytes_eq word (codes "fault")

-- an operation that is answered with a name, which may be such a word
abbrev pub names : List ℕ → Bool
names word = bytes_eq word (codes "begin") || bytes_eq word (codes "set") || bytes_eq word (codes "list")

-- whether a step with these words failed
abbrev pub has_failed : List ℕ → Bool
has_failed words = is_failure (answer_word words) && not (names (first_word words))

-- whether its player was ended by it
abbrev pub has_died : List ℕ → Bool
has_died words = bytes_eq (answer_word words) (codes "oops") && not (names (first_word words))
