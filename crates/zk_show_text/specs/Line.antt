use Rattle.std.specs.Prelude.{ℕ, ◌+◌, ◌-◌, ◌==◌, nat_le, Bool, not, Option, Some, None, List, [], ◌∷◌, ◌++◌, length, take, drop, replicate, position, codes, if◌then◌else◌}
use Rattle.zk_show_chart.specs.Answers.{answer_in}

-- the most characters of a line
abbrev pub width : ℕ
width = 120

-- a text of just so many characters: what is longer is cut off, and behind a shorter one stand spaces
abbrev pub fitted : ℕ → List ℕ → List ℕ
fitted size text = take size text ++ replicate (size - length text) 32

-- a character and a text without spaces at its end: a space alone is none
abbrev pub with_front : ℕ → List ℕ → List ℕ
with_front c [] = if c == 32 then [] else c ∷ []
with_front c (d ∷ more) = c ∷ d ∷ more

-- a text without the spaces at its end
abbrev pub trimmed : List ℕ → List ℕ
trimmed [] = []
trimmed (c ∷ more) = with_front c (trimmed more)

-- a line, without the spaces at its end
abbrev pub line : List ℕ → List ℕ
line text = trimmed text ++ 10 ∷ []

-- a text that is too long for its room: two dots stand for its middle, before what was answered, and where there is no room for
-- that for its end
abbrev pub shortened : ℕ → List ℕ → List ℕ → List ℕ
shortened room text answer =
    if nat_le (length answer + 2) room then take (room - (length answer + 2)) text ++ codes ".." ++ answer
    else take room (take (room - 2) text ++ codes "..")

-- a text for which there is so much room
abbrev pub cut : ℕ → List ℕ → List ℕ
cut room text = if nat_le (length text) room then text else shortened room text (answer_in text)

-- whether a character isn't a space
abbrev pub is_ink : ℕ → Bool
is_ink c = not (c == 32)

-- the room at the front of so many characters, of which the first that isn't a space stands at this place, if one does: a space
-- stays before it
abbrev pub room_before : ℕ → Option ℕ → ℕ
room_before all None = all
room_before all (Some place) = place - 1

-- the room at the front of a text
abbrev pub room_in : List ℕ → ℕ
room_in text = room_before (length text) (position is_ink text)

-- a line on which a text is put at a place, over as many others
abbrev pub put_over : ℕ → List ℕ → List ℕ → List ℕ
put_over at text old = take at old ++ text ++ drop (at + length text) old

-- a line on which a text is laid at a place, cut where there is no room for it
abbrev pub laid : ℕ → List ℕ → List ℕ → List ℕ
laid at text old = put_over at (cut (room_in (drop at old)) text) old
