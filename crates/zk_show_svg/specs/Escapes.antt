use Rattle.std.specs.Prelude.{◌≡◌, ℕ, ◌+◌, ◌-◌, ◌==◌, Bool, not, nat_le, ◌&&◌, List, [], ◌∷◌, ◌++◌, length, take, codes, if◌then◌else◌}
use Rattle.std.specs.List.{flat_map}
use Rattle.zk_show_chart.specs.Answers.{answer_in}

-- what a reader sees of ASCII: a space up to a tilde
abbrev pub is_printed : ℕ → Bool
is_printed b = nat_le 32 b && nat_le b 126

-- a byte that stands for itself in a picture
abbrev pub is_plain : ℕ → Bool
is_plain b = is_printed b && not (b == 38) && not (b == 60) && not (b == 62) && not (b == 34)

-- a byte as it stands in a picture: what is a sign of the picture's own language by its name there, and what nobody sees as a
-- question mark
abbrev pub escape : ℕ → List ℕ
escape b =
    if b == 38 then codes "&amp;" else if b == 60 then codes "&lt;" else if b == 62 then codes "&gt;"
    else if b == 34 then codes "&quot;" else if is_printed b then b ∷ [] else codes "?"

-- a text as it stands in a picture
abbrev pub escaped : List ℕ → List ℕ
escaped text = flat_map escape text

-- a text of more letters than so many: two points stand for its middle, before what was answered, and where there is no room for
-- that for its end
unfoldable pub shortened : ℕ → List ℕ → List ℕ → List ℕ
shortened letters text answer =
    if nat_le (length answer + 2) letters then escaped (take (letters - (length answer + 2)) text) ++ codes ".." ++ escaped answer
    else escaped (take (letters - 2) text) ++ codes ".."

-- a text as it stands there, where at most so many letters have room
unfoldable pub cut : ℕ → List ℕ → List ℕ
cut letters text = if nat_le (length text) letters then escaped text else shortened letters text (answer_in text)

-- no byte that begins or ends an element or a value in one: `<`, `>` and the quotation mark
abbrev pub IsHarmless : ℕ → Type 0
IsHarmless b = ((b ≡ 60) → ⊥) × ((b ≡ 62) → ⊥) × ((b ≡ 34) → ⊥)
