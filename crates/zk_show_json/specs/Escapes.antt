use Rattle.std.specs.Prelude.{◌≡◌, ℕ, ◌≤◌, ◌==◌, Bool, not, nat_le, ◌&&◌, List, [], ◌∷◌, ◌++◌, codes, if◌then◌else◌}
use Rattle.std.specs.List.{flat_map}
use Rattle.zk_words.specs.Hex.{byte_text}

-- a byte that stands for itself in a string: a space up to a tilde, but for the quotation mark, `<` and `\`
abbrev pub is_plain : ℕ → Bool
is_plain b = nat_le 32 b && nat_le b 126 && not (b == 34) && not (b == 60) && not (b == 92)

-- a byte as it stands in a string: any other by its number in two digits behind `\u00`
abbrev pub escape : ℕ → List ℕ
escape b = if is_plain b then b ∷ [] else codes "\\u00" ++ byte_text b

-- a text as it stands in a string
abbrev pub escaped : List ℕ → List ℕ
escaped text = flat_map escape text

-- a text as a string: between quotation marks
unfoldable pub quoted : List ℕ → List ℕ
quoted text = codes "\"" ++ escaped text ++ codes "\""

-- what neither ends a string nor begins an element of a page, and is printable ASCII
abbrev pub IsHarmless : ℕ → Type 0
IsHarmless b = (32 ≤ b) × (b ≤ 126) × ((b ≡ 34) → ⊥) × ((b ≡ 60) → ⊥)
