use Rattle.std.specs.Prelude.{ℕ}

-- the byte that ends a line
abbrev pub line_feed : ℕ
line_feed = 10

-- the byte between two words
abbrev pub space : ℕ
space = 32

-- the byte before a number below zero
abbrev pub minus : ℕ
minus = 45

-- the byte between the parts of a word
abbrev pub colon : ℕ
colon = 58

-- the first decimal digit
abbrev pub digit_0 : ℕ
digit_0 = 48

-- the last
abbrev pub digit_9 : ℕ
digit_9 = 57

-- the first digit past the decimal ones
abbrev pub letter_a : ℕ
letter_a = 97

-- the last
abbrev pub letter_f : ℕ
letter_f = 102
