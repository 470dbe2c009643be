-- Inner: no contract of a top call is made of this file.
use Rattle.std.specs.Prelude.{ℕ}

-- how many bytes a row has room for
abbrev pub row_room : ℕ
row_room = 1024
