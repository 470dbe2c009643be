-- Inner: no contract of a top call is made of this file.
use Rattle.std.specs.Prelude.{◌≡◌, ℕ, ◌==◌, ◌&&◌, Bool, false, Option, Some, None, List, ◌∷◌, ◌++◌, option_and_then, if◌then◌else◌}
use Rattle.std.specs.Str.{bytes_eq}
use Rattle.zk_blocks.specs.Sections.{has_row}
use Rattle.zk_words.specs.Bytes.{space}
use Rattle.zk_words.specs.Pieces.{words_of}
use Rattle.zk_line.specs.declared.types.Decl.{Decl}
use Rattle.zk_scenario.specs.Players.{players}
use Rattle.zk_trace.specs.declared.format.Format.{Format}
use Rattle.zk_trace.specs.declared.format.Format.TheVariants.{One, Two}
use Rattle.zk_trace.specs.Fields.{three, said_behind, wide_of}
use Rattle.zk_trace.specs.LookRead.{same_word}
use Rattle.zk_trace.specs.Text.{service_word, head_row, player_word}

-- how many entries and how many looks a head tells of, where it tells of any number
abbrev pub Counts : Type 0
Counts = Option ℕ × Option ℕ

-- two numbers, of which one isn't 0
abbrev pub some_lines : ℕ × ℕ → Option Counts
some_lines counts = if counts.0 == 0 && counts.1 == 0 then None else Some (Some counts.0, Some counts.1)

-- the numbers behind a name
abbrev pub numbers_behind : Unit {0} → ℕ → ℕ → ℕ × ℕ
numbers_behind named entries looks = (entries, looks)

-- the words of the head of this section in format 2
abbrev pub head_words_of : List ℕ → List (List ℕ) → Option (ℕ × ℕ)
head_words_of name words = said_behind service_word (three numbers_behind (same_word name) wide_of wide_of) words

-- what a line tells of this section, where it is its head
abbrev pub head_of : Format → List ℕ → List ℕ → Option Counts
head_of One name row = if bytes_eq row (head_row One name 0 0) then Some (None, None) else None
head_of Two name row = option_and_then some_lines (head_words_of name (words_of row))

-- how many entries there are, where there can't be a look
abbrev pub without_looks : Counts → Option (Option ℕ)
without_looks (entries, None) = Some entries
without_looks (entries, Some looks) = if looks == 0 then Some entries else None

-- the same of a section that has entries alone
abbrev pub plain_head_of : Format → List ℕ → List ℕ → Option (Option ℕ)
plain_head_of f name row = option_and_then without_looks (head_of f name row)

-- whether these are all rows, where a number of them is told
abbrev pub are_all : Option ℕ → ℕ → Bool
are_all None rows = false
are_all (Some count) rows = rows == count

-- all that there are, where no number of them is told
abbrev pub where_untold : {A : Type 0} → Option ℕ → A → Option A
where_untold None all = Some all
where_untold (Some count) all = None

-- whether a section may stand: a scenario without players has none
abbrev pub has_player : List Decl → Bool
has_player decls = has_row (players decls)

-- a line that begins the section of a player
abbrev pub IsPlayerRow : List ℕ → Type 0
IsPlayerRow line = (rest : List ℕ) × (line ≡ player_word ++ space ∷ rest)
