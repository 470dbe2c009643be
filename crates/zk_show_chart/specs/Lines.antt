use Rattle.std.specs.Prelude.{ℕ, ◌+◌, ◌-◌, ◌^◌, min, ◌==◌, zero, suc, Bool, false, Option, Some, None, List, [], ◌∷◌, take, drop, map, codes, if◌then◌else◌}
use Rattle.std.specs.List.{before_first, after_first}
use Rattle.std.specs.Str.{bytes_eq}
use Rattle.zk_words.specs.Bytes.{line_feed, space}
use Rattle.zk_trace.specs.declared.stood.Stood.{Stood}
use Rattle.zk_show_order.specs.Services.{service_of}
use Rattle.zk_show_chart.specs.declared.lines.Line.{Line}

-- what stands before the first line feed of a text: all of it, where there is none
unfoldable pub before_feed : List ℕ → List ℕ
before_feed text = before_first (λ b. b == line_feed) text

-- what stands behind it: nothing, where there is none
unfoldable pub behind_feed : List ℕ → List ℕ
behind_feed text = after_first (λ b. b == line_feed) text

-- what stands behind so many lines of a text
abbrev pub behind_lines : ℕ → List ℕ → List ℕ
behind_lines zero text = text
behind_lines (suc count) text = behind_feed (behind_lines count text)

-- the line of a number, from 0
abbrev pub line_of : ℕ → List ℕ → List ℕ
line_of number text = before_feed (behind_lines number text)

-- its number in the whole input, where the first line has this one: at most the last number of 32 bits
abbrev pub number_from : ℕ → ℕ → ℕ
number_from first number = min (first + number) (2 ^ 32 - 1)

-- where a line of the text of a trace stands: its number and that of the head of its section, from 0, and the section's service
pub record Place : Type 0 where
  pub line : ℕ
  pub head : ℕ
  pub service : Option ℕ

-- that of the second line: the first two stand above the sections of all services
abbrev pub front : Place
front = record { line = 1; head = 0; service = None }

-- whether a section is that of a service
abbrev pub is_its : Option ℕ → ℕ → Bool
is_its None service = false
is_its (Some own) service = own == service

-- where the line of a step of this service stands behind another line: next to it, or where the service is another one behind the
-- head of the section that begins there
abbrev pub next_place : Place → ℕ → Place
next_place p service =
    if is_its p.service service then record p { line = p.line + 1 }
    else record { line = p.line + 2; head = p.line + 1; service = Some service }

-- where the lines of steps stand behind a line
abbrev pub places_behind : Place → List Stood → List Place
places_behind p [] = []
places_behind p (step ∷ steps) = let here = next_place p (service_of step.spot) in here ∷ places_behind here steps

-- what stands before the first space of a text: all of it, where there is none
abbrev pub before_space : List ℕ → List ℕ
before_space text = before_first (λ b. b == space) text

-- the name of a service, by the head of its section: it ends where the numbers of a newer format begin
unfoldable pub name_in : List ℕ → List ℕ
name_in head = if bytes_eq (take 8 head) (codes "service ") then before_space (drop 8 head) else head

-- what is said of the line at a place: its number in the whole input, the name of its service, and what it is
abbrev pub said_at : List ℕ → ℕ → Place → ℕ × List ℕ × List ℕ
said_at text first place = (number_from first place.line, name_in (line_of place.head text), line_of place.line text)

-- what is said of the lines of all steps
abbrev pub lines_said : List ℕ → ℕ → List Stood → List (ℕ × List ℕ × List ℕ)
lines_said text first steps = map (said_at text first) (places_behind front steps)

-- what is said of a line
abbrev pub line_said : Line → ℕ × List ℕ × List ℕ
line_said line = (line.number, line.service.now, line.text.now)
