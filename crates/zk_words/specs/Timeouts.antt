use Rattle.std.specs.Prelude.{ℕ, Bool, true, ◌||◌, Option, Some, List, option_map, codes, if◌then◌else◌}
use Rattle.std.specs.Fmt.{decimal}
use Rattle.std.specs.Str.{bytes_eq}
use Rattle.zk_words.specs.declared.limits.TheConstants.{MOST_TICKS}
use Rattle.zk_words.specs.declared.timeout.Timeout.{Timeout}
use Rattle.zk_words.specs.declared.timeout.Timeout.TheVariants.{No, Forever, Ticks}
use Rattle.zk_words.specs.Numbers.{is_number, is_between, number_in}

-- whether a word says how long a call waits, be its number of ticks in range or not
abbrev pub is_wait : List ℕ → Bool
is_wait word = bytes_eq word (codes "no") || bytes_eq word (codes "forever") || is_number word

-- how long a word says that a call waits
abbrev pub wait_of : List ℕ → Option Timeout
wait_of word =
    if bytes_eq word (codes "no") then Some No else
    if bytes_eq word (codes "forever") then Some Forever else option_map Ticks (number_in 1 MOST_TICKS word)

-- the one spelling of how long a call waits
abbrev pub wait_text : Timeout → List ℕ
wait_text No = codes "no"
wait_text Forever = codes "forever"
wait_text (Ticks ticks) = decimal ticks

-- whether it is no time, for ever, or a number of ticks that is in range
abbrev pub wait_fits : Timeout → Bool
wait_fits (Ticks ticks) = is_between 1 MOST_TICKS ticks
wait_fits wait = true
