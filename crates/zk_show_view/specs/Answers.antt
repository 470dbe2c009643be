-- What `zk` says where it prints no trace, and what is said of that in place of a view.
use Rattle.std.specs.Prelude.{ℕ, Option, Some, None, List, [], ◌++◌, codes, decimal}
use Rattle.std.specs.Option.{option_map_or}
use Rattle.zk_forms.specs.CheckAnswer.{lawful_text, unlawful_text, trace_refused}
use Rattle.zk_forms.specs.Refusal.{refusal_text}
use Rattle.zk_forms.specs.Top.{words_refused}
use Rattle.zk_show_view.specs.declared.answers.Answer.{Answer}
use Rattle.zk_show_view.specs.declared.answers.Answer.TheVariants.{Lawful, Unlawful, Refused, RefusedTrace, RefusedWords}

-- an answer, as `zk` prints it
abbrev pub answer_text : Answer → List ℕ
answer_text Lawful = lawful_text
answer_text (Unlawful line fail) = unlawful_text line fail
answer_text (Refused line why) = refusal_text line why
answer_text (RefusedTrace line) = trace_refused line
answer_text RefusedWords = words_refused

-- of what `zk` says that
abbrev pub answer_words : Answer → List ℕ
answer_words Lawful = codes "`zk` says this of a trace that is lawful"
answer_words (Unlawful line fail) = codes "`zk` says this of a trace that isn't lawful"
answer_words (Refused line why) = codes "`zk` says this of a scenario that is refused"
answer_words (RefusedTrace line) = codes "`zk` says this of a trace that can't be read"
answer_words RefusedWords = codes "`zk` says this where its words are no form of it"

-- the line that it names
abbrev pub answer_line : Answer → Option ℕ
answer_line Lawful = None
answer_line (Unlawful line fail) = Some line
answer_line (Refused line why) = Some line
answer_line (RefusedTrace line) = Some line
answer_line RefusedWords = None

-- at which line, in words
abbrev pub at_line : ℕ → List ℕ
at_line line = codes ", at its line " ++ decimal line

abbrev pub at_answer : Option ℕ → List ℕ
at_answer line = option_map_or (λ line. at_line line) line []

-- what is asked for instead, in words
abbrev pub give_instead : List ℕ
give_instead = codes ". Give the scenario itself, or what `zk replay` or `zk run` printed of it.\n"

-- what is told of an answer
abbrev pub asks_instead : Answer → List ℕ
asks_instead answer = answer_words answer ++ (at_answer (answer_line answer) ++ give_instead)
