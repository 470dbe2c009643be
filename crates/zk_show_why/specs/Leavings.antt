-- What is said of what a run leaves behind.
use Rattle.std.specs.Prelude.{◌≡◌, ℕ, ◌==◌, List, ◌++◌, codes, decimal, if◌then◌else◌}
use Rattle.std.specs.List.{AllZip, concat}
use Rattle.zk_line.specs.declared.types.Decl.{Decl}
use Rattle.zk_trace.specs.declared.trace.Trace.{Trace}
use Rattle.zk_trace.specs.Words.{errno_word}
use Rattle.zk_show_why.specs.declared.left.Left.{Left}
use Rattle.zk_show_why.specs.declared.left.What.{What}
use Rattle.zk_show_why.specs.declared.left.What.TheVariants.{Refused, Expired, Hurried, Dropped, Delayed, Holds}
use Rattle.zk_show_why.specs.Left.{left_of}
use Rattle.zk_show_why.specs.Oops.{step_words}
use Rattle.zk_show_why.specs.Players.{name_of_object, player_name}

-- what the player did, in front of the object's name
abbrev pub left_verb : What → List ℕ
left_verb (Refused errno) = codes " submitted "
left_verb (Expired errno) = codes " ended the delay of "
left_verb Hurried = codes " flushed "
left_verb (Dropped number) = codes " cancelled "
left_verb (Delayed moment) = codes " delayed "
left_verb (Holds count) = codes " put the last message into "

-- how many messages are left, in words
abbrev pub many_words : ℕ → List ℕ
many_words count = codes ", and " ++ decimal count ++ codes " messages are left there"

abbrev pub count_words : ℕ → List ℕ
count_words count = if count == 1 then codes ", and 1 message is left there" else many_words count

-- until when an item is delayed, and which admission was dropped, in words
abbrev pub until_words : ℕ → List ℕ
until_words moment = codes ", until tick " ++ (decimal moment ++ codes ", which is to come")

abbrev pub dropped_words : ℕ → List ℕ
dropped_words number = codes ", which dropped its admission a" ++ decimal number

-- what came of that
abbrev pub left_end : What → List ℕ
left_end (Refused errno) = codes ", in vain: it was answered `" ++ errno_word errno ++ codes "`"
left_end (Expired errno) = codes ", in vain: its submission was answered `" ++ errno_word errno ++ codes "`"
left_end Hurried = codes ", in vain: its submission was refused"
left_end (Dropped number) = dropped_words number
left_end (Delayed moment) = until_words moment
left_end (Holds count) = count_words count

-- who did what, in words
abbrev pub left_front : List Decl → Left → List ℕ
left_front decls left = player_name decls left.made.player ++ left_verb left.what ++ name_of_object decls left.object

-- at which of its steps, and what came of that, in words
abbrev pub left_back : ℕ → What → List ℕ
left_back step what = codes " " ++ (step_words step ++ (left_end what ++ codes ".\n"))

-- a sentence on what came to nothing or is left: who did what, somewhere, at which of its steps, and what came of that
pub record IsLeftText (decls : List Decl) (left : Left) (text : List ℕ) : Type 0 where
  pub place : List ℕ
  pub says : text ≡ left_front decls left ++ (place ++ left_back left.made.step left.what)

-- behind what was there stands a sentence on each of these, in order, and nothing else
pub record TellsLefts (decls : List Decl) (lefts : List Left) (old new : List ℕ) : Type 0 where
  pub texts : List (List ℕ)
  pub each : AllZip (IsLeftText decls) lefts texts
  pub behind : new ≡ old ++ concat texts

-- behind what was there stands a sentence on each thing that a run leaves behind, and nothing else
abbrev pub TellsLeft : List Decl → Trace → List ℕ → List ℕ → Type 0
TellsLeft decls t old new = TellsLefts decls (left_of decls t) old new
