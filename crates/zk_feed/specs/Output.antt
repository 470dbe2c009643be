-- What a feed prints.
use Rattle.std.specs.Prelude.{◌≡◌, ℕ, zero, suc, ◌+◌, ◌/◌, ◌%◌, ◌<◌, All, List, [], ◌∷◌, ◌++◌, length, codes, decimal}
use Rattle.std.specs.List.{flat_map}
use Rattle.zk_words.specs.Hex.{hex_text}
use Rattle.zk_msgsub.specs.declared.note.Note.{Note}
use Rattle.zk_msgsub.specs.Notes.{Message, numbered, part}
use Rattle.zk_feed.specs.declared.size.FeedSize.{FeedSize}

-- message n: its number in two bytes, the high one first
abbrev pub message : ℕ → Message
message n = n / 256 ∷ n % 256 ∷ []

-- the messages below n, in order
abbrev pub messages : ℕ → List Message
messages zero = []
messages (suc n) = messages n ++ message n ∷ []

-- what one subscriber took: of each publisher just its messages, numbered, in their order, and nothing else
pub record IsHeard (size : FeedSize) (notes : List Note) : Type 0 where
  pub known : All (λ n. n.publisher < size.publishers) notes
  pub parts : (p : ℕ) → p < size.publishers → part p notes ≡ numbered p (messages size.messages)

-- the line of a note: whose it is, its number among that publisher's, and the message
abbrev pub note_line : Note → List ℕ
note_line n = decimal n.publisher ++ codes "." ++ decimal n.number ++ codes " " ++ hex_text n.message ++ codes "\n"

-- the lines of a subscriber: its number, and then the notes that it took, in order
abbrev pub sub_lines : ℕ → List Note → List ℕ
sub_lines k notes = codes "sub " ++ decimal k ++ codes "\n" ++ flat_map note_line notes

-- the lines of all subscribers, by their numbers from k
abbrev pub lines_from : ℕ → List (List Note) → List ℕ
lines_from k [] = []
lines_from k (notes ∷ others) = sub_lines k notes ++ lines_from (k + 1) others

-- the whole output: the lines of all subscribers, each of which took all messages
pub record IsFeedOutput (size : FeedSize) (output : List ℕ) : Type 0 where
  pub heard : List (List Note)
  pub many : length heard ≡ size.subscribers
  pub each : All (IsHeard size) heard
  pub text : output ≡ lines_from 0 heard
