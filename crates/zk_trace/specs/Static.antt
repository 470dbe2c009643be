-- Inner: no contract of a top call is made of this file.
use Rattle.std.specs.Prelude.{ℕ, List, [], ◌∷◌}
use Rattle.zk_trace.specs.declared.parts.Part.{Part}
use Rattle.zk_trace.specs.declared.parts.Part.TheVariants.{Truth, Refusal, Fixed}
use Rattle.zk_trace.specs.Parts.{fixed_word}
use Rattle.zk_trace.specs.Words.{errno_word, truth_word}

-- the text of a part that is the same in each line, and no byte for another
abbrev pub static_word : Part → List ℕ
static_word (Truth truth) = truth_word truth
static_word (Refusal errno) = errno_word errno
static_word (Fixed fixed) = fixed_word fixed
static_word part = []

-- the text of one such part, and no byte for other parts
abbrev pub static_row : List Part → List ℕ
static_row (part ∷ []) = static_word part
static_row parts = []
