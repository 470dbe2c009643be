-- Inner: no contract of a top call is made of this file.
-- What the shared word says.
use Rattle.std.specs.Prelude.{◌≡◌, ℕ, ◌+◌, ◌*◌, ◌/◌, ◌%◌, ◌⊎◌, ◌==◌, Bool, true, false, if◌then◌else◌, List}
use Rattle.std.specs.List.{Contains}
use Rattle.zk_base.specs.declared.seen.Seen.{Seen}

-- what one stamp counts in the word
abbrev pub stamp_unit : ℕ
stamp_unit = 131072

-- what the mark of a raised signal counts in it
abbrev pub mark_unit : ℕ
mark_unit = 65536

-- the word of what a write left
abbrev pub word_of : Seen → ℕ
word_of seen = stamp_unit * seen.stamp + (if seen.raised then mark_unit else 0) + seen.result

-- the stamp of a word
abbrev pub stamp_in : ℕ → ℕ
stamp_in word = word / stamp_unit

-- what a look at a word finds
abbrev pub seen_in : ℕ → Seen
seen_in word = record { raised = (word / mark_unit % 2) == 1; result = word % mark_unit; stamp = stamp_in word }

-- a signal that isn't raised has result 0
abbrev pub IsTidy : Seen → Type 0
IsTidy seen = seen.raised ≡ false → seen.result ≡ 0

-- what a write leaves, at its stamp
abbrev pub written : Bool → ℕ → ℕ → Seen
written raised value stamp = record { raised = raised; result = value; stamp = stamp }

-- what a raise leaves
abbrev pub raised_at : ℕ → ℕ → Seen
raised_at stamp value = written true value stamp

-- what a clear leaves, and what stands before any write, at stamp 0
abbrev pub clear_at : ℕ → Seen
clear_at stamp = written false 0 stamp

-- the stamp of what was written or found
abbrev pub stamp_of : Seen → ℕ
stamp_of seen = seen.stamp

-- what was found is the value of its stamp: what its write left, or what stands before any write
abbrev pub IsValueIn : List Seen → Seen → Type 0
IsValueIn writes seen = (seen ≡ clear_at 0) ⊎ Contains writes seen
