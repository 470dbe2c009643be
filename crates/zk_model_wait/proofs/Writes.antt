-- The writes of a signal: what a look finds after one write more.
use Rattle.std.proofs.Common.{◌≡◌, ℕ, suc, ◌+◌, Option, Some, None, List, [], ◌∷◌, ◌++◌, length, refl, ap, ◌∙◌, arith}
use Rattle.std.specs.List.{slice_get}
use Rattle.std.proofs.lemmas.List.{length-append}
use Rattle.circular_buffer.proofs.Places.{slice_get-last}
use Rattle.zk_base.specs.declared.ids.Who.{Who}
use Rattle.zk_model_wait.specs.declared.signal.SignalOp.{SignalOp}
use Rattle.zk_model_wait.specs.declared.signal.SignalOp.TheVariants as ops
use Rattle.zk_model_wait.specs.Signal.{Signal, written, written_by, write_of, value_at, signal_seen, signal_next}

written-stamp : (stamp : ℕ) (write : Option SignalOp) → (written_by stamp write).stamp ≡ stamp
written-stamp stamp None = refl
written-stamp stamp (Some (ops.Raise value)) = refl
written-stamp stamp (Some ops.Clear) = refl

-- the value of a stamp has this stamp
pub value-stamp : (writes : List SignalOp) (stamp : ℕ) → (value_at writes stamp).stamp ≡ stamp
value-stamp writes stamp = written-stamp stamp (write_of writes stamp)

-- the value of the stamp behind k is what the write at k leaves
pub value-write : (writes : List SignalOp) (k : ℕ) (write : SignalOp) → slice_get writes k ≡ Some write →
    value_at writes (suc k) ≡ written (suc k) write
value-write writes k write is = ap (written_by (suc k)) is

-- after one write more a look finds what it leaves
pub seen-next : (s : Signal) (who : Who) (op : SignalOp) →
    signal_seen (signal_next s who op) ≡ written (length s.writes + 1) op
seen-next s who op =
    let long : length (s.writes ++ op ∷ []) ≡ suc (length s.writes) =
    let both = length-append s.writes (op ∷ []) in omega arith in
    let one : suc (length s.writes) ≡ length s.writes + 1 = omega arith in
    ap (value_at (s.writes ++ op ∷ [])) long
    ∙ value-write (s.writes ++ op ∷ []) (length s.writes) op (slice_get-last s.writes op (length s.writes) refl)
    ∙ ap (λ (n : ℕ). written n op) one
