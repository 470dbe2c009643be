-- What each way of a call of a side script comes to, on any stage.
use Rattle.std.proofs.Common.{◌≡◌, ℕ, ◌+◌, ◌<◌, Bool, cond, Ok, Err, List, length, take, sym, ap, ◌∙◌, subst, inl, inr, arith}
use Rattle.std.specs.Prelude.{Result}
use Rattle.std.proofs.lemmas.Bool.{lt-ltb, cases_lt}
use Rattle.std.proofs.lemmas.List.{take_all, length-take-le}
use Rattle.zk_base.specs.declared.errors.Status.{Status}
use Rattle.zk_base.specs.declared.errors.Status.TheVariants.{Refused}
use Rattle.zk_words.specs.Bytes.{line_feed}
use Rattle.zk_words.specs.Pieces.{pieces_between}
use Rattle.zk_side.specs.declared.limits.TheConstants.{LONGEST_SIDE_SCRIPT}
use Rattle.zk_side.specs.declared.refusal.Refusal.{Refusal}
use Rattle.zk_side.specs.declared.refusal.Refusal.TheVariants.{Length}
use Rattle.zk_side.specs.Output.{refusal_text, output_for, side_output, IsSideOutput}
use Rattle.zk_side.specs.Played.{Stage}
use Rattle.zk_side.specs.Script.{Asked, script_in}
use Rattle.zk_forms.specs.Top.{IsAnswer}

module _ {S O R : Type 0} (stage : Stage S O R) where
  -- a side script above the limit is refused for its length
  side-long : (input : List ℕ) → LONGEST_SIDE_SCRIPT < length input → side_output stage input ≡ (refusal_text Length, Refused)
  side-long input more =
      ap (λ (b : Bool). output_for stage (cond b (Err Length) (script_in stage.op_of (pieces_between line_feed input))))
      (lt-ltb LONGEST_SIDE_SCRIPT (length input) more)

  -- so its output is that of what is read of it
  pub side-front : (status : Status) (n : ℕ) (input output : List ℕ) → n ≡ LONGEST_SIDE_SCRIPT + 1 →
      IsSideOutput stage status (take n input) output → IsSideOutput stage status input output
  side-front status n input output is out = elim (cases_lt n (length input)) [
    | inr within ↦ subst (λ (i : List ℕ). IsSideOutput stage status i output) (take_all n input within) out
    | inl above ↦
        let sized = length-take-le n input (omega arith) in
        side-long input (omega arith) ∙ sym (side-long (take n input) (omega arith)) ∙ out
  ]

  -- a status that has an output of a side script is one that prints
  pub IsAnswer-side : (said : Result (List (Asked O)) Refusal) (output : List ℕ) (status : Status) →
      output_for stage said ≡ (output, status) → IsAnswer status
  IsAnswer-side (Ok lines) output status is = subst IsAnswer (ap (λ (p : List ℕ × Status). p.1) is) tt
  IsAnswer-side (Err refusal) output status is = subst IsAnswer (ap (λ (p : List ℕ × Status). p.1) is) tt
