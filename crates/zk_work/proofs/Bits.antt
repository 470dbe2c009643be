-- The bits of a word of busy flags that a cancel and a flush change, by trying all 32 words.
use Rattle.std.proofs.Common.{◌≡◌, ◌-◌, ◌^◌, Bool, true, false, eqb, refl}
use Rattle.std.specs.Int.RustNames.{bit_and, bit_or}
use Rattle.std.proofs.lemmas.Bool.{eqb-true}
use Rattle.zk_model_work.specs.Questions.{busy_flags}
use Rattle.zk_queue.proofs.Bits.{from_every}

module _ (r c q d f : Bool) where
  pub cancelling-on : bit_or (busy_flags r c q d f) 2 ≡ busy_flags r true q d f
  cancelling-on = eqb-true (bit_or (busy_flags r c q d f) 2) (busy_flags r true q d f)
      (from_every (λ r c q d f. eqb (bit_or (busy_flags r c q d f) 2) (busy_flags r true q d f)) refl r c q d f)

  pub cancelling-off : bit_and (busy_flags r c q d f) (2 ^ 8 - 1 - 2) ≡ busy_flags r false q d f
  cancelling-off = eqb-true (bit_and (busy_flags r c q d f) (2 ^ 8 - 1 - 2)) (busy_flags r false q d f)
      (from_every (λ r c q d f. eqb (bit_and (busy_flags r c q d f) (2 ^ 8 - 1 - 2)) (busy_flags r false q d f)) refl r c q d f)

  pub flushing-on : bit_or (busy_flags r c q d f) 16 ≡ busy_flags r c q d true
  flushing-on = eqb-true (bit_or (busy_flags r c q d f) 16) (busy_flags r c q d true)
      (from_every (λ r c q d f. eqb (bit_or (busy_flags r c q d f) 16) (busy_flags r c q d true)) refl r c q d f)

  pub flushing-off : bit_and (busy_flags r c q d f) (2 ^ 8 - 1 - 16) ≡ busy_flags r c q d false
  flushing-off = eqb-true (bit_and (busy_flags r c q d f) (2 ^ 8 - 1 - 16)) (busy_flags r c q d false)
      (from_every (λ r c q d f. eqb (bit_and (busy_flags r c q d f) (2 ^ 8 - 1 - 16)) (busy_flags r c q d false)) refl r c q d f)
