-- A wait that is read names a bit at least, and what is read as bits are sixteen at most.
use Rattle.std.proofs.Common.{◌≡◌, ℕ, ◌≤◌, Bool, true, false, not, eqb, leb, cond, List, [], ◌∷◌, Option, Some, None, refl, sym, ap, ◌∙◌, arith}
use Rattle.std.specs.Prelude.{IfSome, codes}
use Rattle.std.proofs.lemmas.Bool.{and_parts, leb-true}
use Rattle.std.proofs.lemmas.Bool.Decides.{nat_tests}
use Rattle.std.proofs.lemmas.Option.{none-some, same_Some, option_and_then_some}
use Rattle.zk_words.specs.Numbers.{number_in}
use Rattle.zk_words.proofs.Numerals.{number_in_spelled}
use Rattle.zk_side.specs.Slots.{are_none, one_of}
use Rattle.zk_event.specs.declared.event.EventOp.{EventOp}
use Rattle.zk_event.specs.declared.event.EventOp.TheVariants.{Wait}
use Rattle.zk_event.specs.Event.{Event, event_in_range}
use Rattle.zk_event_script.specs.declared.limits.TheConstants.{GREATEST_BITS}
use Rattle.zk_event_script.specs.Operations.{wait_of}

-- a number that was read is in its range
pub within : (least most : ℕ) (word : List ℕ) (n : ℕ) → number_in least most word ≡ Some n → (least ≤ n) × (n ≤ most)
within least most word n said =
    let parts = and_parts (leb least n) (leb n most) (number_in_spelled least most word n said).1 in
    (leb-true least n parts.0, leb-true n most parts.1)

isnt_none : (mask : ℕ) → 1 ≤ mask → eqb mask 0 ≡ false
isnt_none mask least = grind (arith, nat_tests)

some_bit : (mask : ℕ) → 1 ≤ mask → not (eqb mask 0) ≡ true
some_bit mask least = ap not (isnt_none mask least)

if_some : {A : Type 0} (b : Bool) (x y : A) → cond b (Some x) None ≡ Some y → x ≡ y
if_some true x y is = same_Some x y is
if_some false x y is = absurd (none-some y is)

module _ (s : Event) where
  made_in_range : (words : List (List ℕ)) (op : EventOp) → wait_of words ≡ Some op → event_in_range s op ≡ true
  made_in_range [] op said = absurd (none-some op said)
  made_in_range (mask ∷ []) op said = absurd (none-some op said)
  made_in_range (mask ∷ all ∷ []) op said = absurd (none-some op said)
  made_in_range (mask ∷ all ∷ reset ∷ []) op said = absurd (none-some op said)
  made_in_range (mask ∷ all ∷ reset ∷ waits ∷ words) op said =
      option_and_then_some _ (number_in 1 GREATEST_BITS mask) op said (λ m is_m behind_m.
      option_and_then_some _ (one_of (codes "all") (codes "any") all) op behind_m (λ a is_a behind_a.
      option_and_then_some _ (one_of (codes "reset") (codes "keep") reset) op behind_a (λ r is_r behind_r.
      option_and_then_some _ (one_of (codes "wait") (codes "no") waits) op behind_r (λ w is_w behind_w.
      ap (event_in_range s) (sym (if_some (are_none words) (Wait m a r w) op behind_w))
      ∙ some_bit m (within 1 GREATEST_BITS mask m is_m).0))))

  each_in_range : (said : Option EventOp) → ((op : EventOp) → said ≡ Some op → event_in_range s op ≡ true) →
      IfSome said (λ op. event_in_range s op ≡ true)
  each_in_range None fits = tt
  each_in_range (Some op) fits = fits op refl

  -- a wait that is read is in its range
  pub wait_in_range : (words : List (List ℕ)) → IfSome (wait_of words) (λ op. event_in_range s op ≡ true)
  wait_in_range words = each_in_range (wait_of words) (made_in_range words)
