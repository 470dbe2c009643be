-- Inner: no contract of a top call is made of this file.
-- Bytes of a bounded length that are kept in place, with zeros behind them.
use Rattle.std.proofs.Common.{◌≡◌, ℕ, ◌+◌, ◌-◌, ◌≤◌, Bool, true, not, nat_lt, nat_le, ◌&&◌, length-append, List, [], ◌∷◌, ◌++◌, length, take, drop, replicate, sym, ap, ◌∙◌, subst, arith}
use Rattle.std.proofs.lemmas.List.{length-take-le, take-append-drop, drop-replicate, length-replicate}
use Rattle.std.proofs.lemmas.Bool.{ltb-true}
use Rattle.std.proofs.lemmas.Bool.Decides.{nat_tests}
use Rattle.std.proofs.Math.Seq.{drop-append_seam, take-append_seam}
use Rattle.std.specs.Cmp.{first_so, second_so}
use Rattle.std.specs.List.{list_all}
use Rattle.zk_base.specs.Limits.{longest_message, longest_name}
use Rattle.zk_base.specs.Names.{is_name, is_spelled, is_reserved, is_lower, is_name_byte}
use Rattle.zk_base.specs.Messages.{is_message}
use Rattle.zk_base.specs.Padded.{padded, IsPadded}

module _ (width : ℕ) (is_right : List ℕ → Bool) where
  -- the length of what is kept
  pub length-padded : (bytes : List ℕ) (len : ℕ) → IsPadded width is_right bytes len → length (take len bytes) ≡ len
  length-padded bytes len held =
      let long = held.long in
      let within = held.within in
      length-take-le len bytes (omega arith)

  -- padding gives the bytes back
  pub padded-take : (bytes : List ℕ) (len : ℕ) → IsPadded width is_right bytes len →
      padded width (take len bytes) ≡ bytes
  padded-take bytes len held =
      ap (λ n. take len bytes ++ replicate (width - n) 0) (length-padded bytes len held) ∙
      ap (λ z. take len bytes ++ z) (sym held.zeros) ∙ take-append-drop len bytes

  -- right bytes written over the front of zeros are padded
  pub IsPadded-made : (text zeros front : List ℕ) → length text ≤ width → is_right text ≡ true →
      zeros ≡ replicate width 0 → front ≡ text →
      IsPadded width is_right (front ++ drop (length text) zeros) (length text)
  IsPadded-made text zeros front within said are same =
      let rest : drop (length text) zeros ≡ replicate (width - length text) 0 =
      ap (λ (z : List ℕ). drop (length text) z) are ∙ drop-replicate (length text) width 0 in
      let sized = length-append text (drop (length text) zeros) in
      let long = ap length rest ∙ length-replicate (width - length text) 0 in
      let P : List ℕ → Type 0 = λ f. IsPadded width is_right (f ++ drop (length text) zeros) (length text) in
      subst P (sym same) (record {
        long = sized ∙ ap (λ n. length text + n) long ∙ whole (length text) within;
        within = within;
        zeros = drop-append_seam text (drop (length text) zeros) ∙ rest;
        right = ap is_right (take-append_seam text (drop (length text) zeros)) ∙ said;
      }) where
        whole : (n : ℕ) → n ≤ width → n + (width - n) ≡ width
        whole n w = omega arith

-- a name isn't longer than the longest
pub length-name : (text : List ℕ) → is_name text ≡ true → length text ≤ longest_name
length-name [] named = omega arith
length-name (b ∷ bs) named =
    let spelled = first_so (is_spelled (b ∷ bs)) (not (is_reserved (b ∷ bs))) named in
    let front = first_so (is_lower b && nat_lt (length bs) longest_name) (list_all is_name_byte bs) spelled in
    let short = ltb-true (length bs) longest_name (second_so (is_lower b) (nat_lt (length bs) longest_name) front) in
    omega arith

-- nor is a message
pub length-message : (bytes : List ℕ) → is_message bytes ≡ true → length bytes ≤ longest_message
length-message bytes is =
    let within = second_so (nat_le 1 (length bytes)) (nat_le (length bytes) longest_message) is in
    grind (arith, nat_tests)
