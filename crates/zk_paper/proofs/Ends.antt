-- A word that is put by two moves, one over the other.
use Rattle.std.proofs.Common.{◌≡◌, ◌∙◌, ℕ, ◌+◌, ◌-◌, ◌≤◌, List, ◌++◌, length, take, drop, length-append, sym, ap, arith}
use Rattle.std.proofs.lemmas.List.{append_assoc, length-take-le, length-drop, take-append-drop, take-append-le, take-take}
use Rattle.std.proofs.lemmas.Slice.{take-put_mid}
use Rattle.std.proofs.Math.Seq.{take-append-add}
use borrow.Rule.Slice.PartMut.{put_mid, post_of}

module _ (at k n k1 k2 : ℕ) (row word front back : List ℕ) where
  -- its first bytes and its last ones, together at least as many as it has
  pub ends_put : n ≡ length word → k ≤ n → n ≤ k + k → at + n ≤ length row → front ≡ take k word → back ≡ drop (n - k) word →
      take (at + n) (put_mid (at + (n - k)) k2 (put_mid at k1 row front) back) ≡ take at row ++ word
  ends_put sized within whole room is_front is_back =
      let rest : ℕ = n - k in
      let post : List ℕ = post_of at k1 row in
      let len_front : length front ≡ k = ap length is_front ∙ length-take-le k word (omega arith) in
      let len_back = ap length is_back ∙ length-drop rest word in
      let len_at : length (take at row) ≡ at = length-take-le at row (omega arith) in
      let len_first = length-append (take at row) (front ++ post) in
      let len_more = length-append front post in
      take-put_mid (at + rest) k2 (put_mid at k1 row front) back (at + n) (omega arith) (omega arith) ∙
      ap (λ (l : List ℕ). l ++ back)
      (ap (λ m. take (m + rest) (take at row ++ (front ++ post))) (sym len_at) ∙
      take-append-add (take at row) (front ++ post) rest ∙
      ap (λ (l : List ℕ). take at row ++ l)
      (take-append-le rest front post (omega arith) ∙ ap (λ (l : List ℕ). take rest l) is_front ∙ take-take rest k word (omega arith))) ∙
      append_assoc (take at row) (take rest word) back ∙
      ap (λ (l : List ℕ). take at row ++ (take rest word ++ l)) is_back ∙
      ap (λ (l : List ℕ). take at row ++ l) (take-append-drop rest word)
