-- What reading and writing in pieces comes to.
use Rattle.std.proofs.Common.{◌≡◌, ℕ, ◌+◌, ◌-◌, ◌≤◌, ◌⊎◌, List, [], ◌++◌, length, take, drop, Option, Some, None, sym, ap, ◌∙◌, arith, append_assoc, length-append, length-drop, inl, inr, append-nil}
use Rattle.std.proofs.KnownBytes.{Consumes-trans}
use Rattle.std.proofs.lemmas.List.{take_all, drop_all, length-take-le, take-append-drop}
use Rattle.std.proofs.Math.Seq.{take-append_seam, drop-append_seam, take-append-add}
use Rattle.std.specs.Io.KnownBytes.{Consumes, Appends, IsAtEnd}
use Rattle.zk_forms.specs.Input.{HasRead, Moves, GaveAtMost}

-- one piece more
pub Consumes-more : (first left left' : Option (List ℕ)) (read read' : List ℕ) (n : ℕ) → Consumes first left read → Moves left left' read read' n → Consumes first left' read'
Consumes-more None left left' read read' n so more = so
Consumes-more (Some xs) None left' read read' n so more = absurd so
Consumes-more (Some xs) (Some ys) None read read' n so more = more
Consumes-more (Some xs) (Some ys) (Some zs) read read' n so more =
    so ∙ ap (λ r. read ++ r) more.1 ∙ sym (append_assoc read more.0 zs) ∙ ap (λ r. r ++ zs) (sym more.2)

-- what was read, and at most so many bytes more
pub GaveAtMost-more : (limit : ℕ) (first left left' : Option (List ℕ)) (read : List ℕ) → length read ≤ limit →
    Consumes first left read → GaveAtMost (limit + 1 - length read) left left' → GaveAtMost (limit + 1) first left'
GaveAtMost-more limit first left left' read within so more =
    let sized = length-append read more.0 in
    (read ++ more.0, omega (arith, sized, within, more.1), Consumes-trans first left left' read more.0 so more.2)

take-more : (m n : ℕ) (text : List ℕ) → m ≤ length text → take (m + n) text ≡ take m text ++ take n (drop m text)
take-more m n text within =
    let sized = length-take-le m text within in
    ap (λ k. take (k + n) text) (sym sized) ∙ ap (λ l. take (length (take m text) + n) l) (sym (take-append-drop m text)) ∙ take-append-add (take m text) (drop m text) n

at_end : (n : ℕ) (xs ys read : List ℕ) → xs ≡ read ++ ys → length read ≤ n → ys ≡ [] → (read ≡ take n xs) × (ys ≡ drop n xs)
at_end n xs ys read so short ended =
    let same : xs ≡ read = so ∙ ap (λ r. read ++ r) ended ∙ append-nil read in
    let within : length xs ≤ n = let sized = ap length same in omega arith in
    (sym same ∙ sym (take_all n xs within), ended ∙ sym (drop_all n xs within))

at_limit : (n : ℕ) (xs ys read : List ℕ) → xs ≡ read ++ ys → length read ≡ n → (read ≡ take n xs) × (ys ≡ drop n xs)
at_limit n xs ys read so full = (
  sym (ap (λ k. take k xs) (sym full) ∙ ap (λ l. take (length read) l) so ∙ take-append_seam read ys),
  sym (ap (λ k. drop k xs) (sym full) ∙ ap (λ l. drop (length read) l) so ∙ drop-append_seam read ys),
)

module _ (limit : ℕ) where
  -- what was read to the end, or to one byte above the limit
  pub HasRead-done : (first left : Option (List ℕ)) (read : List ℕ) → Consumes first left read → ((length read ≤ limit) × IsAtEnd left) ⊎ (length read ≡ limit + 1) → HasRead limit first left read
  HasRead-done None left read so done = so
  HasRead-done (Some xs) None read so done = so
  HasRead-done (Some xs) (Some ys) read so done =
      elim done [ inl ended ↦ at_end (limit + 1) xs ys read so (omega (arith, ended.0)) ended.1 | inr full ↦ at_limit (limit + 1) xs ys read so full ]

  -- a read that gave nothing was at the end
  pub HasRead-end : (first left left' : Option (List ℕ)) (read read' : List ℕ) (n : ℕ) → Consumes first left read → Moves left left' read read' n → n ≡ 0 → length read' ≤ limit → HasRead limit first left' read'
  HasRead-end None left left' read read' n so more none short = so
  HasRead-end (Some xs) None left' read read' n so more none short = absurd so
  HasRead-end (Some xs) (Some ys) None read read' n so more none short = absurd more
  HasRead-end (Some xs) (Some ys) (Some zs) read read' n so more none short =
      HasRead-done (Some xs) (Some zs) read' (Consumes-more (Some xs) (Some ys) (Some zs) read read' n so more) (inl (short, more.3 none))

-- one piece more was written
pub Appends-more : (first held held' : Option (List ℕ)) (text : List ℕ) (m n : ℕ) → m ≤ length text →
    Appends first held (take m text) → Appends held held' (take n (drop m text)) → Appends first held' (take (m + n) text)
Appends-more None held held' text m n within so more = so
Appends-more (Some xs) None held' text m n within so more = absurd so
Appends-more (Some xs) (Some ys) None text m n within so more = absurd more
Appends-more (Some xs) (Some ys) (Some zs) text m n within so more =
    more ∙ ap (λ l. l ++ take n (drop m text)) so ∙ append_assoc xs (take m text) (take n (drop m text)) ∙ ap (λ l. xs ++ l) (sym (take-more m n text within))

-- the rest of a text is all that lies behind a place
pub take-rest : (m : ℕ) (text : List ℕ) → take (length text - m) (drop m text) ≡ drop m text
take-rest m text = take_all (length text - m) (drop m text) (let sized = length-drop m text in omega arith)
