-- The histories of the objects of a kind of which there are many.
use Rattle.std.proofs.Common.{◌≡◌, ◌⊎◌, inl, inr, ℕ, zero, suc, ◌+◌, ◌<◌, true, false, Option, Some, None, is_some, List, [], ◌∷◌, ◌++◌, length, length-append, map, All, refl, ap, subst, ◌∙◌, arith}
use Rattle.std.specs.List.{slice_get, sum_by}
use Rattle.std.specs.Option.{option_map, option_map_or, option_and_then}
use Rattle.std.proofs.lemmas.Option.{option_and_then_some}
use Rattle.std.proofs.lemmas.List.Elements.{All-nil, All-cons}
use Rattle.std.proofs.lemmas.List.Sums.{sum_by-cons}
use Rattle.zk_base.specs.declared.ids.Who.{Who}
use Rattle.zk_base.specs.declared.ids.Entry.{Entry}
use Rattle.zk_base.specs.Legal.{Machine, state_after}
use Rattle.zk_line.specs.declared.types.Decl.{Decl}
use Rattle.zk_worker.specs.declared.steps.StepReply.{StepReply}
use Rattle.zk_worker.specs.Single.{answer_in}
use Rattle.zk_worker.specs.Families.{Family, start_of, no_entries, entry_at, with_entry, answer_at, takes_at, is_declared}
use Rattle.zk_worker.proofs.Lists.{at-end, there-longer, there-behind}

module _ {O R : Type 0} where
  -- what is at a place stays there with an entry more
  pub with-longer : (hs : List (List (Entry O R))) (object : ℕ) (e : Entry O R) (at place : ℕ) (x : Entry O R) →
      entry_at hs at place ≡ Some x → entry_at (with_entry hs object e) at place ≡ Some x
  with-longer [] object e at place x is = is
  with-longer (h ∷ hs) zero e zero place x is = there-longer h (e ∷ []) place x is
  with-longer (h ∷ hs) zero e (suc at) place x is = is
  with-longer (h ∷ hs) (suc object) e zero place x is = is
  with-longer (h ∷ hs) (suc object) e (suc at) place x is = with-longer hs object e at place x is

  -- and but for the entry nothing else is anywhere
  pub with-back : (hs : List (List (Entry O R))) (object : ℕ) (e : Entry O R) (h : List (Entry O R)) (at place : ℕ) (x : Entry O R) → slice_get hs object ≡ Some h →
      entry_at (with_entry hs object e) at place ≡ Some x → (entry_at hs at place ≡ Some x) ⊎ ((at ≡ object) × (place ≡ length h) × (e ≡ x))
  with-back [] object e h at place x there is = inl is
  with-back (g ∷ hs) zero e h zero place x there is = let same : g ≡ h = cc in by_place same (at-end g e x place is)
    where
      by_place : g ≡ h → (slice_get g place ≡ Some x) ⊎ ((place ≡ length g) × (e ≡ x)) → (slice_get g place ≡ Some x) ⊎ ((zero ≡ zero) × (place ≡ length h) × (e ≡ x))
      by_place same (inl before) = inl before
      by_place same (inr last) = inr (refl, last.0 ∙ ap length same, last.1)
  with-back (g ∷ hs) zero e h (suc at) place x there is = inl is
  with-back (g ∷ hs) (suc object) e h zero place x there is = inl is
  with-back (g ∷ hs) (suc object) e h (suc at) place x there is = further (with-back hs object e h at place x there is)
    where
      further : (entry_at hs at place ≡ Some x) ⊎ ((at ≡ object) × (place ≡ length h) × (e ≡ x)) →
          (entry_at hs at place ≡ Some x) ⊎ ((suc at ≡ suc object) × (place ≡ length h) × (e ≡ x))
      further (inl before) = inl before
      further (inr last) = inr (ap suc last.0, last.1, last.2)

  -- the entry is at the end of its object's history
  pub with-here : (hs : List (List (Entry O R))) (object : ℕ) (e : Entry O R) (h : List (Entry O R)) → slice_get hs object ≡ Some h →
      entry_at (with_entry hs object e) object (length h) ≡ Some e
  with-here [] object e h there = absurd (cc)
  with-here (g ∷ hs) zero e h there =
      let same : g ≡ h = cc in
      subst (λ (x : List (Entry O R)). slice_get (g ++ e ∷ []) (length x) ≡ Some e) same (there-behind g e)
  with-here (g ∷ hs) (suc object) e h there = with-here hs object e h there

  -- there is one entry more
  pub with-count : (hs : List (List (Entry O R))) (object : ℕ) (e : Entry O R) (h : List (Entry O R)) → slice_get hs object ≡ Some h →
      sum_by length (with_entry hs object e) ≡ sum_by length hs + 1
  with-count [] object e h there = absurd (cc)
  with-count (g ∷ hs) zero e h there =
      omega (arith, length-append g (e ∷ []), sum_by-cons {X = List (Entry O R)} length g hs, sum_by-cons {X = List (Entry O R)} length (g ++ e ∷ []) hs)
  with-count (g ∷ hs) (suc object) e h there =
      omega (arith, with-count hs object e h there, sum_by-cons {X = List (Entry O R)} length g hs, sum_by-cons {X = List (Entry O R)} length g (with_entry hs object e))

  -- where all together are short, each is
  pub each-short : (hs : List (List (Entry O R))) (most : ℕ) → sum_by length hs < most → All (λ h. length h < most) hs
  each-short [] most short = let P : List (Entry O R) → Type 0 = λ h. length h < most in All-nil P
  each-short (h ∷ hs) most short =
      let P : List (Entry O R) → Type 0 = λ h. length h < most in
      let both = sum_by-cons {X = List (Entry O R)} length h hs in
      All-cons P h hs (omega arith) (each-short hs most (omega arith))

  -- what is known of a place of an object's history is known of it among the others
  pub of-object : {B : Type 0} (f : Entry O R → B) (hs : List (List (Entry O R))) (object : ℕ) (h : List (Entry O R)) (place : ℕ) (b : B) → slice_get hs object ≡ Some h →
      option_map f (slice_get h place) ≡ Some b → option_map f (entry_at hs object place) ≡ Some b
  of-object f hs object h place b there is =
      ap (λ (o : Option (List (Entry O R))). option_map f (option_and_then (λ h. slice_get h place) o)) there ∙ is

  -- nothing is known where no entry was made
  pub none-there : {A B : Type 0} (f : Entry O R → B) (objects : List A) (at place : ℕ) (b : B) →
      option_map f (entry_at (no_entries {A = A} {O = O} {R = R} objects) at place) ≡ Some b → ⊥
  none-there f [] at place b is = cc
  none-there f (o ∷ os) zero place b is = cc
  none-there f (o ∷ os) (suc at) place b is = none-there f os at place b is

-- an object that answered: its history, and the reply of its machine
pub record HasAnswered {O R : Type 0} (hs : List (List (Entry O R))) (step_reply : ℕ → R → ℕ → StepReply) (object : ℕ) (told : StepReply) : Type 0 where
  pub history : List (Entry O R)
  pub reply : R
  pub there : slice_get hs object ≡ Some history
  pub tells : step_reply object reply (length history) ≡ told

module _ {S O R : Type 0} where
  -- an object that answers has a history
  pub answered-at : (family : Family S O R) (hs : List (List (Entry O R))) (step_reply : ℕ → R → ℕ → StepReply) (who : Who) (object : ℕ) (op : O) (told : StepReply) →
      answer_at family hs step_reply who object op ≡ Some told → HasAnswered hs step_reply object told
  answered-at family hs step_reply who object op told is =
      let Q : Type 0 = HasAnswered hs step_reply object told in
      option_and_then_some {P = Q} (λ start. option_and_then (λ h. answer_in family.machine start h (step_reply object) who op) (slice_get hs object)) (start_of family object) told is
      (λ start started after. option_and_then_some {P = Q} (λ h. answer_in family.machine start h (step_reply object) who op) (slice_get hs object) told after
      (λ h there answered. by_reply h there (family.machine.reply_of (state_after family.machine start h) who op) answered))
    where
      by_reply : (h : List (Entry O R)) → slice_get hs object ≡ Some h → (o : Option R) → option_map (λ r. step_reply object r (length h)) o ≡ Some told → HasAnswered hs step_reply object told
      by_reply h there None answered = absurd (cc)
      by_reply h there (Some r) answered = record { history = h; reply = r; there = there; tells = cc }

  -- an object that is declared as one of a kind takes each operation that is in range in every state
  pub takes-declared_one : (machine : Machine S O R) (start : Decl → Option S) (decls : List Decl) (object : ℕ) (op : O) → ((s : S) → machine.in_range s op ≡ true) →
      is_declared start decls object ≡ true → takes_at (record { machine = machine; starts = map start decls }) object op ≡ true
  takes-declared_one machine start [] object op all is = absurd (cc)
  takes-declared_one machine start (d ∷ ds) zero op all is = by_start (start d) is
    where
      by_start : (o : Option S) → is_some o ≡ true → option_map_or (λ s. machine.in_range s op) o false ≡ true
      by_start None is = absurd (cc)
      by_start (Some s) is = all s
  takes-declared_one machine start (d ∷ ds) (suc object) op all is = takes-declared_one machine start ds object op all is
