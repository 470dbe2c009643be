-- Positions in a ring, which wrap: an entry is found at its position whatever comes and goes beside it.
use Rattle.std.proofs.Common.{◌≡◌, ◌≢◌, ℕ, zero, suc, ◌+◌, ◌-◌, ◌*◌, ◌/◌, ◌%◌, ◌^◌, ◌<◌, ◌≤◌, true, false, eqb, leb, Option, Some, None, is_some, List, [], ◌∷◌, ◌++◌, length, get_or, set, refl, sym, ap, ◌∙◌, ◌⊎◌, inl, inr, arith}
use Rattle.std.proofs.Math.Nat.{mod-eq_of_lt, add-mod_right, mod_self, mod-add-div, mul-add-mod_self_left}
use Rattle.std.proofs.lemmas.Nat.{mod_below}
use Rattle.std.proofs.lemmas.Bool.Decides.{eqb_tells, leb_tells}
use Rattle.std.proofs.lemmas.List.{get_or_append_left, get_or_past, get_or-set_other}
use Rattle.zk_queue.specs.declared.ticket.Ticket.{Ticket}
use Rattle.zk_queue.specs.Ring.{RingView, index_at, entry_at, KeepsBut}

-- the index of the position that is so far behind the first one
index-behind : (m front i : ℕ) → front < m → i < m → ((front + i) % m + (m - front)) % m ≡ i
index-behind m front i front_in i_in = by (leb_tells m (front + i)) where
  by : ((leb m (front + i) ≡ true) × (m ≤ front + i)) ⊎ ((leb m (front + i) ≡ false) × (front + i < m)) →
      ((front + i) % m + (m - front)) % m ≡ i
  by (inl past) =
      let over = past.1 in
      let split : front + i ≡ (front + i - m) + m = omega arith in
      let wrapped : (front + i) % m ≡ front + i - m =
      ap (λ n. n % m) split ∙ add-mod_right (front + i - m) m ∙ mod-eq_of_lt (omega arith) in
      let whole : (front + i) % m + (m - front) ≡ i = omega arith in
      ap (λ n. n % m) whole ∙ mod-eq_of_lt i_in
  by (inr within) =
      let plain : (front + i) % m ≡ front + i = mod-eq_of_lt within.1 in
      let whole : (front + i) % m + (m - front) ≡ i + m = omega arith in
      ap (λ n. n % m) whole ∙ add-mod_right i m ∙ mod-eq_of_lt i_in

-- one less
mod-less : (m x : ℕ) → 0 < m → 0 < x % m → (x - 1) % m ≡ x % m - 1
mod-less m x some more =
    let whole : x % m + m * (x / m) ≡ x = mod-add-div x m in
    let below : x % m < m = mod_below x m some in
    let less : x - 1 ≡ m * (x / m) + (x % m - 1) = omega arith in
    ap (λ n. n % m) less ∙ mul-add-mod_self_left m (x / m) (x % m - 1) ∙ mod-eq_of_lt (omega arith)

-- the index of a position, once the first entry is gone
index-next : (m front p : ℕ) → front < m → 0 < (p + (m - front)) % m →
    (p + (m - (front + 1) % m)) % m ≡ (p + (m - front)) % m - 1
index-next m front p front_in more = by (eqb_tells (front + 1) m) where
  by : ((eqb (front + 1) m ≡ true) × (front + 1 ≡ m)) ⊎ ((eqb (front + 1) m ≡ false) × (front + 1 ≢ m)) →
      (p + (m - (front + 1) % m)) % m ≡ (p + (m - front)) % m - 1
  by (inl last) =
      let is = last.1 in
      let none : (front + 1) % m ≡ 0 = ap (λ n. n % m) is ∙ mod_self m in
      let here : p + (m - (front + 1) % m) ≡ (p + (m - front) - 1) + m = omega arith in
      ap (λ n. n % m) here ∙ add-mod_right (p + (m - front) - 1) m ∙ mod-less m (p + (m - front)) (omega arith) more
  by (inr inside) =
      let differ = inside.1 in
      let plain : (front + 1) % m ≡ front + 1 = mod-eq_of_lt (omega arith) in
      let here : p + (m - (front + 1) % m) ≡ p + (m - front) - 1 = omega arith in
      ap (λ n. n % m) here ∙ mod-less m (p + (m - front)) (omega arith) more

-- the index of the position behind the last entry
pub index-end : (front long : ℕ) → front < 2 ^ 64 → long < 2 ^ 64 → index_at front ((front + long) % 2 ^ 64) ≡ long
index-end front long front_in long_in = index-behind (2 ^ 64) front long front_in long_in

get_or_some : (es : List (Option Ticket)) (i : ℕ) (t : Ticket) → get_or es i None ≡ Some t → i < length es
get_or_some es i t is = by (leb_tells (length es) i) where
  by : ((leb (length es) i ≡ true) × (length es ≤ i)) ⊎ ((leb (length es) i ≡ false) × (i < length es)) → i < length es
  by (inl past) = absurd (let none = get_or_past es i None past.1 in cc)
  by (inr within) = within.1

-- an entry that is there has its index within the ring
pub entry-within : (r : RingView) (position : ℕ) (t : Ticket) → entry_at r position ≡ Some t →
    index_at r.front position < length r.entries
entry-within r position t is = get_or_some r.entries (index_at r.front position) t is

-- one more entry at the end
pub KeepsBut-push : (old new : RingView) (e : Option Ticket) → new.front ≡ old.front → new.entries ≡ old.entries ++ e ∷ [] →
    KeepsBut None old new
KeepsBut-push old new e same next = record {
  stays = λ (position : ℕ) (t : Ticket) is.
      let i = index_at old.front position in
      let within : i < length old.entries = get_or_some old.entries i t is in
      inr (ap (λ (f : ℕ). get_or new.entries (index_at f position) None) same ∙ ap (λ (es : List (Option Ticket)). get_or es i None) next
      ∙ get_or_append_left old.entries (e ∷ []) None i within ∙ is);
}

-- one entry is dead
pub KeepsBut-drop : (old new : RingView) (position : ℕ) → new.front ≡ old.front →
    new.entries ≡ set old.entries (index_at old.front position) None → KeepsBut (entry_at old position) old new
KeepsBut-drop old new position same next = record {
  stays = λ (other : ℕ) (t : Ticket) is.
      by other t is (eqb_tells (index_at old.front other) (index_at old.front position));
} where
  by : (other : ℕ) (t : Ticket) → entry_at old other ≡ Some t →
      ((eqb (index_at old.front other) (index_at old.front position) ≡ true)
      × (index_at old.front other ≡ index_at old.front position))
      ⊎ ((eqb (index_at old.front other) (index_at old.front position) ≡ false)
      × (index_at old.front other ≢ index_at old.front position)) →
      (entry_at old position ≡ Some t) ⊎ (entry_at new other ≡ Some t)
  by other t is (inl here) = inl (ap (λ (i : ℕ). get_or old.entries i None) (sym here.1) ∙ is)
  by other t is (inr there) = inr (ap (λ (f : ℕ). get_or new.entries (index_at f other) None) same
      ∙ ap (λ (es : List (Option Ticket)). get_or es (index_at old.front other) None) next
      ∙ get_or-set_other old.entries (index_at old.front position) (index_at old.front other) None None there.1 ∙ is)

-- the first entry is gone
pub KeepsBut-pop : (old new : RingView) (e : Option Ticket) → old.front < 2 ^ 64 → new.front ≡ (old.front + 1) % 2 ^ 64 →
    old.entries ≡ e ∷ new.entries → KeepsBut e old new
KeepsBut-pop old new e small front next = record {
  stays = λ (position : ℕ) (t : Ticket) is.
      by position t (index_at old.front position) refl
      (ap (λ (es : List (Option Ticket)). get_or es (index_at old.front position) None) (sym next) ∙ is);
} where
  by : (position : ℕ) (t : Ticket) (i : ℕ) → index_at old.front position ≡ i → get_or (e ∷ new.entries) i None ≡ Some t →
      (e ≡ Some t) ⊎ (entry_at new position ≡ Some t)
  by position t zero at is = inl is
  by position t (suc i) at is =
      let more : 0 < index_at old.front position = omega arith in
      let less = ap (λ (f : ℕ). index_at f position) front ∙ index-next (2 ^ 64) old.front position small more in
      let here : index_at new.front position ≡ i = omega arith in
      inr (ap (λ (i : ℕ). get_or new.entries i None) here ∙ is)

-- nothing is gone
pub KeepsBut-refl : (r : RingView) → KeepsBut None r r
KeepsBut-refl r = record { stays = λ (position : ℕ) (t : Ticket) is. inr is }

-- a dead entry is gone, and then another
pub KeepsBut-trans : (gone : Option Ticket) (a b c : RingView) → KeepsBut None a b → KeepsBut gone b c → KeepsBut gone a c
KeepsBut-trans gone a b c first next =
    record { stays = λ (position : ℕ) (t : Ticket) is. by position t (first.stays position t is) } where
      by : (position : ℕ) (t : Ticket) → (None ≡ Some t) ⊎ (entry_at b position ≡ Some t) →
          (gone ≡ Some t) ⊎ (entry_at c position ≡ Some t)
      by position t (inl never) = absurd (cc)
      by position t (inr is) = next.stays position t is

pub some-within : (r : RingView) (position : ℕ) → is_some (entry_at r position) ≡ true → index_at r.front position < length r.entries
some-within r position some = by (entry_at r position) refl some where
  by : (e : Option Ticket) → entry_at r position ≡ e → is_some e ≡ true → index_at r.front position < length r.entries
  by None at some = absurd (cc)
  by (Some t) at some = entry-within r position t at

-- an entry is gone, and then none
pub KeepsBut-after : (gone : Option Ticket) (a b c : RingView) → KeepsBut gone a b → KeepsBut None b c → KeepsBut gone a c
KeepsBut-after gone a b c first next =
    record { stays = λ (position : ℕ) (t : Ticket) is. by position t (first.stays position t is) } where
      still : (position : ℕ) (t : Ticket) → (None ≡ Some t) ⊎ (entry_at c position ≡ Some t) → entry_at c position ≡ Some t
      still position t (inl never) = absurd (cc)
      still position t (inr is) = is

      by : (position : ℕ) (t : Ticket) → (gone ≡ Some t) ⊎ (entry_at b position ≡ Some t) →
          (gone ≡ Some t) ⊎ (entry_at c position ≡ Some t)
      by position t (inl lost) = inl lost
      by position t (inr is) = inr (still position t (next.stays position t is))
