-- What waits in a ring: its living entries.
use Rattle.std.proofs.Common.{◌≡◌, ℕ, zero, suc, ◌+◌, ◌-◌, ◌<◌, ◌≤◌, Bool, true, false, cond, Option, Some, None, is_some, option_to_list, option_map, List, [], ◌∷◌, ◌++◌, length, map, get_or, set, refl, sym, ap, ◌∙◌, arith}
use Rattle.std.proofs.lemmas.List.{append-nil, append_assoc, length_push, length-set}
use Rattle.zk_queue.specs.declared.ticket.Ticket.{Ticket}
use Rattle.std.specs.List.{find}
use Rattle.zk_model_work.specs.Lists.{first}
use Rattle.zk_model_work.specs.Questions.{weight}
use Rattle.zk_queue.specs.Line.{is_of, without, number_in}
use Rattle.zk_queue.specs.Places.{count}
use Rattle.zk_queue.specs.Ring.{living, turned}

pub living-append : (es fs : List (Option Ticket)) → living (es ++ fs) ≡ living es ++ living fs
living-append [] fs = refl
living-append (None ∷ es) fs = living-append es fs
living-append (Some t ∷ es) fs = ap (λ (ts : List Ticket). t ∷ ts) (living-append es fs)

-- there are no more of them than entries
pub living-le : (es : List (Option Ticket)) → length (living es) ≤ length es
living-le [] = omega arith
living-le (None ∷ es) = let rest = living-le es in omega arith
living-le (Some t ∷ es) = let rest = living-le es in omega arith

-- entries that all live
pub living-all : (ts : List Ticket) → living (map (λ (t : Ticket). Some t) ts) ≡ ts
living-all [] = refl
living-all (t ∷ ts) = ap (λ (ts : List Ticket). t ∷ ts) (living-all ts)

-- one of them less, where one becomes dead
pub living-drop : (es : List (Option Ticket)) (i : ℕ) (t : Ticket) → get_or es i None ≡ Some t →
    length (living (set es i None)) + 1 ≡ length (living es)
living-drop [] i t is = absurd (cc)
living-drop (None ∷ es) zero t is = absurd (cc)
living-drop (Some u ∷ es) zero t is = omega arith
living-drop (None ∷ es) (suc i) t is = living-drop es i t is
living-drop (Some u ∷ es) (suc i) t is = let rest = living-drop es i t is in omega arith

-- so many turns
abbrev pub turns : ℕ → List (Option Ticket) → List (Option Ticket)
turns zero es = es
turns (suc n) es = turns n (turned es)

turns-beside : (es : List (Option Ticket)) (ts : List Ticket) →
    turns (length es) (es ++ map (λ (t : Ticket). Some t) ts) ≡ map (λ (t : Ticket). Some t) (ts ++ living es)
turns-beside [] ts = ap (map (λ (t : Ticket). Some t)) (sym (append-nil ts))
turns-beside (None ∷ es) ts = turns-beside es ts
turns-beside (Some t ∷ es) ts =
    ap (turns (length es)) (append_assoc es (map (λ (t : Ticket). Some t) ts) (Some t ∷ []) ∙ ap (λ (fs : List (Option Ticket)). es ++ fs) (more ts))
    ∙ turns-beside es (ts ++ t ∷ []) ∙ ap (map (λ (t : Ticket). Some t)) (append_assoc ts (t ∷ []) (living es)) where
      more : (ts : List Ticket) → map (λ (t : Ticket). Some t) ts ++ Some t ∷ [] ≡ map (λ (t : Ticket). Some t) (ts ++ t ∷ [])
      more [] = refl
      more (u ∷ ts) = ap (λ (fs : List (Option Ticket)). Some u ∷ fs) (more ts)

-- as many turns as there are entries leave those that live
pub turns-all : (es : List (Option Ticket)) → turns (length es) es ≡ map (λ (t : Ticket). Some t) (living es)
turns-all es = ap (turns (length es)) (sym (append-nil es)) ∙ turns-beside es []

-- a turn takes one entry out at most
pub length-turned : (es : List (Option Ticket)) → length es ≤ length (turned es) + 1
length-turned [] = omega arith
length-turned (None ∷ es) = omega arith
length-turned (Some t ∷ es) = let rest = more es in omega arith where
  more : (es : List (Option Ticket)) → length (es ++ Some t ∷ []) ≡ length es + 1
  more [] = refl
  more (e ∷ es) = let rest = more es in omega arith

-- how many tickets of an item live, where one does
count-some : (es : List (Option Ticket)) (i : ℕ) (t : Ticket) (item : ℕ) → get_or es i None ≡ Some t → is_of item t ≡ true →
    0 < count item (living es)
count-some [] i t item is its = absurd (cc)
count-some (None ∷ es) zero t item is its = absurd (cc)
count-some (Some u ∷ es) zero t item is its =
    let one : u ≡ t = (cc) in
    let here : weight 1 (is_of item u) ≡ 1 = ap (λ (t : Ticket). weight 1 (is_of item t)) one ∙ ap (weight 1) its in
    omega arith
count-some (None ∷ es) (suc i) t item is its = count-some es i t item is its
count-some (Some u ∷ es) (suc i) t item is its = let rest = count-some es i t item is its in omega arith

-- the line without an item's ticket, where its entry is dead
pub living-without : (es : List (Option Ticket)) (i : ℕ) (t : Ticket) (item : ℕ) → get_or es i None ≡ Some t →
    is_of item t ≡ true → count item (living es) ≤ 1 →
    (living (set es i None) ≡ without item (living es)) × (number_in item (living es) ≡ Some t.number)
living-without [] i t item is its once = absurd (cc)
living-without (None ∷ es) zero t item is its once = absurd (cc)
living-without (Some u ∷ es) zero t item is its once =
    let one : u ≡ t = (cc) in
    let here : is_of item u ≡ true = ap (is_of item) one ∙ its in (
      ap (λ b. cond b (living es) (u ∷ without item (living es))) (sym here),
      ap (λ b. option_map (λ (t : Ticket). t.number) (cond b (Some u) (find (is_of item) (living es)))) here
          ∙ ap (λ (t : Ticket). Some t.number) one,
    )
living-without (None ∷ es) (suc i) t item is its once = living-without es i t item is its once
living-without (Some u ∷ es) (suc i) t item is its once =
    at (is_of item u) refl (λ (few : count item (living es) ≤ 1). living-without es i t item is its few) where
      some : 0 < count item (living es)
      some = count-some es i t item is its

      at : (b : Bool) → is_of item u ≡ b →
          (count item (living es) ≤ 1 →
          (living (set es i None) ≡ without item (living es)) × (number_in item (living es) ≡ Some t.number)) →
          (u ∷ living (set es i None) ≡ cond b (living es) (u ∷ without item (living es)))
          × (option_map (λ (t : Ticket). t.number) (cond b (Some u) (find (is_of item) (living es))) ≡ Some t.number)
      at true here rest = absurd (let one : weight 1 (is_of item u) ≡ 1 = ap (weight 1) here in omega (arith, some))
      at false here rest =
          let none : weight 1 (is_of item u) ≡ 0 = ap (weight 1) here in
          let both = rest (omega arith) in
          (ap (λ (ts : List Ticket). u ∷ ts) both.0, both.1)

-- the first entry is taken out, and waits no longer
pub pop-leaves : (e : Option Ticket) (old mid new : List (Option Ticket)) → living mid ≡ living old → mid ≡ e ∷ new →
    is_some e ≡ true → (e ≡ first (living old)) × (living old ≡ option_to_list e ++ living new)
pop-leaves None old mid new same split some = absurd (cc)
pop-leaves (Some t) old mid new same split some =
    let all : living old ≡ t ∷ living new = sym same ∙ ap living split in
    (sym (ap first all), all)

-- or is dead
pub pop-skips : (e : Option Ticket) (mid new : List (Option Ticket)) → mid ≡ e ∷ new → is_some e ≡ false →
    (e ≡ None) × (living new ≡ living mid)
pop-skips None mid new split none = (refl, sym (ap living split))
pop-skips (Some t) mid new split none = absurd (cc)

-- no entries
pub none-living : (es : List (Option Ticket)) → length es ≡ 0 → living es ≡ []
none-living [] none = refl
none-living (e ∷ es) none = absurd (omega arith)

-- one more lives at the end
pub length-push : (es : List (Option Ticket)) (t : Ticket) → length (living (es ++ Some t ∷ [])) ≡ length (living es) + 1
length-push es t = ap length (living-append es (Some t ∷ [])) ∙ length_push (living es) t

-- how many entries are dead, where a dead one is taken out
pub count-pop_dead : (dead : ℕ) (e : Option Ticket) (es new : List (Option Ticket)) → es ≡ e ∷ new →
    dead + length (living es) ≡ length es → is_some e ≡ false → (0 < dead) × (dead - 1 + length (living new) ≡ length new)
count-pop_dead dead None es new split counted none =
    let live = ap (λ (es : List (Option Ticket)). length (living es)) split in
    let all = ap length split in
    let most = living-le new in
    (omega arith, omega arith)
count-pop_dead dead (Some t) es new split counted none = absurd (cc)

-- and where one more is dead
pub count-drop : (dead i : ℕ) (t : Ticket) (es : List (Option Ticket)) → dead + length (living es) ≡ length es →
    get_or es i None ≡ Some t → dead + 1 + length (living (set es i None)) ≡ length (set es i None)
count-drop dead i t es counted is =
    let less = living-drop es i t is in
    let all = length-set es i None in
    omega arith

-- one turn of those that are left
pub turns-next : (all n : ℕ) (es after ts : List (Option Ticket)) → n < all → after ≡ turned es → turns (all - n) es ≡ ts →
    turns (all - (n + 1)) after ≡ ts
turns-next all n es after ts more next so_far =
    let left : all - n ≡ suc (all - (n + 1)) = omega arith in
    ap (turns (all - (n + 1))) next ∙ sym (ap (λ (n : ℕ). turns n es) left) ∙ so_far
