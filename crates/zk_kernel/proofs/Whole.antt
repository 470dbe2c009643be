-- All callers of a kernel, as some of them go on.
use Rattle.std.proofs.Common.{◌≡◌, ◌<◌, ℕ, suc, Bool, true, false, cond, eqb, Some, List, [], ◌∷◌, length, map, set, get_or, refl, sym, ap, subst, ◌∙◌, arith}
use Rattle.std.specs.List.{slice_get}
use Rattle.std.proofs.lemmas.Bool.{eqb-true}
use Rattle.std.proofs.lemmas.List.{length-set}
use Rattle.std.proofs.lemmas.Option.{slice_get_within, slice_get-get_or, slice_get_read, get_or_from_slice_get, same_Some}
use Rattle.zk_base.specs.declared.ids.Who.{Who}
use Rattle.zk_line.proofs.Lists.{slice_get-set}
use Rattle.zk_kernel.specs.declared.caller.Caller.{Caller}
use Rattle.zk_pool.specs.Counts.{tally}
use Rattle.zk_kernel.specs.Callers.{IsCaller, number_of, place_of}
use Rattle.zk_cells.specs.Kernels.{Shared}
use Rattle.zk_kernel.specs.Rests.{AreAllCallers, numbers_from}

-- a caller is of the player that this one was of
pub record IsAfter (k : Shared) (old : List Caller) (place : ℕ) (c : Caller) : Type 0 where
  pub own : IsCaller k c
  pub before : Caller
  pub stood : slice_get old place ≡ Some before
  pub same : (place_of c).who ≡ (place_of before).who

-- their numbers are what they were
numbers-still : (k : Shared) (old new : List Caller) → length new ≡ length old → ((p : ℕ) (c : Caller) → slice_get new p ≡ Some c → IsAfter k old p c) → map number_of new ≡ map number_of old
numbers-still k [] [] long after = refl
numbers-still k [] (d ∷ new) long after = absurd (omega arith)
numbers-still k (c ∷ old) [] long after = absurd (omega arith)
numbers-still k (c ∷ old) (d ∷ new) long after =
    let first = after 0 d refl in
    let one : c ≡ first.before = same_Some c first.before first.stood in
    let same : number_of d ≡ number_of c = ap (λ (w : Who). w.number) first.same ∙ ap number_of (sym one) in
    let rest = numbers-still k old new (omega arith) (λ p x there. let was = after (suc p) x there in
    record { own = was.own; before = was.before; stood = was.stood; same = was.same }) in
    ap (λ (n : ℕ). n ∷ map number_of new) same ∙ ap (λ (ns : List ℕ). number_of c ∷ ns) rest

-- they are all callers still, if each is of the player that stood in its place
pub all-still : (k : Shared) (old new : List Caller) → length new ≡ length old → ((p : ℕ) (c : Caller) → slice_get new p ≡ Some c → IsAfter k old p c) → AreAllCallers k old → AreAllCallers k new
all-still k old new long after all = record {
  own = λ p d inside. (after p (get_or new p d) (slice_get-get_or new p d inside)).own;
  all = long ∙ all.all;
  once = λ n.
      ap (tally n) (numbers-still k old new long after) ∙ all.once n ∙ ap (λ (m : ℕ). tally n (numbers_from 0 m)) (sym long);
}

-- one went on
pub one-on : (k : Shared) (old : List Caller) (place : ℕ) (c : Caller) → place < length old → IsCaller k c → (place_of c).who ≡ (place_of (get_or old place c)).who → AreAllCallers k old → AreAllCallers k (set old place c)
one-on k old place c inside own same all = all-still k old (set old place c) (length-set old place c) after all where
  after : (p : ℕ) (x : Caller) → slice_get (set old place c) p ≡ Some x → IsAfter k old p x
  after p x there = by (eqb place p) refl (sym (slice_get-set old place c p inside) ∙ there) where
    by : (b : Bool) → eqb place p ≡ b → cond b (Some c) (slice_get old p) ≡ Some x → IsAfter k old p x
    by true is here =
        let one : c ≡ x = same_Some c x here in
        let at : place ≡ p = eqb-true place p is in
        record {
          own = subst (IsCaller k) one own;
          before = get_or old place c;
          stood = subst (λ (n : ℕ). slice_get old n ≡ Some (get_or old place c)) at (slice_get-get_or old place c inside);
          same = subst (λ (y : Caller). (place_of y).who ≡ (place_of (get_or old place c)).who) one same;
        }
    by false is here = record {
      own = subst (IsCaller k) (get_or_from_slice_get old p x x here) (all.own p x (slice_get_within old p x here));
      before = x;
      stood = here;
      same = refl;
    }

-- the caller of this number went on
pub gone-on : (k : Shared) (old : List Caller) (place len : ℕ) (was c : Caller) → len ≡ length old → place < len → was ≡ get_or old place was → IsCaller k c → (place_of c).who ≡ (place_of was).who → AreAllCallers k old →
    AreAllCallers k (set old place c)
gone-on k old place len was c long within value own who all =
    let inside : place < length old = omega (arith, long, within) in
    let stood = get_or_from_slice_get old place was c (slice_get_read old (length old) place was refl inside value) in
    one-on k old place c inside own (who ∙ ap (λ (x : Caller). (place_of x).who) (sym stood)) all
