-- What all callers have noted: each note is its caller's, and those of one player at one signal are in step.
use Rattle.std.proofs.Common.{◌≡◌, ◌⊎◌, inl, inr, ℕ, zero, suc, ◌-◌, ◌<◌, Bool, true, false, cond, eqb, Option, Some, None, List, [], ◌∷◌, map, Contains, refl, sym, ap, subst, ◌∙◌, arith}
use Rattle.std.specs.List.{slice_get}
use Rattle.std.specs.Option.{option_and_then}
use Rattle.std.proofs.lemmas.Bool.{eq-eqb}
use Rattle.std.proofs.lemmas.List.Elements.{All-contains, Contains-append_left, Contains-append_right, Contains-append_cases}
use Rattle.std.proofs.lemmas.Option.{same_Some, slice_get_within, get_or_from_slice_get}
use Rattle.zk_base.specs.declared.ids.Who.{Who}
use Rattle.zk_base.specs.declared.seen.Seen.{Seen}
use Rattle.zk_signal.specs.Counts.{Rises}
use Rattle.zk_signal.specs.declared.pass.SigPass.{SigPass}
use Rattle.zk_signal.specs.declared.signal.SharedSignal.{SharedSignal}
use Rattle.zk_worker.specs.Families.{entry_at}
use Rattle.zk_kernel.specs.declared.caller.Caller.{Caller}
use Rattle.zk_cells.specs.declared.cells.Cells.{Cells}
use Rattle.zk_cells.specs.declared.notes.Note.{Note}
use Rattle.zk_cells.specs.declared.passes.Passes.{Passes}
use Rattle.zk_kernel.specs.Callers.{IsAtDesk, IsCaller, place_of}
use Rattle.zk_cells.specs.Closed.{AreInStep}
use Rattle.zk_cells.specs.Desks.{IsServed}
use Rattle.zk_kernel.specs.Gathered.{noted_by, found_at, all_noted, all_found, AreInOrder}
use Rattle.zk_cells.specs.Kernels.{Shared}
use Rattle.zk_cells.specs.Notes.{Write, stamp_of, stamp_noted, step_noted, entries_of, notes_at, writes_at, writes_to}
use Rattle.zk_cells.specs.Signals.{signals_by, top_by, IsOwnAt, HaveOwn, IsShownIn}
use Rattle.zk_cells.proofs.Noted.{contains-none, contains-cases, contains-map, write-of-note}
use Rattle.zk_cells.proofs.Shares.{shown-at}

-- a note is some caller's
pub noted-from : (callers : List Caller) (n : Note) → Contains (all_noted callers) n → (q : ℕ) × (c : Caller) × (slice_get callers q ≡ Some c) × Contains (noted_by c.passes) n
noted-from [] n there = absurd (contains-none n there)
noted-from (c ∷ callers) n there = by (Contains-append_cases (noted_by c.passes) (all_noted callers) n there) (λ more. noted-from callers n more)
  where
    by : Contains (noted_by c.passes) n ⊎ Contains (all_noted callers) n → (Contains (all_noted callers) n → (q : ℕ) × (d : Caller) × (slice_get callers q ≡ Some d) × Contains (noted_by d.passes) n) →
        (q : ℕ) × (d : Caller) × (slice_get (c ∷ callers) q ≡ Some d) × Contains (noted_by d.passes) n
    by (inl here) later = (0, c, refl, here)
    by (inr more) later = let rest = later more in (suc rest.0, rest.1, rest.2, rest.3)

-- a caller's notes are among all, and so are its looks
pub noted-in : (callers : List Caller) (q : ℕ) (c : Caller) (n : Note) → slice_get callers q ≡ Some c → Contains (noted_by c.passes) n → Contains (all_noted callers) n
noted-in [] q c n is there = absurd (cc)
noted-in (d ∷ callers) zero c n is there =
    Contains-append_left (noted_by d.passes) (all_noted callers) n (subst (λ (x : Caller). Contains (noted_by x.passes) n) (sym (same_Some d c is)) there)
noted-in (d ∷ callers) (suc q) c n is there = Contains-append_right (noted_by d.passes) (all_noted callers) n (noted-in callers q c n is there)

pub found-in : (callers : List Caller) (q : ℕ) (c : Caller) (object : ℕ) (seen : Seen) → slice_get callers q ≡ Some c → Contains (found_at c.passes object) seen → Contains (all_found callers object) seen
found-in [] q c object seen is there = absurd (cc)
found-in (d ∷ callers) zero c object seen is there =
    Contains-append_left (found_at d.passes object) (all_found callers object) seen (subst (λ (x : Caller). Contains (found_at x.passes object) seen) (sym (same_Some d c is)) there)
found-in (d ∷ callers) (suc q) c object seen is there = Contains-append_right (found_at d.passes object) (all_found callers object) seen (found-in callers q c object seen is there)

-- a pass that is there is one of a signal
pub own-back : (who : Who) (own : ℕ → List Write) (signals : List (Option SharedSignal)) (passes : List (Option SigPass)) (object : ℕ) (p : SigPass) → HaveOwn who own signals passes → slice_get passes object ≡ Some (Some p) →
    (s : SharedSignal) × (slice_get signals object ≡ Some (Some s)) × IsOwnAt s who (own object) p
own-back who own [] [] object p have is = absurd (cc)
own-back who own [] (q ∷ passes) object p have is = absurd have
own-back who own (s ∷ signals) [] object p have is = absurd have
own-back who own (None ∷ signals) (None ∷ passes) zero p have is = absurd (cc)
own-back who own (None ∷ signals) (Some q ∷ passes) zero p have is = absurd have.0
own-back who own (Some s ∷ signals) (None ∷ passes) zero p have is = absurd have.0
own-back who own (Some s ∷ signals) (Some q ∷ passes) zero p have is =
    (s, refl, subst (λ (x : SigPass). IsOwnAt s who (own 0) x) (same_Some q p (same_Some (Some q) (Some p) is)) have.0)
own-back who own (s ∷ signals) (q ∷ passes) (suc object) p have is = own-back who (λ k. own (suc k)) signals passes object p have.1 is

-- where an entry is shown there is a pass
pub shown-pass : (own : ℕ → List Write) (passes : List (Option SigPass)) (object place : ℕ) (e : Write) → entry_at (signals_by own passes) object place ≡ Some e →
    (p : SigPass) × (slice_get passes object ≡ Some (Some p)) × (slice_get (writes_to (own object) (top_by (Some p))) place ≡ Some e)
shown-pass own passes object place e is = from (slice_get (signals_by own passes) object) refl is
  where
    of : (o : Option SigPass) → slice_get passes object ≡ Some o → slice_get (writes_to (own object) (top_by o)) place ≡ Some e →
        (p : SigPass) × (slice_get passes object ≡ Some (Some p)) × (slice_get (writes_to (own object) (top_by (Some p))) place ≡ Some e)
    of None there is = absurd (cc)
    of (Some p) there is = (p, there, is)

    from : (h : Option (List Write)) → slice_get (signals_by own passes) object ≡ h → option_and_then (λ l. slice_get l place) h ≡ Some e →
        (p : SigPass) × (slice_get passes object ≡ Some (Some p)) × (slice_get (writes_to (own object) (top_by (Some p))) place ≡ Some e)
    from None there is = absurd (cc)
    from (Some h) there is =
        let at = shown-at own passes object h there in
        of at.0 at.1 (ap (λ (l : List Write). slice_get l place) (sym at.2) ∙ is)

-- so there is one where a caller has noted something
pub noted-there : (c : Cells) (p : Passes) (who : Who) (n : Note) → IsServed c p who → Contains p.notes.items n →
    (q : SigPass) × (s : SharedSignal) × (slice_get p.signals.items n.signal ≡ Some (Some q)) × (slice_get c.signals.items n.signal ≡ Some (Some s)) × IsOwnAt s who (writes_at p.notes.items n.signal) q
noted-there c p who n served there =
    let hs = signals_by (writes_at p.notes.items) p.signals.items in
    let is = All-contains (IsShownIn hs) p.notes.items n served.noted.shown there in
    let pass = shown-pass (writes_at p.notes.items) p.signals.items n.signal (stamp_of n.entry - 1) n.entry is in
    let own = own-back who (writes_at p.notes.items) c.signals.items p.signals.items n.signal pass.0 served.signals pass.1 in
    (pass.0, own.0, pass.1, own.1, own.2)

-- of a caller's notes at one signal the one of the lower stamp was made first
writes-tail : (x : Note) (ns : List Note) (object : ℕ) → Rises (map stamp_of (writes_at (x ∷ ns) object)) → Rises (map stamp_of (writes_at ns object))
writes-tail x ns object rise = by (eqb x.signal object) rise
  where
    by : (b : Bool) → Rises (map stamp_of (entries_of (cond b (x ∷ notes_at ns object) (notes_at ns object)))) → Rises (map stamp_of (writes_at ns object))
    by true rise = rise.1
    by false rise = rise

first-below : (x : Note) (ns : List Note) (m : Note) → Rises (map stamp_of (writes_at (x ∷ ns) x.signal)) → Contains ns m → m.signal ≡ x.signal → stamp_noted x < stamp_noted m
first-below x ns m rise there same =
    let R : Bool → Type 0 = λ b. Rises (map stamp_of (entries_of (cond b (x ∷ notes_at ns x.signal) (notes_at ns x.signal)))) in
    let first = (subst R (eq-eqb x.signal x.signal refl) rise).0 in
    let P : ℕ → Type 0 = λ k. stamp_noted x < k in
    let at : Contains (writes_at ns x.signal) m.entry = subst (λ (k : ℕ). Contains (writes_at ns k) m.entry) same (write-of-note ns m there) in
    All-contains P (map stamp_of (writes_at ns x.signal)) (stamp_noted m) first (contains-map stamp_of (writes_at ns x.signal) m.entry at)

own-step : (ns : List Note) (n m : Note) → Rises (map step_noted ns) → Rises (map stamp_of (writes_at ns n.signal)) → Contains ns n → Contains ns m → n.signal ≡ m.signal → stamp_noted n < stamp_noted m →
    step_noted n < step_noted m
own-step [] n m steps stamps at bt same lower = absurd (contains-none n at)
own-step (x ∷ ns) n m steps stamps at bt same lower =
    by (contains-cases x ns n at) (contains-cases x ns m bt) (λ a b. own-step ns n m steps.1 (writes-tail x ns n.signal stamps) a b same lower)
  where
    by : (x ≡ n) ⊎ Contains ns n → (x ≡ m) ⊎ Contains ns m → (Contains ns n → Contains ns m → step_noted n < step_noted m) → step_noted n < step_noted m
    by (inl is) (inl at) later =
        let low : stamp_noted x < stamp_noted x = subst (λ (y : Note). stamp_noted y < stamp_noted x) (sym is) (subst (λ (y : Note). stamp_noted n < stamp_noted y) (sym at) lower) in
        absurd (omega arith)
    by (inl is) (inr more) later =
        let P : ℕ → Type 0 = λ k. step_noted x < k in
        subst (λ (y : Note). step_noted y < step_noted m) is (All-contains P (map step_noted ns) (step_noted m) steps.0 (contains-map step_noted ns m more))
    by (inr more) (inl is) later =
        let at_one : n.signal ≡ x.signal = same ∙ ap (λ (y : Note). y.signal) (sym is) in
        let above = first-below x ns n (subst (λ (k : ℕ). Rises (map stamp_of (writes_at (x ∷ ns) k))) at_one stamps) more at_one in
        let low : stamp_noted n < stamp_noted x = subst (λ (y : Note). stamp_noted n < stamp_noted y) (sym is) lower in
        absurd (omega arith)
    by (inr a) (inr b) later = later a b

pub caller-step : (c : Cells) (p : Passes) (who : Who) (n m : Note) → IsServed c p who → Contains p.notes.items n → Contains p.notes.items m → n.signal ≡ m.signal → stamp_noted n < stamp_noted m → step_noted n < step_noted m
caller-step c p who n m served at bt same lower =
    own-step p.notes.items n m served.noted.rise (noted-there c p who n served at).4.rise at bt same lower

-- the passes of a caller
pub passes-of : (k : Shared) (c : Caller) → IsCaller k c → (p : Passes) × (c.passes ≡ Some p) × IsServed k.cells p (place_of c).who
passes-of k c is = from c.passes refl is.1
  where
    from : (o : Option Passes) → c.passes ≡ o → IsAtDesk k.cells k.scenario c.player o → (p : Passes) × (c.passes ≡ Some p) × IsServed k.cells p (place_of c).who
    from None at is = absurd is
    from (Some p) at is = (p, at, is.served)

pub caller-at : (k : Shared) (callers : List Caller) (q : ℕ) (c : Caller) → AreInOrder k callers → slice_get callers q ≡ Some c → IsCaller k c
caller-at k callers q c all is =
    subst (IsCaller k) (get_or_from_slice_get callers q c c is) (all.own q c (slice_get_within callers q c is))

-- whose note it is
pub note-by : (k : Shared) (c : Caller) (n : Note) → IsCaller k c → Contains (noted_by c.passes) n → n.entry.who ≡ (place_of c).who
note-by k c n is there =
    let own = passes-of k c is in
    let W : Note → Type 0 = λ n. n.entry.who ≡ (place_of c).who in
    All-contains W own.0.notes.items n own.2.noted.own (subst (λ (o : Option Passes). Contains (noted_by o) n) own.1 there)

-- one caller has this number
pub one-caller : (k : Shared) (callers : List Caller) (q r : ℕ) (c d : Caller) → AreInOrder k callers → slice_get callers q ≡ Some c → slice_get callers r ≡ Some d → (place_of c).who.number ≡ (place_of d).who.number → c ≡ d
one-caller k callers q r c d all is at same =
    let place : q ≡ r = sym (all.numbers q c is) ∙ same ∙ all.numbers r d at in
    same_Some c d (sym is ∙ ap (slice_get callers) place ∙ at)

-- all notes are in step
pub all-in-step : (k : Shared) (callers : List Caller) → AreInOrder k callers → AreInStep (all_noted callers)
all-in-step k callers all n m at bt same player lower =
    let a = noted-from callers n at in
    let b = noted-from callers m bt in
    let first = caller-at k callers a.0 a.1 all a.2 in
    let second = caller-at k callers b.0 b.1 all b.2 in
    let numbers : (place_of a.1).who.number ≡ (place_of b.1).who.number =
    ap (λ (w : Who). w.number) (sym (note-by k a.1 n first a.3)) ∙ player ∙ ap (λ (w : Who). w.number) (note-by k b.1 m second b.3) in
    let one : a.1 ≡ b.1 = one-caller k callers a.0 b.0 a.1 b.1 all a.2 b.2 numbers in
    let own = passes-of k a.1 first in
    caller-step k.cells own.0 (place_of a.1).who n m own.2 (subst (λ (o : Option Passes). Contains (noted_by o) n) own.1 a.3)
    (subst (λ (o : Option Passes). Contains (noted_by o) m) own.1 (subst (λ (x : Caller). Contains (noted_by x.passes) m) (sym one) b.3)) same lower
