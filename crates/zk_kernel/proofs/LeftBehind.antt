-- What was shown to a caller, and what the closed signals show.
use Rattle.std.proofs.Common.{◌≡◌, ◌⊎◌, inl, inr, ℕ, zero, suc, ◌^◌, ◌≤◌, Option, Some, None, List, [], ◌∷◌, get_or, All, Contains, refl, sym, ap, subst, ◌∙◌, arith}
use Rattle.std.specs.List.{slice_get}
use Rattle.std.specs.Option.{option_and_then}
use Rattle.std.proofs.lemmas.List.Elements.{All-nil, All-contains, Contains-get_or}
use Rattle.std.proofs.lemmas.List.Sorted.{Contains-permutation, IsPermutation-sym}
use Rattle.std.proofs.lemmas.Option.{same_Some, slice_get-get_or, slice_get_within, get_or_from_slice_get}
use Rattle.zk_base.specs.declared.ids.Who.{Who}
use Rattle.zk_base.specs.declared.seen.Seen.{Seen}
use Rattle.zk_poll.specs.Seen.{signal_history}
use Rattle.zk_services.specs.Objects.{histories_of}
use Rattle.zk_signal.specs.declared.pass.SigPass.{SigPass}
use Rattle.zk_signal.specs.declared.signal.SharedSignal.{SharedSignal}
use Rattle.zk_signal.specs.Passes.{pass_top}
use Rattle.zk_signal.proofs.Ordering.{counts-at, place-of}
use Rattle.zk_worker.specs.Families.{entry_at}
use Rattle.zk_worker.specs.Shown.{Shown, AllGrew}
use Rattle.zk_kernel.specs.declared.caller.Caller.{Caller}
use Rattle.zk_cells.specs.declared.notes.Note.{Note}
use Rattle.zk_cells.specs.declared.passes.Passes.{Passes}
use Rattle.zk_kernel.specs.Callers.{place_of, shown_to, shown_by}
use Rattle.zk_cells.specs.Closed.{ended, IsPlayed, ArePlayed}
use Rattle.zk_cells.specs.Desks.{IsServed, desk_shown}
use Rattle.zk_kernel.specs.Gathered.{noted_by, found_at, all_noted, all_found, AreInOrder}
use Rattle.zk_cells.specs.Kernels.{Shared}
use Rattle.zk_cells.specs.Lasting.{late, IsLookAt, Closes}
use Rattle.zk_cells.specs.Notes.{Write, nobody, unseen, stamp_of, writes_at, write_at}
use Rattle.zk_cells.specs.Signals.{signals_by, top_by, looks_by, looks_at_number, HaveOwn, IsOwnAt}
use Rattle.zk_kernel.proofs.Ended.{noted-from, noted-in, found-in, shown-pass, noted-there, passes-of, caller-at, note-by, one-caller}
use Rattle.zk_cells.proofs.Noted.{contains-at, note-of, write-of-note, own-or-unseen, stamp-write, write-own, at-stamp, at-place}
use Rattle.zk_cells.proofs.PlayedSignals.{Played}
use Rattle.zk_cells.proofs.Shares.{shown-there, shown-at, looks-there}

-- a signal that was played
pub played-there : (own : ℕ → List Write) (found : ℕ → List Seen) (ss : List (Option SharedSignal)) (xs : List (Option Played)) (object : ℕ) (s : SharedSignal) → ArePlayed own found ss xs → slice_get ss object ≡ Some (Some s) →
    (x : Played) × (slice_get (histories_of signal_history xs) object ≡ Some (signal_history x)) × IsPlayed (own object) (found object) x
played-there own found [] xs object s all is = absurd (cc)
played-there own found (t ∷ ss) [] object s all is = absurd all
played-there own found (None ∷ ss) (x ∷ xs) zero s all is = absurd (cc)
played-there own found (Some t ∷ ss) (None ∷ xs) zero s all is = absurd all.0
played-there own found (Some t ∷ ss) (Some x ∷ xs) zero s all is = (x, refl, all.0)
played-there own found (t ∷ ss) (x ∷ xs) (suc object) s all is = played-there (λ k. own (suc k)) (λ k. found (suc k)) ss xs object s all.1 is

-- where an entry is there is one
pub played-at : (own : ℕ → List Write) (found : ℕ → List Seen) (ss : List (Option SharedSignal)) (xs : List (Option Played)) (object place : ℕ) (e : Write) → ArePlayed own found ss xs →
    entry_at (histories_of signal_history xs) object place ≡ Some e → (x : Played) × (slice_get (signal_history x) place ≡ Some e) × IsPlayed (own object) (found object) x
played-at own found [] [] object place e all is = absurd (cc)
played-at own found [] (x ∷ xs) object place e all is = absurd all
played-at own found (s ∷ ss) [] object place e all is = absurd all
played-at own found (None ∷ ss) (None ∷ xs) zero place e all is = absurd (cc)
played-at own found (None ∷ ss) (Some x ∷ xs) zero place e all is = absurd all.0
played-at own found (Some s ∷ ss) (None ∷ xs) zero place e all is = absurd all.0
played-at own found (Some s ∷ ss) (Some x ∷ xs) zero place e all is = (x, is, all.0)
played-at own found (s ∷ ss) (x ∷ xs) (suc object) place e all is = played-at (λ k. own (suc k)) (λ k. found (suc k)) ss xs object place e all.1 is

-- each look found the value of its stamp
each-look : (h : List Write) (looks found : List Seen) → All (IsLookAt h) found → ((seen : Seen) → Contains looks seen → Contains found seen) → All (IsLookAt h) looks
each-look h looks found all among = λ i d within.
    All-contains (IsLookAt h) found (get_or looks i d) all (among (get_or looks i d) (Contains-get_or looks i d within))

looks-closed : (who : Who) (mine own : ℕ → List Write) (found : ℕ → List Seen) (ss : List (Option SharedSignal)) (ps : List (Option SigPass)) (xs : List (Option Played)) (object : ℕ) (p : Option SigPass) → HaveOwn who mine ss ps →
    ArePlayed own found ss xs → ((k : ℕ) (seen : Seen) → Contains (looks_at_number ps k) seen → Contains (found k) seen) → slice_get ps object ≡ Some p →
    (h : List Write) × (slice_get (histories_of signal_history xs) object ≡ Some h) × All (IsLookAt h) (looks_by p)
looks-closed who mine own found [] [] xs object p have all among is = absurd (cc)
looks-closed who mine own found [] (q ∷ ps) xs object p have all among is = absurd have
looks-closed who mine own found (s ∷ ss) [] xs object p have all among is = absurd have
looks-closed who mine own found (s ∷ ss) (q ∷ ps) [] object p have all among is = absurd all
looks-closed who mine own found (None ∷ ss) (None ∷ ps) (None ∷ xs) zero p have all among is =
    ([], refl, subst (λ (o : Option SigPass). All (IsLookAt []) (looks_by o)) (same_Some None p is) (All-nil (IsLookAt [])))
looks-closed who mine own found (None ∷ ss) (None ∷ ps) (Some x ∷ xs) zero p have all among is = absurd all.0
looks-closed who mine own found (None ∷ ss) (Some q ∷ ps) (x ∷ xs) zero p have all among is = absurd have.0
looks-closed who mine own found (Some s ∷ ss) (None ∷ ps) (x ∷ xs) zero p have all among is = absurd have.0
looks-closed who mine own found (Some s ∷ ss) (Some q ∷ ps) (None ∷ xs) zero p have all among is = absurd all.0
looks-closed who mine own found (Some s ∷ ss) (Some q ∷ ps) (Some x ∷ xs) zero p have all among is = (
  signal_history x,
  refl,
  subst (λ (o : Option SigPass). All (IsLookAt (signal_history x)) (looks_by o)) (same_Some (Some q) p is)
      (each-look (signal_history x) (looks_by (Some q)) (found 0) all.0.looks (among 0)),
)
looks-closed who mine own found (s ∷ ss) (q ∷ ps) (x ∷ xs) (suc object) p have all among is =
    looks-closed who (λ k. mine (suc k)) (λ k. own (suc k)) (λ k. found (suc k)) ss ps xs object p have.1 all.1 (λ k. among (suc k)) is

-- a caller's writes and looks at signals, and what the closed ones show
module _ (k : Shared) (callers : List Caller) (all : AreInOrder k callers) (xs : List (Option Played)) (played : ArePlayed (writes_at (all_noted callers)) (all_found callers) k.cells.signals.items xs)
    (q : ℕ) (c : Caller) (there : slice_get callers q ≡ Some c) (p : Passes) (passes : c.passes ≡ Some p) (served : IsServed k.cells p (place_of c).who) where
  abbrev number : ℕ
  number = (place_of c).who.number

  abbrev mine : ℕ → List Write
  mine = writes_at p.notes.items

  abbrev hs : List (List Write)
  hs = signals_by mine p.signals.items

  abbrev last : List (List Write)
  last = histories_of signal_history xs

  own-noted : (n : Note) → Contains p.notes.items n → Contains (all_noted callers) n
  own-noted n at = noted-in callers q c n there (subst (λ (o : Option Passes). Contains (noted_by o) n) (sym passes) at)

  -- its writes stay at their stamps
  stays : (object place : ℕ) (e : Write) → entry_at hs object place ≡ Some e → e.who.number ≡ number → entry_at last object place ≡ Some e
  stays object place e is player =
      let pass = shown-pass mine p.signals.items object place e is in
      let at = at-place (mine object) (top_by (Some pass.0)) place e pass.2 in
      by at.1 (own-or-unseen (mine object) (suc place))
    where
      by : write_at (mine object) (suc place) ≡ e → Contains (mine object) (write_at (mine object) (suc place)) ⊎ (write_at (mine object) (suc place) ≡ unseen (suc place)) → entry_at last object place ≡ Some e
      by same (inr nobody) =
          let never : number ≡ 2 ^ 32 = sym player ∙ ap (λ (w : Write). w.who.number) (sym same ∙ nobody) in
          let few = served.number in
          absurd (omega arith)
      by same (inl own) =
          let at : Contains (mine object) e = subst (Contains (mine object)) same own in
          let note = note-of p.notes.items object e at in
          let n : Note = note.0 in
          let sig = noted-there k.cells p (place_of c).who n served note.1 in
          let s-at : slice_get k.cells.signals.items object ≡ Some (Some sig.1) = subst (λ (j : ℕ). slice_get k.cells.signals.items j ≡ Some (Some sig.1)) note.2 sig.3 in
          let x = played-there (writes_at (all_noted callers)) (all_found callers) k.cells.signals.items xs object sig.1 played s-at in
          let h = signal_history x.0 in
          let among : Contains (writes_at (all_noted callers) object) e =
          subst (λ (w : Write). Contains (writes_at (all_noted callers) object) w) note.3
          (subst (λ (j : ℕ). Contains (writes_at (all_noted callers) j) n.entry) note.2 (write-of-note (all_noted callers) n (own-noted n note.1))) in
          let spot = place-of stamp_of h e x.2.order (Contains-permutation (writes_at (all_noted callers) object) h e x.2.whole among) in
          let stamp : stamp_of e ≡ suc place = ap stamp_of (sym same) ∙ stamp-write (mine object) (suc place) in
          let index = spot.2 in
          let here : spot.0 ≡ place = omega arith in
          ap (λ (o : Option (List Write)). option_and_then (λ l. slice_get l place) o) x.1
          ∙ ap (slice_get h) (sym here)
          ∙ slice_get-get_or h spot.0 e spot.1
          ∙ ap (λ (w : Write). Some w) spot.3

  -- and no other of its player came
  back : (object place : ℕ) (e : Write) → entry_at last object place ≡ Some e → e.who.number ≡ number → entry_at hs object place ≡ Some e
  back object place e is player =
      let x = played-at (writes_at (all_noted callers)) (all_found callers) k.cells.signals.items xs object place e played is in
      let h = signal_history x.0 in
      let among : Contains (writes_at (all_noted callers) object) e =
      Contains-permutation h (writes_at (all_noted callers) object) e (IsPermutation-sym (writes_at (all_noted callers) object) h x.2.whole) (contains-at h place e x.1) in
      let note = note-of (all_noted callers) object e among in
      let n : Note = note.0 in
      let from = noted-from callers n note.1 in
      let other = caller-at k callers from.0 from.1 all from.2 in
      let numbers : (place_of from.1).who.number ≡ number =
      ap (λ (w : Who). w.number) (sym (note-by k from.1 n other from.3)) ∙ ap (λ (w : Write). w.who.number) note.3 ∙ player in
      let one : from.1 ≡ c = one-caller k callers from.0 q from.1 c all from.2 there numbers in
      let own : Contains p.notes.items n =
      subst (λ (o : Option Passes). Contains (noted_by o) n) passes (subst (λ (y : Caller). Contains (noted_by y.passes) n) one from.3) in
      let sig = noted-there k.cells p (place_of c).who n served own in
      let pass-at : slice_get p.signals.items object ≡ Some (Some sig.0) = subst (λ (j : ℕ). slice_get p.signals.items j ≡ Some (Some sig.0)) note.2 sig.2 in
      let own-at : IsOwnAt sig.1 (place_of c).who (mine object) sig.0 = subst (λ (j : ℕ). IsOwnAt sig.1 (place_of c).who (mine j) sig.0) note.2 sig.4 in
      let at : Contains (mine object) e =
      subst (λ (w : Write). Contains (mine object) w) note.3 (subst (λ (j : ℕ). Contains (mine j) n.entry) note.2 (write-of-note p.notes.items n own)) in
      let B : Write → Type 0 = λ w. stamp_of w ≤ pass_top sig.0 in
      let below = All-contains B (mine object) e own-at.below at in
      let within = slice_get_within h place e x.1 in
      let stamp : stamp_of e ≡ suc place =
      ap stamp_of (sym (get_or_from_slice_get h place e e x.1)) ∙ counts-at stamp_of h 0 place e x.2.order within ∙ omega arith in
      ap (λ (o : Option (List Write)). option_and_then (λ l. slice_get l place) o) (shown-there mine p.signals.items object (Some sig.0) pass-at)
      ∙ at-stamp (mine object) (pass_top sig.0) place (omega (arith, stamp, below))
      ∙ ap (λ (j : ℕ). Some (write_at (mine object) j)) (sym stamp)
      ∙ ap (λ (w : Write). Some w) (write-own (mine object) e own-at.rise at)

  -- what it found are values of their stamps
  found : (object : ℕ) (h : List Write) → slice_get hs object ≡ Some h → (g : List Write) × (o : Option SigPass) × (slice_get p.signals.items object ≡ Some o) × (slice_get last object ≡ Some g) × All (IsLookAt g) (looks_by o)
  found object h is =
      let at = shown-at mine p.signals.items object h is in
      let closed = looks-closed (place_of c).who mine (writes_at (all_noted callers)) (all_found callers) k.cells.signals.items p.signals.items xs object at.0 served.signals played among at.1 in
      (closed.0, at.0, at.1, closed.1, closed.2)
    where
      among : (j : ℕ) (seen : Seen) → Contains (looks_at_number p.signals.items j) seen → Contains (all_found callers j) seen
      among j seen at = found-in callers q c j seen there (subst (λ (o : Option Passes). Contains (found_at o j) seen) (sym passes) at)

  pub closes-served : (seen : Shown) → AllGrew number (desk_shown p) (late (desk_shown p) seen) → Closes number (desk_shown p) (ended seen last)
  closes-served seen grew = record {
    others = grew;
    stays = stays;
    back = back;
    looks = λ object h is.
        let f = found object h is in
        record { shown = looks_by f.1; history = f.0; looked = looks-there p.signals.items object f.1 f.2; there = f.3; each = f.4 };
    whole = refl;
    unlooked = refl;
  }

-- each caller's, by its number
pub closes-caller : (k : Shared) (callers : List Caller) (xs : List (Option Played)) (seen : Shown) (q : ℕ) (c : Caller) → AreInOrder k callers →
    ArePlayed (writes_at (all_noted callers)) (all_found callers) k.cells.signals.items xs → slice_get callers q ≡ Some c →
    AllGrew (place_of c).who.number (shown_to c) (late (shown_to c) seen) → Closes (place_of c).who.number (shown_to c) (ended seen (histories_of signal_history xs))
closes-caller k callers xs seen q c all played there grew =
    let own = passes-of k c (caller-at k callers q c all there) in
    let n = (place_of c).who.number in
    subst (λ (o : Option Passes). Closes n (shown_by o) (ended seen (histories_of signal_history xs))) (sym own.1)
    (closes-served k callers all xs played q c there own.0 own.1 own.2 seen
    (subst (λ (o : Option Passes). AllGrew n (shown_by o) (late (shown_by o) seen)) own.1 grew))
