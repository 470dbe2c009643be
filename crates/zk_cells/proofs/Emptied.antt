-- What came out of the signals of a kernel.
use Rattle.std.proofs.Common.{◌≡◌, ℕ, suc, ◌*◌, ◌≤◌, Option, Some, None, List, [], ◌∷◌, length, map, get_or, true, eqb, All, refl, sym, ap, subst, ◌∙◌, arith}
use Rattle.std.proofs.lemmas.List.{length-map}
use Rattle.std.proofs.lemmas.List.Elements.{All-nil, All-cons, All-map, All-filter, All-contains, Contains-get_or}
use Rattle.std.proofs.lemmas.List.Sorted.{All-permutation, length_permutation}
use Rattle.zk_base.specs.declared.ids.Who.{Who}
use Rattle.zk_base.specs.declared.seen.Seen.{Seen}
use Rattle.zk_poll.specs.Seen.{signal_start, signal_history, left_by}
use Rattle.zk_services.specs.Objects.{starts_of, histories_of}
use Rattle.zk_signal.specs.declared.pass.SigPass.{SigPass}
use Rattle.zk_signal.specs.declared.signal.SharedSignal.{SharedSignal}
use Rattle.zk_signal.specs.Limits.{most_writes}
use Rattle.zk_signal.specs.Words.{seen_in}
use Rattle.zk_turn.specs.Players.{is_by, room_of_a_pass}
use Rattle.zk_world.specs.Legal.{EachLegal}
use Rattle.zk_cells.specs.declared.cells.Cells.{Cells}
use Rattle.zk_cells.specs.declared.notes.Note.{Note}
use Rattle.zk_cells.specs.declared.passes.Passes.{Passes}
use Rattle.zk_cells.specs.Closed.{AreBy, ArePlayed}
use Rattle.zk_cells.specs.Joined.{AreFor, HaveShared, numbers_of, left_at}
use Rattle.zk_cells.specs.Kernels.{IsSharedBy, AreWhole}
use Rattle.zk_cells.specs.Notes.{Write, entries_of, notes_at, writes_at}
use Rattle.zk_cells.specs.Signals.{signal_family}
use Rattle.zk_cells.proofs.Noted.{contains-map}
use Rattle.zk_cells.proofs.PlayedSignals.{Played}

-- each starts before its first write
pub starts-played : (own : ℕ → List Write) (found : ℕ → List Seen) (ss : List (Option SharedSignal)) (xs : List (Option Played)) → ArePlayed own found ss xs → starts_of signal_start xs ≡ (signal_family ss).starts
starts-played own found [] [] all = refl
starts-played own found [] (x ∷ xs) all = absurd all
starts-played own found (s ∷ ss) [] all = absurd all
starts-played own found (None ∷ ss) (None ∷ xs) all = λ i. None ∷ starts-played (λ k. own (suc k)) (λ k. found (suc k)) ss xs all.1 i
starts-played own found (None ∷ ss) (Some x ∷ xs) all = absurd all.0
starts-played own found (Some s ∷ ss) (None ∷ xs) all = absurd all.0
starts-played own found (Some s ∷ ss) (Some x ∷ xs) all = λ i. Some (all.0.start i) ∷ starts-played (λ k. own (suc k)) (λ k. found (suc k)) ss xs all.1 i

-- each history is one that the machine lets stand
pub legal-played : (own : ℕ → List Write) (found : ℕ → List Seen) (ss : List (Option SharedSignal)) (xs : List (Option Played)) → ArePlayed own found ss xs → EachLegal (signal_family ss) (histories_of signal_history xs)
legal-played own found [] [] all = tt
legal-played own found [] (x ∷ xs) all = absurd all
legal-played own found (s ∷ ss) [] all = absurd all
legal-played own found (None ∷ ss) (None ∷ xs) all = (refl, legal-played (λ k. own (suc k)) (λ k. found (suc k)) ss xs all.1)
legal-played own found (None ∷ ss) (Some x ∷ xs) all = absurd all.0
legal-played own found (Some s ∷ ss) (None ∷ xs) all = absurd all.0
legal-played own found (Some s ∷ ss) (Some x ∷ xs) all = (all.0.legal, legal-played (λ k. own (suc k)) (λ k. found (suc k)) ss xs all.1)

-- and no longer than what the players may write
pub within-played : (own : ℕ → List Write) (found : ℕ → List Seen) (ns : List ℕ) (ss : List (Option SharedSignal)) (ps : List (Option SigPass)) (xs : List (Option Played)) → ArePlayed own found ss xs →
    HaveShared ns (λ k. map left_by (own k)) found ss ps → All (λ h. length h ≤ most_writes * length ns) (histories_of signal_history xs)
within-played own found ns [] [] [] all a = let P : List Write → Type 0 = λ h. length h ≤ most_writes * length ns in All-nil P
within-played own found ns [] ps (x ∷ xs) all a = absurd all
within-played own found ns [] (p ∷ ps) [] all a = absurd a
within-played own found ns (s ∷ ss) ps [] all a = absurd all
within-played own found ns (s ∷ ss) [] (x ∷ xs) all a = absurd a
within-played own found ns (None ∷ ss) (p ∷ ps) (None ∷ xs) all a =
    let P : List Write → Type 0 = λ h. length h ≤ most_writes * length ns in
    All-cons P [] (histories_of signal_history xs) (omega arith) (within-played (λ k. own (suc k)) (λ k. found (suc k)) ns ss ps xs all.1 a.1)
within-played own found ns (None ∷ ss) (p ∷ ps) (Some x ∷ xs) all a = absurd all.0
within-played own found ns (Some s ∷ ss) (p ∷ ps) (None ∷ xs) all a = absurd all.0
within-played own found ns (Some s ∷ ss) (None ∷ ps) (Some x ∷ xs) all a = absurd a.0
within-played own found ns (Some s ∷ ss) (Some p ∷ ps) (Some x ∷ xs) all a =
    let P : List Write → Type 0 = λ h. length h ≤ most_writes * length ns in
    let room = a.0.of_signal.room in
    let players = ap length a.0.players in
    let made : length p.seat.me.0.writes ≡ length (own 0) =
    sym (length-map p.seat.me.0.writes seen_in) ∙ ap length a.0.writes ∙ length-map (own 0) left_by in
    let same = length_permutation (own 0) (signal_history x) all.0.whole in
    let times : most_writes * length p.seat.me.0.players ≡ most_writes * length ns = ap (λ (n : ℕ). most_writes * n) players in
    All-cons P (signal_history x) (histories_of signal_history xs) (omega (arith, room, times, made, same))
    (within-played (λ k. own (suc k)) (λ k. found (suc k)) ns ss ps xs all.1 a.1)

-- all writes are of these players
pub by-played : (own : ℕ → List Write) (found : ℕ → List Seen) (ws : List Who) (ss : List (Option SharedSignal)) (xs : List (Option Played)) → ArePlayed own found ss xs → ((k : ℕ) → AreBy ws (own k)) → All (AreBy ws) (histories_of signal_history xs)
by-played own found ws [] [] all by = let P : List Write → Type 0 = AreBy ws in All-nil P
by-played own found ws [] (x ∷ xs) all by = absurd all
by-played own found ws (s ∷ ss) [] all by = absurd all
by-played own found ws (None ∷ ss) (None ∷ xs) all by =
    let P : List Write → Type 0 = AreBy ws in
    let Q : Write → Type 0 = λ e. is_by ws e ≡ true in
    All-cons P [] (histories_of signal_history xs) (All-nil Q) (by-played (λ k. own (suc k)) (λ k. found (suc k)) ws ss xs all.1 (λ k. by (suc k)))
by-played own found ws (None ∷ ss) (Some x ∷ xs) all by = absurd all.0
by-played own found ws (Some s ∷ ss) (None ∷ xs) all by = absurd all.0
by-played own found ws (Some s ∷ ss) (Some x ∷ xs) all by =
    let P : List Write → Type 0 = AreBy ws in
    let Q : Write → Type 0 = λ e. is_by ws e ≡ true in
    All-cons P (signal_history x) (histories_of signal_history xs) (All-permutation Q (own 0) (signal_history x) all.0.whole (by 0))
    (by-played (λ k. own (suc k)) (λ k. found (suc k)) ws ss xs all.1 (λ k. by (suc k)))

module _ (k : Cells) (p : Passes) where
  -- the passes are all players'
  abbrev Stands : Type 0
  Stands = (ws : List Who) × (found : ℕ → List Seen) × AreFor k ws p × HaveShared (numbers_of ws) (left_at p.notes.items) found k.signals.items p.signals.items × AreWhole k (length ws) × (length ws ≤ 256)

  -- the signals were played, whatever the passes stand for
  abbrev Plays : List (Option Played) → Type 0
  Plays xs = (ns : List ℕ) (found : ℕ → List Seen) → HaveShared ns (left_at p.notes.items) found k.signals.items p.signals.items → ArePlayed (writes_at p.notes.items) found k.signals.items xs

  pub plays-at : (ns : List Note) → ns ≡ p.notes.items → (xs : List (Option Played)) →
      ((ms : List ℕ) (found : ℕ → List Seen) → HaveShared ms (left_at ns) found k.signals.items p.signals.items → ArePlayed (writes_at ns) found k.signals.items xs) → Plays xs
  plays-at ns same xs plays =
      subst (λ (ns : List Note). (ms : List ℕ) (found : ℕ → List Seen) → HaveShared ms (left_at ns) found k.signals.items p.signals.items → ArePlayed (writes_at ns) found k.signals.items xs) same plays

  -- they stand for all players that the signals were made for
  pub all-of-signals : (ns : List Note) → ns ≡ p.notes.items → Stands →
      (ms : List ℕ) × (found : ℕ → List Seen) × HaveShared ms (left_at ns) found k.signals.items p.signals.items × All (IsSharedBy (length ms)) k.signals.items × (length ms ≤ 256)
  all-of-signals ns same all =
      let ms = numbers_of all.0 in
      let long : length ms ≡ length all.0 = length-map all.0 (λ (w : Who). w.number) in
      let few = all.5 in (
        ms,
        all.1,
        subst (λ (l : List Note). HaveShared ms (left_at l) all.1 k.signals.items p.signals.items) (sym same) all.3,
        subst (λ (n : ℕ). All (IsSharedBy n) k.signals.items) (sym long) all.4.signals,
        omega (arith, long, few),
      )

  pub starts-out-signals : Stands → (xs : List (Option Played)) → Plays xs → starts_of signal_start xs ≡ (signal_family k.signals.items).starts
  starts-out-signals all xs played = starts-played (writes_at p.notes.items) all.1 k.signals.items xs (played (numbers_of all.0) all.1 all.3)

  pub legal-out-signals : Stands → (xs : List (Option Played)) → Plays xs → EachLegal (signal_family k.signals.items) (histories_of signal_history xs)
  legal-out-signals all xs played = legal-played (writes_at p.notes.items) all.1 k.signals.items xs (played (numbers_of all.0) all.1 all.3)

  -- as many players as the cells were made for
  same-many : (many : ℕ) (ws : List Who) → AreWhole k many → AreWhole k (length ws) → length ws ≡ many
  same-many many ws whole mine = mine.work ∙ sym whole.work

  pub within-out-signals : (many : ℕ) → Stands → AreWhole k many → (xs : List (Option Played)) → Plays xs → All (λ h. length h ≤ room_of_a_pass * many) (histories_of signal_history xs)
  within-out-signals many all whole xs played =
      let ns = numbers_of all.0 in
      let long : length ns ≡ many = length-map all.0 (λ (w : Who). w.number) ∙ same-many many all.0 whole all.4 in
      subst (λ (n : ℕ). All (λ h. length h ≤ room_of_a_pass * n) (histories_of signal_history xs)) long
      (within-played (writes_at p.notes.items) all.1 ns k.signals.items p.signals.items xs (played ns all.1 all.3) all.3)

  pub mine-out-signals : (ws : List Who) → Stands → AreBy ws (entries_of p.notes.items) → (xs : List (Option Played)) → Plays xs → All (AreBy ws) (histories_of signal_history xs)
  mine-out-signals ws all by xs played = by-played (writes_at p.notes.items) all.1 ws k.signals.items xs (played (numbers_of all.0) all.1 all.3) each
    where
      each : (object : ℕ) → AreBy ws (writes_at p.notes.items object)
      each object =
          let Q : Write → Type 0 = λ e. is_by ws e ≡ true in
          let N : Note → Type 0 = λ n. Q n.entry in
          All-map Q (λ (n : Note). n.entry) (notes_at p.notes.items object)
          (All-filter (λ (n : Note). eqb n.signal object) N p.notes.items
          (λ i d within. All-contains Q (entries_of p.notes.items) (get_or p.notes.items i d).entry by (contains-map (λ (n : Note). n.entry) p.notes.items (get_or p.notes.items i d) (Contains-get_or p.notes.items i d within))))
