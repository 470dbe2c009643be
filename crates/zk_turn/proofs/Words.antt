-- Published words from step to step: what holds of one word, and of one that was loaded.
use Rattle.std.proofs.Common.{◌≡◌, ◌≢◌, ◌⊎◌, inl, inr, ⊎_elim, ℕ, ◌+◌, ◌-◌, ◌*◌, ◌<◌, ◌≤◌, max, Bool, true, false, ◌||◌, Option, Some, None, List, [], ◌∷◌, ◌++◌, length, take, drop, All, refl, sym, ap, subst, ◌∙◌, arith, eqb, ne_eqb, eq-eqb}
use Rattle.std.proofs.Math.Seq.{take-append-add, drop-append-add}
use Rattle.std.proofs.lemmas.Bool.{cases_lt, cases_Bool}
use Rattle.std.proofs.lemmas.List.{length-append, take_all, take-append-le, take-append-drop}
use Rattle.zk_base.proofs.Lists.{All-front, All-back}
use Rattle.zk_base.specs.declared.ids.Who.{Who}
use Rattle.zk_base.specs.declared.ids.Entry.{Entry}
use Rattle.zk_base.specs.Touched.{is_touched}
use Rattle.zk_turn.specs.declared.views.Flight.{Flight}
use Rattle.zk_turn.specs.declared.views.Note.{Note}
use Rattle.zk_turn.specs.Players.{is_by, GoesOn}
use Rattle.zk_turn.specs.Words.{position_of, after_of, before_of, at_rest, IsSettled, IsFlying, WordStands, MayCount, IsOfPast, NoteStands}

-- no index is both touched and not
not_both : (b : Bool) → b ≡ true → b ≡ false → ⊥
not_both true is is' = absurd (cc)
not_both false is is' = absurd (cc)

either_of : (b c : Bool) → (b || c) ≡ false → c ≡ false
either_of true c is = absurd (cc)
either_of false c is = is

module _ {O R : Type 0} (value : List (Entry O R) → ℕ) (history : List (Entry O R)) where
  -- the value after the whole history
  settled_now : (n : ℕ) → IsSettled value history n → value history ≡ after_of n
  settled_now n settled = ap value (sym (take_all (length history) history (omega arith)))
      ∙ settled.same (length history) settled.in_history (omega arith)

  -- an entry is announced
  pub announced-word : (pending : List (Entry O R)) (index n : ℕ) → WordStands value history at_rest index n →
      WordStands value history record { pending = pending; stamped = [] } index n
  announced-word pending index n ok = record {
    now = inl (ok.unstamped refl);
    unstamped = λ still. ok.unstamped refl;
    ready = λ is. absurd (cc);
  }

  -- an index is made ready whose word has its value after the entry in flight
  pub passed-word : (flight : Flight O R) (index n : ℕ) → WordStands value history flight index n →
      value (history ++ flight.pending) ≡ after_of n →
      WordStands value history record { pending = flight.pending; stamped = index ∷ flight.stamped } index n
  passed-word flight index n ok same = record {
    now = ok.now;
    unstamped = λ still. ok.unstamped (either_of (eqb index index) (is_touched flight.stamped index) still);
    ready = λ is. same;
  }

  -- or whose word is stored with both values
  pub stored-word : (flight : Flight O R) (index n : ℕ) → (e : Entry O R) × (flight.pending ≡ e ∷ []) →
      position_of n ≡ length history + 1 → value history ≡ before_of n →
      value (history ++ flight.pending) ≡ after_of n →
      WordStands value history record { pending = flight.pending; stamped = index ∷ flight.stamped } index n
  stored-word flight index n one position before after = record {
    now = inr (record { one = one; position = position; before = before; after = after });
    unstamped = λ still. absurd (not_both (eqb index index || is_touched flight.stamped index)
        (ap (λ b. b || is_touched flight.stamped index) (eq-eqb index index refl)) still);
    ready = λ is. after;
  }

  -- the words of the others stay so
  pub other-word : (flight : Flight O R) (index other n : ℕ) → other ≢ index → WordStands value history flight other n →
      WordStands value history record { pending = flight.pending; stamped = index ∷ flight.stamped } other n
  other-word flight index other n differ ok =
      let same : (eqb index other || is_touched flight.stamped other) ≡ is_touched flight.stamped other =
      ap (λ b. b || is_touched flight.stamped other) (ne_eqb index other (λ is. differ (sym is))) in
      record {
        now = ok.now;
        unstamped = λ still. ok.unstamped (sym same ∙ still);
        ready = λ is. ok.ready (sym same ∙ is);
      }

  -- what weighing a word tells: where it hasn't its value after the entry in flight, it has the one before
  pub weighed-word : (flight : Flight O R) (index n : ℕ) → WordStands value history flight index n →
      ¬ (value (history ++ flight.pending) ≡ after_of n) → value history ≡ after_of n
  weighed-word flight index n ok other = ⊎_elim (λ is. absurd (other (ok.ready is)))
      (λ still. settled_now n (ok.unstamped still)) (cases_Bool (is_touched flight.stamped index))

  -- the entry in flight is counted
  pub counted-word : (e : Entry O R) (flight : Flight O R) (index n : ℕ) → flight.pending ≡ e ∷ [] →
      WordStands value history flight index n → MayCount value history flight index →
      WordStands value (history ++ e ∷ []) at_rest index n
  counted-word e flight index n one ok may =
      let settled = by_now ok.now in
      record { now = inl settled; unstamped = λ still. settled; ready = λ is. absurd (cc) }
    where
      long : length (history ++ e ∷ []) ≡ length history + 1
      long = length-append history (e ∷ [])

      with_entry : value (history ++ flight.pending) ≡ value (history ++ e ∷ [])
      with_entry = ap (λ l. value (history ++ l)) one

      at_end : value (history ++ e ∷ []) ≡ after_of n → (k : ℕ) → length history < k → value (take k (history ++ e ∷
          [])) ≡ after_of n
      at_end is k past = ap value (take_all k (history ++ e ∷ []) (let l = long in omega arith)) ∙ is

      by_now : IsSettled value history n ⊎ IsFlying value history flight.pending n → IsSettled value (history ++ e ∷ []) n
      by_now (inl settled) =
          let after = ⊎_elim (λ ready. sym with_entry ∙ ok.ready ready)
          (λ same. sym with_entry ∙ same ∙ settled_now n settled) may in
          record {
            in_history = let l = long in let s = settled.in_history in omega arith;
            same = λ k from within. ⊎_elim
                (λ past. at_end after k past)
                (λ le. ap value (take-append-le k history (e ∷ []) le) ∙ settled.same k from le)
                (cases_lt (length history) k);
          }
      by_now (inr flying) = record {
        in_history = let l = long in let p = flying.position in omega arith;
        same = λ k from within. at_end (sym with_entry ∙ flying.after) k (let p = flying.position in omega arith);
      }

  -- a word that was loaded, when the entry in flight is counted
  pub counted-note : (e : Entry O R) (pending : List (Entry O R)) (front n : ℕ) → pending ≡ e ∷ [] → front ≤ length history →
      IsOfPast value history front n ⊎ IsFlying value history pending n → IsOfPast value (history ++ e ∷ []) front n
  counted-note e pending front n one seen (inl past) =
      let long = length-append history (e ∷ []) in
      let p = past.in_history in
      record {
        in_history = omega arith;
        seen = omega arith;
        same = ap value (take-append-le (max (position_of n) front) history (e ∷ []) (omega arith)) ∙ past.same;
      }
  counted-note e pending front n one seen (inr flying) =
      let long = length-append history (e ∷ []) in
      let p = flying.position in
      record {
        in_history = omega arith;
        seen = omega arith;
        same = ap value (take_all (max (position_of n) front) (history ++ e ∷ []) (omega arith))
            ∙ sym (ap (λ l. value (history ++ l)) one) ∙ flying.after;
      }

  -- a word is loaded
  pub loaded-note : (flight : Flight O R) (index front n : ℕ) → WordStands value history flight index n →
      front ≤ length history → IsOfPast value history front n ⊎ IsFlying value history flight.pending n
  loaded-note flight index front n ok seen = ⊎_elim
      (λ settled. inl (record {
        in_history = settled.in_history;
        seen = seen;
        same = settled.same (max (position_of n) front) (omega arith) (let p = settled.in_history in omega arith);
      }))
      (λ flying. inr flying)
      ok.now

module _ {O R : Type 0} where
  -- a word of a new cell
  pub first-word : (value : List (Entry O R) → ℕ) (index n : ℕ) → n ≡ value [] * 65536 → value [] < 65536 →
      WordStands value [] at_rest index n
  first-word value index n is small =
      let position : position_of n ≡ 0 = omega arith in
      let after : value [] ≡ after_of n = omega arith in
      let settled : IsSettled value [] n = record {
        in_history = omega arith;
        same = λ k from within. ap value (take_all k [] (omega arith)) ∙ after;
      } in
      record { now = inl settled; unstamped = λ still. settled; ready = λ is. absurd (cc) }

  -- where no entry is in flight, a note is of the past
  pub rest-note : (word : List (Entry O R) → ℕ → ℕ) (history pending : List (Entry O R)) (front : ℕ) (note : Option Note) →
      NoteStands word history [] front note → NoteStands word history pending front note
  rest-note word history pending front None ok = tt
  rest-note word history pending front (Some note) ok =
      ⊎_elim (λ past. inl past) (λ flying. absurd (nothing flying.one.0 flying.one.1)) ok where
        nothing : (e : Entry O R) → [] ≡ e ∷ [] → ⊥
        nothing e is = absurd (cc)

  pub counted-notes : (word : List (Entry O R) → ℕ → ℕ) (history pending : List (Entry O R)) (e : Entry O R) (front : ℕ)
      (note : Option Note) → pending ≡ e ∷ [] → front ≤ length history → NoteStands word history pending front note →
      NoteStands word (history ++ e ∷ []) [] front note
  counted-notes word history pending e front None one seen ok = tt
  counted-notes word history pending e front (Some note) one seen ok =
      inl (counted-note (λ h. word h note.index) history e pending front note.word one seen ok)

  -- what was seen is no longer than the history that goes on from it
  pub GoesOn-long : (ws : List Who) (seen h : List (Entry O R)) → GoesOn ws seen h → length seen ≤ length h
  GoesOn-long ws seen h goes = let long = ap (λ l. length l) goes.longer ∙ length-append seen goes.later in omega arith

  -- a history goes on to a front of a later one that is no shorter than what was seen
  pub GoesOn-front : (ws : List Who) (seen h : List (Entry O R)) (k : ℕ) → GoesOn ws seen h → length seen ≤ k →
      k ≤ length h → GoesOn ws seen (take k h)
  GoesOn-front ws seen h k goes long within = record {
    later = take (k - length seen) goes.later;
    longer = fronted;
    others = All-front P (take (k - length seen) goes.later) (drop (k - length seen) goes.later)
        (subst (All P) (sym (take-append-drop (k - length seen) goes.later)) goes.others);
  } where
    P : Entry O R → Type 0
    P = λ e. is_by ws e ≡ false

    fronted : take k h ≡ seen ++ take (k - length seen) goes.later
    fronted = ap (take k) goes.longer ∙ ap (λ (n : ℕ). take n (seen ++ goes.later)) (omega arith)
        ∙ take-append-add seen goes.later (k - length seen)

  pub GoesOn-rest : (ws : List Who) (seen h : List (Entry O R)) (k : ℕ) → GoesOn ws seen h → length seen ≤ k →
      k ≤ length h → GoesOn ws (take k h) h
  GoesOn-rest ws seen h k goes long within = record {
    later = drop (k - length seen) goes.later;
    longer = sym (take-append-drop k h) ∙ ap (λ l. take k h ++ l) dropped;
    others = All-back P (take (k - length seen) goes.later) (drop (k - length seen) goes.later)
        (subst (All P) (sym (take-append-drop (k - length seen) goes.later)) goes.others);
  } where
    P : Entry O R → Type 0
    P = λ e. is_by ws e ≡ false

    dropped : drop k h ≡ drop (k - length seen) goes.later
    dropped = ap (drop k) goes.longer ∙ ap (λ (n : ℕ). drop n (seen ++ goes.later)) (omega arith)
        ∙ drop-append-add seen goes.later (k - length seen)
