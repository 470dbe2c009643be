-- What decides a wait, and what its end tells.
use Rattle.std.proofs.Common.{◌≡◌, ℕ, ◌+◌, ◌≤◌, ◌<◌, ◌⊎◌, inl, inr, All, Bool, true, false, eqb, ltb, ◌&&◌, ◌||◌, Option, Some, None, is_some, option_map, List, [], ◌∷◌, ◌++◌, map, length, refl, sym, ap, subst, ◌∙◌, append_assoc, arith}
use Rattle.std.specs.List.{Contains, find, list_any, count_by}
use Rattle.std.proofs.lemmas.Bool.Decides.{nat_tests}
use Rattle.std.proofs.lemmas.List.Elements.{All-nil, All-cons, All-head, All-tail, All-append, All-filter, All-weaker, All-map, All-contains, All-contains_itself, Contains-append_left}
use Rattle.std.proofs.lemmas.Option.{same_Some}
use Rattle.zk_base.specs.declared.ids.Who.{Who}
use Rattle.zk_base.specs.declared.ids.Entry.{Entry}
use Rattle.zk_base.specs.declared.waits.Waiter.{Waiter}
use Rattle.zk_base.specs.declared.waits.Decision.{Decision}
use Rattle.zk_base.specs.History.{IsEntry}
use Rattle.zk_base.specs.Legal.{Machine, state_after, Replays}
use Rattle.zk_base.specs.Waits.{Waits, is_waiter, is_decision, decide, decision_of, goes_on, ended, decides_first, is_served_after, is_left, decisions_by, given_up, quit_answer}
use Rattle.zk_base.specs.WaitLaws.{Decides, nobody, first, all, each, WaitKind, after_decision, after_entry, HasWaits, IsFirst, WasOpened, WasOpenedBy, waiting_at, decided_at, is_at, finishes, opened_at, decision, IsDecided, WaitsAt, IsDecidedBy, WasDecided, decisions, EndTellsItsDecision, QuitTellsItsDecision, EndedByItsOwnPlayer, MayEndOnceDecided, MayQuitUntilEnded, DecisionStays, AnswersItsOneDecision}
use Rattle.zk_base.proofs.Firsts.{one_if, any-find, found-passes, found-there, found-only, stays-without, count-contains, count-none}
use Rattle.zk_base.proofs.Histories.{state_after-append, state_after-snoc, entries-after, Replays-front, Replays-rest, by_entries}
use Rattle.zk_base.proofs.WaitTests.{IfDecided, All-decisions}
use Rattle.zk_base.proofs.WaitsHold.{All-put_before, All-without, AreOpened, each_wait_has_its_opening}
use Rattle.zk_base.proofs.WaitsOnce.{same-pair, eqb-same, decision-there, once-most, each_wait_once, entry-steps, opened-most, opened-last}

both : (a b c d : ℕ) → a ≡ b → c ≡ d → (eqb a b && eqb c d) ≡ true
both a b c d same also = grind (arith, nat_tests)

same-place : (a b c d : ℕ) → (eqb a b && eqb c d) ≡ true → eqb a b ≡ true
same-place a b c d is = grind (arith, nat_tests)

same-number : (a b : ℕ) → eqb a b ≡ true → a ≡ b
same-number a b is = grind (arith, nat_tests)

is-at : (place : ℕ) (o : Option ℕ) → is_at place o ≡ true → o ≡ Some place
is-at place None is = absurd (cc)
is-at place (Some at) is = ap Some (same-number at place is)

-- whom an entry decides is answered this, by what it waits for
abbrev pub said : {R M : Type 0} → Decides R M → M → Option R
said nobody payload = None
said (first answer) payload = Some answer
said (all answer) payload = Some answer
said (each test) payload = test payload

module _ {M A : Type 0} where
  -- a decision that is there alone is the one that is found
  decision-found : (ws : Waits M A) (player place : ℕ) (d : Decision A) → decided_at place ws ≤ 1 →
      Contains ws.decided d → place ≡ d.place → player ≡ d.player → decision_of ws player place ≡ Some d.answer
  decision-found ws player place d most held at by_player =
      let p : Decision A → Bool = is_decision player place in
      let found = found-only (λ (c : Decision A). eqb c.place place) p
      (λ c is. same-place c.place place c.player player is) ws.decided d held
      (both d.place place d.player player (sym at) (sym by_player)) most in
      ap (option_map (λ (c : Decision A). c.answer)) found

  none-decided : (ws : Waits M A) (player place : ℕ) → decided_at place ws ≡ 0 → decision_of ws player place ≡ None
  none-decided ws player place none = by (find (is_decision player place) ws.decided) refl where
    by : (o : Option (Decision A)) → find (is_decision player place) ws.decided ≡ o →
        option_map (λ (d : Decision A). d.answer) (find (is_decision player place) ws.decided) ≡ None
    by None lost = ap (option_map (λ (d : Decision A). d.answer)) lost
    by (Some d) found =
        let some = count-contains (λ (c : Decision A). eqb c.place place) ws.decided d
        (found-there (is_decision player place) ws.decided d found)
        (same-place d.place place d.player player (found-passes (is_decision player place) ws.decided d found)) in
        absurd (omega arith)

  waits-there : (ws : Waits M A) (player place : ℕ) → goes_on ws player place ≡ true →
      (w : Waiter M) × Contains ws.waiting w × (w.place ≡ place) × (w.who.number ≡ player)
  waits-there ws player place goes = by (find (is_waiter player place) ws.waiting) refl where
    by : (o : Option (Waiter M)) → find (is_waiter player place) ws.waiting ≡ o →
        (w : Waiter M) × Contains ws.waiting w × (w.place ≡ place) × (w.who.number ≡ player)
    by None lost =
        let there = any-find (is_waiter player place) ws.waiting in
        let not_there : is_some (find (is_waiter player place) ws.waiting) ≡ false = ap is_some lost in
        absurd (cc)
    by (Some w) found =
        let same = same-pair w.place place w.who.number player (found-passes (is_waiter player place) ws.waiting w found) in
        (w, found-there (is_waiter player place) ws.waiting w found, same.0, same.1)

  waiter-goes : (ws : Waits M A) (player place : ℕ) (w : Waiter M) → Contains ws.waiting w → w.place ≡ place →
      w.who.number ≡ player → goes_on ws player place ≡ true
  waiter-goes ws player place w held at by_player = by (goes_on ws player place) refl where
    by : (b : Bool) → goes_on ws player place ≡ b → b ≡ true
    by true is = refl
    by false is =
        let some = count-contains (is_waiter player place) ws.waiting w held
        (both w.place place w.who.number player at by_player) in
        let none = count-none (is_waiter player place) ws.waiting is in
        absurd (omega arith)

  waiting-some : (ws : Waits M A) (w : Waiter M) → Contains ws.waiting w → 0 < waiting_at w.place ws
  waiting-some ws w held = count-contains (λ (v : Waiter M). eqb v.place w.place) ws.waiting w held (eqb-same w.place)

  pub decided-some : (ws : Waits M A) (d : Decision A) → Contains ws.decided d → 0 < decided_at d.place ws
  decided-some ws d held = count-contains (λ (c : Decision A). eqb c.place d.place) ws.decided d held (eqb-same d.place)

  -- a decision that wasn't there before is of one who waited, and says what the entry says
  abbrev pub IsNew : Decides A M → Waits M A → Decision A → Type 0
  IsNew decides ws d = (w : Waiter M) × Contains ws.waiting w × (w.place ≡ d.place)
      × (said decides w.payload ≡ Some d.answer)

  abbrev pub WereOrNew : Decides A M → Waits M A → Decision A → Type 0
  WereOrNew decides ws d = Contains ws.decided d ⊎ IsNew decides ws d

  all-were : (decides : Decides A M) (ws : Waits M A) → All (WereOrNew decides ws) ws.decided
  all-were decides ws = All-weaker (Contains ws.decided) (WereOrNew decides ws) (λ d held. inl held) ws.decided
      (All-contains_itself ws.decided)

  first-new : (answer : A) (waiting : List (Waiter M)) (decided : List (Decision A)) →
      All (WereOrNew (first answer) (record { waiting = waiting; decided = decided }))
      (decides_first answer waiting decided).decided
  first-new answer [] decided = all-were (first answer) (record { waiting = []; decided = decided })
  first-new answer (w ∷ ws) decided =
      let before : Waits M A = record { waiting = w ∷ ws; decided = decided } in
      let P : Decision A → Type 0 = WereOrNew (first answer) before in
      let there : Contains (w ∷ ws) w = All-head (Contains (w ∷ ws)) w ws (All-contains_itself (w ∷ ws)) in
      All-append P decided (decide answer w ∷ []) (all-were (first answer) before)
      (All-cons P (decide answer w) [] (inr (w, there, refl, refl)) (All-nil P))

  decision-new : (decides : Decides A M) (ws : Waits M A) → All (WereOrNew decides ws) (after_decision decides ws).decided
  decision-new nobody ws = all-were nobody ws
  decision-new (first answer) ws = first-new answer ws.waiting ws.decided
  decision-new (all answer) ws =
      let P : Decision A → Type 0 = WereOrNew (all answer) ws in
      All-append P ws.decided (map (decide answer) ws.waiting) (all-were (all answer) ws)
      (All-map P (decide answer) ws.waiting (All-weaker (Contains ws.waiting) (λ (w : Waiter M). P (decide answer w))
      (λ w held. inr (w, held, refl, refl)) ws.waiting (All-contains_itself ws.waiting)))
  decision-new (each test) ws =
      let P : Decision A → Type 0 = WereOrNew (each test) ws in
      All-append P ws.decided (decisions_by test ws.waiting) (all-were (each test) ws)
      (All-decisions test P ws.waiting (All-weaker (Contains ws.waiting) (IfDecided test P)
      (λ w held answer is. inr (w, held, refl, is)) ws.waiting (All-contains_itself ws.waiting)))

  pub entry-new : (ws : Waits M A) (place : ℕ) (who : Who) (decides : Decides A M) (opens : Option M)
      (ends quits : Option ℕ) → All (WereOrNew decides ws) (after_entry ws place who decides opens ends quits).decided
  entry-new ws place who decides (Some payload) ends quits = all-were decides ws
  entry-new ws place who decides None (Some at) quits =
      All-without (WereOrNew decides ws) (is_decision who.number at) ws.decided (all-were decides ws)
  entry-new ws place who decides None None (Some at) =
      All-without (WereOrNew decides ws) (is_decision who.number at) ws.decided (all-were decides ws)
  entry-new ws place who decides None None None = decision-new decides ws

  -- who waits after an entry waited before it, or is opened by it
  abbrev WaitedOrNew : ℕ → Waits M A → Waiter M → Type 0
  WaitedOrNew place ws w = Contains ws.waiting w ⊎ (w.place ≡ place)

  all-waited : (place : ℕ) (ws : Waits M A) → All (WaitedOrNew place ws) ws.waiting
  all-waited place ws = All-weaker (Contains ws.waiting) (WaitedOrNew place ws) (λ w held. inl held) ws.waiting
      (All-contains_itself ws.waiting)

  first-waited : (P : Waiter M → Type 0) (answer : A) (waiting : List (Waiter M)) (decided : List (Decision A)) →
      All P waiting → All P (decides_first answer waiting decided).waiting
  first-waited P answer [] decided held = held
  first-waited P answer (w ∷ ws) decided held = All-tail P w ws held

  decision-waited : (place : ℕ) (decides : Decides A M) (ws : Waits M A) →
      All (WaitedOrNew place ws) (after_decision decides ws).waiting
  decision-waited place nobody ws = all-waited place ws
  decision-waited place (first answer) ws =
      first-waited (WaitedOrNew place ws) answer ws.waiting ws.decided (all-waited place ws)
  decision-waited place (all answer) ws = All-nil (WaitedOrNew place ws)
  decision-waited place (each test) ws = All-filter (is_left test) (WaitedOrNew place ws) ws.waiting (all-waited place ws)

  entry-waited : (ws : Waits M A) (place : ℕ) (who : Who) (decides : Decides A M) (opens : Option M)
      (ends quits : Option ℕ) → All (WaitedOrNew place ws) (after_entry ws place who decides opens ends quits).waiting
  entry-waited ws place who decides (Some payload) ends quits =
      let w : Waiter M = record { place = place; who = who; payload = payload } in
      All-put_before (WaitedOrNew place ws) (is_served_after w) w ws.waiting (inr refl) (all-waited place ws)
  entry-waited ws place who decides None (Some at) quits = all-waited place ws
  entry-waited ws place who decides None None (Some at) =
      All-without (WaitedOrNew place ws) (is_waiter who.number at) ws.waiting (all-waited place ws)
  entry-waited ws place who decides None None None = decision-waited place decides ws

  -- a decision stays, or its wait ends
  first-stays : (answer : A) (waiting : List (Waiter M)) (decided : List (Decision A)) (d : Decision A) →
      Contains decided d → Contains (decides_first answer waiting decided).decided d
  first-stays answer [] decided d held = held
  first-stays answer (w ∷ ws) decided d held = Contains-append_left decided (decide answer w ∷ []) d held

  decided-stays : (decides : Decides A M) (ws : Waits M A) (d : Decision A) → Contains ws.decided d →
      Contains (after_decision decides ws).decided d
  decided-stays nobody ws d held = held
  decided-stays (first answer) ws d held = first-stays answer ws.waiting ws.decided d held
  decided-stays (all answer) ws d held = Contains-append_left ws.decided (map (decide answer) ws.waiting) d held
  decided-stays (each test) ws d held = Contains-append_left ws.decided (decisions_by test ws.waiting) d held

  ended-stays : (ws : Waits M A) (player at : ℕ) (d : Decision A) → Contains ws.decided d →
      Contains (ended ws player at).decided d ⊎ (eqb at d.place ≡ true)
  ended-stays ws player at d held = by (is_decision player at d) refl where
    by : (b : Bool) → is_decision player at d ≡ b → Contains (ended ws player at).decided d ⊎ (eqb at d.place ≡ true)
    by true is = let same = same-pair d.place at d.player player is in
        inr (ap (λ (p : ℕ). eqb p d.place) (sym same.0) ∙ eqb-same d.place)
    by false isnt = inl (stays-without (is_decision player at) ws.decided d held isnt)

  entry-stays : (ws : Waits M A) (place : ℕ) (who : Who) (decides : Decides A M) (opens : Option M) (ends quits : Option ℕ)
      (d : Decision A) → Contains ws.decided d →
      Contains (after_entry ws place who decides opens ends quits).decided d
      ⊎ ((is_at d.place ends || is_at d.place quits) ≡ true)
  entry-stays ws place who decides (Some payload) ends quits d held = inl held
  entry-stays ws place who decides None (Some at) quits d held = by (ended-stays ws who.number at d held) where
    by : Contains (ended ws who.number at).decided d ⊎ (eqb at d.place ≡ true) →
        Contains (ended ws who.number at).decided d ⊎ ((eqb at d.place || is_at d.place quits) ≡ true)
    by (inl stays) = inl stays
    by (inr is) = inr (ap (λ (b : Bool). b || is_at d.place quits) is)
  entry-stays ws place who decides None None (Some at) d held = ended-stays ws who.number at d held
  entry-stays ws place who decides None None None d held = inl (decided-stays decides ws d held)

-- a wait that is decided by an entry was waiting, or was opened by it
newly : (w c w' c' n o f opn fin : ℕ) → w + c + f ≡ o → o + opn ≤ 1 → w' + c' + fin ≡ w + c + opn → w' ≤ w + opn →
    w + n ≤ o → c ≤ n →
    (w' + (n + one_if (eqb c 0 && ltb 0 c')) ≤ o + opn) × (c' ≤ n + one_if (eqb c 0 && ltb 0 c'))
newly w c w' c' n o f opn fin once most kept none_joins low high = by (eqb c 0) refl (ltb 0 c') refl where
  by : (a : Bool) → eqb c 0 ≡ a → (b : Bool) → ltb 0 c' ≡ b → (w' + (n + one_if (a && b)) ≤ o + opn) × (c' ≤ n + one_if (a && b))
  by true is true some = let none = same-number c 0 is in let more : 0 < c' = grind (arith, nat_tests) in
      (omega arith, omega arith)
  by true is false some = let less : c' ≤ 0 = grind (arith, nat_tests) in (omega arith, omega arith)
  by false is b some = let more : 0 < c = grind (arith, nat_tests) in (omega arith, omega arith)

module _ {S O R M : Type 0} (m : Machine S O R) (k : WaitKind S O R M) (has : HasWaits m k) where
  -- what an entry of a history is answered
  replied : (s : S) (h front : List (Entry O R)) (e : Entry O R) → Replays m s h → IsEntry h front e →
      m.reply_of (state_after m s front) e.who e.op ≡ Some e.reply
  replied s h front e replays at = (Replays-rest m s front (e ∷ at.rest) (subst (Replays m s) at.whole replays)).0

  replays-front : (s : S) (h front : List (Entry O R)) (e : Entry O R) → Replays m s h → IsEntry h front e → Replays m s front
  replays-front s h front e replays at = Replays-front m s front (e ∷ at.rest) (subst (Replays m s) at.whole replays)

  -- each wait is there once at most
  most-one : (s : S) (h : List (Entry O R)) → IsFirst k s → Replays m s h → (place : ℕ) →
      waiting_at place (k.waits (state_after m s h)) + decided_at place (k.waits (state_after m s h)) ≤ 1
  most-one s h start replays = once-most m k has h (k.waits (state_after m s h)) (each_wait_once m k has s h start replays)

  pub end_tells_its_decision : (s : S) (h : List (Entry O R)) → Replays m s h → EndTellsItsDecision m k s h
  end_tells_its_decision s h replays front e place at ends =
      let before = state_after m s front in
      let told = sym (has.ends before e.who e.op place ends) ∙ replied s h front e replays at in
      found-there (is_decision e.who.number place) (k.waits before).decided (decision place e.who.number e.reply)
      (decision-there (k.waits before) e.who.number place e.reply told)

  -- one who waits there isn't decided there
  waits-undecided : (s : S) (h : List (Entry O R)) → IsFirst k s → Replays m s h → (w : Waiter M) (place : ℕ) →
      Contains (k.waits (state_after m s h)).waiting w → w.place ≡ place → decided_at place (k.waits (state_after m s h)) ≡ 0
  waits-undecided s h start replays w place held at =
      let ws = k.waits (state_after m s h) in
      let some = waiting-some ws w held in
      let most = most-one s h start replays w.place in
      let none : decided_at w.place ws ≡ 0 = omega arith in
      subst (λ (p : ℕ). decided_at p ws ≡ 0) at none

  -- none that goes on is decided
  pub waits-apart : (s : S) (h : List (Entry O R)) → IsFirst k s → Replays m s h →
      All (λ (w : Waiter M). decided_at w.place (k.waits (state_after m s h)) ≡ 0) (k.waits (state_after m s h)).waiting
  waits-apart s h start replays =
      let ws = k.waits (state_after m s h) in
      All-weaker (Contains ws.waiting) (λ (w : Waiter M). decided_at w.place ws ≡ 0)
      (λ w held. waits-undecided s h start replays w w.place held refl) ws.waiting (All-contains_itself ws.waiting)

  pub quit_tells_its_decision : (s : S) (h : List (Entry O R)) → IsFirst k s → Replays m s h → QuitTellsItsDecision m k s h
  quit_tells_its_decision s h start replays front e place at quits =
      by (goes_on ws e.who.number place) (decision_of ws e.who.number place) refl refl told where
        before : S
        before = state_after m s front

        ws : Waits M R
        ws = k.waits before

        told : quit_answer k.gives_up ws e.who.number place ≡ Some e.reply
        told = sym (has.quits before e.who e.op place quits) ∙ replied s h front e replays at

        by : (waits : Bool) (decided : Option R) → goes_on ws e.who.number place ≡ waits →
            decision_of ws e.who.number place ≡ decided → given_up k.gives_up waits decided ≡ Some e.reply →
            IsDecided k before (decision place e.who.number e.reply)
            ⊎ ((e.reply ≡ k.gives_up) × (decided_at place ws ≡ 0) × WaitsAt k before place e.who.number)
        by waits (Some answer) goes is some =
            inl (found-there (is_decision e.who.number place) ws.decided (decision place e.who.number e.reply)
            (decision-there ws e.who.number place e.reply (is ∙ some)))
        by true None goes is some =
            let there = waits-there ws e.who.number place goes in
            inr (
              sym (same_Some k.gives_up e.reply some),
              waits-undecided s front start (replays-front s h front e replays at) there.0 place there.1 there.2,
              there,
            )
        by false None goes is some = absurd (cc)

  -- what finishes a wait finds it decided, or waiting
  finish-finds : (s : S) (h : List (Entry O R)) → IsFirst k s → Replays m s h →
      (front : List (Entry O R)) (e : Entry O R) (place : ℕ) → IsEntry h front e → finishes k place e ≡ true →
      IsDecided k (state_after m s front) (decision place e.who.number e.reply)
      ⊎ ((k.quits e.op ≡ Some place) × (e.reply ≡ k.gives_up) × (decided_at place (k.waits (state_after m s front)) ≡ 0)
      × WaitsAt k (state_after m s front) place e.who.number)
  finish-finds s h start replays front e place at is = by (is_at place (k.ends e.op)) refl is where
    Found : Type 0
    Found = IsDecided k (state_after m s front) (decision place e.who.number e.reply)
        ⊎ ((k.quits e.op ≡ Some place) × (e.reply ≡ k.gives_up) × (decided_at place (k.waits (state_after m s front)) ≡ 0)
        × WaitsAt k (state_after m s front) place e.who.number)

    by_quit : k.quits e.op ≡ Some place → IsDecided k (state_after m s front) (decision place e.who.number e.reply)
        ⊎ ((e.reply ≡ k.gives_up) × (decided_at place (k.waits (state_after m s front)) ≡ 0)
        × WaitsAt k (state_after m s front) place e.who.number) → Found
    by_quit quits (inl decided) = inl decided
    by_quit quits (inr waits) = inr (quits, waits.0, waits.1, waits.2)

    by : (b : Bool) → is_at place (k.ends e.op) ≡ b → (b || is_at place (k.quits e.op)) ≡ true → Found
    by true ends is = inl (end_tells_its_decision s h replays front e place at (is-at place (k.ends e.op) ends))
    by false ends is =
        let quits = is-at place (k.quits e.op) is in
        by_quit quits (quit_tells_its_decision s h start replays front e place at quits)

  pub ended_by_its_own_player : (s : S) (h : List (Entry O R)) → IsFirst k s → Replays m s h → EndedByItsOwnPlayer m k s h
  ended_by_its_own_player s h start replays front e place at is = by (finish-finds s h start replays front e place at is) where
    opened : AreOpened m k has front (k.waits (state_after m s front))
    opened = each_wait_has_its_opening m k has s front start (replays-front s h front e replays at)

    Own : Type 0
    Own = (who : Who) × (payload : M) × (who.number ≡ e.who.number) × WasOpened k front place who payload

    by : IsDecided k (state_after m s front) (decision place e.who.number e.reply)
        ⊎ ((k.quits e.op ≡ Some place) × (e.reply ≡ k.gives_up) × (decided_at place (k.waits (state_after m s front)) ≡ 0)
        × WaitsAt k (state_after m s front) place e.who.number) → Own
    by (inl decided) = All-contains (WasOpenedBy k front) (k.waits (state_after m s front)).decided
        (decision place e.who.number e.reply) opened.1 decided
    by (inr found) =
        let w = found.3.0 in
        let was = All-contains (λ (v : Waiter M). WasOpened k front v.place v.who v.payload)
        (k.waits (state_after m s front)).waiting w opened.0 found.3.1 in
        (w.who, w.payload, found.3.3, subst (λ (p : ℕ). WasOpened k front p w.who w.payload) found.3.2 was)

  pub may_end_once_decided : (s : S) (h : List (Entry O R)) → IsFirst k s → Replays m s h → MayEndOnceDecided m k s h
  may_end_once_decided s h start replays who op d ends own held =
      let now = state_after m s h in
      let most = most-one s h start replays d.place in
      has.ends now who op d.place ends ∙ decision-found (k.waits now) who.number d.place d (omega arith) held refl own

  pub may_quit_until_ended : (s : S) (h : List (Entry O R)) → IsFirst k s → Replays m s h → MayQuitUntilEnded m k s h
  may_quit_until_ended s h start replays = record {
    decided = λ who op d quits own held.
        let most = most-one s h start replays d.place in
        has.quits now who op d.place quits
        ∙ ap (given_up k.gives_up (goes_on (k.waits now) who.number d.place))
        (decision-found (k.waits now) who.number d.place d (omega arith) held refl own);
    waiting = λ who op place quits waits.
        has.quits now who op place quits
        ∙ ap (given_up k.gives_up (goes_on (k.waits now) who.number place))
        (none-decided (k.waits now) who.number place (waits-undecided s h start replays waits.0 place waits.1 waits.2))
        ∙ ap (λ (b : Bool). given_up k.gives_up b None)
        (waiter-goes (k.waits now) who.number place waits.0 waits.1 waits.2 waits.3);
  } where
    now : S
    now = state_after m s h

  stays-next : (s : S) (e : Entry O R) (d : Decision R) → m.reply_of s e.who e.op ≡ Some e.reply → IsDecided k s d →
      IsDecided k (m.next s e.who e.op) d ⊎ (finishes k d.place e ≡ true)
  stays-next s e d reply held =
      subst (λ (ws : Waits M R). Contains ws.decided d ⊎ (finishes k d.place e ≡ true))
      (sym (has.moves s e.who e.op e.reply reply))
      (entry-stays (k.waits s) (k.entries s) e.who (k.decides s e.op e.reply) (k.opens e.op e.reply) (k.ends e.op)
      (k.quits e.op) d held)

  stays-all : (s : S) (es : List (Entry O R)) (d : Decision R) → Replays m s es → IsDecided k s d →
      IsDecided k (state_after m s es) d ⊎ (list_any (finishes k d.place) es ≡ true)
  stays-all s [] d replays held = inl held
  stays-all s (e ∷ es) d replays held =
      by (stays-next s e d replays.0 held) (stays-all (m.next s e.who e.op) es d replays.1) where
        next : S
        next = m.next s e.who e.op

        later : (b : Bool) → IsDecided k (state_after m next es) d ⊎ (list_any (finishes k d.place) es ≡ true) →
            IsDecided k (state_after m next es) d ⊎ ((b || list_any (finishes k d.place) es) ≡ true)
        later b (inl stays) = inl stays
        later true (inr ends) = inr refl
        later false (inr ends) = inr ends

        by : IsDecided k next d ⊎ (finishes k d.place e ≡ true) →
            (IsDecided k next d → IsDecided k (state_after m next es) d ⊎ (list_any (finishes k d.place) es ≡ true)) →
            IsDecided k (state_after m next es) d ⊎ (list_any (finishes k d.place) (e ∷ es) ≡ true)
        by (inl stays) rest = later (finishes k d.place e) (rest stays)
        by (inr ends) rest = inr (ap (λ (b : Bool). b || list_any (finishes k d.place) es) ends)

  pub decision_stays : (s : S) (h : List (Entry O R)) → Replays m s h → DecisionStays m k s h
  decision_stays s h replays front rest d parts held =
      let before = state_after m s front in
      let whole = ap (state_after m s) parts ∙ state_after-append m s front rest in
      subst (λ (t : S). IsDecided k t d ⊎ (list_any (finishes k d.place) rest ≡ true)) (sym whole)
      (stays-all before rest d (Replays-rest m s front rest (subst (Replays m s) parts replays)) held)

  -- who waits has waited since its opening
  waited-from : (s : S) (es : List (Entry O R)) (w : Waiter M) → Replays m s es →
      Contains (k.waits (state_after m s es)).waiting w → Contains (k.waits s).waiting w ⊎ (k.entries s ≤ w.place)
  waited-from s [] w replays held = inl held
  waited-from s (e ∷ es) w replays held = by (waited-from next es w replays.1 held) where
    next : S
    next = m.next s e.who e.op

    here : Contains (k.waits next).waiting w → WaitedOrNew (k.entries s) (k.waits s) w
    here still =
        let ws = after_entry (k.waits s) (k.entries s) e.who (k.decides s e.op e.reply) (k.opens e.op e.reply)
        (k.ends e.op) (k.quits e.op) in
        All-contains (WaitedOrNew (k.entries s) (k.waits s)) ws.waiting w
        (entry-waited (k.waits s) (k.entries s) e.who (k.decides s e.op e.reply) (k.opens e.op e.reply) (k.ends e.op)
        (k.quits e.op))
        (subst (λ (ws : Waits M R). Contains ws.waiting w) (has.moves s e.who e.op e.reply replays.0) still)

    was : WaitedOrNew (k.entries s) (k.waits s) w → Contains (k.waits s).waiting w ⊎ (k.entries s ≤ w.place)
    was (inl before) = inl before
    was (inr opened) = inr (omega arith)

    by : Contains (k.waits next).waiting w ⊎ (k.entries next ≤ w.place) →
        Contains (k.waits s).waiting w ⊎ (k.entries s ≤ w.place)
    by (inl still) = was (here still)
    by (inr later) = let counted = has.counts s e.who e.op in inr (omega arith)

  pub waited-since : (s : S) (h early later : List (Entry O R)) (w : Waiter M) → IsFirst k s → Replays m s h →
      h ≡ early ++ later → Contains (k.waits (state_after m s h)).waiting w → w.place < length early →
      Contains (k.waits (state_after m s early)).waiting w
  waited-since s h early later w start replays parts held opened =
      by (waited-from (state_after m s early) later w (Replays-rest m s early later (subst (Replays m s) parts replays))
      (subst (λ (t : S). Contains (k.waits t).waiting w)
      (ap (state_after m s) parts ∙ state_after-append m s early later) held)) where
        by : Contains (k.waits (state_after m s early)).waiting w ⊎ (k.entries (state_after m s early) ≤ w.place) →
            Contains (k.waits (state_after m s early)).waiting w
        by (inl waited) = waited
        by (inr new) =
            let counted = entries-after m k.entries has.counts s early in
            let none = start.new in
            absurd (omega arith)

  -- the entry after this history decides it, or it was decided before
  decided-new : (s : S) (h : List (Entry O R)) (e : Entry O R) → m.reply_of (state_after m s h) e.who e.op ≡ Some e.reply →
      All (WereOrNew (k.decides (state_after m s h) e.op e.reply) (k.waits (state_after m s h)))
      (k.waits (state_after m s (h ++ e ∷ []))).decided
  decided-new s h e reply =
      let now = state_after m s h in
      let same = ap k.waits (state_after-snoc m s h e) ∙ has.moves now e.who e.op e.reply reply in
      subst (λ (ws : Waits M R). All (WereOrNew (k.decides now e.op e.reply) (k.waits now)) ws.decided) (sym same)
      (entry-new (k.waits now) (k.entries now) e.who (k.decides now e.op e.reply) (k.opens e.op e.reply) (k.ends e.op)
      (k.quits e.op))

  -- an entry that decides a wait decides one that waited, and says with what
  pub decides-said : (s : S) (h : List (Entry O R)) → Replays m s h →
      (front : List (Entry O R)) (e : Entry O R) (d : Decision R) → IsEntry h front e → IsDecidedBy m k s front e d →
      IsNew (k.decides (state_after m s front) e.op e.reply) (k.waits (state_after m s front)) d
  decides-said s h replays front e d at decides =
      by (All-contains (WereOrNew (k.decides before e.op e.reply) (k.waits before))
      (k.waits (state_after m s (front ++ e ∷ []))).decided d (decided-new s front e (replied s h front e replays at))
      decides.after) where
        before : S
        before = state_after m s front

        by : WereOrNew (k.decides before e.op e.reply) (k.waits before) d →
            IsNew (k.decides before e.op e.reply) (k.waits before) d
        by (inl held) = let some = decided-some (k.waits before) d held in let none = decides.before in absurd (omega arith)
        by (inr new) = new

  decisions-last : (s : S) (h : List (Entry O R)) (e : Entry O R) (place : ℕ) →
      decisions m k place s (h ++ e ∷ []) ≡ decisions m k place s h + one_if
      (eqb (decided_at place (k.waits (state_after m s h))) 0 && ltb 0
      (decided_at place (k.waits (m.next (state_after m s h) e.who e.op))))
  decisions-last s [] e place = omega arith
  decisions-last s (f ∷ fs) e place = let rest = decisions-last (m.next s f.who f.op) fs e place in omega arith

  -- how often each wait was decided, and by what
  record AreAnswered (s : S) (h : List (Entry O R)) : Type 0 where
    waiting : (place : ℕ) → waiting_at place (k.waits (state_after m s h)) + decisions m k place s h ≤ opened_at k h place
    decided : (place : ℕ) → decided_at place (k.waits (state_after m s h)) ≤ decisions m k place s h
    each : All (WasDecided m k s h) (k.waits (state_after m s h)).decided

  was-longer : (s : S) (h : List (Entry O R)) (l : Entry O R) (d : Decision R) → WasDecided m k s h d →
      WasDecided m k s (h ++ l ∷ []) d
  was-longer s h l d was = record {
    front = was.front;
    e = was.e;
    at = record {
      rest = was.at.rest ++ l ∷ [];
      whole = ap (λ (g : List (Entry O R)). g ++ l ∷ []) was.at.whole
          ∙ append_assoc was.front (was.e ∷ was.at.rest) (l ∷ []);
    };
    here = was.here;
  }

  answered-next : (s : S) → IsFirst k s → (h : List (Entry O R)) (e : Entry O R) → Replays m s h →
      m.reply_of (state_after m s h) e.who e.op ≡ Some e.reply → AreAnswered s h → AreAnswered s (h ++ e ∷ [])
  answered-next s start h e replays reply were =
      record { waiting = λ place. (numbers place).0; decided = λ place. (numbers place).1; each = each } where
        now : S
        now = state_after m s h

        long : k.entries now ≡ length h
        long = let counted = entries-after m k.entries has.counts s h in let new = start.new in omega arith

        numbers : (place : ℕ) →
            (waiting_at place (k.waits (state_after m s (h ++ e ∷ []))) + decisions m k place s (h ++ e ∷ [])
            ≤ opened_at k (h ++ e ∷ []) place)
            × (decided_at place (k.waits (state_after m s (h ++ e ∷ []))) ≤ decisions m k place s (h ++ e ∷ []))
        numbers place =
            let once = each_wait_once m k has s h start replays place in
            let most = opened-most m k has (h ++ e ∷ []) place in
            let last = opened-last m k has h e place in
            let steps = entry-steps m k has now e place reply (most-one s h start replays) in
            let opn = one_if (eqb (k.entries now) place && is_some (k.opens e.op e.reply)) in
            let same : opn ≡ one_if (eqb (length h) place && is_some (k.opens e.op e.reply)) =
            ap (λ (n : ℕ). one_if (eqb n place && is_some (k.opens e.op e.reply))) long in
            let more = decisions-last s h e place in
            let low = were.waiting place in
            let high = were.decided place in
            let next = newly (waiting_at place (k.waits now)) (decided_at place (k.waits now))
            (waiting_at place (k.waits (m.next now e.who e.op))) (decided_at place (k.waits (m.next now e.who e.op)))
            (decisions m k place s h) (opened_at k h place) (count_by (finishes k place) h) opn (one_if (finishes k place e))
            once (omega arith) steps.none_lost steps.none_joins low high in
            let after = state_after-snoc m s h e in (
              subst (λ (t : S). waiting_at place (k.waits t) + decisions m k place s (h ++ e ∷ [])
                  ≤ opened_at k (h ++ e ∷ []) place) (sym after) (let one = next.0 in omega arith),
              subst (λ (t : S). decided_at place (k.waits t) ≤ decisions m k place s (h ++ e ∷ [])) (sym after)
                  (let one = next.1 in omega arith),
            )

        after : List (Decision R)
        after = (k.waits (state_after m s (h ++ e ∷ []))).decided

        by : (d : Decision R) → Contains after d → WereOrNew (k.decides now e.op e.reply) (k.waits now) d →
            WasDecided m k s (h ++ e ∷ []) d
        by d held (inl were_there) =
            was-longer s h e d (All-contains (WasDecided m k s h) (k.waits now).decided d were.each were_there)
        by d held (inr new) = record {
          front = h;
          e = e;
          at = record { rest = []; whole = refl };
          here = record { before = waits-undecided s h start replays new.0 d.place new.1 new.2; after = held };
        }

        each : All (WasDecided m k s (h ++ e ∷ [])) after
        each =
            let P : Decision R → Type 0 = WereOrNew (k.decides now e.op e.reply) (k.waits now) in
            All-weaker (Contains after) (WasDecided m k s (h ++ e ∷ []))
            (λ d held. by d held (All-contains P after d (decided-new s h e reply) held)) after (All-contains_itself after)

  answered-all : (s : S) (h : List (Entry O R)) → IsFirst k s → Replays m s h → AreAnswered s h
  answered-all s h start replays =
      let Q : Waits M R → Type 0 =
      λ ws. ((place : ℕ) → waiting_at place ws + 0 ≤ 0) × ((place : ℕ) → decided_at place ws ≤ 0)
      × All (WasDecided m k s []) ws.decided in
      let none : Q (k.waits s) =
      subst Q (sym start.none) ((λ place. omega arith), (λ place. omega arith), All-nil (WasDecided m k s [])) in
      by_entries m s (AreAnswered s) (answered-next s start) [] h replays
      (record { waiting = none.0; decided = none.1; each = none.2 })

  pub answers_its_one_decision : (s : S) (h : List (Entry O R)) → IsFirst k s → Replays m s h → AnswersItsOneDecision m k s h
  answers_its_one_decision s h start replays front e place at is = by (finish-finds s h start replays front e place at is) where
    before : S
    before = state_after m s front

    were : AreAnswered s front
    were = answered-all s front start (replays-front s h front e replays at)

    by : IsDecided k before (decision place e.who.number e.reply)
        ⊎ ((k.quits e.op ≡ Some place) × (e.reply ≡ k.gives_up) × (decided_at place (k.waits before) ≡ 0)
        × WaitsAt k before place e.who.number) →
        ((decisions m k place s front ≡ 1) × WasDecided m k s front (decision place e.who.number e.reply))
        ⊎ ((decisions m k place s front ≡ 0) × (k.quits e.op ≡ Some place) × (e.reply ≡ k.gives_up))
    by (inl decided) =
        let some = decided-some (k.waits before) (decision place e.who.number e.reply) decided in
        let low = were.waiting place in
        let high = were.decided place in
        let most = opened-most m k has front place in
        inl (
          omega arith,
          All-contains (WasDecided m k s front) (k.waits before).decided
              (decision place e.who.number e.reply) were.each decided,
        )
    by (inr found) =
        let some : 0 < waiting_at place (k.waits before) =
        subst (λ (p : ℕ). 0 < waiting_at p (k.waits before)) found.3.2 (waiting-some (k.waits before) found.3.0 found.3.1) in
        let low = were.waiting place in
        let most = opened-most m k has front place in
        inr (omega arith, found.0, found.1)
