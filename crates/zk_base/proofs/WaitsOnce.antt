-- A wait is there once from its opening until its end.
use Rattle.std.proofs.Common.{◌≡◌, ℕ, zero, suc, ◌+◌, ◌≤◌, Bool, true, false, cond, eqb, ◌&&◌, ◌||◌, Option, Some, None, is_some, option_map, List, [], ◌∷◌, ◌++◌, map, length, refl, sym, ap, subst, ◌∙◌, add-zero, arith}
use Rattle.std.specs.List.{find, count_by}
use Rattle.std.proofs.lemmas.Bool.Decides.{nat_tests}
use Rattle.std.proofs.lemmas.List.Sums.{sum_by-cons, sum_by_push, sum_by-append}
use Rattle.std.proofs.lemmas.Option.{same_Some}
use Rattle.zk_base.specs.declared.ids.Entry.{Entry}
use Rattle.zk_base.specs.declared.waits.Waiter.{Waiter}
use Rattle.zk_base.specs.declared.waits.Decision.{Decision}
use Rattle.zk_base.specs.Legal.{Machine, state_after, Replays}
use Rattle.zk_base.specs.Waits.{Waits, is_served_after, is_waiter, is_decision, decide, decision_of, goes_on, joined, ended, quitted, decides_first, decisions_by, given_up, quit_answer}
use Rattle.zk_base.specs.WaitLaws.{Decides, nobody, first, all, each, WaitKind, after_decision, after_entry, HasWaits, IsFirst, waiting_at, decided_at, is_at, finishes, opened_at, EachWaitOnce, EachEndsOnce}
use Rattle.zk_base.proofs.Histories.{state_after-snoc, entries-after, by_entries}
use Rattle.zk_base.proofs.Firsts.{one_if, any-find, found-passes, without-lost, count-found, count-put_before}
use Rattle.zk_base.proofs.WaitTests.{count-tested}

none_some : {A : Type 0} (x : A) (o : Option A) → o ≡ Some x → o ≡ None → ⊥
none_some x (Some y) some none = absurd (cc)
none_some x None some none = absurd (cc)

pub same-pair : (a b c d : ℕ) → (eqb a b && eqb c d) ≡ true → (a ≡ b) × (c ≡ d)
same-pair a b c d is = grind (arith, nat_tests)

pub eqb-same : (a : ℕ) → eqb a a ≡ true
eqb-same a = grind (arith, nat_tests)

apart-zero : (n : ℕ) → eqb 0 (suc n) ≡ false
apart-zero n = grind (arith, nat_tests)

suc-apart : (n : ℕ) → eqb (suc n) 0 ≡ false
suc-apart n = grind (arith, nat_tests)

same-suc : (a b : ℕ) → eqb (suc a) (suc b) ≡ eqb a b
same-suc a b = by (eqb a b) refl where
  by : (t : Bool) → eqb a b ≡ t → eqb (suc a) (suc b) ≡ t
  by true is = grind (arith, nat_tests)
  by false is = grind (arith, nat_tests)

one-at : (at : ℕ) → one_if (eqb at at) ≡ 1
one-at at = ap one_if (eqb-same at)

module _ {M A : Type 0} where
  -- what is found is the decision of this wait, with its answer
  pub decision-there : (ws : Waits M A) (player at : ℕ) (answer : A) → decision_of ws player at ≡ Some answer →
      find (is_decision player at) ws.decided ≡ Some (record { place = at; player = player; answer = answer })
  decision-there ws player at answer is = by (find (is_decision player at) ws.decided) refl is where
    by : (o : Option (Decision A)) → find (is_decision player at) ws.decided ≡ o →
        option_map (λ (d : Decision A). d.answer) o ≡ Some answer →
        find (is_decision player at) ws.decided ≡ Some (record { place = at; player = player; answer = answer })
    by None found is = absurd (cc)
    by (Some d) found is =
        let same = same-pair d.place at d.player player (found-passes (is_decision player at) ws.decided d found) in
        let made : ℕ → ℕ → A → Option (Decision A) = λ p n a. Some (record { place = p; player = n; answer = a }) in
        found ∙ ap (λ (p : ℕ). made p d.player d.answer) same.0 ∙ ap (λ (n : ℕ). made at n d.answer) same.1
        ∙ ap (made at player) (same_Some d.answer answer is)

  -- an end takes one out, at its place
  decided-ended : (ws : Waits M A) (player at place : ℕ) (answer : A) → decision_of ws player at ≡ Some answer →
      decided_at place ws ≡ one_if (eqb at place) + decided_at place (ended ws player at)
  decided-ended ws player at place answer is =
      count-found (is_decision player at) (λ (d : Decision A). eqb d.place place) ws.decided
      (record { place = at; player = player; answer = answer })
      (decision-there ws player at answer is)

  no-decision : (ws : Waits M A) (player at : ℕ) → decision_of ws player at ≡ None → ended ws player at ≡ ws
  no-decision ws player at none = by (find (is_decision player at) ws.decided) refl none where
    by : (o : Option (Decision A)) → find (is_decision player at) ws.decided ≡ o →
        option_map (λ (d : Decision A). d.answer) o ≡ None → ended ws player at ≡ ws
    by (Some d) found none = absurd (cc)
    by None lost none =
        let made : List (Decision A) → Waits M A = λ ds. record { waiting = ws.waiting; decided = ds } in
        ap made (without-lost (is_decision player at) ws.decided lost)

  -- the waits that go on without one, at its place
  waiting-left : (ws : Waits M A) (player at place : ℕ) (w : Waiter M) → find (is_waiter player at) ws.waiting ≡ Some w →
      waiting_at place ws ≡ one_if (eqb at place) + waiting_at place (quitted ws player at)
  waiting-left ws player at place w found =
      let same = same-pair w.place at w.who.number player (found-passes (is_waiter player at) ws.waiting w found) in
      let here : one_if (eqb w.place place) ≡ one_if (eqb at place) = ap (λ (p : ℕ). one_if (eqb p place)) same.0 in
      let counted = count-found (is_waiter player at) (λ (v : Waiter M). eqb v.place place) ws.waiting w found in
      omega arith

  waiting-kept : (ws : Waits M A) (player at place : ℕ) → find (is_waiter player at) ws.waiting ≡ None →
      waiting_at place (quitted ws player at) ≡ waiting_at place ws
  waiting-kept ws player at place lost = ap (λ (l : List (Waiter M)). count_by (λ (v : Waiter M). eqb v.place place) l)
      (without-lost (is_waiter player at) ws.waiting lost)

  -- what an entry does to the waits of one place
  pub record Steps (ws after : Waits M A) (place opened finished : ℕ) : Type 0 where
    pub none_lost : waiting_at place after + decided_at place after + finished ≡ waiting_at place ws + decided_at place ws
        + opened
    pub none_joins : waiting_at place after ≤ waiting_at place ws + opened

  joined-steps : (ws : Waits M A) (w : Waiter M) (place : ℕ) → Steps ws (joined ws w) place (one_if (eqb w.place place)) 0
  joined-steps ws w place =
      let counted = count-put_before (is_served_after w) (λ (v : Waiter M). eqb v.place place) w ws.waiting in
      record { none_lost = omega arith; none_joins = omega arith }

  ended-steps : (ws : Waits M A) (player at place : ℕ) (answer : A) → decision_of ws player at ≡ Some answer →
      Steps ws (ended ws player at) place 0 (one_if (eqb at place))
  ended-steps ws player at place answer is =
      let counted = decided-ended ws player at place answer is in
      record { none_lost = omega arith; none_joins = omega arith }

  -- where a wait is decided and given up, none of its place goes on
  quitted-decided : (ws : Waits M A) (player at place : ℕ) (answer : A) → waiting_at at ws + decided_at at ws ≤ 1 →
      decision_of ws player at ≡ Some answer → Steps ws (quitted ws player at) place 0 (one_if (eqb at place))
  quitted-decided ws player at place answer most is = by (find (is_waiter player at) ws.waiting) refl where
    by : (o : Option (Waiter M)) → find (is_waiter player at) ws.waiting ≡ o →
        Steps ws (quitted ws player at) place 0 (one_if (eqb at place))
    by (Some w) found =
        let one = one-at at in
        let waiting = waiting-left ws player at at w found in
        let decided = decided-ended ws player at at answer is in
        absurd (omega arith)
    by None lost =
        let kept = waiting-kept ws player at place lost in
        let counted = decided-ended ws player at place answer is in
        record { none_lost = omega arith; none_joins = omega arith }

  quitted-waiting : (ws : Waits M A) (player at place : ℕ) → goes_on ws player at ≡ true →
      decision_of ws player at ≡ None → Steps ws (quitted ws player at) place 0 (one_if (eqb at place))
  quitted-waiting ws player at place goes none = by (find (is_waiter player at) ws.waiting) refl where
    by : (o : Option (Waiter M)) → find (is_waiter player at) ws.waiting ≡ o →
        Steps ws (quitted ws player at) place 0 (one_if (eqb at place))
    by (Some w) found =
        let waiting = waiting-left ws player at place w found in
        let same : decided_at place (quitted ws player at) ≡ decided_at place ws =
        ap (λ (v : Waits M A). decided_at place v) (no-decision ws player at none) in
        record { none_lost = omega arith; none_joins = omega arith }
    by None lost =
        let there = any-find (is_waiter player at) ws.waiting in
        let not_there : is_some (find (is_waiter player at) ws.waiting) ≡ false = ap is_some lost in
        absurd (cc)

  quitted-by : (ws : Waits M A) (player at place : ℕ) (gives_up answer : A) (waits : Bool) (decided : Option A) →
      waiting_at at ws + decided_at at ws ≤ 1 → goes_on ws player at ≡ waits → decision_of ws player at ≡ decided →
      given_up gives_up waits decided ≡ Some answer → Steps ws (quitted ws player at) place 0 (one_if (eqb at place))
  quitted-by ws player at place gives_up answer waits (Some told) most goes is some =
      quitted-decided ws player at place told most is
  quitted-by ws player at place gives_up answer true None most goes is some = quitted-waiting ws player at place goes is
  quitted-by ws player at place gives_up answer false None most goes is some = absurd (cc)

  quitted-steps : (ws : Waits M A) (player at place : ℕ) (gives_up answer : A) → waiting_at at ws + decided_at at ws ≤ 1 →
      quit_answer gives_up ws player at ≡ Some answer → Steps ws (quitted ws player at) place 0 (one_if (eqb at place))
  quitted-steps ws player at place gives_up answer most is =
      quitted-by ws player at place gives_up answer (goes_on ws player at) (decision_of ws player at) most refl refl is

  -- a decision leaves each at its place
  first-steps : (answer : A) (waiting : List (Waiter M)) (decided : List (Decision A)) (place : ℕ) →
      Steps (record { waiting = waiting; decided = decided }) (decides_first answer waiting decided) place 0 0
  first-steps answer [] decided place = record { none_lost = refl; none_joins = omega arith }
  first-steps answer (w ∷ ws) decided place =
      let out = sum_by-cons (λ (v : Waiter M). one_if (eqb v.place place)) w ws in
      let in_ = sum_by_push (λ (d : Decision A). one_if (eqb d.place place)) decided (decide answer w) in
      record { none_lost = omega arith; none_joins = omega arith }

  decided-all : (answer : A) (waiting : List (Waiter M)) (place : ℕ) →
      count_by (λ (d : Decision A). eqb d.place place) (map (decide answer) waiting)
      ≡ count_by (λ (w : Waiter M). eqb w.place place) waiting
  decided-all answer [] place = refl
  decided-all answer (w ∷ ws) place =
      omega (
        arith,
        decided-all answer ws place,
        sum_by-cons (λ (v : Waiter M). one_if (eqb v.place place)) w ws,
        sum_by-cons (λ (d : Decision A). one_if (eqb d.place place)) (decide answer w) (map (decide answer) ws),
      )

  decision-steps : (decides : Decides A M) (ws : Waits M A) (place : ℕ) → Steps ws (after_decision decides ws) place 0 0
  decision-steps nobody ws place = record { none_lost = refl; none_joins = omega arith }
  decision-steps (first answer) ws place = first-steps answer ws.waiting ws.decided place
  decision-steps (all answer) ws place =
      let both = sum_by-append (λ (d : Decision A). one_if (eqb d.place place)) ws.decided (map (decide answer) ws.waiting) in
      let same = decided-all answer ws.waiting place in
      record { none_lost = omega arith; none_joins = omega arith }
  decision-steps (each test) ws place =
      let both = sum_by-append (λ (d : Decision A). one_if (eqb d.place place)) ws.decided (decisions_by test ws.waiting) in
      let same = count-tested test place ws.waiting in
      record { none_lost = omega arith; none_joins = omega arith }

one_both : (b : Bool) → one_if (b && true) ≡ one_if b
one_both true = refl
one_both false = refl

none_both : (b : Bool) → one_if (b && false) ≡ 0
none_both true = refl
none_both false = refl

either_none : (b : Bool) → one_if (b || false) ≡ one_if b
either_none true = refl
either_none false = refl

module _ {S O R M : Type 0} (m : Machine S O R) (k : WaitKind S O R M) (has : HasWaits m k) where
  -- an entry that is possible, of waits that are there once
  pub entry-steps : (s : S) (e : Entry O R) (place : ℕ) → m.reply_of s e.who e.op ≡ Some e.reply →
      ((at : ℕ) → waiting_at at (k.waits s) + decided_at at (k.waits s) ≤ 1) →
      Steps (k.waits s) (k.waits (m.next s e.who e.op)) place
      (one_if (eqb (k.entries s) place && is_some (k.opens e.op e.reply))) (one_if (finishes k place e))
  entry-steps s e place reply most =
      subst (λ (after : Waits M R).
      Steps ws after place (one_if (eqb (k.entries s) place && is_some (k.opens e.op e.reply))) (one_if (finishes k place e)))
      (sym (has.moves s e.who e.op e.reply reply)) (by (k.opens e.op e.reply) (k.ends e.op) (k.quits e.op) refl refl refl) where
        ws : Waits M R
        ws = k.waits s

        by : (opens : Option M) (ends quits : Option ℕ) → k.opens e.op e.reply ≡ opens → k.ends e.op ≡ ends →
            k.quits e.op ≡ quits →
            Steps ws (after_entry ws (k.entries s) e.who (k.decides s e.op e.reply) opens ends quits) place
            (one_if (eqb (k.entries s) place && is_some opens)) (one_if (is_at place ends || is_at place quits))
        by (Some payload) None None o en q =
            let w : Waiter M = record { place = k.entries s; who = e.who; payload = payload } in
            subst (λ (n : ℕ). Steps ws (joined ws w) place n 0) (sym (one_both (eqb (k.entries s) place)))
            (joined-steps ws w place)
        by (Some payload) (Some at) quits o en q =
            absurd (none_some at (k.ends e.op) en ((has.opens_alone e.op e.reply payload o).0))
        by (Some payload) None (Some at) o en q =
            absurd (none_some at (k.quits e.op) q ((has.opens_alone e.op e.reply payload o).1))
        by None (Some at) (Some to) o en q = absurd (none_some to (k.quits e.op) q (has.ends_alone e.op at en))
        by None (Some at) None o en q =
            let steps = ended-steps ws e.who.number at place e.reply (sym (has.ends s e.who e.op at en) ∙ reply) in
            subst (λ (n : ℕ). Steps ws (ended ws e.who.number at) place n (one_if (eqb at place || false)))
            (sym (none_both (eqb (k.entries s) place)))
            (subst (λ (n : ℕ). Steps ws (ended ws e.who.number at) place 0 n) (sym (either_none (eqb at place))) steps)
        by None None (Some at) o en q =
            let steps = quitted-steps ws e.who.number at place k.gives_up e.reply (most at)
            (sym (has.quits s e.who e.op at q) ∙ reply) in
            subst (λ (n : ℕ). Steps ws (quitted ws e.who.number at) place n (one_if (eqb at place)))
            (sym (none_both (eqb (k.entries s) place))) steps
        by None None None o en q =
            subst (λ (n : ℕ). Steps ws (after_decision (k.decides s e.op e.reply) ws) place n 0)
            (sym (none_both (eqb (k.entries s) place))) (decision-steps (k.decides s e.op e.reply) ws place)

  pub opened-last : (h : List (Entry O R)) (e : Entry O R) (place : ℕ) →
      opened_at k (h ++ e ∷ []) place ≡ opened_at k h place + one_if (eqb (length h) place && is_some (k.opens e.op e.reply))
  opened-last [] e zero = omega arith
  opened-last [] e (suc place) = let none = ap (λ (b : Bool). one_if (b && is_some (k.opens e.op e.reply)))
      (apart-zero place) in omega arith
  opened-last (f ∷ fs) e zero =
      let none = ap (λ (b : Bool). one_if (b && is_some (k.opens e.op e.reply))) (suc-apart (length fs)) in
      omega (arith, add-zero (opened_at k (f ∷ fs) zero))
  opened-last (f ∷ fs) e (suc place) =
      let same = ap (λ (b : Bool). one_if (b && is_some (k.opens e.op e.reply))) (same-suc (length fs) place) in
      let rest = opened-last fs e place in
      omega arith

  pub opened-most : (h : List (Entry O R)) (place : ℕ) → opened_at k h place ≤ 1
  opened-most [] place = omega arith
  opened-most (e ∷ es) zero = by (is_some (k.opens e.op e.reply)) where
    by : (b : Bool) → cond b 1 0 ≤ 1
    by true = omega arith
    by false = omega arith
  opened-most (e ∷ es) (suc place) = opened-most es place

  -- after this history, each wait is there once until its end
  abbrev pub AreOnce : List (Entry O R) → Waits M R → Type 0
  AreOnce h ws = (place : ℕ) → waiting_at place ws + decided_at place ws + count_by (finishes k place) h ≡ opened_at k h place

  pub once-most : (h : List (Entry O R)) (ws : Waits M R) → AreOnce h ws → (place : ℕ) →
      waiting_at place ws + decided_at place ws ≤ 1
  once-most h ws once place = let here = once place in let most = opened-most h place in omega arith

  pub once-next : (h : List (Entry O R)) (s : S) (e : Entry O R) → m.reply_of s e.who e.op ≡ Some e.reply →
      k.entries s ≡ length h → AreOnce h (k.waits s) → AreOnce (h ++ e ∷ []) (k.waits (m.next s e.who e.op))
  once-next h s e reply long once place =
      let steps = (entry-steps s e place reply (once-most h (k.waits s) once)).none_lost in
      let here = once place in
      let opened = opened-last h e place in
      let same = ap (λ (n : ℕ). one_if (eqb n place && is_some (k.opens e.op e.reply))) long in
      let ended = sum_by_push (λ (f : Entry O R). one_if (finishes k place f)) h e in
      omega arith

  pub each_wait_once : (s : S) (h : List (Entry O R)) → IsFirst k s → Replays m s h → EachWaitOnce m k s h
  each_wait_once s h start replays =
      let P : List (Entry O R) → Type 0 = λ g. AreOnce g (k.waits (state_after m s g)) in
      let none : P [] = subst (AreOnce []) (sym start.none) (λ place. refl) in
      let step : (g : List (Entry O R)) (e : Entry O R) → Replays m s g → m.reply_of (state_after m s g) e.who e.op
      ≡ Some e.reply → P g → P (g ++ e ∷ []) =
      λ g e were reply once.
      let counted = entries-after m k.entries has.counts s g in
      let new = start.new in
      subst (λ (t : S). AreOnce (g ++ e ∷ []) (k.waits t)) (sym (state_after-snoc m s g e))
      (once-next g (state_after m s g) e reply (omega arith) once) in
      by_entries m s P step [] h replays none

  pub each_ends_once : (s : S) (h : List (Entry O R)) → IsFirst k s → Replays m s h → EachEndsOnce m k s h
  each_ends_once s h start replays place =
      let once = each_wait_once s h start replays place in
      let most = opened-most h place in
      omega arith
