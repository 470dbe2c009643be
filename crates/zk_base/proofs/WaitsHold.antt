-- The laws of waits, of every machine that has them.
use Rattle.std.proofs.Common.{◌≡◌, ℕ, Bool, true, false, cond, Option, Some, None, List, [], ◌∷◌, ◌++◌, map, length, All, refl, sym, ap, subst, ◌∙◌, append_assoc, append-nil, arith}
use Rattle.std.specs.List.{slice_get}
use Rattle.std.proofs.lemmas.List.{length-append}
use Rattle.std.proofs.lemmas.List.Elements.{All-nil, All-cons, All-head, All-tail, All-append, All-weaker, All-filter}
use Rattle.std.proofs.lemmas.Option.{same_Some}
use Rattle.zk_base.specs.declared.ids.Who.{Who}
use Rattle.zk_base.specs.declared.ids.Entry.{Entry}
use Rattle.zk_base.specs.declared.waits.Waiter.{Waiter}
use Rattle.zk_base.specs.declared.waits.Decision.{Decision}
use Rattle.zk_base.specs.Legal.{Machine, state_after, Replays}
use Rattle.zk_base.specs.Lists.{put_before, without_first}
use Rattle.zk_base.specs.Waits.{Waits, is_served_after, is_waiter, is_decision, decide, decides_first, is_left, decisions_by}
use Rattle.zk_base.specs.WaitLaws.{Decides, nobody, first, all, each, WaitKind, after_decision, after_entry, HasWaits, IsFirst, WasOpened, WasOpenedBy, EachWaitHasItsOpening}
use Rattle.zk_base.proofs.WaitTests.{IfDecided, All-decisions}

module _ {A : Type 0} (P : A → Type 0) (p : A → Bool) where
  All-either : (x : A) (xs ys zs : List A) (b : Bool) → All P ys → All P zs → All P (cond b ys zs)
  All-either x xs ys zs true left right = left
  All-either x xs ys zs false left right = right

  -- what holds of each holds of each with one more, and with one less
  pub All-put_before : (x : A) (xs : List A) → P x → All P xs → All P (put_before p x xs)
  All-put_before x [] here held = All-cons P x [] here held
  All-put_before x (y ∷ ys) here held =
      All-either y ys (x ∷ y ∷ ys) (y ∷ put_before p x ys) (p y) (All-cons P x (y ∷ ys) here held)
      (All-cons P y (put_before p x ys) (All-head P y ys held) (All-put_before x ys here (All-tail P y ys held)))

  pub All-without : (xs : List A) → All P xs → All P (without_first p xs)
  All-without [] held = held
  All-without (x ∷ xs) held =
      All-either x xs xs (x ∷ without_first p xs) (p x) (All-tail P x xs held)
      (All-cons P x (without_first p xs) (All-head P x xs held) (All-without xs (All-tail P x xs held)))

-- one entry stands at a place
entry-at : {A : Type 0} (front rest : List A) (e : A) → slice_get (front ++ e ∷ rest) (length front) ≡ Some e
entry-at [] rest e = refl
entry-at (f ∷ front) rest e = entry-at front rest e

module _ {S O R M : Type 0} (m : Machine S O R) (k : WaitKind S O R M) (has : HasWaits m k) where
  -- what was opened stays opened in a longer history
  opened-longer : (h : List (Entry O R)) (l : Entry O R) (place : ℕ) (who : Who) (payload : M) →
      WasOpened k h place who payload → WasOpened k (h ++ l ∷ []) place who payload
  opened-longer h l place who payload was = record {
    front = was.front;
    e = was.e;
    at = record {
      rest = was.at.rest ++ l ∷ [];
      whole = ap (λ (g : List (Entry O R)). g ++ l ∷ []) was.at.whole
          ∙ append_assoc was.front (was.e ∷ was.at.rest) (l ∷ []);
    };
    there = was.there;
    by = was.by;
    opening = was.opening;
  }

  opened_by-longer : (h : List (Entry O R)) (l : Entry O R) (d : Decision R) → WasOpenedBy k h d → WasOpenedBy k (h ++ l ∷ []) d
  opened_by-longer h l d was = (was.0, was.1, was.2, opened-longer h l d.place was.0 was.1 was.3)

  -- it was opened by the entry at its place
  opened-at : (h : List (Entry O R)) (place : ℕ) (who : Who) (payload : M) → (was : WasOpened k h place who payload) →
      slice_get h place ≡ Some was.e
  opened-at h place who payload was =
      ap (λ (l : List (Entry O R)). slice_get l place) was.at.whole
      ∙ ap (slice_get (was.front ++ was.e ∷ was.at.rest)) (sym was.there) ∙ entry-at was.front was.at.rest was.e

  -- so by one player, and for one thing
  pub opened-same : (h : List (Entry O R)) (place : ℕ) (who other : Who) (payload another : M) →
      WasOpened k h place who payload → WasOpened k h place other another → (who ≡ other) × (payload ≡ another)
  opened-same h place who other payload another was also =
      let same = same_Some was.e also.e (sym (opened-at h place who payload was) ∙ opened-at h place other another also) in
      let opening = ap (λ (e : Entry O R). k.opens e.op e.reply) same in (
        sym was.by ∙ ap (λ (e : Entry O R). e.who) same ∙ also.by,
        same_Some payload another (sym was.opening ∙ opening ∙ also.opening),
      )

  -- all of some waits were opened
  abbrev pub AreOpened : List (Entry O R) → Waits M R → Type 0
  AreOpened h ws = All (λ (w : Waiter M). WasOpened k h w.place w.who w.payload) ws.waiting × All (WasOpenedBy k h) ws.decided

  are-longer : (h : List (Entry O R)) (l : Entry O R) (ws : Waits M R) → AreOpened h ws → AreOpened (h ++ l ∷ []) ws
  are-longer h l ws were = (
    All-weaker (λ (w : Waiter M). WasOpened k h w.place w.who w.payload)
        (λ (w : Waiter M). WasOpened k (h ++ l ∷ []) w.place w.who w.payload)
        (λ w was. opened-longer h l w.place w.who w.payload was) ws.waiting were.0,
    All-weaker (WasOpenedBy k h) (WasOpenedBy k (h ++ l ∷ [])) (opened_by-longer h l) ws.decided were.1,
  )

  decided-opened : (h : List (Entry O R)) (answer : R) (w : Waiter M) → WasOpened k h w.place w.who w.payload →
      WasOpenedBy k h (decide answer w)
  decided-opened h answer w was = (w.who, w.payload, refl, was)

  all-opened : (h : List (Entry O R)) (answer : R) (ws : List (Waiter M)) →
      All (λ (w : Waiter M). WasOpened k h w.place w.who w.payload) ws → All (WasOpenedBy k h) (map (decide answer) ws)
  all-opened h answer [] were = All-nil (WasOpenedBy k h)
  all-opened h answer (w ∷ ws) were =
      let P : Waiter M → Type 0 = λ (w : Waiter M). WasOpened k h w.place w.who w.payload in
      All-cons (WasOpenedBy k h) (decide answer w) (map (decide answer) ws)
      (decided-opened h answer w (All-head P w ws were)) (all-opened h answer ws (All-tail P w ws were))

  first-opened : (h : List (Entry O R)) (answer : R) (waiting : List (Waiter M)) (decided : List (Decision R)) →
      All (λ (w : Waiter M). WasOpened k h w.place w.who w.payload) waiting → All (WasOpenedBy k h) decided →
      AreOpened h (decides_first answer waiting decided)
  first-opened h answer [] decided were was = (were, was)
  first-opened h answer (w ∷ ws) decided were was =
      let P : Waiter M → Type 0 = λ (w : Waiter M). WasOpened k h w.place w.who w.payload in (
        All-tail P w ws were,
        All-append (WasOpenedBy k h) decided (decide answer w ∷ []) was
            (All-cons (WasOpenedBy k h) (decide answer w) [] (decided-opened h answer w (All-head P w ws were))
            (All-nil (WasOpenedBy k h))),
      )

  decision-opened : (h : List (Entry O R)) (decides : Decides R M) (ws : Waits M R) → AreOpened h ws →
      AreOpened h (after_decision decides ws)
  decision-opened h nobody ws were = were
  decision-opened h (first answer) ws were = first-opened h answer ws.waiting ws.decided were.0 were.1
  decision-opened h (all answer) ws were = (
    All-nil (λ (w : Waiter M). WasOpened k h w.place w.who w.payload),
    All-append (WasOpenedBy k h) ws.decided (map (decide answer) ws.waiting) were.1 (all-opened h answer ws.waiting were.0),
  )
  decision-opened h (each test) ws were =
      let P : Waiter M → Type 0 = λ (w : Waiter M). WasOpened k h w.place w.who w.payload in (
        All-filter (is_left test) P ws.waiting were.0,
        All-append (WasOpenedBy k h) ws.decided (decisions_by test ws.waiting) were.1
            (All-decisions test (WasOpenedBy k h) ws.waiting (All-weaker P (IfDecided test (WasOpenedBy k h))
            (λ w was answer is. decided-opened h answer w was) ws.waiting were.0)),
      )

  entry-opened : (h : List (Entry O R)) (e : Entry O R) (ws : Waits M R) (place : ℕ) (decides : Decides R M)
      (opens : Option M) (ends quits : Option ℕ) →
      length h ≡ place → k.opens e.op e.reply ≡ opens → AreOpened (h ++ e ∷ []) ws →
      AreOpened (h ++ e ∷ []) (after_entry ws place e.who decides opens ends quits)
  entry-opened h e ws place decides (Some payload) ends quits long opens were =
      let w : Waiter M = record { place = place; who = e.who; payload = payload } in
      let P : Waiter M → Type 0 = λ (w : Waiter M). WasOpened k (h ++ e ∷ []) w.place w.who w.payload in
      let here : P w = record {
        front = h;
        e = e;
        at = record { rest = []; whole = refl };
        there = long;
        by = refl;
        opening = opens;
      } in
      (All-put_before P (is_served_after w) w ws.waiting here were.0, were.1)
  entry-opened h e ws place decides None (Some at) quits long opens were =
      (were.0, All-without (WasOpenedBy k (h ++ e ∷ [])) (is_decision e.who.number at) ws.decided were.1)
  entry-opened h e ws place decides None None (Some at) long opens were = (
    All-without (λ (w : Waiter M). WasOpened k (h ++ e ∷ []) w.place w.who w.payload) (is_waiter e.who.number at)
        ws.waiting were.0,
    All-without (WasOpenedBy k (h ++ e ∷ [])) (is_decision e.who.number at) ws.decided were.1,
  )
  entry-opened h e ws place decides None None None long opens were = decision-opened (h ++ e ∷ []) decides ws were

  opened-all : (h : List (Entry O R)) (s : S) (es : List (Entry O R)) → Replays m s es → k.entries s ≡ length h →
      AreOpened h (k.waits s) → AreOpened (h ++ es) (k.waits (state_after m s es))
  opened-all h s [] replays long were = subst (λ (g : List (Entry O R)). AreOpened g (k.waits s)) (sym (append-nil h)) were
  opened-all h s (e ∷ es) replays long were =
      let moved = has.moves s e.who e.op e.reply replays.0 in
      let here = entry-opened h e (k.waits s) (k.entries s) (k.decides s e.op e.reply) (k.opens e.op e.reply)
      (k.ends e.op) (k.quits e.op) (sym long) refl (are-longer h e (k.waits s) were) in
      let next = m.next s e.who e.op in
      let counted = has.counts s e.who e.op in
      let longer = length-append h (e ∷ []) in
      let rest = opened-all (h ++ e ∷ []) next es replays.1 (omega arith) (subst (AreOpened (h ++ e ∷ [])) (sym moved) here) in
      subst (λ (g : List (Entry O R)). AreOpened g (k.waits (state_after m next es))) (append_assoc h (e ∷ []) es) rest

  pub each_wait_has_its_opening : (s : S) (h : List (Entry O R)) → IsFirst k s → Replays m s h → EachWaitHasItsOpening m k s h
  each_wait_has_its_opening s h start replays =
      let none : AreOpened [] (k.waits s) =
      subst (AreOpened []) (sym start.none) (
        All-nil (λ (w : Waiter M). WasOpened k [] w.place w.who w.payload),
        All-nil (WasOpenedBy k []),
      ) in
      opened-all [] s h replays start.new none
