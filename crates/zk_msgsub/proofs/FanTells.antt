-- Who is listed after a history of a fan, and what its entries are answered.
use Rattle.std.proofs.Common.{◌≡◌, ℕ, ◌⊎◌, inl, inr, Bool, true, false, not, ◌==◌, ◌&&◌, ◌||◌, cond, List, [], ◌∷◌, ◌++◌, filter, append-nil, append_assoc, refl, sym, ap, subst, ◌∙◌}
use Rattle.std.proofs.lemmas.Bool.{and_from, and_parts, cond-true, cond-false, eq-eqb, eqb-true, false_from_ne_true, or_cases, or_left, or_right}
use Rattle.std.proofs.lemmas.List.Elements.{filter-append, filter_agree}
use Rattle.std.proofs.lemmas.Option.{same_Some}
use Rattle.zk_base.specs.declared.ids.Entry.{Entry}
use Rattle.zk_base.specs.History.{IsEntry}
use Rattle.zk_base.specs.Legal.{Replays, AreInRange, state_after}
use Rattle.zk_base.proofs.Histories.{Replays-front, Replays-rest}
use Rattle.zk_base.proofs.Lists.{All-front}
use Rattle.zk_msgsub.specs.declared.fan_state.FanOp.{FanOp}
use Rattle.zk_msgsub.specs.declared.fan_state.FanOp.TheVariants.{Add, Remove, Open}
use Rattle.zk_msgsub.specs.declared.fan_state.FanReply.{FanReply}
use Rattle.zk_msgsub.specs.declared.fan_state.FanReply.TheVariants.{Done, Already, Inval, Subs}
use Rattle.zk_msgsub.specs.Fan.{Roster, new_fan, are_subscribers, is_in, without, fan_answer, fan_changed, fan_in_range, fan_next, fan_machine}
use Rattle.zk_msgsub.specs.FanLaws.{FanHistory, OfEachFan, is_done, names, is_unchanged, added_for_good, last_added, listed_by, AddedLast, IsListed, OpenTellsTheListed, OpenTellsTheOrder, OpenTellsEachOnce, AddIsTold, RemoveIsTold, MayAlways}
use Rattle.zk_msgsub.proofs.Rosters.{history-kept}
use Rattle.zk_msgsub.proofs.Subscribers.{eqb-sym, filter-but, is_in-append, is_in-filter}

abbrev FanStep : Type 0
FanStep = Entry FanOp FanReply

-- Filters.

filter-all : (xs : List ℕ) → filter (λ n. true) xs ≡ xs
filter-all [] = refl
filter-all (x ∷ xs) = ap (λ (l : List ℕ). x ∷ l) (filter-all xs)

filter-cond : (q : ℕ → Bool) (b : Bool) (x : ℕ) (xs : List ℕ) → filter q (cond b (x ∷ xs) xs) ≡ cond (b && q x)
    (x ∷ filter q xs) (filter q xs)
filter-cond q true x xs = refl
filter-cond q false x xs = refl

filter-twice : (q p : ℕ → Bool) (xs : List ℕ) → filter q (filter p xs) ≡ filter (λ n. p n && q n) xs
filter-twice q p [] = refl
filter-twice q p (x ∷ xs) = filter-cond q (p x) x (filter p xs) ∙ ap (λ (l : List ℕ). cond (p x && q x) (x ∷ l) l)
    (filter-twice q p xs)

-- Who is listed after a history.

not-done : (named u : Bool) → u ≡ (not (named && false) && u)
not-done true u = refl
not-done false u = refl

unnamed : (named u : Bool) → named ≡ false → (not (named && true) && u) ≡ u
unnamed true u is = absurd (cc)
unnamed false u is = refl

named-same : (a b u : Bool) → a ≡ b → (not a && u) ≡ (not (b && true) && u)
named-same true true u same = refl
named-same true false u same = absurd (cc)
named-same false true u same = absurd (cc)
named-same false false u same = refl

unlike : (a u : Bool) → a ≡ false → (not a && u) ≡ u
unlike true u is = absurd (cc)
unlike false u is = refl

add-so : (listed : List ℕ) (n : ℕ) (es : FanHistory) (b : Bool) → is_in listed n ≡ b →
    filter (is_unchanged es) (cond b listed (listed ++ n ∷ [])) ++ last_added es
    ≡ filter (λ m. not ((n == m) && is_done (cond b Already Done)) && is_unchanged es m) listed ++ (added_for_good (Add n)
    (cond b Already Done) es ++ last_added es)
add-so listed n es true is =
    ap (λ (l : List ℕ). l ++ last_added es) (filter_agree (is_unchanged es) (λ m. not ((n == m) && false) && is_unchanged es
    m) (λ m. not-done (n == m) (is_unchanged es m)) listed)
add-so listed n es false is =
    let one = cond (is_unchanged es n) (n ∷ []) [] in
    let others = filter-but (λ m. not ((n == m) && true) && is_unchanged es m) (is_unchanged es) n listed is
    (λ m apart. unnamed (n == m) (is_unchanged es m) (eqb-sym n m ∙ apart)) in
    ap (λ (l : List ℕ). l ++ last_added es) (filter-append (is_unchanged es) listed (n ∷ []))
    ∙ append_assoc (filter (is_unchanged es) listed) one (last_added es)
    ∙ ap (λ (l : List ℕ). l ++ (one ++ last_added es)) (sym others)

remove-so : (listed : List ℕ) (n : ℕ) (es : FanHistory) (b : Bool) → is_in listed n ≡ b →
    filter (is_unchanged es) (without n listed) ≡ filter (λ m. not ((n == m) && is_done (cond b Done Inval)) && is_unchanged
    es m) listed
remove-so listed n es true is =
    filter-twice (is_unchanged es) (λ m. not (m == n)) listed
    ∙ filter_agree (λ m. not (m == n) && is_unchanged es m) (λ m. not ((n == m) && true) && is_unchanged es m)
    (λ m. named-same (m == n) (n == m) (is_unchanged es m) (eqb-sym m n)) listed
remove-so listed n es false is =
    filter-twice (is_unchanged es) (λ m. not (m == n)) listed
    ∙ filter-but (λ m. not (m == n) && is_unchanged es m) (is_unchanged es) n listed is (λ m apart. unlike (m == n)
    (is_unchanged es m) apart)
    ∙ filter_agree (is_unchanged es) (λ m. not ((n == m) && false) && is_unchanged es m) (λ m. not-done (n == m)
    (is_unchanged es m)) listed

changed-so : (listed : List ℕ) (op : FanOp) (es : FanHistory) →
    filter (is_unchanged es) (fan_changed listed op) ++ last_added es
    ≡ filter (λ m. not (names m op && is_done (fan_answer listed op)) && is_unchanged es m) listed ++ (added_for_good op
    (fan_answer listed op) es ++ last_added es)
changed-so listed (Add n) es = add-so listed n es (is_in listed n) refl
changed-so listed (Remove n) es = ap (λ (l : List ℕ). l ++ last_added es) (remove-so listed n es (is_in listed n) refl)
changed-so listed Open es = refl

-- the roster after a history lists those whom the history says
listed-so : (s : Roster) (h : FanHistory) → Replays fan_machine s h → (state_after fan_machine s h).listed ≡ listed_by s.listed h
listed-so s [] replays = sym (append-nil (filter (is_unchanged []) s.listed) ∙ filter-all s.listed)
listed-so s (e ∷ es) replays =
    listed-so (fan_next s e.who e.op) es replays.1 ∙ changed-so s.listed e.op es
    ∙ ap (λ (reply : FanReply). filter (λ m. not (names m e.op && is_done reply) && is_unchanged es m) s.listed ++
    (added_for_good e.op reply es ++ last_added es))
    (same_Some (fan_answer s.listed e.op) e.reply replays.0)

-- The last word on a subscriber.

alone : (b : Bool) → (b || false) ≡ true → b ≡ true
alone true is = refl
alone false is = is

here-true : (op : FanOp) (reply : FanReply) (later : FanHistory) (n : ℕ) → is_in (added_for_good op reply later) n ≡ true →
    (op ≡ Add n) × (reply ≡ Done) × (is_unchanged later n ≡ true)
here-true (Add m) Done later n is = by (is_unchanged later m) refl is where
  by : (b : Bool) → is_unchanged later m ≡ b → is_in (cond b (m ∷ []) []) n ≡ true → (Add m ≡ Add n) × (Done ≡ Done)
      × (is_unchanged later n ≡ true)
  by true kept there =
      let same = eqb-true m n (alone (m == n) there) in
      (ap Add same, refl, ap (is_unchanged later) (sym same) ∙ kept)
  by false gone there = absurd (cc)
here-true (Add m) Already later n is = absurd (cc)
here-true (Add m) Inval later n is = absurd (cc)
here-true (Add m) (Subs subs) later n is = absurd (cc)
here-true (Remove m) reply later n is = absurd (cc)
here-true Open reply later n is = absurd (cc)

added-true : (h : FanHistory) (n : ℕ) → is_in (last_added h) n ≡ true → AddedLast n h
added-true [] n is = absurd (cc)
added-true (e ∷ es) n is = by (or_cases (is_in (added_for_good e.op e.reply es) n) (is_in (last_added es) n)
    (sym (is_in-append (added_for_good e.op e.reply es) (last_added es) n) ∙ is)) (added-true es n) where
      by : (is_in (added_for_good e.op e.reply es) n ≡ true) ⊎ (is_in (last_added es) n ≡ true) → (is_in (last_added es) n
          ≡ true → AddedLast n es) →
          AddedLast n (e ∷ es)
      by (inl here) rest =
          let is = here-true e.op e.reply es n here in
          record { front = []; e = e; rest = es; whole = refl; added = is.0; done = is.1; last = is.2 }
      by (inr later) rest =
          let found = rest later in
          record {
            front = e ∷ found.front;
            e = found.e;
            rest = found.rest;
            whole = ap (λ (l : FanHistory). e ∷ l) found.whole;
            added = found.added;
            done = found.done;
            last = found.last;
          }

here-added : (n : ℕ) (op : FanOp) (reply : FanReply) (later : FanHistory) → op ≡ Add n → reply ≡ Done → is_unchanged later n
    ≡ true →
    is_in (added_for_good op reply later) n ≡ true
here-added n op reply later added done last =
    ap (λ (o : FanOp). is_in (added_for_good o reply later) n) added
    ∙ ap (λ (r : FanReply). is_in (added_for_good (Add n) r later) n) done
    ∙ ap (λ (b : Bool). is_in (cond b (n ∷ []) []) n) last
    ∙ or_left (n == n) false (eq-eqb n n refl)

at-added : (front rest : FanHistory) (e : FanStep) (n : ℕ) → is_in (added_for_good e.op e.reply rest) n ≡ true →
    is_in (last_added (front ++ e ∷ rest)) n ≡ true
at-added [] rest e n is =
    is_in-append (added_for_good e.op e.reply rest) (last_added rest) n ∙ or_left (is_in (added_for_good e.op e.reply rest) n)
    (is_in (last_added rest) n) is
at-added (f ∷ fs) rest e n is =
    let later = fs ++ e ∷ rest in
    is_in-append (added_for_good f.op f.reply later) (last_added later) n
    ∙ or_right (is_in (added_for_good f.op f.reply later) n) (is_in (last_added later) n) (at-added fs rest e n is)

true-added : (h : FanHistory) (n : ℕ) → AddedLast n h → is_in (last_added h) n ≡ true
true-added h n a = ap (λ (l : FanHistory). is_in (last_added l) n) a.whole
    ∙ at-added a.front a.rest a.e n (here-added n a.e.op a.e.reply a.rest a.added a.done a.last)

listed-true : (first : List ℕ) (h : FanHistory) (n : ℕ) → is_in (listed_by first h) n ≡ true → IsListed first n h
listed-true first h n is = by (or_cases (is_in (filter (is_unchanged h) first) n) (is_in (last_added h) n)
    (sym (is_in-append (filter (is_unchanged h) first) (last_added h) n) ∙ is)) where
      by : (is_in (filter (is_unchanged h) first) n ≡ true) ⊎ (is_in (last_added h) n ≡ true) → IsListed first n h
      by (inl kept) = inr (and_parts (is_in first n) (is_unchanged h n) (sym (is_in-filter (is_unchanged h) first n) ∙ kept))
      by (inr added) = inl (added-true h n added)

true-listed : (first : List ℕ) (h : FanHistory) (n : ℕ) → IsListed first n h → is_in (listed_by first h) n ≡ true
true-listed first h n is = is_in-append (filter (is_unchanged h) first) (last_added h) n ∙ by is where
  by : IsListed first n h → (is_in (filter (is_unchanged h) first) n || is_in (last_added h) n) ≡ true
  by (inl added) = or_right (is_in (filter (is_unchanged h) first) n) (is_in (last_added h) n) (true-added h n added)
  by (inr kept) = or_left (is_in (filter (is_unchanged h) first) n) (is_in (last_added h) n)
      (is_in-filter (is_unchanged h) first n ∙ and_from (is_in first n) (is_unchanged h n) kept.0 kept.1)

-- What the entries are answered.

-- the roster after a front
abbrev listed_at : List ℕ → FanHistory → List ℕ
listed_at first front = (state_after fan_machine (new_fan first) front).listed

entry-told : (first : List ℕ) (h front : FanHistory) (e : FanStep) → Replays fan_machine (new_fan first) h → IsEntry h front e →
    e.reply ≡ fan_answer (listed_at first front) e.op
entry-told first h front e replays is =
    let whole = subst (Replays fan_machine (new_fan first)) is.whole replays in
    sym (same_Some (fan_answer (listed_at first front) e.op) e.reply (Replays-rest fan_machine (new_fan first) front
    (e ∷ is.rest) whole).0)

front-so : (first : List ℕ) (h front : FanHistory) (e : FanStep) → Replays fan_machine (new_fan first) h → IsEntry h front e →
    listed_at first front ≡ listed_by first front
front-so first h front e replays is = listed-so (new_fan first) front
    (Replays-front fan_machine (new_fan first) front (e ∷ is.rest) (subst (Replays fan_machine (new_fan first)) is.whole replays))

told-as : (first : List ℕ) (h front : FanHistory) (e : FanStep) (op : FanOp) → Replays fan_machine (new_fan first) h →
    IsEntry h front e → e.op ≡ op →
    e.reply ≡ fan_answer (listed_by first front) op
told-as first h front e op replays is asked =
    entry-told first h front e replays is ∙ ap (fan_answer (listed_at first front)) asked
    ∙ ap (λ (l : List ℕ). fan_answer l op) (front-so first h front e replays is)

abbrev subs_in : FanReply → List ℕ
subs_in (Subs subs) = subs
subs_in reply = []

-- what an open tells is the list
open-list : (first : List ℕ) (h front : FanHistory) (e : FanStep) (subs : List ℕ) → Replays fan_machine (new_fan first) h →
    IsEntry h front e →
    e.op ≡ Open → e.reply ≡ Subs subs → subs ≡ listed_by first front
open-list first h front e subs replays is asked told = ap subs_in (sym told ∙ told-as first h front e Open replays is asked)

pub open_tells_the_listed : OfEachFan OpenTellsTheListed
open_tells_the_listed first are h legal = record {
  told = λ front e subs n is asked told there.
      listed-true first front n (ap (λ (l : List ℕ). is_in l n) (sym (open-list first h front e subs legal.0 is asked told))
      ∙ there);
  all = λ front e subs n is asked told listed.
      ap (λ (l : List ℕ). is_in l n) (open-list first h front e subs legal.0 is asked told) ∙ true-listed first front n listed;
}

pub open_tells_the_order : OfEachFan OpenTellsTheOrder
open_tells_the_order first are h legal = λ front e is asked. told-as first h front e Open legal.0 is asked

pub open_tells_each_once : OfEachFan OpenTellsEachOnce
open_tells_each_once first are h legal = λ front e subs is asked told.
    let P : FanStep → Type 0 = λ f. fan_in_range (new_fan first) f.op ≡ true in
    let in_range : AreInRange fan_machine (new_fan first) front = All-front P front (e ∷ is.rest)
    (subst (AreInRange fan_machine (new_fan first)) is.whole legal.2) in
    let same = open-list first h front e subs legal.0 is asked told ∙ sym (front-so first h front e legal.0 is) in
    ap are_subscribers same ∙ history-kept (new_fan first) (new_fan first) front are in_range

pub add_is_told : OfEachFan AddIsTold
add_is_told first are h legal = record {
  already = λ front e n is asked listed. told-as first h front e (Add n) legal.0 is asked
      ∙ cond-true (is_in (listed_by first front) n) Already Done (true-listed first front n listed);
  done = λ front e n is asked not. told-as first h front e (Add n) legal.0 is asked
      ∙ cond-false (is_in (listed_by first front) n) Already Done
      (false_from_ne_true (is_in (listed_by first front) n) (λ there. not (listed-true first front n there)));
}

pub remove_is_told : OfEachFan RemoveIsTold
remove_is_told first are h legal = record {
  done = λ front e n is asked listed. told-as first h front e (Remove n) legal.0 is asked
      ∙ cond-true (is_in (listed_by first front) n) Done Inval (true-listed first front n listed);
  inval = λ front e n is asked not. told-as first h front e (Remove n) legal.0 is asked
      ∙ cond-false (is_in (listed_by first front) n) Done Inval
      (false_from_ne_true (is_in (listed_by first front) n) (λ there. not (listed-true first front n there)));
}

pub may_always : OfEachFan MayAlways
may_always first are h legal = λ who op. (fan_answer (listed_at first h) op, refl)
