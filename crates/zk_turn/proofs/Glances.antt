-- From the steps of a seat to words that are stamped, and to passes that have looked.
use Rattle.std.proofs.Common.{◌≡◌, ◌⊎◌, inl, inr, ⊎_elim, ℕ, zero, suc, ◌+◌, ◌*◌, ◌-◌, ◌<◌, ◌≤◌, max, Bool, true, false, ◌||◌, Some, Option, List, [], ◌∷◌, ◌++◌, length, get_or, refl, sym, ap, subst, ◌∙◌, arith, eqb}
use Rattle.std.proofs.lemmas.Bool.{cases_lt, cases_Bool, eqb-true, or_cases}
use Rattle.std.proofs.lemmas.List.{length-append, get_or_append_left, get_or_push}
use Rattle.atomic_table.specs.declared.shared.Seat.{Seat}
use Rattle.atomic_table.specs.Table.{Me, Step}
use Rattle.zk_base.specs.declared.ids.Entry.{Entry}
use Rattle.zk_base.specs.Touched.{is_touched, LeavesOthers}
use Rattle.zk_turn.specs.declared.views.View.{View}
use Rattle.zk_turn.specs.declared.pass.Pass.{Pass}
use Rattle.zk_turn.specs.declared.cell.Cell.{Cell}
use Rattle.zk_turn.specs.Players.{is_by, GoesOn, room_of_a_pass}
use Rattle.zk_turn.specs.Views.{with_stamped, noted, looked}
use Rattle.zk_turn.specs.Words.{position_of, after_of, before_of, AreFirstWords}
use Rattle.zk_turn.specs.Steps.{LoadsCount}
use Rattle.zk_turn.specs.Passes.{IsPassOf, IsPublishing, IsChange, IsStamped, given_to}
use Rattle.zk_turn.proofs.Passes.{knowing}

abbrev first_three : List ℕ
first_three = 0 ∷ 0 ∷ 0 ∷ []

-- the words of a cell that publishes none
pub first_words-none : (value : ℕ → ℕ) → AreFirstWords 0 value first_three
first_words-none value = record {
  long = refl;
  turn = λ i below. nothing i;
  each = λ index below. absurd (omega arith);
  small = λ index below. absurd (omega arith);
} where
  nothing : (i : ℕ) → get_or first_three i 0 ≡ 0
  nothing zero = refl
  nothing (suc zero) = refl
  nothing (suc (suc zero)) = refl
  nothing (suc (suc (suc i))) = refl

-- one word more of a new cell
pub first_words-push : (width : ℕ) (value : ℕ → ℕ) (words : List ℕ) (n : ℕ) → AreFirstWords width value words →
    n ≡ value width * 65536 → value width < 65536 → AreFirstWords (width + 1) value (words ++ n ∷ [])
first_words-push width value words n first is small =
    let long = length-append words (n ∷ []) in
    let was = first.long in
    record {
      long = omega arith;
      turn = λ i below. get_or_append_left words (n ∷ []) 0 i (omega arith) ∙ first.turn i below;
      each = λ index below. ⊎_elim
          (λ less. get_or_append_left words (n ∷ []) 0 (3 + index) (omega arith) ∙ first.each index less)
          (λ more. let here : width ≡ index = omega arith in
          get_or_push words n 0 (3 + index) (omega arith) ∙ is ∙ ap (λ k. value k * 65536) here)
          (cases_lt index width);
      small = λ index below. ⊎_elim (λ less. first.small index less)
          (λ more. let here : width ≡ index = omega arith in subst (λ k. value k < 65536) here small)
          (cases_lt index width);
    }

either_first : (a b : Bool) → a ≡ true → (a || b) ≡ true
either_first true b is = refl
either_first false b is = absurd (cc)

either_second : (a b : Bool) → b ≡ true → (a || b) ≡ true
either_second true b is = refl
either_second false b is = is

-- an index more is ready
pub touched-more : (touched stamped : List ℕ) (index i : ℕ) → (is_touched touched i ≡ true → is_touched stamped i ≡ true) →
    is_touched (touched ++ index ∷ []) i ≡ true → is_touched (index ∷ stamped) i ≡ true
touched-more [] stamped index i each is =
    ⊎_elim (λ here. either_first (eqb index i) (is_touched stamped i) here) (λ none. absurd (cc)) (or_cases (eqb index i) false is)
touched-more (t ∷ ts) stamped index i each is = ⊎_elim
    (λ here. either_second (eqb index i) (is_touched stamped i) (each (either_first (eqb t i) (is_touched ts i) here)))
    (λ behind. touched-more ts stamped index i (λ there. each (either_second (eqb t i) (is_touched ts i) there)) behind)
    (or_cases (eqb t i) (is_touched (ts ++ index ∷ []) i) is)

-- one that isn't below a number is none of those below it
pub touched-past : (touched : List ℕ) (index i : ℕ) → i < index → is_touched (touched ++ index ∷ []) i ≡ true →
    is_touched touched i ≡ true
touched-past [] index i below is =
    ⊎_elim (λ here. let same = eqb-true index i here in absurd (omega arith)) (λ none. absurd (cc)) (or_cases (eqb index i) false is)
touched-past (t ∷ ts) index i below is = ⊎_elim
    (λ here. either_first (eqb t i) (is_touched ts i) here)
    (λ behind. either_second (eqb t i) (is_touched ts i) (touched-past ts index i below behind))
    (or_cases (eqb t i) (is_touched (ts ++ index ∷ []) i) is)

-- where the touched words are ready, and the others as they were, the entry in flight may be counted
pub may_count : (words : ℕ) (touched stamped : List ℕ) (old new : ℕ → ℕ) → LeavesOthers words touched old new →
    (i : ℕ) → i < words → (is_touched touched i ≡ true → is_touched stamped i ≡ true) →
    (is_touched stamped i ≡ true) ⊎ (new i ≡ old i)
may_count words touched stamped old new leaves i below each =
    ⊎_elim (λ is. inl (each is)) (λ not. inr (leaves i below not)) (cases_Bool (is_touched touched i))

module _ {O R T : Type 0} where
  -- a change is as it was where the seat knows the same
  pub change_still : (word : T → List (Entry O R) → ℕ → ℕ) (index after place : ℕ) (v u : View O R T) → u ≡ v →
      IsChange word index after place v → IsChange word index after place u
  change_still word index after place v u same c = record {
    ticket = c.ticket;
    entry = c.entry;
    start = c.start;
    holds = ap (λ (x : View O R T). x.stage) same ∙ c.holds;
    begins = ap (λ (x : View O R T). x.start) same ∙ c.begins;
    pending = ap (λ (x : View O R T). x.flight.pending) same ∙ c.pending;
    mine = ap (λ (x : View O R T). is_by x.players c.entry) same ∙ c.mine;
    value = c.value ∙ sym (ap (λ (x : View O R T). word c.start (x.seen ++ x.flight.pending) index) same);
    small = c.small;
    place = c.place ∙ sym (ap (λ (x : View O R T). length x.seen + 1) same);
    short = subst (λ (x : View O R T). length x.seen ≤ room_of_a_pass * 256) (sym same) c.short;
  }

module _ {S O R T : Type 0} where
  -- what is ready from index to index
  pub stamped_none : (words : ℕ) (m : Me (Option S) (View O R T)) → IsStamped words [] m m
  stamped_none words m = record { stamped = m.0.flight.stamped; now = refl; each = λ i below is. absurd (cc) }

  pub stamped_more : (words : ℕ) (touched : List ℕ) (index : ℕ) (m m1 m2 : Me (Option S) (View O R T)) →
      IsStamped words touched m m1 → m2 ≡ (with_stamped m1.0 (index ∷ m1.0.flight.stamped), m1.1) →
      IsStamped words (touched ++ index ∷ []) m m2
  stamped_more words touched index m m1 m2 s is = record {
    stamped = index ∷ s.stamped;
    now = is ∙ ap (λ (k : Me (Option S) (View O R T)). (with_stamped k.0 (index ∷ k.0.flight.stamped), k.1)) s.now;
    each = λ i below there. touched-more touched s.stamped index i (s.each i below) there;
  }

  pub stamped_past : (words : ℕ) (touched : List ℕ) (index : ℕ) (m m1 : Me (Option S) (View O R T)) → words ≤ index →
      IsStamped words touched m m1 → IsStamped words (touched ++ index ∷ []) m m1
  stamped_past words touched index m m1 past s = record {
    stamped = s.stamped;
    now = s.now;
    each = λ i below there. s.each i below (touched-past touched index i (omega arith) there);
  }

module _ {S O R T : Type 0} (legal : T → List (Entry O R) → Type 0) (word : T → List (Entry O R) → ℕ → ℕ) where
  -- what a seat has that has loaded a word and then the count
  pub record HasLooked (start : T) (index found count : ℕ) (m m' : Me (Option S) (View O R T)) : Type 0 where
    pub history : List (Entry O R)
    pub now : m' ≡ (looked m.0 history, m.1)
    pub goes_on : GoesOn m.0.players m.0.seen history
    pub lawful : legal start history
    pub settled : position_of found ≤ count → (length history ≡ max (position_of found) (length m.0.seen))
        × (word start history index ≡ after_of found)
    pub flying : count < position_of found → (length history ≡ count) × (word start history index ≡ before_of found)

  pub has_looked : (start : T) (index found count : ℕ) (step : Step (Option S)) (m m1 m2 m3 : Me (Option S) (View O R T)) →
      m1 ≡ m → m2 ≡ (noted m1.0 (record { index = index; word = found }), m1.1) → LoadsCount legal word step m2 count m3 →
      m.0.start ≡ Some start → HasLooked start index found count m m3
  has_looked start index found count step m m1 m2 m3 same loaded counted begins =
      let now : m2 ≡ (noted m.0 (record { index = index; word = found }), m.1) =
      loaded ∙ ap (λ (k : Me (Option S) (View O R T)). (noted k.0 (record { index = index; word = found }), k.1)) same in
      let told = subst (λ k. LoadsCount legal word step k count m3) now counted in
      let it = told (record { index = index; word = found }) start refl begins in
      record {
        history = it.history;
        now = it.now;
        goes_on = it.goes_on;
        lawful = it.lawful;
        settled = it.settled;
        flying = it.flying;
      }

  -- the look that it gives
  pub look_says : (start : T) (index found count front value at : ℕ) (m m' : Me (Option S) (View O R T))
      (l : HasLooked start index found count m m') → front ≡ length m.0.seen →
      (position_of found ≤ count → (at ≡ max (position_of found) front) × (value ≡ after_of found)) →
      (count < position_of found → (at ≡ count) × (value ≡ before_of found)) →
      (at ≡ length l.history) × (value ≡ word start l.history index)
  look_says start index found count front value at m m' l is_front settled flying = ⊎_elim
      (λ above. let mine = flying above in let its = l.flying above in (mine.0 ∙ sym its.0, mine.1 ∙ sym its.1))
      (λ below. let mine = settled below in let its = l.settled below in
      (mine.0 ∙ ap (λ (n : ℕ). max (position_of found) n) is_front ∙ sym its.0, mine.1 ∙ sym its.1))
      (cases_lt count (position_of found))

module _ {S O R T : Type 0} where
  -- the pass that has looked
  pub looked_now : (legal : T → List (Entry O R) → Type 0) (start : S → T) (c : Cell S O R T) (p : Pass S O R T)
      (seat : Seat (Option S) (View O R T)) (history : List (Entry O R)) (front : ℕ) →
      IsPassOf legal start c p → 0 < p.room → seat.table_id ≡ p.seat.table_id →
      seat.me ≡ (looked p.seat.me.0 history, p.seat.me.1) → legal (start (given_to c)) history → front ≡ length history →
      IsPassOf legal start c record { seat = seat; who = p.who; room = p.room - 1; front = front }
  looked_now legal start c p seat history front own some table knows lawful long =
      let room = own.room in
      let now : IsPassOf legal start c record {
        seat = knowing seat (looked p.seat.me.0 history, p.seat.me.1);
        who = p.who;
        room = p.room - 1;
        front = front;
      } = record {
        table = table ∙ own.table;
        idle = own.idle;
        slots = own.slots;
        first = own.first;
        room = omega arith;
        start = own.start;
        front = long;
        lawful = lawful;
        words = own.words;
      } in
      subst (λ (k : Me (Option S) (View O R T)). IsPassOf legal start c record {
        seat = knowing seat k;
        who = p.who;
        room = p.room - 1;
        front = front;
      }) (sym knows) now

  -- the change that the entry in flight makes at an index
  pub change_now : (legal : T → List (Entry O R) → Type 0) (start : S → T) (history_of : S → List (Entry O R))
      (word : T → List (Entry O R) → ℕ → ℕ) (x : S) (v : View O R T) (index after place : ℕ) →
      IsPublishing legal start history_of x v → after ≡ word (start x) (history_of x) index → after < 65536 →
      place ≡ length (history_of x) → IsChange word index after place v
  change_now legal start history_of word x v index after place p is small at_place =
      let long = ap (λ l. length l) p.longer ∙ length-append v.seen v.flight.pending
      ∙ ap (λ (l : List (Entry O R)). length v.seen + length l) p.pending in
      record {
        ticket = p.ticket;
        entry = p.entry;
        start = start x;
        holds = p.holds;
        begins = p.start;
        pending = p.pending;
        mine = p.mine;
        value = is ∙ ap (λ l. word (start x) l index) p.longer;
        small = small;
        place = at_place ∙ long;
        short = p.short;
      }
