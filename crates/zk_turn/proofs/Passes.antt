-- From the steps of a seat to turns and passes: what a seat knows from step to step, and what that says of the turn and
-- of the pass.
use Rattle.zk_base.specs.Limits.{most_entries}
use Rattle.std.proofs.Common.{◌≡◌, ℕ, ◌+◌, ◌*◌, ◌-◌, ◌<◌, ◌≤◌, max, Bool, true, false, ◌||◌, Some, None, Option, List, [], ◌∷◌, ◌++◌, length, drop, refl, sym, ap, subst, ◌∙◌, arith, eq-eqb}
use Rattle.std.proofs.Math.Seq.{drop-append_seam}
use Rattle.std.proofs.lemmas.List.{length-append}
use Rattle.atomic_table.specs.declared.shared.Seat.{Seat}
use Rattle.atomic_table.specs.Table.{Me, rest}
use Rattle.zk_base.specs.declared.ids.Who.{Who}
use Rattle.zk_base.specs.declared.ids.Entry.{Entry}
use Rattle.zk_base.specs.History.{entry, IsAbove}
use Rattle.zk_base.specs.Touched.{LeavesOthers}
use Rattle.zk_base.specs.Legal.{Machine, IsLegal, state_after}
use Rattle.zk_base.proofs.Histories.{IsLegal-snoc}
use Rattle.zk_turn.specs.declared.views.Stage.TheVariants.{Idle, Waiting}
use Rattle.zk_turn.specs.declared.views.View.{View}
use Rattle.zk_turn.specs.declared.pass.Pass.{Pass}
use Rattle.zk_turn.specs.declared.held.Held.{Held}
use Rattle.zk_turn.specs.declared.cell.Cell.{Cell}
use Rattle.zk_turn.specs.Players.{is_by, room_of_a_pass}
use Rattle.zk_turn.specs.Views.{staged, holding, with_entry, in_flight, with_stamped, left, joined}
use Rattle.zk_turn.specs.Steps.{Fits, out_with}
use Rattle.zk_turn.specs.Passes.{HasAdded, added_count, IsPassOf, IsHeld, IsHeldOf, IsReady, IsPublishing, MayPass, given_to}
use Rattle.zk_turn.specs.Words.{at_rest, KeepsOthers}
use Rattle.zk_turn.proofs.Players.{longer-either, length-longer}

abbrev value_or : {S : Type 0} → S → Option S → S
value_or d None = d
value_or d (Some x) = x

abbrev first_slot : {S : Type 0} → Option S → List (ℕ × Option S) → Option S
first_slot d [] = d
first_slot d (slot ∷ slots) = slot.1

-- the slot that a seat has out
pub slot_again : {S : Type 0} (slots : List (ℕ × Option S)) (x : S) → slots ≡ out_with x → slots ≡ (0, Some x) ∷ rest slots
slot_again {S} slots x is = is ∙ ap (λ (l : List (ℕ × Option S)). (0, Some x) ∷ rest l) (sym is)

-- what came out of the slot is what was taken with the turn
pub taken_out : {S : Type 0} (slots others others' : List (ℕ × Option S)) (x y : S) (o : Option S) →
    slots ≡ (0, Some x) ∷ others → slots ≡ (0, o) ∷ others' → o ≡ Some y → x ≡ y
taken_out slots others others' x y o is is' out = ap (value_or x) (ap (first_slot None) (sym is ∙ is') ∙ out)

same_start : {T : Type 0} (o : Option T) (a b : T) → o ≡ Some a → o ≡ Some b → a ≡ b
same_start o a b is is' = ap (value_or a) (sym is ∙ is')

module _ {O R T : Type 0} where
  left-seen : (added : Bool) (v : View O R T) (h : List (Entry O R)) → HasAdded added v.players v.seen h →
      (left added v h).seen ≡ h
  left-seen false v h is = sym is
  left-seen true v h is = refl

  -- which changes neither of these
  left-keeps : {A : Type 0} (f : View O R T → A) (added : Bool) (v : View O R T) (h : List (Entry O R)) →
      f (with_entry v h) ≡ f v → f (left added v h) ≡ f v
  left-keeps f false v h same = refl
  left-keeps f true v h same = same

  left-made : (added : Bool) (v : View O R T) (h : List (Entry O R)) → (left added v h).made ≡ added_count added + v.made
  left-made false v h = omega arith
  left-made true v h = omega arith

  left-rest : (added : Bool) (v : View O R T) (h : List (Entry O R)) → v.flight ≡ at_rest → (left added v h).flight ≡ at_rest
  left-rest false v h rest = rest
  left-rest true v h rest = refl

module _ {S O R T : Type 0} where
  -- the seat with other knowledge
  abbrev pub knowing : Seat (Option S) (View O R T) → Me (Option S) (View O R T) → Seat (Option S) (View O R T)
  knowing seat m = record { marker = seat.marker; table_id = seat.table_id; id = seat.id; me = m }

  -- what a seat knows that has its turn, with the service in its hand
  abbrev pub in_turn : View O R T → ℕ → ℕ → List (Entry O R) → Me (Option S) (View O R T)
  in_turn v drawn t history = (holding (staged v (Waiting drawn)) t history, (0, None) ∷ [])

  pub slot_taken : (m m' : Me (Option S) (View O R T)) (w : View O R T) (x : S) → m' ≡ (w, (0, Some x) ∷ m.1) →
      m'.1 ≡ (0, Some x) ∷ rest m'.1
  slot_taken m m' w x is = let now = ap (λ (k : Me (Option S) (View O R T)). k.1) is in now
      ∙ ap (λ (l : List (ℕ × Option S)). (0, Some x) ∷ rest l) (sym now)

  -- from the pass by the draw, the await and the exchange
  pub in_turn-from : (v : View O R T) (drawn t : ℕ) (history : List (Entry O R)) (x : S)
      (m0 m1 m2 m3 : Me (Option S) (View O R T)) → m0.0 ≡ v → m0.1 ≡ [] →
      m1 ≡ (staged m0.0 (Waiting drawn), m0.1) → m2 ≡ (holding m1.0 t history, (0, Some x) ∷ m1.1) →
      m3 ≡ (m2.0, (0, None) ∷ rest m2.1) → m3 ≡ in_turn v drawn t history
  in_turn-from v drawn t history x m0 m1 m2 m3 v_is none_out drew came out =
      out ∙ ap (λ (k : Me (Option S) (View O R T)). (k.0, (0, None) ∷ rest k.1)) came
      ∙ ap (λ (k : Me (Option S) (View O R T)). (holding k.0 t history, (0, None) ∷ k.1)) drew
      ∙ ap (λ (u : View O R T). (holding (staged u (Waiting drawn)) t history, (0, None) ∷ m0.1)) v_is
      ∙ ap (λ (l : List (ℕ × Option S)). (holding (staged v (Waiting drawn)) t history, (0, None) ∷ l)) none_out

  -- the turn that comes of it
  pub held_now : (legal : T → List (Entry O R) → Type 0) (start : S → T) (history_of : S →
      List (Entry O R)) (keeps : S → List (Entry O R) → Type 0) (c : Cell S O R T) (p : Pass S O R T) (seat : Seat (Option S) (View O R T)) (x y : S)
      (drawn t : ℕ) (history : List (Entry O R)) → IsPassOf legal start c p → 0 < p.room →
      seat.table_id ≡ p.seat.table_id → seat.me ≡ in_turn p.seat.me.0 drawn t history →
      ((o : T) → p.seat.me.0.start ≡ Some o → Fits start history_of x o history × legal o history) →
      length history ≤ room_of_a_pass * 256 → x ≡ y →
      IsHeldOf legal start history_of keeps c record { seat = seat; service = y; who = p.who; room = p.room; added = false; looked = false }
  held_now legal start history_of keeps c p seat x y drawn t history of_cell some table knows told short same =
      let v = p.seat.me.0 in
      let fits = told (start (given_to c)) of_cell.start in
      let fits_y = subst (λ z. Fits start history_of z (start (given_to c)) history) same fits.0 in
      let now : IsHeld legal start history_of keeps record {
        seat = knowing seat (in_turn v drawn t history);
        service = y;
        who = p.who;
        room = p.room;
        added = false;
        looked = false;
      } = record {
        holds = (t, refl);
        slots = refl;
        first = of_cell.first;
        room = (let room = of_cell.room in omega arith);
        some_room = λ fresh. some;
        start = of_cell.start ∙ ap Some (sym fits_y.start);
        added = fits_y.history;
        lawful = subst (λ s. legal s (history_of y)) (sym fits_y.start)
            (subst (λ l. legal (start (given_to c)) l) (sym fits_y.history) fits.1);
        short = short;
        rest = refl;
        kept = λ wrong. absurd (cc);
      } in
      record {
        table = table ∙ of_cell.table;
        words = of_cell.words ∙ ap (λ (n : ℕ). 3 + n) (sym (ap (λ (k : Me (Option S) (View O R T)). k.0.words) knows));
        held = subst (λ (k : Me (Option S) (View O R T)). IsHeld legal start history_of keeps record {
          seat = knowing seat k;
          service = y;
          who = p.who;
          room = p.room;
          added = false;
          looked = false;
        }) (sym knows) now;
        same_start = fits_y.start;
      }

  -- the service lies in the slot again
  pub back_in : (m m' : Me (Option S) (View O R T)) (x : S) → m.1 ≡ (0, None) ∷ [] → m' ≡ (m.0, (0, Some x) ∷ rest m.1) →
      m' ≡ (m.0, out_with x)
  back_in m m' x slots is = is ∙ ap (λ (l : List (ℕ × Option S)). (m.0, (0, Some x) ∷ rest l)) slots

  -- the entry may be published
  pub ready_now : (legal : T → List (Entry O R) → Type 0) (start : S → T) (history_of : S → List (Entry O R))
      (keeps : S → List (Entry O R) → Type 0) (h : Held S O R T) → IsHeld legal start history_of keeps h → h.added ≡ true →
      IsReady legal start history_of h.service h.seat.me.0
  ready_now legal start history_of keeps h held added =
      let one = subst (λ b. HasAdded b h.seat.me.0.players h.seat.me.0.seen (history_of h.service)) added held.added in
      let count = ap added_count added in
      let room = held.room in
      record {
        ticket = held.holds.0;
        entry = one.0;
        holds = held.holds.1;
        start = held.start;
        longer = one.1;
        lawful = held.lawful;
        mine = one.2;
        room = omega arith;
        short = held.short;
        rest = held.rest;
      }

  -- and is in flight once it is announced
  pub publishing_now : (legal : T → List (Entry O R) → Type 0) (start : S → T) (history_of : S → List (Entry O R)) (x : S)
      (v : View O R T) → IsReady legal start history_of x v →
      IsPublishing legal start history_of x (in_flight v (drop (length v.seen) (history_of x)))
  publishing_now legal start history_of x v ready =
      let one = ap (drop (length v.seen)) ready.longer ∙ drop-append_seam v.seen (ready.entry ∷ []) in
      record {
        ticket = ready.ticket;
        entry = ready.entry;
        holds = ready.holds;
        start = ready.start;
        pending = one;
        longer = ready.longer ∙ ap (λ l. v.seen ++ l) (sym one);
        lawful = ready.lawful;
        mine = ready.mine;
        room = ready.room;
        short = ready.short;
      }

  -- whatever is ready for it
  pub publishing_stamped : (legal : T → List (Entry O R) → Type 0) (start : S → T) (history_of : S → List (Entry O R)) (x : S)
      (v : View O R T) (indices : List ℕ) → IsPublishing legal start history_of x v →
      IsPublishing legal start history_of x (with_stamped v indices)
  publishing_stamped legal start history_of x v indices p = record {
    ticket = p.ticket;
    entry = p.entry;
    holds = p.holds;
    start = p.start;
    pending = p.pending;
    longer = p.longer;
    lawful = p.lawful;
    mine = p.mine;
    room = p.room;
    short = p.short;
  }

  -- the turn may be passed on
  pub may_pass_now : (legal : T → List (Entry O R) → Type 0) (start : S → T) (history_of : S →
      List (Entry O R)) (keeps : S → List (Entry O R) → Type 0) (h : Held S O R T) (m : Me (Option S) (View O R T)) →
      IsHeld legal start history_of keeps h → m ≡ (left h.added h.seat.me.0 (history_of h.service), out_with h.service) →
      MayPass (Fits start history_of) m
  may_pass_now legal start history_of keeps h m held is =
      let v = h.seat.me.0 in
      let past = history_of h.service in
      let there : MayPass (Fits start history_of) (left h.added v past, out_with h.service) = record {
        ticket = held.holds.0;
        service = h.service;
        holds = left-keeps (λ u. u.stage) h.added v past refl ∙ held.holds.1;
        out = refl;
        fit = λ o is_o. record {
          history = sym (left-seen h.added v past held.added);
          start = same_start v.start (start h.service) o held.start (sym (left-keeps (λ u. u.start) h.added v past refl) ∙ is_o);
        };
        rest = left-rest h.added v past held.rest;
      } in
      subst (λ k. MayPass (Fits start history_of) k) (sym is) there

  -- what a seat knows once it has passed on
  abbrev pub free : Bool → View O R T → List (Entry O R) → Me (Option S) (View O R T)
  free added v h = (staged (left added v h) Idle, [])

  pub free-from : (added : Bool) (v : View O R T) (h : List (Entry O R)) (x : S) (m m' : Me (Option S) (View O R T)) →
      m ≡ (left added v h, out_with x) → m' ≡ (staged m.0 Idle, rest m.1) → m' ≡ free added v h
  free-from added v h x m m' was is = is ∙ ap (λ (k : Me (Option S) (View O R T)). (staged k.0 Idle, rest k.1)) was

  -- what a seat knows that gives the service back
  pub given_back : (added : Bool) (v : View O R T) (h : List (Entry O R)) (x : S) (m0 m1 m2 : Me (Option S) (View O R T)) →
      m0.0 ≡ v → m0.1 ≡ (0, None) ∷ [] → m1 ≡ (left added m0.0 h, m0.1) → m2 ≡ (m1.0, (0, Some x) ∷ rest m1.1) →
      m2 ≡ (left added v h, out_with x)
  given_back added v h x m0 m1 m2 same slots published exchanged =
      exchanged ∙ ap (λ (k : Me (Option S) (View O R T)). (k.0, (0, Some x) ∷ rest k.1)) published
      ∙ ap (λ (l : List (ℕ × Option S)). (left added m0.0 h, (0, Some x) ∷ rest l)) slots
      ∙ ap (λ (u : View O R T). (left added u h, out_with x)) same

  -- the pass that comes of it
  pub pass_now : (legal : T → List (Entry O R) → Type 0) (start : S → T) (history_of : S →
      List (Entry O R)) (keeps : S → List (Entry O R) → Type 0) (c : Cell S O R T) (h : Held S O R T)
      (seat : Seat (Option S) (View O R T)) (front : ℕ) → IsHeldOf legal start history_of keeps c h → seat.table_id ≡ h.seat.table_id →
      seat.me ≡ free h.added h.seat.me.0 (history_of h.service) → front ≡ length (history_of h.service) →
      IsPassOf legal start c record { seat = seat; who = h.who; room = h.room; front = front }
  pass_now legal start history_of keeps c h seat front of_cell table knows long =
      let held = of_cell.held in
      let v = h.seat.me.0 in
      let past = history_of h.service in
      let seen = left-seen h.added v past held.added in
      let players = left-keeps (λ u. u.players) h.added v past refl in
      let made = left-made h.added v past in
      let now : IsPassOf legal start c record {
        seat = knowing seat (free h.added v past);
        who = h.who;
        room = h.room;
        front = front;
      } = record {
        table = table ∙ of_cell.table;
        idle = refl;
        slots = refl;
        first = (held.first.0, players ∙ held.first.1);
        room = (let room = held.room in let same = ap (λ (ws : List Who). length ws) players in omega arith);
        start = left-keeps (λ u. u.start) h.added v past refl ∙ held.start ∙ ap Some of_cell.same_start;
        front = long ∙ ap (λ (l : List (Entry O R)). length l) (sym seen);
        lawful = subst (λ l. legal (start (given_to c)) l) (sym seen) (subst (λ s. legal s past) of_cell.same_start held.lawful);
        words = of_cell.words ∙ ap (λ (n : ℕ). 3 + n) (sym (left-keeps (λ u. u.words) h.added v past refl));
      } in
      subst (λ (k : Me (Option S) (View O R T)). IsPassOf legal start c record {
        seat = knowing seat k;
        who = h.who;
        room = h.room;
        front = front;
      }) (sym knows) now

  -- what it has seen, its players and its turns
  pub free-seen : (added : Bool) (v : View O R T) (h : List (Entry O R)) (m : Me (Option S) (View O R T)) →
      HasAdded added v.players v.seen h → m ≡ free added v h → m.0.seen ≡ h
  free-seen added v h m one is = ap (λ (k : Me (Option S) (View O R T)). k.0.seen) is ∙ left-seen added v h one

  pub free-players : (added : Bool) (v : View O R T) (h : List (Entry O R)) (m : Me (Option S) (View O R T)) →
      m ≡ free added v h → m.0.players ≡ v.players
  free-players added v h m is = ap (λ (k : Me (Option S) (View O R T)). k.0.players) is
      ∙ left-keeps (λ u. u.players) added v h refl

  -- the joined pass
  pub joined_now : (legal : T → List (Entry O R) → Type 0) (start : S → T) (c : Cell S O R T) (p q : Pass S O R T)
      (seat : Seat (Option S) (View O R T)) (front : ℕ) →
      IsPassOf legal start c p → IsPassOf legal start c q → seat.table_id ≡ p.seat.table_id →
      seat.me ≡ (joined p.seat.me.0 q.seat.me.0, p.seat.me.1) → front ≡ max p.front q.front →
      IsPassOf legal start c record { seat = seat; who = p.who; room = p.room; front = front }
  joined_now legal start c p q seat front mine theirs table knows long =
      let v = p.seat.me.0 in
      let w = q.seat.me.0 in
      let first = mine.room in
      let second = theirs.room in
      let both = length-append v.players w.players in
      let now : IsPassOf legal start c record {
        seat = knowing seat (joined v w, p.seat.me.1);
        who = p.who;
        room = p.room;
        front = front;
      } = record {
        table = table ∙ mine.table;
        idle = refl;
        slots = mine.slots;
        first = (mine.first.0 ++ w.players, ap (λ (ws : List Who). ws ++ w.players) mine.first.1);
        room = omega arith;
        start = mine.start;
        front = long ∙ ap (λ (n : ℕ). max n q.front) mine.front ∙ ap (λ (n : ℕ). max (length v.seen) n) theirs.front
            ∙ length-longer v.seen w.seen;
        lawful = longer-either (legal (start (given_to c))) v.seen w.seen mine.lawful theirs.lawful;
        words = mine.words;
      } in
      subst (λ (k : Me (Option S) (View O R T)). IsPassOf legal start c record {
        seat = knowing seat k;
        who = p.who;
        room = p.room;
        front = front;
      }) (sym knows) now

  -- a turn in which no entry was added has room in the history
  pub short_now : (legal : T → List (Entry O R) → Type 0) (start : S → T) (history_of : S →
      List (Entry O R)) (keeps : S → List (Entry O R) → Type 0) (h : Held S O R T) → IsHeld legal start history_of keeps h → h.added ≡ false →
      length (history_of h.service) < most_entries
  short_now legal start history_of keeps h held fresh =
      let same = subst (λ b. HasAdded b h.seat.me.0.players h.seat.me.0.seen (history_of h.service)) fresh held.added in
      let long = ap (λ (l : List (Entry O R)). length l) same in
      let short = held.short in omega arith

  -- the turn with its entry
  pub acted_now : (m : Machine T O R) (start : S → T) (history_of : S → List (Entry O R)) (value : T → ℕ → ℕ)
      (words : ℕ) (touched : S → List ℕ) (h : Held S O R T) (x : S)
      (step : ℕ) (op : O) (reply : R) →
      IsHeld (IsLegal m) start history_of (KeepsOthers m start history_of value words touched) h → h.added ≡ false → h.seat.me.0.players ≡ h.who ∷ [] →
      IsAbove (history_of h.service) h.who.number step → m.in_range (start h.service) op ≡ true →
      m.reply_of (state_after m (start h.service) (history_of h.service)) h.who op ≡ Some reply →
      history_of x ≡ history_of h.service ++ entry h.who step op reply ∷ [] → start x ≡ start h.service →
      LeavesOthers words (touched x) (value (state_after m (start h.service) (history_of h.service)))
      (value (state_after m (start x) (history_of x))) →
      IsHeld (IsLegal m) start history_of (KeepsOthers m start history_of value words touched) record { seat = h.seat; service = x; who = h.who; room = h.room - 1; added = true; looked = h.looked }
  acted_now m start history_of value words touched h x step op reply held fresh alone later range gives grew same leaves =
      let e = entry h.who step op reply in
      let was = subst (λ b. HasAdded b h.seat.me.0.players h.seat.me.0.seen (history_of h.service)) fresh held.added in
      let some = held.some_room fresh in
      let legal = IsLegal-snoc m (start h.service) (history_of h.service) e held.lawful gives later range in
      record {
        holds = held.holds;
        slots = held.slots;
        first = held.first;
        room = let count = ap added_count fresh in let room = held.room in omega arith;
        some_room = λ wrong. absurd (cc);
        start = held.start ∙ ap Some (sym same);
        added = (
          e,
          grew ∙ ap (λ (l : List (Entry O R)). l ++ e ∷ []) was,
          subst (λ (ws : List Who). is_by ws e ≡ true) (sym alone)
              (ap (λ b. b || false) (eq-eqb h.who.number h.who.number refl)),
        );
        lawful = subst (λ s. IsLegal m s (history_of x)) (sym same) (subst (λ l. IsLegal m (start h.service) l) (sym grew) legal);
        short = held.short;
        rest = held.rest;
        kept = λ now. subst (λ (l : List (Entry O R)). LeavesOthers words (touched x) (value (state_after m (start x) l))
            (value (state_after m (start x) (history_of x)))) was
            (subst (λ (s : T). LeavesOthers words (touched x) (value (state_after m s (history_of h.service)))
            (value (state_after m (start x) (history_of x)))) (sym same) leaves);
      }
