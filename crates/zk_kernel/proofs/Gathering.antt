-- The passes of callers put together.
use Rattle.std.proofs.Common.{◌≡◌, ◌≢◌, ℕ, ◌+◌, ◌-◌, ◌<◌, take, Bool, true, false, ◌||◌, Some, None, Ok, Err, Option, Result, List, [], ◌∷◌, ◌++◌, length, All, refl, sym, ap, subst, ◌∙◌, arith, eqb, append-nil}
use Rattle.std.proofs.lemmas.Bool.{eq-eqb}
use Rattle.std.specs.Prelude.{IfSome, IfOk, option_to_list, map, reverse}
use Rattle.std.proofs.lemmas.List.{map_push, reverse-append, append_assoc, length-append}
use Rattle.std.proofs.lemmas.List.Elements.{All-nil, All-cons, All-append, All-weaker, All-pop}
use Rattle.zk_base.specs.declared.ids.Who.{Who}
use Rattle.zk_base.specs.declared.ids.Entry.{Entry}
use Rattle.zk_base.specs.declared.seen.Seen.{Seen}
use Rattle.zk_base.specs.declared.errors.NoMemory.{NoMemory}
use Rattle.zk_turn.specs.declared.pass.Pass.{Pass}
use Rattle.zk_turn.specs.declared.cell.Cell.{Cell}
use Rattle.zk_turn.specs.Players.{is_by, has, GoesOn}
use Rattle.zk_worker.specs.Places.{PlayerPlace}
use Rattle.zk_worker.specs.Single.{OthersGrew}
use Rattle.zk_worker.specs.Families.{EachGrew}
use Rattle.zk_worker.specs.Shown.{Shown, AllGrew}
use Rattle.zk_worker.proofs.Between.{looks-none, grew-none_each, between-none, between-both}
use Rattle.zk_kernel.specs.declared.caller.Caller.{Caller}
use Rattle.zk_cells.specs.declared.cells.Cells.{Cells}
use Rattle.zk_cells.specs.declared.notes.Note.{Note}
use Rattle.zk_cells.specs.declared.passes.Passes.{Passes}
use Rattle.zk_kernel.specs.Callers.{place_of, shown_to, shown_by}
use Rattle.zk_visit.specs.Seats.{IsAt}
use Rattle.zk_cells.specs.Desks.{IsServed, desk_shown}
use Rattle.zk_cells.specs.Lasting.{late}
use Rattle.zk_cells.specs.Notes.{writes_at}
use Rattle.zk_cells.specs.Signals.{looks_at_number}
use Rattle.zk_cells.specs.Rows.{AreSeats}
use Rattle.zk_cells.specs.Joined.{StandsFor, AllStand, EachGoesOn, AreFor, AllGoOn, whos, numbers_of, left_at, HaveShared}
use Rattle.zk_kernel.specs.Gathered.{players_of, noted_by, found_at, all_noted, all_found, IsAmong, AreGathered, AreTogether}
use Rattle.zk_cells.proofs.Noted.{left-append}
use Rattle.zk_cells.proofs.Sharing.{own-shared, shared-same}

has_left : (ws us : List Who) (n : ℕ) → has ws n ≡ true → has (ws ++ us) n ≡ true
has_left [] us n is = absurd (cc)
has_left (w ∷ ws) us n is = of (eqb w.number n) is (has_left ws us n) where
  of : (b : Bool) → (b || has ws n) ≡ true → (has ws n ≡ true → has (ws ++ us) n ≡ true) → (b || has (ws ++ us) n) ≡ true
  of true e f = refl
  of false e f = f e

has_right : (ws us : List Who) (n : ℕ) → has us n ≡ true → has (ws ++ us) n ≡ true
has_right [] us n is = is
has_right (w ∷ ws) us n is = of (eqb w.number n) (has_right ws us n is) where
  of : (b : Bool) → has (ws ++ us) n ≡ true → (b || has (ws ++ us) n) ≡ true
  of true e = refl
  of false e = e

pub has_self : (w : Who) → has (w ∷ []) w.number ≡ true
has_self w = ap (λ b. b || false) (eq-eqb w.number w.number refl)

module _ {O R : Type 0} where
  -- what goes on without all of these goes on without one of them
  pub grew_many : (ws : List Who) (n : ℕ) (seen h : List (Entry O R)) → has ws n ≡ true → GoesOn ws seen h → OthersGrew n seen h
  grew_many ws n seen h among goes =
      let P : Entry O R → Type 0 = λ e. is_by ws e ≡ false in
      let Q : Entry O R → Type 0 = λ e. e.who.number ≢ n in
      record { more = goes.later; longer = goes.longer; others = All-weaker P Q differs goes.later goes.others }
    where
      differs : (e : Entry O R) → is_by ws e ≡ false → e.who.number ≢ n
      differs e not = λ same. let is = subst (λ (k : ℕ). has ws k ≡ true) (sym same) among in absurd (cc)

  grew_each : (ws : List Who) (n : ℕ) (old new : List (List (Entry O R))) → has ws n ≡ true → EachGoesOn ws old new → EachGrew n old new
  grew_each ws n [] [] among goes = tt
  grew_each ws n [] (h ∷ hs) among goes = absurd goes
  grew_each ws n (o ∷ os) [] among goes = absurd goes
  grew_each ws n (o ∷ os) (h ∷ hs) among goes = (grew_many ws n o h among goes.0, grew_each ws n os hs among goes.1)

-- what is shown to a caller goes on as the cells' histories do
pub late-grew : (ws : List Who) (n : ℕ) (mine old new : Shown) → has ws n ≡ true → AllGoOn ws old new → AllGrew n (late mine old) (late mine new)
late-grew ws n mine old new among goes = record {
  work = grew_many ws n old.work new.work among goes.work;
  clock = grew_many ws n old.clock new.clock among goes.clock;
  table = grew_many ws n old.table new.table among goes.table;
  sems = grew_each ws n old.sems new.sems among goes.sems;
  msgqs = grew_each ws n old.msgqs new.msgqs among goes.msgqs;
  signals = grew-none_each n mine.signals;
  chans = grew_each ws n old.chans new.chans among goes.chans;
  observers = grew_each ws n old.observers new.observers among goes.observers;
  looks = looks-none mine.looks;
  looked = refl;
}

module _ {S O R T : Type 0} (legal : T → List (Entry O R) → Type 0) (start : S → T) (who : Who) where
  own_stands : (c : Cell S O R T) (looked : ℕ) (o : Option (Pass S O R T)) → IsAt legal start c who looked o → StandsFor legal start (who ∷ []) c o
  own_stands c looked None is = is
  own_stands c looked (Some p) is = record { of_cell = is.of_cell; players = is.only }

  own_stand : (cs : List (Option (Cell S O R T))) (ps : List (Option (Pass S O R T))) → AreSeats legal start who cs ps → AllStand legal start (who ∷ []) cs ps
  own_stand [] [] all = tt
  own_stand [] (p ∷ ps) all = absurd all
  own_stand (c ∷ cs) [] all = absurd all
  own_stand (None ∷ cs) (None ∷ ps) all = (tt, own_stand cs ps all.1)
  own_stand (None ∷ cs) (Some p ∷ ps) all = absurd all.0
  own_stand (Some c ∷ cs) (p ∷ ps) all = (own_stands c 0 p all.0, own_stand cs ps all.1)

pub served_for : (c : Cells) (p : Passes) (who : Who) → IsServed c p who → AreFor c (who ∷ []) p
served_for c p who is = record {
  work = own_stands _ _ who c.work p.looked p.work is.work;
  clock = own_stands _ _ who c.clock 0 p.clock is.clock;
  table = own_stands _ _ who c.table 0 p.table is.table;
  sems = own_stand _ _ who c.sems.items p.sems.items is.sems;
  msgqs = own_stand _ _ who c.msgqs.items p.msgqs.items is.msgqs;
  chans = own_stand _ _ who c.chans.items p.chans.items is.chans;
  observers = own_stand _ _ who c.observers.items p.observers.items is.observers;
}

-- what is noted with one caller more, and what was found
noted-push : (callers : List Caller) (x : Caller) → all_noted (callers ++ x ∷ []) ≡ all_noted callers ++ noted_by x.passes
noted-push [] x = append-nil (noted_by x.passes)
noted-push (c ∷ callers) x =
    ap (λ (l : List Note). noted_by c.passes ++ l) (noted-push callers x)
    ∙ sym (append_assoc (noted_by c.passes) (all_noted callers) (noted_by x.passes))

found-push : (callers : List Caller) (x : Caller) (object : ℕ) → all_found (callers ++ x ∷ []) object ≡ all_found callers object ++ found_at x.passes object
found-push [] x object = append-nil (found_at x.passes object)
found-push (c ∷ callers) x object =
    ap (λ (l : List Seen). found_at c.passes object ++ l) (found-push callers x object)
    ∙ sym (append_assoc (found_at c.passes object) (all_found callers object) (found_at x.passes object))

players-push : (callers : List Caller) (x : Caller) → players_of (callers ++ x ∷ []) ≡ players_of callers ++ (place_of x).who ∷ []
players-push callers x = ap whos (map_push place_of callers x) ∙ map_push (λ (a : PlayerPlace). a.who) (map place_of callers) (place_of x)

-- what a caller's own passes noted and found at signals
pub own-noted : (c : Cells) (p : Passes) (who : Who) → IsServed c p who →
    HaveShared (who.number ∷ []) (left_at p.notes.items) (looks_at_number p.signals.items) c.signals.items p.signals.items
own-noted c p who served = own-shared who (writes_at p.notes.items) c.signals.items p.signals.items served.signals

-- the passes of the first caller
pub first_together : (c : Cells) (p : Passes) (x : Caller) → x.passes ≡ Some p → IsServed c p (place_of x).who → AreGathered c (x ∷ []) p
first_together c p x is served =
    let who = (place_of x).who in
    let Q : Caller → Type 0 = IsAmong (who ∷ []) p in
    let noted : p.notes.items ≡ noted_by x.passes ++ [] = sym (append-nil (noted_by x.passes) ∙ ap noted_by is) in
    record {
      stand = served_for c p who served;
      notes = noted;
      signals = shared-same (who.number ∷ []) (left_at p.notes.items) (left_at (noted_by x.passes ++ [])) (looks_at_number p.signals.items) (all_found (x ∷ [])) c.signals.items p.signals.items
          (λ k. ap (λ (l : List Note). left_at l k) noted)
          (λ k. sym (append-nil (found_at x.passes k) ∙ ap (λ (o : Option Passes). found_at o k) is))
          (own-noted c p who served);
      kept = All-cons Q x [] (record {
        among = has_self who;
        seen = subst (λ (o : Option Passes). AllGrew who.number (shown_by o) (late (shown_by o) (desk_shown p))) (sym is) (between-none false who.number (desk_shown p));
      }) (All-nil Q);
    }

-- one caller more
pub more_together : (c : Cells) (into other now : Passes) (callers : List Caller) (x : Caller) → AreGathered c callers into → x.passes ≡ Some other →
    AreFor c (players_of callers ++ (place_of x).who ∷ []) now → AllGoOn (players_of callers) (desk_shown into) (desk_shown now) → AllGoOn ((place_of x).who ∷ []) (desk_shown other) (desk_shown now) →
    now.notes.items ≡ into.notes.items ++ other.notes.items →
    HaveShared (numbers_of (players_of callers) ++ (place_of x).who.number ∷ []) (λ k. left_at (all_noted callers) k ++ left_at other.notes.items k) (λ k. all_found callers k ++ looks_at_number other.signals.items k)
    c.signals.items now.signals.items →
    AreGathered c (callers ++ x ∷ []) now
more_together c into other now callers x gathered is stand goes goes' noted shared =
    let ws = players_of callers in
    let who = (place_of x).who in
    let us : List Who = who ∷ [] in
    let told : players_of (callers ++ x ∷ []) ≡ ws ++ us = players-push callers x in
    let numbers : numbers_of (players_of (callers ++ x ∷ [])) ≡ numbers_of ws ++ who.number ∷ [] = ap numbers_of told ∙ map_push (λ (w : Who). w.number) ws who in
    let all : all_noted (callers ++ x ∷ []) ≡ all_noted callers ++ other.notes.items = noted-push callers x ∙ ap (λ (o : Option Passes). all_noted callers ++ noted_by o) is in
    let P : Caller → Type 0 = IsAmong ws into in
    let Q : Caller → Type 0 = IsAmong (ws ++ us) now in
    let still : (y : Caller) → P y → Q y = λ y among.
    let n = (place_of y).who.number in
    record {
      among = has_left ws us n among.among;
      seen = between-both false n (shown_to y) (late (shown_to y) (desk_shown into)) (late (shown_to y) (desk_shown now)) among.seen
          (late-grew ws n (shown_to y) (desk_shown into) (desk_shown now) among.among goes);
    } in
    let here : Q x = record {
      among = has_right ws us who.number (has_self who);
      seen = subst (λ (o : Option Passes). AllGrew who.number (shown_by o) (late (shown_by o) (desk_shown now))) (sym is)
          (late-grew us who.number (desk_shown other) (desk_shown other) (desk_shown now) (has_self who) goes');
    } in
    record {
      stand = subst (λ (l : List Who). AreFor c l now) (sym told) stand;
      notes = noted ∙ ap (λ (l : List Note). l ++ other.notes.items) gathered.notes ∙ sym all;
      signals = subst (λ (l : List ℕ). HaveShared l (left_at (all_noted (callers ++ x ∷ []))) (all_found (callers ++ x ∷ [])) c.signals.items now.signals.items) (sym numbers)
          (shared-same (numbers_of ws ++ who.number ∷ []) (λ k. left_at (all_noted callers) k ++ left_at other.notes.items k) (left_at (all_noted (callers ++ x ∷ [])))
          (λ k. all_found callers k ++ looks_at_number other.signals.items k) (all_found (callers ++ x ∷ [])) c.signals.items now.signals.items
          (λ k. sym (ap (λ (l : List Note). left_at l k) all ∙ left-append (all_noted callers) other.notes.items k))
          (λ k. sym (found-push callers x k ∙ ap (λ (o : Option Passes). all_found callers k ++ found_at o k) is))
          shared);
      kept = subst (λ (l : List Who). All (IsAmong l now) (callers ++ x ∷ [])) (sym told)
          (All-append Q callers (x ∷ []) (All-weaker P Q still callers gathered.kept) (All-cons Q x [] here (All-nil Q)));
    }

-- the callers taken so far, and those that are left
pub split-next : (xs ys : List Caller) (r : Option Caller) (c : Caller) (front : List Caller) → xs ≡ ys ++ option_to_list r → r ≡ Some c → front ++ reverse xs ≡ (front ++ c ∷ []) ++ reverse ys
split-next xs ys r c front items is =
    ap (λ (l : List Caller). front ++ reverse l) (items ∙ ap (λ (o : Option Caller). ys ++ option_to_list o) is)
    ∙ ap (λ (l : List Caller). front ++ l) (reverse-append ys (c ∷ []))
    ∙ sym (append_assoc front (c ∷ []) (reverse ys))

-- the last caller is taken
pub popped : (P : Caller → Type 0) (xs ys : List Caller) (r : Option Caller) (c : Caller) → xs ≡ ys ++ option_to_list r → r ≡ Some c → All P xs → All P ys × P c
popped P xs ys r c items is all =
    let both = All-pop P xs ys r items all in
    (both.0, subst (λ (o : Option Caller). IfSome o P) is both.1)

pub one_fewer : (xs ys : List Caller) (r : Option Caller) (c : Caller) → xs ≡ ys ++ option_to_list r → r ≡ Some c → length xs ≡ length ys + 1
one_fewer xs ys r c items is = ap (λ (l : List Caller). length l) items ∙ ap (λ (o : Option Caller). length (ys ++ option_to_list o)) is ∙ length-append ys (c ∷ [])

-- the passes of one caller more, by its own
pub gathered-next : (cells kept : Cells) (all : Option Passes) (p : Passes) (x : Caller) (result : Result Passes NoMemory) → cells ≡ kept → x.passes ≡ Some p → IsServed kept p (place_of x).who →
    IfOk result (λ made. (callers : List Caller) (c : Caller) → AreTogether cells callers all → c.passes ≡ Some p → IsServed cells p (place_of c).who → AreGathered cells (callers ++ c ∷ []) made) →
    IfOk result (λ made. (callers : List Caller) → AreTogether kept callers all → AreGathered kept (callers ++ x ∷ []) made)
gathered-next cells kept all p x (Err e) same is served made = tt
gathered-next cells kept all p x (Ok now) same is served made = λ callers together.
    subst (λ (cs : Cells). AreGathered cs (callers ++ x ∷ []) now) same
    (made callers x (subst (λ (cs : Cells). AreTogether cs callers all) (sym same) together) is (subst (λ (cs : Cells). IsServed cs p (place_of x).who) (sym same) served))

-- nothing is left where none could be taken
pub none-left : (left now : List Caller) (n : ℕ) → left ≡ now ++ [] → now ≡ take (n - 1) left → n ≡ 0 → left ≡ []
none-left left now n items rest none = items ∙ ap (λ (l : List Caller). l ++ []) (rest ∙ ap (λ (k : ℕ). take (k - 1) left) none)

-- all callers were taken
taken-all : (callers front left : List Caller) → callers ≡ front ++ reverse left → left ≡ [] → callers ≡ front
taken-all callers front left split none = split ∙ ap (λ (l : List Caller). front ++ reverse l) none ∙ append-nil front

pub gathered-whole : (c : Cells) (callers front left : List Caller) (o : Option Passes) (all : Passes) → AreTogether c front o → o ≡ Some all → callers ≡ front ++ reverse left → left ≡ [] → AreGathered c callers all
gathered-whole c callers front left o all together is split none =
    subst (λ (cs : List Caller). AreGathered c cs all) (sym (taken-all callers front left split none))
    (subst (λ (p : Option Passes). AreTogether c front p) is together)

pub placed-whole : (players : List PlayerPlace) (callers front left : List Caller) → players ≡ map place_of front → callers ≡ front ++ reverse left → left ≡ [] → players ≡ map place_of callers
placed-whole players callers front left placed split none = placed ∙ ap (map place_of) (sym (taken-all callers front left split none))

-- and there were some
pub some-gathered : (c : Cells) (callers front left : List Caller) (o : Option Passes) (n : ℕ) → 0 < n → length callers ≡ n → AreTogether c front o → o ≡ None → callers ≡ front ++ reverse left → left ≡ [] → ⊥
some-gathered c callers front left o n some many together is split none =
    let empty : front ≡ [] = subst (λ (p : Option Passes). AreTogether c front p) is together in
    let long : length callers ≡ 0 = ap (λ (l : List Caller). length l) (taken-all callers front left split none ∙ empty) in
    omega arith
