-- Two seats become one and keep the rule.
use Rattle.std.proofs.Common.{◌≡◌, ◌≢◌, ⊎_elim, ℕ, ◌+◌, ◌<◌, ◌||◌, true, List, length, set, sym, ap, subst, ◌∙◌, arith}
use Rattle.std.specs.List.{sum_by}
use Rattle.std.proofs.lemmas.Bool.{or_cases, or_left, or_right}
use Rattle.std.proofs.lemmas.List.{set_comm, length-append}
use mathlib.Core.Option.{some}
use native.Mathlib.Decide.{ℕ_discrete}
use lib.ListN.{get_elem?}
use Rattle.atomic_table.specs.Table.{Joins}
use Rattle.atomic_table.proofs.Lists.{at_set, set_else}
use Rattle.zk_base.specs.declared.ids.Entry.{Entry}
use Rattle.zk_turn.specs.declared.views.Stage.TheVariants.{Idle}
use Rattle.zk_turn.specs.declared.views.View.{View}
use Rattle.zk_turn.specs.Players.{has, is_by, longer}
use Rattle.zk_turn.specs.Views.{joined, spent}
use Rattle.zk_turn.specs.Turn.{ticket_count, HoldsTurn, SeatStands, AreApart, IsCovered, player_count, tickets_of, made_of, SomeHolds, LookStands, Turn}
use Rattle.zk_turn.proofs.Players.{has-append, GoesOn-nobody, BothGoOn, GoesOn-longer}
use Rattle.zk_turn.proofs.Seats.{at-same, at-set_there, sum-set, apart-turned, AllApart-set}
use Rattle.zk_turn.proofs.Moving.{idle_holds_none, Turn-views}

module _ {S O R T : Type 0} (legal : T → List (Entry O R) → Type 0) (fits : S → T → List (Entry O R) → Type 0)
    (word : T → List (Entry O R) → ℕ → ℕ) (width : ℕ) where
  pub merges : (origin : T) (count id other : ℕ) (v w : View O R T) → v.stage ≡ Idle → w.stage ≡ Idle → 0 < length v.players →
      Joins (Turn legal fits word width origin count) id v other w (joined v w) spent
  merges origin count id other v w idle idle' some_one s r at differ at_after =
      subst (λ (l : List (View O R T)). Turn legal fits word width origin count record { words = s.words; homes = s.homes; views = l })
      (sym (set_comm s.views id other (joined v w) spent (λ same. differ (sym same)))) merged
    where
      at' : get_elem? s.views other ≡ some w
      at' = sym (set_else s.views id other (joined v w) differ) ∙ at_after

      without : List (View O R T)
      without = set s.views other spent

      at_without : get_elem? without id ≡ some v
      at_without = set_else s.views other id spent (λ same. differ (sym same)) ∙ at

      sums : (f : View O R T → ℕ) → f (joined v w) + f spent ≡ f v + f w →
          sum_by f (set without id (joined v w)) ≡ sum_by f s.views
      sums f both = let first = sum-set f s.views other w spent at' in
          let second = sum-set f without id v (joined v w) at_without in omega arith

      both_seen : BothGoOn v.players w.players v.seen w.seen r.history (longer v.seen w.seen)
      both_seen = GoesOn-longer v.players w.players v.seen w.seen r.history (r.each id v at).seen (r.each other w at').seen

      joined_stands : SeatStands origin r.history r.served r.drawn (joined v w)
      joined_stands =
          let first = r.each id v at in
          let second = r.each other w at' in
          let room = first.room in
          let room' = second.room in
          let long = length-append v.players w.players in
          record {
            seen = both_seen.whole;
            ticket = tt;
            room = omega arith;
            player = omega arith;
            parts = (both_seen.first, (both_seen.second, tt));
            start = λ many. first.start some_one;
          }

      spent_stands : SeatStands origin r.history r.served r.drawn spent
      spent_stands = record {
        seen = GoesOn-nobody r.history;
        ticket = tt;
        room = omega arith;
        player = omega arith;
        parts = tt;
        start = λ many. absurd (omega arith);
      }

      joined_looks : LookStands (word origin) width r.history r.flight (joined v w)
      joined_looks = record { words = λ many. (r.looks id v at).words some_one; note = tt; holder = λ holds. absurd holds }

      spent_looks : LookStands (word origin) width r.history r.flight (spent {O = O} {R = R} {T = T})
      spent_looks = record { words = λ many. absurd (omega arith); note = tt; holder = λ holds. absurd holds }

      spent_apart : (u : View O R T) → AreApart spent u
      spent_apart u = record { players = λ n a b. absurd (cc); tickets = λ t a b. a }

      joined_apart : (j : ℕ) (u : View O R T) → j ≢ id → get_elem? without j ≡ some u → AreApart (joined v w) u
      joined_apart j u else there = ⊎_elim
          (λ q. subst (λ (x : View O R T). AreApart (joined v w) x) q.1
          (apart-turned spent (joined v w) (spent_apart (joined v w))))
          (λ q.
          let first = r.apart id j v u (λ same. else (sym same)) at q.1 in
          let second = r.apart other j w u (λ same. q.0 (sym same)) at' q.1 in
          record {
            players = λ n x y. ⊎_elim (λ t. first.players n t y) (λ t. second.players n t y)
                (or_cases (has v.players n) (has w.players n) (sym (has-append v.players w.players n) ∙ x));
            tickets = λ t x y. x;
          })
          (at_set s.views other j spent u there)

      covers : (e : Entry O R) → IsCovered s.views e → IsCovered (set without id (joined v w)) e
      covers e was = which (ℕ_discrete was.place id) (ℕ_discrete was.place other) where
        in_both : (is_by v.players e || is_by w.players e) ≡ true → IsCovered (set without id (joined v w)) e
        in_both is = record {
          place = id;
          view = joined v w;
          there = at-set_there without id v (joined v w) at_without;
          theirs = has-append v.players w.players e.who.number ∙ is;
        }

        which : Dec (was.place ≡ id) → Dec (was.place ≡ other) → IsCovered (set without id (joined v w)) e
        which (yes here) second =
            let same = at-same s.views id v was.view at (subst (λ k. get_elem? s.views k ≡ some was.view) here was.there) in
            in_both (or_left (is_by v.players e) (is_by w.players e)
            (subst (λ (x : View O R T). is_by x.players e ≡ true) (sym same) was.theirs))
        which (no else) (yes here) =
            let same = at-same s.views other w was.view at' (subst (λ k. get_elem? s.views k ≡ some was.view) here was.there) in
            in_both (or_right (is_by v.players e) (is_by w.players e)
            (subst (λ (x : View O R T). is_by x.players e ≡ true) (sym same) was.theirs))
        which (no else) (no else') = record {
          place = was.place;
          view = was.view;
          there = set_else without id was.place (joined v w) else ∙ set_else s.views other was.place spent else' ∙ was.there;
          theirs = was.theirs;
        }

      still_held : SomeHolds s.views → SomeHolds (set without id (joined v w))
      still_held one = record {
        place = one.place;
        view = one.view;
        holds = one.holds;
        there =
            set_else without id one.place (joined v w)
            (λ same. idle_holds_none v.stage idle
            (subst (λ (x : View O R T). HoldsTurn x.stage)
            (at-same s.views id one.view v (subst (λ k. get_elem? s.views k ≡ some one.view) same one.there) at) one.holds))
            ∙ set_else s.views other one.place spent
            (λ same. idle_holds_none w.stage idle'
            (subst (λ (x : View O R T). HoldsTurn x.stage)
            (at-same s.views other one.view w (subst (λ k. get_elem? s.views k ≡ some one.view) same one.there) at')
            one.holds))
            ∙ one.there;
      }

      merged : Turn legal fits word width origin count record { words = s.words; homes = s.homes; views = set without id (joined v w) }
      merged = Turn-views legal fits word width origin count s r (set without id (joined v w))
          (sums player_count (let long = length-append v.players w.players in omega arith))
          (sums tickets_of (let first = ap ticket_count idle in let second = ap ticket_count idle' in omega arith))
          (sums made_of (omega arith))
          (λ j u there. ⊎_elim
          (λ q. subst (λ (x : View O R T). SeatStands origin r.history r.served r.drawn x) q.1 joined_stands)
          (λ q. ⊎_elim (λ t. subst (λ (x : View O R T). SeatStands origin r.history r.served r.drawn x) t.1 spent_stands)
          (λ t. r.each j u t.1) (at_set s.views other j spent u q.1))
          (at_set without id j (joined v w) u there))
          (AllApart-set without id (joined v w)
          (AllApart-set s.views other spent r.apart (λ j u else there. spent_apart u)) joined_apart)
          (λ j u there. ⊎_elim
          (λ q. subst (λ (x : View O R T). LookStands (word origin) width r.history r.flight x) q.1 joined_looks)
          (λ q. ⊎_elim
          (λ t. subst (λ (x : View O R T). LookStands (word origin) width r.history r.flight x) t.1 spent_looks)
          (λ t. r.looks j u t.1) (at_set s.views other j spent u q.1))
          (at_set without id j (joined v w) u there))
          covers
          (λ free j u there. ⊎_elim (λ q. subst (λ (x : View O R T). HoldsTurn x.stage → ⊥) q.1 (λ h. h))
          (λ q. ⊎_elim (λ t. subst (λ (x : View O R T). HoldsTurn x.stage → ⊥) t.1 (λ h. h)) (λ t. free j u t.1)
          (at_set s.views other j spent u q.1))
          (at_set without id j (joined v w) u there))
          still_held
