-- The rule at the start of a cell, and the passes that are dealt from its first seat.
use Rattle.std.proofs.Common.{◌≡◌, inl, ⊎_elim, ℕ, zero, suc, ◌+◌, ◌≤◌, ◌||◌, true, false, Some, Option, List, [], ◌∷◌, ◌++◌, length, set, get_or, refl, sym, ap, subst, ◌∙◌, arith, eqb}
use Rattle.std.proofs.lemmas.Bool.{or_cases, or_left, or_right, or_parts}
use Rattle.std.proofs.lemmas.List.Sums.{sum_by_push}
use Rattle.std.proofs.lemmas.List.Elements.{All-nil}
use mathlib.Core.Option.{some, some-injective, some-ne-none}
use native.Mathlib.Decide.{ℕ_discrete}
use lib.ListN.{get_elem?}
use Rattle.atomic_table.specs.declared.shared.Seat.{Seat}
use Rattle.atomic_table.specs.Table.{Me, Splits, opening}
use Rattle.atomic_table.proofs.Lists.{at_set, set_else, at_longer, at_last}
use Rattle.zk_base.specs.declared.ids.Who.{Who}
use Rattle.zk_base.specs.declared.ids.Entry.{Entry}
use Rattle.zk_turn.specs.declared.views.View.{View}
use Rattle.zk_turn.specs.declared.pass.Pass.{Pass}
use Rattle.zk_turn.specs.declared.cell.Cell.{Cell}
use Rattle.zk_turn.specs.Players.{has, is_by, Differ, room_of_a_pass}
use Rattle.zk_turn.specs.Views.{opened, dealt_from, dealt}
use Rattle.zk_turn.specs.Turn.{HoldsTurn, SeatStands, AreApart, IsCovered, player_count, tickets_of, made_of, LookStands, Turn}
use Rattle.zk_turn.specs.Passes.{IsNewPass, AreNewPasses, given_to}
use Rattle.zk_turn.proofs.Players.{has-first, first-apart, GoesOn-same, GoesOn-fewer}
use Rattle.zk_turn.proofs.Seats.{at-same, at-set_there, at-push, sum-set, AllApart-set, AllApart-push}
use Rattle.zk_turn.proofs.Moving.{Turn-views}
use Rattle.zk_turn.specs.Words.{AreFirstWords, at_rest}
use Rattle.zk_turn.proofs.Words.{first-word}
use Rattle.zk_turn.proofs.Passes.{knowing}

module _ {S O R T : Type 0} (legal : T → List (Entry O R) → Type 0) (fits : S → T → List (Entry O R) → Type 0)
    (word : T → List (Entry O R) → ℕ → ℕ) (width : ℕ) where
  -- at the start the service is at home, and one seat stands for all players
  pub starts : (service : S) (origin : T) (ws : List Who) → length ws ≤ 256 → legal origin [] → fits service origin [] →
      (words : List ℕ) → AreFirstWords width (word origin []) words →
      Turn legal fits word width origin (length ws) (opening words (Some service ∷ []) (opened origin width ws))
  starts service origin ws few lawful fit words first = record {
    history = [];
    served = 0;
    drawn = 0;
    flight = at_rest;
    words = let long = first.long in omega arith;
    slot = omega arith;
    ticket_word = first.turn 0 (omega arith);
    serving_word = first.turn 1 (omega arith);
    count_word = first.turn 2 (omega arith);
    lawful = lawful;
    few = few;
    players = omega arith;
    tickets = refl;
    made = refl;
    each = λ j v there. subst (λ (u : View O R T). SeatStands origin [] 0 0 u) (only j v there).1
        (record {
          seen = GoesOn-same ws [];
          ticket = tt;
          room = omega arith;
          player = omega arith;
          parts = tt;
          start = λ some_one. refl;
        });
    apart = λ i j v w differ first second. absurd (differ ((only i v first).0 ∙ sym (only j w second).0));
    covered = let P : Entry O R → Type 0 = IsCovered (opened origin width ws ∷ []) in All-nil P;
    published = λ i below. first-word (λ h. word origin h i) i (get_or words (3 + i) 0) (first.each i below) (first.small i below);
    looks = λ j v there. subst (λ (u : View O R T). LookStands (word origin) width [] at_rest u) (only j v there).1
        (record { words = λ some_one. refl; note = tt; holder = λ holds. absurd holds });
    place = inl (record {
      service = service;
      there = refl;
      fit = fit;
      rest = refl;
      free = (λ j v there holds. subst (λ (u : View O R T). HoldsTurn u.stage → ⊥) (only j v there).1 (λ h. h) holds);
    });
  } where
    only : (j : ℕ) (v : View O R T) → get_elem? (opened origin width ws ∷ []) j ≡ some v → (j ≡ 0) × (opened origin width ws ≡ v)
    only zero v there = (refl, some-injective (opened origin width ws) v there)
    only (suc j) v there = absurd (some-ne-none v (sym there))

  -- the first player gets a seat of its own
  pub deals : (origin : T) (count id : ℕ) (start : T) (words : ℕ) (w : Who) (ws : List Who) → Differ (w ∷ ws) →
      Splits (Turn legal fits word width origin count) id (opened start words (w ∷ ws)) (dealt_from (opened start words (w ∷ ws)))
      (dealt (opened start words (w ∷ ws)))
  deals origin count id start words w ws differ s r at =
      let v : View O R T = opened start words (w ∷ ws) in
      let left : View O R T = opened start words ws in
      let right : View O R T = opened start words (w ∷ []) in
      let ok = r.each id v at in
      let views = set s.views id left in
      Turn-views legal fits word width origin count s r (views ++ right ∷ [])
      (let sum = sum-set player_count s.views id v left at in let more = sum_by_push player_count views right in omega arith)
      (let sum = sum-set tickets_of s.views id v left at in let more = sum_by_push tickets_of views right in omega arith)
      (let sum = sum-set made_of s.views id v left at in let more = sum_by_push made_of views right in omega arith)
      (λ j u there. ⊎_elim
      (λ t. ⊎_elim (λ q. subst (λ (x : View O R T). SeatStands origin r.history r.served r.drawn x) q.1 (left_stands ok))
      (λ q. r.each j u q.1) (at_set s.views id j left u t))
      (λ t. subst (λ (x : View O R T). SeatStands origin r.history r.served r.drawn x) t.1 (right_stands ok))
      (at-push views right u j there))
      (AllApart-push views right
      (AllApart-set s.views id left r.apart (λ j u else there. let was = r.apart id j v u (λ same. else (sym same)) at there in
      record { players = λ n a b. was.players n (or_right (eqb w.number n) (has ws n) a) b; tickets = λ t a b. a }))
      (λ j u there. ⊎_elim
      (λ q. subst (λ (x : View O R T). AreApart x right) q.1
      (record { players = λ n a b. first-apart w ws n differ.0 a b; tickets = λ t a b. a }))
      (λ q. let was = r.apart id j v u (λ same. q.0 (sym same)) at q.1 in
      record { players = λ n a b. was.players n (has-first w ws n b) a; tickets = λ t a b. b })
      (at_set s.views id j left u there)))
      (λ j u there. ⊎_elim
      (λ t. ⊎_elim (λ q. subst (λ (x : View O R T). LookStands (word origin) width r.history r.flight x) q.1 (left_looks (r.looks id v at)))
      (λ q. r.looks j u q.1) (at_set s.views id j left u t))
      (λ t. subst (λ (x : View O R T). LookStands (word origin) width r.history r.flight x) t.1 (right_looks (r.looks id v at)))
      (at-push views right u j there))
      covers
      (λ free j u there. ⊎_elim
      (λ t. ⊎_elim (λ q. subst (λ (x : View O R T). HoldsTurn x.stage → ⊥) q.1 (λ h. h)) (λ q. free j u q.1)
      (at_set s.views id j left u t))
      (λ t. subst (λ (x : View O R T). HoldsTurn x.stage → ⊥) t.1 (λ h. h))
      (at-push views right u j there))
      (λ one. record {
        place = one.place;
        view = one.view;
        holds = one.holds;
        there =
            at_longer views (right ∷ []) one.place one.view
            (set_else s.views id one.place left (λ same. subst (λ (x : View O R T). HoldsTurn x.stage →
            ⊥) (at-same s.views id v one.view at (subst (λ k. get_elem? s.views k ≡ some one.view) same one.there))
            (λ h. h) one.holds) ∙ one.there);
      })
    where
      left_stands : SeatStands origin r.history r.served r.drawn (opened start words (w ∷ ws)) →
          SeatStands origin r.history r.served r.drawn (opened start words ws)
      left_stands ok = record {
        seen = GoesOn-fewer (w ∷ ws) ws [] r.history (λ e is. (or_parts (eqb w.number e.who.number) (is_by ws e) is).1) ok.seen;
        ticket = tt;
        room = omega arith;
        player = omega arith;
        parts = tt;
        start = λ some_one. ok.start (omega arith);
      }

      right_stands : SeatStands origin r.history r.served r.drawn (opened start words (w ∷ ws)) →
          SeatStands origin r.history r.served r.drawn (opened start words (w ∷ []))
      right_stands ok = record {
        seen = GoesOn-fewer (w ∷ ws) (w ∷ []) [] r.history
            (λ e is. ap (λ b. b || false) (or_parts (eqb w.number e.who.number) (is_by ws e) is).0) ok.seen;
        ticket = tt;
        room = omega arith;
        player = omega arith;
        parts = tt;
        start = λ some_one. ok.start (omega arith);
      }

      left_looks : LookStands (word origin) width r.history r.flight (opened start words (w ∷ ws)) →
          LookStands (word origin) width r.history r.flight (opened start words ws)
      left_looks ok = record { words = λ some_one. ok.words (omega arith); note = tt; holder = λ holds. absurd holds }

      right_looks : LookStands (word origin) width r.history r.flight (opened start words (w ∷ ws)) →
          LookStands (word origin) width r.history r.flight (opened start words (w ∷ []))
      right_looks ok = record { words = λ some_one. ok.words (omega arith); note = tt; holder = λ holds. absurd holds }

      covers : (e : Entry O R) → IsCovered s.views e →
          IsCovered (set s.views id (opened start words ws) ++ opened start words (w ∷ []) ∷ []) e
      covers e was = which (ℕ_discrete was.place id) where
        which : Dec (was.place ≡ id) → IsCovered (set s.views id (opened start words ws) ++ opened start words (w ∷ []) ∷ []) e
        which (yes here) =
            let views = set s.views id (opened start words ws) in
            let same = at-same s.views id (opened start words (w ∷ ws)) was.view at
            (subst (λ k. get_elem? s.views k ≡ some was.view) here was.there) in
            ⊎_elim
            (λ first. record {
              place = length views;
              view = opened start words (w ∷ []);
              there = at_last views (opened start words (w ∷ [])) (length views) refl;
              theirs =
                  or_left (eqb w.number e.who.number) false first;
            })
            (λ other. record {
              place = id;
              view = opened start words ws;
              there = at_longer views (opened start words (w ∷ []) ∷ []) id (opened start words ws)
                  (at-set_there s.views id (opened start words (w ∷ ws)) (opened start words ws) at);
              theirs = other;
            })
            (or_cases (eqb w.number e.who.number) (is_by ws e)
            (subst (λ (x : View O R T). is_by x.players e ≡ true) (sym same) was.theirs))
        which (no else) = record {
          place = was.place;
          view = was.view;
          there = at_longer (set s.views id (opened start words ws)) (opened start words (w ∷ []) ∷ []) was.place was.view
              (set_else s.views id was.place (opened start words ws) else ∙ was.there);
          theirs = was.theirs;
        }

module _ {S O R T : Type 0} (legal : T → List (Entry O R) → Type 0) (start : S → T) (c : Cell S O R T) where
  -- the pass of that seat
  pub dealt_pass : (words : ℕ) (w : Who) (ws : List Who) (seat : Seat (Option S) (View O R T)) → legal (start (given_to c)) [] → c.table.shared.table_id.words ≡ 3 + words →
      seat.table_id ≡ c.table.shared.table_id → seat.me ≡ (dealt (opened (start (given_to c)) words (w ∷ ws)), []) →
      IsNewPass legal start c w record { seat = seat; who = w; room = room_of_a_pass; front = 0 }
  dealt_pass words w ws seat lawful wide table knows =
      let new : IsNewPass legal start c w record {
        seat = knowing seat (dealt (opened (start (given_to c)) words (w ∷ ws)), []);
        who = w;
        room = room_of_a_pass;
        front = 0;
      } = record {
        of_cell = record {
          table = table;
          idle = refl;
          slots = refl;
          first = ([], refl);
          room = omega arith;
          start = refl;
          front = refl;
          lawful = lawful;
          words = wide;
        };
        who = refl;
        players = refl;
        seen = refl;
        holds = refl;
        room = refl;
      } in
      subst (λ (k : Me (Option S) (View O R T)). IsNewPass legal start c w record {
        seat = knowing seat k;
        who = w;
        room = room_of_a_pass;
        front = 0;
      }) (sym knows) new

  -- one more
  pub AreNewPasses-push : (ws : List Who) (ps : List (Pass S O R T)) (w : Who) (p : Pass S O R T) →
      AreNewPasses legal start c ws ps → IsNewPass legal start c w p → AreNewPasses legal start c (ws ++ w ∷ []) (ps ++ p ∷ [])
  AreNewPasses-push [] [] w p all one = (one, tt)
  AreNewPasses-push [] (q ∷ ps) w p all one = absurd all
  AreNewPasses-push (v ∷ ws) [] w p all one = absurd all
  AreNewPasses-push (v ∷ ws) (q ∷ ps) w p all one = (all.0, AreNewPasses-push ws ps w p all.1 one)

  -- passes are as many as their players
  AreNewPasses-none : (ps : List (Pass S O R T)) (p : Pass S O R T) → AreNewPasses legal start c [] (ps ++ p ∷ []) → ⊥
  AreNewPasses-none [] p all = all
  AreNewPasses-none (q ∷ ps) p all = all

  pub AreNewPasses-some : (ws : List Who) (w : Who) → AreNewPasses legal start c (ws ++ w ∷ []) [] → ⊥
  AreNewPasses-some [] w all = all
  AreNewPasses-some (v ∷ ws) w all = all

  -- the last one less
  pub AreNewPasses-pop : (ws : List Who) (ps : List (Pass S O R T)) (w : Who) (p : Pass S O R T) →
      AreNewPasses legal start c (ws ++ w ∷ []) (ps ++ p ∷ []) → AreNewPasses legal start c ws ps × IsNewPass legal start c w p
  AreNewPasses-pop [] [] w p all = (tt, all.0)
  AreNewPasses-pop [] (q ∷ ps) w p all = absurd (AreNewPasses-none ps p all.1)
  AreNewPasses-pop (v ∷ ws) [] w p all = absurd (AreNewPasses-some ws w all.1)
  AreNewPasses-pop (v ∷ ws) (q ∷ ps) w p all = let rest = AreNewPasses-pop ws ps w p all.1 in ((all.0, rest.0), rest.1)
