-- The rule at the end of a cell, where one seat stands for all players.
use Rattle.std.proofs.Common.{◌≡◌, ◌≢◌, ⊎_elim, ℕ, ◌*◌, ◌≤◌, true, false, Some, Option, List, [], ◌∷◌, length, All, refl, sym, ap, subst, ◌∙◌, arith}
use Rattle.std.proofs.lemmas.List.Elements.{All-weaker}
use mathlib.Core.Option.{some, some-injective}
use native.Mathlib.Decide.{ℕ_discrete}
use lib.ListN.{get_elem?}
use Rattle.atomic_table.specs.Table.{State, Final, Seen}
use Rattle.zk_base.specs.declared.ids.Who.{Who}
use Rattle.zk_base.specs.declared.ids.Entry.{Entry}
use Rattle.zk_turn.specs.declared.views.Stage.{Stage}
use Rattle.zk_turn.specs.declared.views.Stage.TheVariants.{Idle, Waiting, Holding}
use Rattle.zk_turn.specs.declared.views.View.{View}
use Rattle.zk_turn.specs.Players.{has, is_by, own, room_of_a_pass}
use Rattle.zk_turn.specs.Turn.{ticket_count, HoldsTurn, IsCovered, player_count, made_of, IsHome, Turn}
use Rattle.zk_turn.specs.Steps.{Fits}
use Rattle.zk_turn.proofs.Players.{own-all, GoesOn-all}
use Rattle.zk_turn.proofs.Seats.{at-same, sum-times, sum-two}

-- a seat without a ticket doesn't hold the turn
ticketless : (st : Stage) → ticket_count st ≤ 0 → HoldsTurn st → ⊥
ticketless Idle none holds = holds
ticketless (Waiting t) none holds = holds
ticketless (Holding t) none holds = absurd (omega arith)

has-nobody : (ws : List Who) (number : ℕ) → length ws ≡ 0 → has ws number ≡ false
has-nobody [] number none = refl
has-nobody (w ∷ ws) number none = absurd (omega arith)

module _ {S O R T : Type 0} (legal : T → List (Entry O R) → Type 0) (fits : S → T → List (Entry O R) → Type 0) where
  -- what comes back: the service that the slot has, with the history that the last seat has seen, all of which its players made
  pub record ComesBack (origin : T) (count : ℕ) (v : View O R T) (slot : Option S) : Type 0 where
    pub service : S
    pub there : slot ≡ Some service
    pub fit : fits service origin v.seen
    pub lawful : legal origin v.seen
    pub mine : own v.players v.seen ≡ v.seen
    pub short : length v.seen ≤ room_of_a_pass * count

module _ {S O R T : Type 0} (legal : T → List (Entry O R) → Type 0) (fits : S → T → List (Entry O R) → Type 0)
    (word : T → List (Entry O R) → ℕ → ℕ) (width : ℕ) where
  ends : (origin : T) (count id : ℕ) (v : View O R T) (s : State (Option S) (View O R T)) (slot : Option S) →
      Turn legal fits word width origin count s → get_elem? s.views id ≡ some v → v.stage ≡ Idle → length v.players ≡ count →
      ((x : Option S) → get_elem? s.homes 0 ≡ some (some x) → slot ≡ x) → ComesBack legal fits origin count v slot
  ends origin count id v s slot r at idle all same =
      ⊎_elim ended (λ one. absurd (nobody one.place one.view one.there one.holds)) r.place where
        no_player : (j : ℕ) (u : View O R T) → j ≢ id → get_elem? s.views j ≡ some u → length u.players ≡ 0
        no_player j u else there = let two = sum-two player_count s.views id j v u (λ e. else (sym e)) at there in
            let sum = r.players in omega arith

        nobody : (j : ℕ) (u : View O R T) → get_elem? s.views j ≡ some u → HoldsTurn u.stage → ⊥
        nobody j u there holds = which (ℕ_discrete j id) where
          which : Dec (j ≡ id) → ⊥
          which (yes here) = subst HoldsTurn
              (ap (λ (x : View O R T). x.stage)
              (at-same s.views id u v (subst (λ k. get_elem? s.views k ≡ some u) here there) at) ∙ idle) holds
          which (no else) = let none = no_player j u else there in let player = (r.each j u there).player in
              ticketless u.stage (omega arith) holds

        by_mine : (e : Entry O R) → IsCovered s.views e → is_by v.players e ≡ true
        by_mine e was = which (ℕ_discrete was.place id) where
          which : Dec (was.place ≡ id) → is_by v.players e ≡ true
          which (yes here) = subst (λ (x : View O R T). is_by x.players e ≡ true)
              (at-same s.views id was.view v (subst (λ k. get_elem? s.views k ≡ some was.view) here was.there) at) was.theirs
          which (no else) = let none = has-nobody was.view.players e.who.number (no_player was.place was.view else was.there)
              in let theirs = was.theirs in absurd (cc)

        all_mine : All (λ e. is_by v.players e ≡ true) r.history
        all_mine = let P : Entry O R → Type 0 = λ e. is_by v.players e ≡ true in
            All-weaker (IsCovered s.views) P by_mine r.history r.covered

        history_is : r.history ≡ v.seen
        history_is = GoesOn-all v.players v.seen r.history (r.each id v at).seen all_mine

        few : length r.history ≤ room_of_a_pass * count
        few =
            let most = sum-times room_of_a_pass made_of player_count s.views (λ j u there. (r.each j u there).room) in
            let made = r.made in
            let times = ap (λ n. room_of_a_pass * n) r.players in omega arith

        ended : IsHome legal fits origin r.history r.flight s → ComesBack legal fits origin count v slot
        ended home = record {
          service = home.service;
          there = same (Some home.service) home.there;
          fit = subst (λ l. fits home.service origin l) history_is home.fit;
          lawful = subst (λ l. legal origin l) history_is r.lawful;
          mine = subst (λ l. own v.players l ≡ l) history_is (own-all v.players r.history all_mine);
          short = subst (λ (l : List (Entry O R)). length l ≤ room_of_a_pass * count) history_is few;
        }

  pub comes_back : (origin : T) (count id : ℕ) (v : View O R T) (words : List ℕ) (slots : List (Option S))
      (slot : Option S) → v.stage ≡ Idle → length v.players ≡ count →
      Final (Seen (Turn legal fits word width origin count) id v) words slots → get_elem? slots 0 ≡ some slot → ComesBack legal fits origin count v slot
  comes_back origin count id v words slots slot idle all last there =
      ends origin count id v last.0 slot last.1.0 last.1.1 idle all (λ x home. some-injective slot x (sym there
      ∙ last.4 0 x home))

-- what that says of the service which was taken out
pub record IsTheService {S O R T : Type 0} (legal : T → List (Entry O R) → Type 0) (start : S → T)
    (history : S → List (Entry O R)) (origin : T) (count : ℕ) (v : View O R T) (service : S) : Type 0 where
  pub is_seen : history service ≡ v.seen
  pub is_start : start service ≡ origin
  pub lawful : legal (start service) (history service)
  pub short : length (history service) ≤ room_of_a_pass * count

pub service_back : {S O R T : Type 0} (legal : T → List (Entry O R) → Type 0) (start : S → T)
    (history : S → List (Entry O R)) (origin : T) (count : ℕ) (v : View O R T) (slot : Option S) (service : S) →
    ComesBack legal (Fits start history) origin count v slot → slot ≡ Some service →
    IsTheService legal start history origin count v service
service_back {S} {O} {R} {T} legal start history origin count v slot service back is =
    let same : back.service ≡ service = same_value (sym back.there ∙ is) in
    let fit = subst (λ (x : S). Fits start history x origin v.seen) same back.fit in
    record {
      is_seen = fit.history;
      is_start = fit.start;
      lawful = subst (λ (s : T). legal s (history service)) (sym fit.start)
          (subst (λ (l : List (Entry O R)). legal origin l) (sym fit.history) back.lawful);
      short = subst (λ (l : List (Entry O R)). length l ≤ room_of_a_pass * count) (sym fit.history) back.short;
    }
  where
    same_value : Some back.service ≡ Some service → back.service ≡ service
    same_value e = cc

-- both at once: what the service is that was in the slot
pub service_ends : {S O R T : Type 0} (legal : T → List (Entry O R) → Type 0) (start : S → T)
    (history : S → List (Entry O R)) (word : T → List (Entry O R) → ℕ → ℕ) (width : ℕ) (origin : T) (count id : ℕ) (v : View O R T) (words : List ℕ)
    (slots : List (Option S)) (slot : Option S) (service : S) → v.stage ≡ Idle → length v.players ≡ count →
    Final (Seen (Turn legal (Fits start history) word width origin count) id v) words slots → get_elem? slots 0 ≡ some slot →
    slot ≡ Some service → IsTheService legal start history origin count v service
service_ends legal start history word width origin count id v words slots slot service idle all last there is =
    service_back legal start history origin count v slot service
    (comes_back legal (Fits start history) word width origin count id v words slots slot idle all last there) is
