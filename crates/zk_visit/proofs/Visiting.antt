-- One attempt with a pass that stands for one player.
use Rattle.std.proofs.Common.{◌≡◌, ◌≢◌, ℕ, ◌+◌, ◌<◌, ◌≤◌, Bool, true, false, ◌||◌, Some, None, List, [], ◌∷◌, ◌++◌, length, refl, sym, ap, subst, ◌∙◌, arith, eq-eqb}
use Rattle.std.proofs.lemmas.Bool.{eq-eqb, ne_eqb}
use Rattle.std.proofs.lemmas.List.Elements.{All-head, All-append, All-weaker}
use native.Mathlib.Decide.{ℕ_discrete}
use Rattle.zk_base.specs.declared.ids.Who.{Who}
use Rattle.zk_base.specs.declared.ids.Entry.{Entry}
use Rattle.zk_base.specs.History.{entry, IsAbove}
use Rattle.zk_base.specs.Legal.{Machine, state_after}
use Rattle.zk_base.proofs.Lists.{All-front, All-back}
use Rattle.zk_turn.specs.declared.cell.Cell.{Cell}
use Rattle.zk_turn.specs.declared.held.Held.{Held}
use Rattle.zk_turn.specs.declared.pass.Pass.{Pass}
use Rattle.zk_turn.specs.declared.views.View.{View}
use Rattle.zk_turn.specs.Passes.{IsPassOf, IsSameTurn, pass_players, pass_who, pass_seen, pass_room, held_players}
use Rattle.zk_turn.specs.Players.{is_by, GoesOn, room_of_a_pass}
use Rattle.zk_worker.specs.Single.{OthersGrew}
use Rattle.zk_visit.specs.Seats.{IsEntered, IsOwn}

module _ {O R : Type 0} where
  -- an entry is this player's, or it is another's
  by_own : (w : Who) (e : Entry O R) → e.who.number ≡ w.number → is_by (w ∷ []) e ≡ true
  by_own w e same = ap (λ b. b || false) (eq-eqb w.number e.who.number (sym same))

  not_by : (w : Who) (e : Entry O R) → is_by (w ∷ []) e ≡ false → e.who.number ≢ w.number
  not_by w e others = λ same. let is = by_own w e same in absurd (cc)

  by_is : (w : Who) (e : Entry O R) → is_by (w ∷ []) e ≡ true → e.who.number ≡ w.number
  by_is w e is = from (ℕ_discrete w.number e.who.number) where
    from : Dec (w.number ≡ e.who.number) → e.who.number ≡ w.number
    from (yes same) = sym same
    from (no differ) = let not = ap (λ b. b || false) (ne_eqb w.number e.who.number differ) in absurd (cc)

  -- what others added
  pub others_grew : (w : Who) (seen h : List (Entry O R)) → GoesOn (w ∷ []) seen h → OthersGrew w.number seen h
  others_grew w seen h goes =
      let P : Entry O R → Type 0 = λ e. is_by (w ∷ []) e ≡ false in
      let Q : Entry O R → Type 0 = λ e. e.who.number ≢ w.number in
      record { more = goes.later; longer = goes.longer; others = All-weaker P Q (not_by w) goes.later goes.others }

  pub still_above : (w : Who) (seen h : List (Entry O R)) (step : ℕ) → GoesOn (w ∷ []) seen h → IsAbove seen w.number step → IsAbove h w.number step
  still_above w seen h step goes above =
      let P : Entry O R → Type 0 = λ e. is_by (w ∷ []) e ≡ false in
      let Q : Entry O R → Type 0 = λ e. e.who.number ≡ w.number → e.step < step in
      let later = All-weaker P Q (λ e others same. absurd (not_by w e others same)) goes.later goes.others in
      subst (λ (l : List (Entry O R)). IsAbove l w.number step) (sym goes.longer) (All-append Q seen goes.later above later)

  -- what was seen is below a step that all the history is below
  above-before : (w : Who) (seen h : List (Entry O R)) (next : ℕ) → GoesOn (w ∷ []) seen h → IsAbove h w.number next → IsAbove seen w.number next
  above-before w seen h next goes above =
      let Q : Entry O R → Type 0 = λ e. e.who.number ≡ w.number → e.step < next in
      All-front Q seen goes.later (subst (λ (l : List (Entry O R)). IsAbove l w.number next) goes.longer above)

  -- a player's own entry is below a step that all the history is below
  entry-before : (w : Who) (h : List (Entry O R)) (step next : ℕ) (op : O) (reply : R) → IsAbove (h ++ entry w step op reply ∷ []) w.number next → step < next
  entry-before w h step next op reply above =
      let Q : Entry O R → Type 0 = λ e. e.who.number ≡ w.number → e.step < next in
      All-head Q (entry w step op reply) [] (All-back Q h (entry w step op reply ∷ []) above) refl

module _ {S O R T : Type 0} where
  -- one turn is of the players of the other
  pub turn-players : (g h : Held S O R T) → IsSameTurn g h → held_players h ≡ held_players g
  turn-players g h same = ap (λ (v : View O R T). v.players) same.view

-- a pass of one player that makes a step
module _ {S O R T : Type 0} (legal : T → List (Entry O R) → Type 0) (start : S → T) (c : Cell S O R T) (who : Who) (looked step : ℕ) (p : Pass S O R T)
    (was : IsOwn legal start c who looked p) (above : IsAbove (pass_seen p) who.number step) (low : looked ≤ step) where
  -- it has room for it
  pub room_left : step < room_of_a_pass → 0 < pass_room p
  room_left most = let room = was.room step above low in omega arith

  module _ (p' : Pass S O R T) (of_cell : IsPassOf legal start c p') (player : pass_who p' ≡ pass_who p) (only : pass_players p' ≡ pass_players p) where
    -- entries of others take no room
    pub own-still : (h : List (Entry O R)) → GoesOn (who ∷ []) (pass_seen p) h → pass_seen p' ≡ h → pass_room p' ≡ pass_room p → IsOwn legal start c who looked p'
    own-still h goes is same = record {
      of_cell = of_cell;
      player = player ∙ was.player;
      only = only ∙ was.only;
      room = λ next over le.
          let before = above-before who (pass_seen p) h next goes (subst (λ (l : List (Entry O R)). IsAbove l who.number next) is over) in
          let room = was.room next before le in omega arith;
    }

    -- the step's entry takes the room of the step
    pub own-entered : (h : List (Entry O R)) (op : O) (reply : R) (w : Who) → pass_seen p' ≡ h ++ entry w step op reply ∷ [] → w ≡ who → pass_room p' + 1 ≡ pass_room p → IsOwn legal start c who looked p'
    own-entered h op reply w is same spent = record {
      of_cell = of_cell;
      player = player ∙ was.player;
      only = only ∙ was.only;
      room = λ next over le.
          let made = is ∙ ap (λ (w : Who). h ++ entry w step op reply ∷ []) same in
          let under = entry-before who h step next op reply (subst (λ (l : List (Entry O R)). IsAbove l who.number next) made over) in
          let room = was.room step above low in omega arith;
    }

    -- and so does its look
    pub own-looked : pass_room p' + 1 ≡ pass_room p → IsOwn legal start c who (step + 1) p'
    own-looked spent = record {
      of_cell = of_cell;
      player = player ∙ was.player;
      only = only ∙ was.only;
      room = λ next over le. let room = was.room step above low in omega arith;
    }

no-true : (b : Bool) → (b ≡ true → ⊥) → b ≡ false
no-true true not = absurd (not refl)
no-true false not = refl

module _ {O R T : Type 0} where
  pub entered : (m : Machine T O R) (start start' : T) (who who' : Who) (step : ℕ) (op : O) (reply : R) (place : ℕ) (old found new made : List (Entry O R)) →
      start' ≡ start → who' ≡ who → Some reply ≡ m.reply_of (state_after m start' found) who' op → place ≡ length found → OthersGrew who.number old found →
      new ≡ made → made ≡ found ++ entry who' step op reply ∷ [] → IsEntered m start who step op reply place old new
  entered m start start' who who' step op reply place old found new made same player gives at_place since is grew =
      record {
        found = found;
        since = since;
        replied = subst (λ (w : Who). m.reply_of (state_after m start found) w op ≡ Some reply) player (subst (λ (s : T). m.reply_of (state_after m s found) who' op ≡ Some reply) same (sym gives));
        at_place = at_place;
        entered = is ∙ grew ∙ ap (λ (w : Who). found ++ entry w step op reply ∷ []) player;
      }

  -- an operation that wanted memory gives no owed entry at what is seen
  pub not-closing : (closes : T → Who → O → Bool) (m : Machine T O R) (start start' : T) (who who' : Who) (op : O) (found new made : List (Entry O R)) →
      start' ≡ start → who' ≡ who → (closes (state_after m start' found) who' op ≡ true → ⊥) → new ≡ made → made ≡ found → closes (state_after m start new) who op ≡ false
  not-closing closes m start start' who who' op found new made same player not is same_history =
      no-true (closes (state_after m start new) who op) (λ yes. not
      (subst (λ (w : Who). closes (state_after m start' found) w op ≡ true) (sym player)
      (subst (λ (s : T). closes (state_after m s found) who op ≡ true) (sym same)
      (subst (λ (l : List (Entry O R)). closes (state_after m start l) who op ≡ true) (is ∙ same_history) yes))))

  -- the machine says no at what is seen
  pub refused : (m : Machine T O R) (start start' : T) (who who' : Who) (op : O) (found new made : List (Entry O R)) →
      start' ≡ start → who' ≡ who → None ≡ m.reply_of (state_after m start' found) who' op → new ≡ made → made ≡ found → m.reply_of (state_after m start new) who op ≡ None
  refused m start start' who who' op found new made same player gives is same_history =
      subst (λ (l : List (Entry O R)). m.reply_of (state_after m start l) who op ≡ None) (sym (is ∙ same_history))
      (subst (λ (w : Who). m.reply_of (state_after m start found) w op ≡ None) player (subst (λ (s : T). m.reply_of (state_after m s found) who' op ≡ None) same (sym gives)))
