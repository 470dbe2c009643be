-- Passes by which nothing was done, and what is left of them.
use Rattle.std.proofs.Common.{◌≡◌, ℕ, ◌<◌, Bool, Ok, Err, Result, List, [], ◌∷◌, All, sym, ap, ◌∙◌, inl, inr, arith}
use Rattle.std.proofs.lemmas.List.Elements.{All-nil, All-cons}
use Rattle.zk_base.specs.declared.ids.Who.{Who}
use Rattle.zk_base.specs.Legal.{IsLegal}
use Rattle.zk_event.specs.declared.event.Wanted.{Wanted}
use Rattle.zk_event.specs.Event.{event_machine}
use Rattle.zk_event.specs.Seen.{event_start}
use Rattle.zk_event.specs.Waiting.{EventPass, HasGot, pass_of}
use Rattle.zk_turn.specs.Passes.{IsNewPass, AreNewPasses, pass_players, pass_room}
use Rattle.zk_turn.specs.Players.{own}
use Rattle.zk_test_event.specs.Parts.{EventCell, IsFresh}

fresh : (c : EventCell) (who : Who) (p : EventPass) → IsNewPass (IsLegal event_machine) event_start c who p → IsFresh c p
fresh c who p new = record {
  of_cell = new.of_cell;
  alone = new.players ∙ ap (λ (w : Who). w ∷ []) (sym new.who);
  none = ap (own (pass_players p)) new.seen;
  room = new.room;
}

pub all-fresh : (c : EventCell) (players : List Who) (ps : List EventPass) →
    AreNewPasses (IsLegal event_machine) event_start c players ps → All (IsFresh c) ps
all-fresh c [] [] new = All-nil (IsFresh c)
all-fresh c [] (p ∷ ps) new = absurd new
all-fresh c (w ∷ ws) [] new = absurd new
all-fresh c (w ∷ ws) (p ∷ ps) new = All-cons (IsFresh c) p ps (fresh c w p new.0) (all-fresh c ws ps new.1)

-- a wait takes room for two entries at most
pub room-left : (who : Who) (step : ℕ) (wanted : Wanted) (reset : Bool) (p : EventPass) (r : Result (EventPass × ℕ) EventPass) →
    HasGot who step wanted reset p r → pass_room p ≡ 20000 → 0 < pass_room (pass_of r)
room-left who step wanted reset p (Ok (q, bits)) (inl now) room = let one = now.1.1.room in omega arith
room-left who step wanted reset p (Ok (q, bits)) (inr later) room =
    let one = later.opened.room in
    let two = later.ended.1.1.room in
    omega arith
room-left who step wanted reset p (Err q) none room = let same = none.room in omega arith
