-- Parts before their first round.
use Rattle.std.proofs.Common.{◌≡◌, ℕ, zero, suc, ◌+◌, ◌<◌, ◌≤◌, Some, All, List, [], ◌∷◌, slice_get, refl, sym, ap, subst, ◌∙◌, arith}
use Rattle.std.proofs.lemmas.List.Elements.{All-cons, All-nil, All-weaker}
use Rattle.std.proofs.lemmas.Option.{same_Some}
use Rattle.zk_base.specs.declared.ids.Entry.{Entry}
use Rattle.zk_turn.specs.Passes.{pass_players, pass_room, pass_who}
use Rattle.zk_turn.specs.Players.{own}
use Rattle.zk_msgsub.specs.declared.fan_state.FanOp.{FanOp}
use Rattle.zk_msgsub.specs.declared.fan_state.FanReply.{FanReply}
use Rattle.zk_msgsub.specs.declared.msg_sub.MsgSub.{MsgSub}
use Rattle.zk_msgsub.specs.declared.publisher.Publisher.{Publisher}
use Rattle.zk_msgsub.specs.declared.seats.PubSeat.{PubSeat}
use Rattle.zk_msgsub.specs.Publishers.{AreSeatsOf, FanCell, FanPass, IsPublisherOf, publisher_pass, publisher_room, publisher_seats, room_in}
use Rattle.zk_msgsub.specs.Seats.{IsNewSeat, IsSeatOf, seat_room, sub_each}
use Rattle.zk_test_msgsub.specs.declared.parts.Shared.{Shared}
use Rattle.zk_test_msgsub.specs.declared.parts.TheConstants.{ROUNDS}
use Rattle.zk_test_msgsub.specs.Parts.{AreFreshSeats, IsChanger, IsFresh, IsSending}

-- a new pass has made no step
pub changes : (fan : FanCell) (p : FanPass) → IsFresh fan p → IsChanger fan 0 p
changes fan p (who, new) =
    let room = new.room in
    let none = ap (own (pass_players p)) new.seen in
    let Above : Entry FanOp FanReply → Type 0 = λ e. e.who.number ≡ (pass_who p).number → e.step < 0 in
    record {
      of_cell = new.of_cell;
      alone = new.players ∙ ap (λ w. w ∷ []) (sym new.who);
      later = subst (All Above) (sym none) (All-nil Above);
      room = omega arith;
    }

-- a new publisher has sent nothing
pub sends : (f : Shared) (publisher : Publisher) (pass : FanPass) (seats : List PubSeat) → IsFresh f.fan pass →
    AreFreshSeats f seats →
    publisher_pass publisher ≡ Some pass → publisher_seats publisher ≡ seats → IsPublisherOf f.fan f.subs.items publisher →
    IsSending f 0 publisher
sends f publisher pass seats (who, new) fresh there is own =
    let room = new.room in
    let has_room : publisher_room publisher ≡ pass_room pass = ap room_in there in
    record {
      own = own;
      room = omega arith;
      rooms = subst (All (λ s. ROUNDS ≤ seat_room s + 0)) (sym is)
          (All-weaker (λ s. ROUNDS ≤ seat_room s) (λ s. ROUNDS ≤ seat_room s + 0) (λ s le. omega arith) seats fresh.rooms);
    }

-- new seats at the two subscribers
pub fresh-seats : (f : Shared) (seats : List PubSeat) (m m' : MsgSub) (s s' : PubSeat) → f.subs.items ≡ m ∷ m' ∷ [] →
    seats ≡ s ∷ s' ∷ [] →
    IsNewSeat m s → IsNewSeat m' s' → sub_each m ≡ ROUNDS → sub_each m' ≡ ROUNDS → AreFreshSeats f seats
fresh-seats f seats m m' s s' subs are new new' each each' =
    let room = new.room in
    let room' = new'.room in
    let Roomy : PubSeat → Type 0 = λ q. ROUNDS ≤ seat_room q in
    record {
      own = subst (λ (y : List MsgSub × List PubSeat). AreSeatsOf y.0 y.1) (λ i. (sym subs i, sym are i))
          (record { many = refl; each = of-two });
      rooms = subst (All Roomy) (sym are) (All-cons Roomy s (s' ∷ []) (omega arith)
          (All-cons Roomy s' [] (omega arith) (All-nil Roomy)));
    }
  where
    of-two : (k : ℕ) (n : MsgSub) (q : PubSeat) → slice_get (m ∷ m' ∷ []) k ≡ Some n → slice_get (s ∷ s' ∷ []) k ≡ Some q →
        IsSeatOf n q
    of-two zero n q at there = subst (λ (y : MsgSub × PubSeat). IsSeatOf y.0 y.1)
        (λ i. (same_Some m n at i, same_Some s q there i)) new.own
    of-two (suc zero) n q at there = subst (λ (y : MsgSub × PubSeat). IsSeatOf y.0 y.1)
        (λ i. (same_Some m' n at i, same_Some s' q there i)) new'.own
    of-two (suc (suc k)) n q at there = absurd (cc)
