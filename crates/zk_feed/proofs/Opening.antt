-- A feed before the first message: subscribers, seats by rows, and publishers.
use Rattle.std.proofs.Common.{◌≡◌, ℕ, zero, suc, ◌+◌, ◌<◌, ◌≤◌, Bool, true, false, ◌==◌, ◌||◌, ⊎_elim, Some, All, List, [], ◌∷◌, ◌++◌, length, map, slice_get, Vec, Global, vec_len, refl, sym, ap, subst, ◌∙◌, arith}
use Rattle.std.proofs.lemmas.Bool.{eq-eqb, ne_eqb}
use Rattle.std.proofs.lemmas.List.{length-append, length-map, map-append, same_from_push}
use Rattle.std.proofs.lemmas.List.Elements.{All-cons, All-head, All-nil, All-push, All-weaker}
use Rattle.std.proofs.lemmas.Option.{same_Some, slice_get_within}
use Rattle.zk_base.specs.declared.ids.Who.{Who}
use Rattle.zk_base.specs.declared.ids.Entry.{Entry}
use Rattle.zk_base.specs.Legal.{IsLegal}
use Rattle.zk_base.proofs.Lists.{All-at, All-back, All-front}
use Rattle.zk_turn.specs.Passes.{AreNewPasses, IsNewPass, given_to, pass_players, pass_room, pass_seen, players_in}
use Rattle.zk_turn.specs.Players.{Differ, has, is_by}
use Rattle.zk_msgsub.specs.declared.fan_state.FanOp.{FanOp}
use Rattle.zk_msgsub.specs.declared.fan_state.FanOp.TheVariants.{Open}
use Rattle.zk_msgsub.specs.declared.fan_state.FanReply.{FanReply}
use Rattle.zk_msgsub.specs.declared.msg_sub.MsgSub.{MsgSub}
use Rattle.zk_msgsub.specs.declared.publisher.Publisher.{Publisher}
use Rattle.zk_msgsub.specs.declared.seats.PubSeat.{PubSeat}
use Rattle.zk_msgsub.specs.declared.seats.SubSeat.{SubSeat}
use Rattle.zk_msgsub.specs.Fan.{fan_machine, new_fan}
use Rattle.zk_msgsub.specs.FanSeen.{fan_start}
use Rattle.zk_msgsub.specs.Notes.{upto}
use Rattle.zk_msgsub.specs.Publishers.{FanCell, FanPass, IsPublisherOf, publisher_pass, publisher_room, publisher_seats, room_in}
use Rattle.zk_msgsub.specs.Seats.{IsNewSeat, seat_publisher, seat_room, seat_sent}
use Rattle.zk_feed.specs.declared.feeder.Feeder.{Feeder}
use Rattle.zk_feed.specs.declared.shared.Shared.{Shared}
use Rattle.zk_feed.specs.declared.size.FeedSize.{FeedSize}
use Rattle.zk_feed.specs.Feeding.{AreColumns, AreNewRows, AreReady, AreSubs, HasSeat, IsColumn, IsFeeding, IsIdle, IsInRange, IsNewRow, IsOpen, IsReady, IsSubOf, player, players_upto}
use Rattle.zk_feed.specs.Lasts.{HasTaken}
use Rattle.zk_feed.proofs.Places.{All-places, at-end, at-front, at-last, at-some}

abbrev Seats : Type 0
Seats = Vec PubSeat Global

-- Players.

has-push : (xs : List Who) (w : Who) (n : ℕ) → has (xs ++ w ∷ []) n ≡ (has xs n || ((w.number == n) || false))
has-push [] w n = refl
has-push (x ∷ xs) w n = ap (λ (b : Bool). (x.number == n) || b) (has-push xs w n)
    ∙ assoc (x.number == n) (has xs n) ((w.number == n) || false)
  where
    assoc : (a b c : Bool) → (a || (b || c)) ≡ ((a || b) || c)
    assoc true b c = refl
    assoc false b c = refl

or-none : (a b : Bool) → a ≡ false → b ≡ false → (a || b) ≡ false
or-none a b first second = ap (λ (x : Bool). x || b) first ∙ second

above : (n m : ℕ) → n ≤ m → has (players_upto n) m ≡ false
above zero m le = refl
above (suc n) m le =
    has-push (players_upto n) (player n) m
    ∙ or-none _ _ (above n m (omega arith)) (or-none _ _ (ne_eqb n m (λ same. omega arith)) refl)

differ-push : (xs : List Who) (w : Who) → Differ xs → has xs w.number ≡ false → Differ (xs ++ w ∷ [])
differ-push [] w differ none = (refl, tt)
differ-push (x ∷ xs) w differ none =
    let apart : (x.number == w.number) ≡ false = or-first _ _ none in (
      has-push xs w x.number ∙ or-none _ _ differ.0 (or-none _ _ (swapped x.number w.number apart) refl),
      differ-push xs w differ.1 (or-second _ _ none),
    )
  where
    or-first : (a b : Bool) → (a || b) ≡ false → a ≡ false
    or-first true b none = absurd (cc)
    or-first false b none = refl

    or-second : (a b : Bool) → (a || b) ≡ false → b ≡ false
    or-second true b none = absurd (cc)
    or-second false b none = none

    swapped : (n m : ℕ) → (n == m) ≡ false → (m == n) ≡ false
    swapped n m apart = ne_eqb m n (λ same. let bad = sym apart ∙ eq-eqb n m (sym same) in absurd (cc))

pub players-differ : (n : ℕ) → Differ (players_upto n)
players-differ zero = tt
players-differ (suc n) = differ-push (players_upto n) (player n) (players-differ n) (above n n (omega arith))

pub players-many : (n : ℕ) → length (players_upto n) ≡ n
players-many zero = refl
players-many (suc n) =
    let many = players-many n in
    let long = length-append (players_upto n) (player n ∷ []) in
    omega arith

-- Subscribers.

-- one subscriber more
pub subs-push : (size : FeedSize) (subs : List MsgSub) (takers : List SubSeat) (m : MsgSub) (t : SubSeat) →
    AreSubs size subs takers →
    IsSubOf size m → IsIdle m t → AreSubs size (subs ++ m ∷ []) (takers ++ t ∷ [])
subs-push size subs takers m t are one idle =
    let many = are.many in
    let long = length-append subs (m ∷ []) in
    let long' = length-append takers (t ∷ []) in
    record {
      all = All-push (IsSubOf size) subs m are.all one;
      many = omega arith;
      each = λ k m' t' at there. ⊎_elim
          (λ before. ⊎_elim (λ before'. are.each k m' t' before before')
          (λ last'. let within = slice_get_within subs k m' before in let place = last'.0 in absurd (omega arith))
          (at-last takers t t' k there))
          (λ last. ⊎_elim
          (λ before'. let within = slice_get_within takers k t' before' in let place = last.0 in absurd (omega arith))
          (λ last'. subst (λ (y : MsgSub × SubSeat). IsIdle y.0 y.1) (λ i. (last.1 i, last'.1 i)) idle)
          (at-last takers t t' k there))
          (at-last subs m m' k at);
    }

pub columns-push : (n : ℕ) (subs : List MsgSub) (columns : List Seats) (m : MsgSub) (c : Seats) → AreColumns n subs columns →
    IsColumn m n c.items → AreColumns n (subs ++ m ∷ []) (columns ++ c ∷ [])
columns-push n subs columns m c are one =
    let many = are.many in
    let long = length-append subs (m ∷ []) in
    let long' = length-append columns (c ∷ []) in
    record {
      many = omega arith;
      each = λ k m' c' at there. ⊎_elim
          (λ before. ⊎_elim (λ before'. are.each k m' c' before before')
          (λ last'. let within = slice_get_within subs k m' before in let place = last'.0 in absurd (omega arith))
          (at-last columns c c' k there))
          (λ last. ⊎_elim
          (λ before'. let within = slice_get_within columns k c' before' in let place = last.0 in absurd (omega arith))
          (λ last'. subst (λ (y : MsgSub × Seats). IsColumn y.0 n y.1.items) (λ i. (last.1 i, last'.1 i)) one)
          (at-last columns c c' k there))
          (at-last subs m m' k at);
    }

-- Rows.

module _ (size : FeedSize) (subs : List MsgSub) (n : ℕ) (old new : List Seats) (lasts : List PubSeat)
    (all : All (IsSubOf size) subs) (are : AreColumns (suc n) subs old) (taken : HasTaken old new lasts) where
  -- the columns without their last seats
  pub columns-shorter : AreColumns n subs new
  columns-shorter =
      let many = are.many in
      let many' = taken.many in
      let many'' = taken.count in
      record {
        many = omega arith;
        each = λ k m c at there.
            let within = slice_get_within subs k m at in
            let was = at-some old k (omega arith) in
            let last = at-some lasts k (omega arith) in
            let column = are.each k m was.0 at was.1 in
            let is = (taken.each k was.0 c last.0 was.1 there last.1).items in
            record {
              fresh = All-front (IsNewSeat m) c.items (last.0 ∷ []) (subst (All (IsNewSeat m)) is column.fresh);
              order = (same_from_push (map seat_publisher c.items) (upto n) (seat_publisher last.0) n
                  (sym (map-append seat_publisher c.items (last.0 ∷ [])) ∙ sym (ap (map seat_publisher) is) ∙ column.order)).0;
            };
      }

  -- these seats are a row
  pub row-of-lasts : IsNewRow subs size.messages n lasts
  row-of-lasts =
      let many = are.many in
      let many' = taken.many in
      let many'' = taken.count in
      let seat : (k : ℕ) (m : MsgSub) (s : PubSeat) → slice_get subs k ≡ Some m → slice_get lasts k ≡ Some s →
      IsNewSeat m s × (seat_publisher s ≡ n) = λ k m s at there.
      let within = slice_get_within subs k m at in
      let was = at-some old k (omega arith) in
      let now = at-some new k (omega arith) in
      let column = are.each k m was.0 at was.1 in
      let is = (taken.each k was.0 now.0 s was.1 now.1 there).items in (
        All-head (IsNewSeat m) s [] (All-back (IsNewSeat m) now.0.items (s ∷ []) (subst (All (IsNewSeat m)) is column.fresh)),
        (same_from_push (map seat_publisher now.0.items) (upto n) (seat_publisher s) n
            (sym (map-append seat_publisher now.0.items (s ∷ [])) ∙ sym (ap (map seat_publisher) is) ∙ column.order)).1,
      ) in
      record {
        row = record {
          own = record { many = omega arith; each = λ k m s at there. (seat k m s at there).0.own };
          each = All-places (HasSeat n []) lasts (λ k s there.
              let within = slice_get_within lasts k s there in
              let m = at-some subs k (omega arith) in
              let is = seat k m.0 s m.1 there in
              record { publisher = is.1; is_sent = is.0.sent });
        };
        rooms = All-places (λ s. size.messages ≤ seat_room s) lasts (λ k s there.
            let within = slice_get_within lasts k s there in
            let m = at-some subs k (omega arith) in
            let room = (seat k m.0 s m.1 there).0.room in
            let each = (All-at (IsSubOf size) subs k m.0 all m.1).each in
            omega arith);
      }

pub rows-none : (size : FeedSize) (subs : List MsgSub) → AreNewRows size subs size.publishers []
rows-none size subs = record { many = omega arith; each = λ k p r at. absurd (cc) }

pub new-rows-push : (size : FeedSize) (subs : List MsgSub) (n : ℕ) (rows : List Seats) (row : Seats) →
    AreNewRows size subs (suc n) rows →
    IsNewRow subs size.messages n row.items → AreNewRows size subs n (rows ++ row ∷ [])
new-rows-push size subs n rows row are one =
    let many = are.many in
    let long = length-append rows (row ∷ []) in
    record {
      many = omega arith;
      each = λ k p r at place. ⊎_elim (λ before. are.each k p r before place)
          (λ last.
          let end = last.0 in
          let same : n ≡ p = omega (arith, place, end, many) in
          subst (λ (y : ℕ × Seats). IsNewRow subs size.messages y.0 y.1.items) (λ i. (same i, last.1 i)) one)
          (at-last rows row r k at);
    }

-- the last row, and those before it
pub new-rows-pop : (size : FeedSize) (subs : List MsgSub) (n : ℕ) (rows front : List Seats) (row : Seats) →
    rows ≡ front ++ row ∷ [] →
    AreNewRows size subs n rows → AreNewRows size subs (suc n) front × IsNewRow subs size.messages n row.items
new-rows-pop size subs n rows front row is all =
    let are = subst (AreNewRows size subs n) is all in
    let many = are.many in
    let long = length-append front (row ∷ []) in (
      record {
        many = omega arith;
        each = λ k p r at place. are.each k p r (at-front front (row ∷ []) r k at) place;
      },
      are.each (length front) n row (at-end front [] row) (omega arith),
    )

-- Publishers.

-- it is a new pass of somebody
abbrev pub IsFresh : FanCell → FanPass → Type 0
IsFresh c p = (w : Who) × IsNewPass (IsLegal fan_machine) fan_start c w p

pub new-passes : (c : FanCell) (players : List Who) (passes : List FanPass) →
    AreNewPasses (IsLegal fan_machine) fan_start c players passes →
    (length passes ≡ length players) × All (IsFresh c) passes
new-passes c [] [] are = (refl, All-nil (IsFresh c))
new-passes c [] (p ∷ ps) are = absurd are
new-passes c (w ∷ ws) [] are = absurd are
new-passes c (w ∷ ws) (p ∷ ps) are =
    let rest = new-passes c ws ps are.1 in
    let one : (v : Who) × IsNewPass (IsLegal fan_machine) fan_start c v p = (w, are.0) in
    (ap suc rest.0, All-cons (IsFresh c) p ps one rest.1)

-- one publisher more
pub ready-push : (f : Shared) (n : ℕ) (feeders : List Feeder) (feeder : Feeder) → AreReady f n feeders → IsReady f n feeder →
    AreReady f (n + 1) (feeders ++ feeder ∷ [])
ready-push f n feeders feeder are one =
    let count = are.count in
    let long = length-append feeders (feeder ∷ []) in
    record {
      count = omega arith;
      each = λ p x at. ⊎_elim (λ before. are.each p x before)
          (λ last. subst (λ (y : ℕ × Feeder). IsReady f y.0 y.1) (λ i. (sym (last.0 ∙ count) i, last.1 i)) one)
          (at-last feeders feeder x p at);
    }

-- a publisher before its first message
pub starts-feeding : (f : Shared) (p : ℕ) (publisher : Publisher) (pass : FanPass) (seats : List PubSeat) (who : Who) →
    IsNewPass (IsLegal fan_machine) fan_start f.fan who pass → IsNewRow f.subs.items f.size.messages p seats →
    publisher_pass publisher ≡ Some pass → publisher_seats publisher ≡ seats → IsPublisherOf f.fan f.subs.items publisher →
    IsFeeding f p 0 publisher
starts-feeding f p publisher pass seats who fresh new there is own =
    let room = fresh.room in
    let has_room : publisher_room publisher ≡ pass_room pass = ap room_in there in
    record {
      own = own;
      room = omega arith;
      opens = λ q at. subst (λ (r : FanPass). All (λ e. is_by (pass_players r) e ≡ true → e.op ≡ Open) (pass_seen r))
          (same_Some pass q (sym there ∙ at)) (subst (λ h. All (λ e. is_by (pass_players pass) e ≡ true → e.op ≡ Open) h)
          (sym fresh.seen)
          (All-nil (λ (e : Entry FanOp FanReply). is_by (pass_players pass) e ≡ true → e.op ≡ Open)));
      told = λ q at told. subst (All (λ s. seat_sent s ≡ [])) (sym is)
          (All-weaker (HasSeat p []) (λ s. seat_sent s ≡ []) (λ s has. has.is_sent) seats new.row.each);
      whose = subst (All (λ s. seat_publisher s ≡ p)) (sym is)
          (All-weaker (HasSeat p []) (λ s. seat_publisher s ≡ p) (λ s has. has.publisher) seats new.row.each);
      rooms = subst (All (λ s. f.size.messages ≤ seat_room s + 0)) (sym is)
          (All-weaker (λ s. f.size.messages ≤ seat_room s) (λ s. f.size.messages ≤ seat_room s + 0) (λ s le. omega arith)
          seats new.rooms);
    }

-- what is taken of columns that have seats

upto-many : (n : ℕ) → length (upto n) ≡ n
upto-many zero = refl
upto-many (suc n) =
    let many = upto-many n in
    let long = length-append (upto n) (n ∷ []) in
    omega arith

pub columns-some : (n : ℕ) (subs : List MsgSub) (columns : List Seats) → 0 < n → AreColumns n subs columns →
    All (λ c. 0 < vec_len c) columns
columns-some n subs columns some are = All-places (λ c. 0 < vec_len c) columns (λ k c there.
    let within = slice_get_within columns k c there in
    let many = are.many in
    let m = at-some subs k (omega arith) in
    let order = ap (λ (l : List ℕ). length l) (are.each k m.0 c m.1 there).order in
    let long = length-map c.items seat_publisher in
    let all = upto-many n in
    let ok = c.ok.0 in
    omega arith)

-- a feed before its first message
pub opened : (size : FeedSize) (fan : FanCell) (subs : Vec MsgSub Global) (takers : List SubSeat) → IsInRange size →
    fan_start (given_to fan) ≡ new_fan (upto size.subscribers) → players_in fan ≡ players_upto size.publishers →
    length subs.items ≡ size.subscribers → AreSubs size subs.items takers →
    IsOpen (record { size = size; fan = fan; subs = subs })
opened size fan subs takers range start players many are = record {
  range = range;
  start = start;
  players = ap (λ (l : List Who). length l) players ∙ players-many size.publishers;
  many = many;
  subs_are = are.all;
}
