-- One message more of a publisher.
use Rattle.std.proofs.Common.{◌≡◌, ℕ, zero, suc, ◌+◌, ◌*◌, ◌-◌, ◌<◌, ◌≤◌, ◌⊎◌, Bool, true, false, ◌==◌, ◌||◌, if◌then◌else◌, inl, inr, All, List, [], ◌∷◌, ◌++◌, filter, length, nat_lt, refl, sym, ap, subst, ◌∙◌, arith}
use Rattle.std.proofs.lemmas.Bool.{cases_lt, eq-eqb, lt-ltb}
use Rattle.std.proofs.lemmas.List.Elements.{All-head, All-push, All-weaker, filter-append}
use Rattle.std.proofs.lemmas.List.Folds.{list_any-append}
use Rattle.std.proofs.lemmas.Option.{same_Some, slice_get_within}
use Rattle.zk_base.specs.History.{entry}
use Rattle.zk_base.proofs.Lists.{All-at, All-back, All-front}
use Rattle.zk_turn.specs.Passes.{pass_players, pass_seen, pass_who}
use Rattle.zk_turn.specs.Players.{is_by}
use Rattle.zk_msgsub.specs.declared.fan_state.FanOp.TheVariants.{Open}
use Rattle.zk_msgsub.specs.declared.fan_state.FanReply.TheVariants.{Subs}
use Rattle.zk_msgsub.specs.declared.msg_sub.MsgSub.{MsgSub}
use Rattle.zk_msgsub.specs.declared.publisher.Publisher.{Publisher}
use Rattle.zk_msgsub.specs.declared.publisher.Sent.{Sent}
use Rattle.zk_msgsub.specs.declared.seats.PubSeat.{PubSeat}
use Rattle.zk_msgsub.specs.Fan.{is_in, subs_told}
use Rattle.zk_msgsub.specs.Notes.{Message, upto}
use Rattle.zk_msgsub.specs.Publishers.{FanPass, HasPushed, HasSent, IsPublisherOf, SeatAfter, members, publisher_room, publisher_seats, publisher_step}
use Rattle.zk_msgsub.specs.Seats.{seat_publisher, seat_room, seat_sent, sub_publishers}
use Rattle.zk_feed.specs.declared.shared.Shared.{Shared}
use Rattle.zk_feed.specs.Feeding.{IsFeeding, IsOpen, IsSubOf, OpensAlone, ToldAll}
use Rattle.zk_feed.specs.Output.{message, messages}
use Rattle.zk_feed.proofs.Opens.{AreOpens, FanEntry, opens-go-on, told-before}
use Rattle.zk_feed.proofs.Places.{All-places, at-some}

or-true : (b : Bool) → (b || true) ≡ true
or-true true = refl
or-true false = refl

-- all numbers below the number of subscribers are members
members-upto : (subs : List MsgSub) (n : ℕ) → n ≤ length subs → members subs (upto n) ≡ upto n
members-upto subs zero few = refl
members-upto subs (suc n) few =
    let below : ℕ → Bool = λ k. nat_lt k (length subs) in
    filter-append below (upto n) (n ∷ [])
    ∙ ap (λ (b : Bool). filter below (upto n) ++ (if b then n ∷ [] else [])) (lt-ltb n (length subs) (omega arith))
    ∙ ap (λ l. l ++ n ∷ []) (members-upto subs n (omega arith))

is-upto : (n k : ℕ) → k < n → is_in (upto n) k ≡ true
is-upto zero k below = absurd (omega arith)
is-upto (suc n) k below = list_any-append (λ m. m == k) (upto n) (n ∷ []) ∙ by (λ less. is-upto n k less) (cases_lt k n)
  where
    by : (k < n → is_in (upto n) k ≡ true) → (k < n) ⊎ (n ≤ k) → (is_in (upto n) k || ((n == k) || false)) ≡ true
    by fewer (inl less) = ap (λ (b : Bool). b || ((n == k) || false)) (fewer less)
    by fewer (inr more) = ap (λ (b : Bool). is_in (upto n) k || (b || false)) (eq-eqb n k (omega arith))
        ∙ or-true (is_in (upto n) k)

module _ (f : Shared) (stands : IsOpen f) where
  -- whether it took the copy or not, a seat stays its publisher's
  same-publisher : (to took : Bool) (m : MsgSub) (ms : Message) (s s' : PubSeat) → SeatAfter to took m ms s s' →
      seat_publisher s' ≡ seat_publisher s
  same-publisher false took m ms s s' same = ap seat_publisher same
  same-publisher true true m ms s s' took = took.publisher
  same-publisher true false m ms s s' full = full.publisher

  -- a subscriber of a feed is never full
  one-took : (took : Bool) (m : MsgSub) (ms : Message) (s s' : PubSeat) → IsSubOf f.size m → SeatAfter true took m ms s s' →
      seat_sent s' ≡ seat_sent s ++ ms ∷ []
  one-took true m ms s s' of took = took.sent
  one-took false m ms s s' of full =
      let never = full.never in
      let same = of.capacity ∙ sym (ap (λ (n : ℕ). n * f.size.messages) of.publishers)
      ∙ sym (ap (λ (n : ℕ). sub_publishers m * n) of.each) in
      absurd (omega (arith, never, same))

  -- where the open told of all subscribers, each of them took the copy
  all-took : (n : ℕ) (old new : List PubSeat) (sent : Sent) (listed : List ℕ) → listed ≡ upto f.size.subscribers →
      HasPushed f.subs.items (members f.subs.items listed) (message n) old new sent.pushed sent.full →
      length old ≡ length f.subs.items → All (λ s. seat_sent s ≡ messages n) old → All (λ s. seat_sent s ≡ messages (suc n)) new
  all-took n old new sent listed all has long before =
      let subs = f.subs.items in
      let many = stands.many in
      let new_many = has.many in
      let to : members subs listed ≡ upto f.size.subscribers =
      ap (members subs) all ∙ members-upto subs f.size.subscribers (omega arith) in
      All-places (λ s. seat_sent s ≡ messages (suc n)) new (λ k s' at'.
      let within = slice_get_within new k s' at' in
      let there = at-some subs k (omega arith) in
      let here = at-some old k (omega arith) in
      let is : is_in (members subs listed) k ≡ true = ap (λ l. is_in l k) to ∙ is-upto f.size.subscribers k (omega arith) in
      let after : SeatAfter true (is_in sent.pushed k) there.0 (message n) here.0 s' =
      subst (λ (b : Bool). SeatAfter b (is_in sent.pushed k) there.0 (message n) here.0 s') is
      (has.each k there.0 here.0 s' there.1 here.1 at') in
      one-took (is_in sent.pushed k) there.0 (message n) here.0 s'
      (All-at (IsSubOf f.size) subs k there.0 stands.subs_are there.1) after
      ∙ ap (λ l. l ++ message n ∷ []) (All-at (λ s. seat_sent s ≡ messages n) old k here.0 before here.1))

  -- whatever was pushed, the seats stay its publisher's
  still-whose : (n p : ℕ) (to : List ℕ) (old new : List PubSeat) (sent : Sent) →
      HasPushed f.subs.items to (message n) old new sent.pushed sent.full → length old ≡ length f.subs.items →
      All (λ s. seat_publisher s ≡ p) old → All (λ s. seat_publisher s ≡ p) new
  still-whose n p to old new sent has long before =
      let subs = f.subs.items in
      let new_many = has.many in
      All-places (λ s. seat_publisher s ≡ p) new (λ k s' at'.
      let within = slice_get_within new k s' at' in
      let there = at-some subs k (omega arith) in
      let here = at-some old k (omega arith) in
      same-publisher (is_in to k) (is_in sent.pushed k) there.0 (message n) here.0 s'
      (has.each k there.0 here.0 s' there.1 here.1 at')
      ∙ All-at (λ s. seat_publisher s ≡ p) old k here.0 before here.1)

  module _ (p n : ℕ) (old new : Publisher) (sent : Sent) (feeding : IsFeeding f p n old) (below : n < f.size.messages)
      (own : IsPublisherOf f.fan f.subs.items new) (has : HasSent f.fan f.subs.items (message n) old new sent) where
    abbrev before : FanPass
    before = has.opened.before

    abbrev after : FanPass
    after = has.opened.after

    abbrev found : List FanEntry
    found = has.opened.entered.found

    abbrev made : FanEntry
    made = entry (pass_who before) (publisher_step old) Open (Subs has.listed)

    -- who has the passes
    alone-before : pass_players before ≡ pass_who before ∷ []
    alone-before = subst (λ (q : FanPass). pass_players q ≡ pass_who q ∷ [])
        (same_Some feeding.own.pass.pass before (sym feeding.own.pass.there ∙ has.opened.was)) feeding.own.pass.alone

    alone-after : pass_players after ≡ pass_who before ∷ []
    alone-after = subst (λ (q : FanPass). pass_players q ≡ pass_who q ∷ [])
        (same_Some own.pass.pass after (sym own.pass.there ∙ has.opened.is)) own.pass.alone
        ∙ ap (λ w. w ∷ []) has.opened.who

    opens-after : OpensAlone after
    opens-after =
        let one = pass_who before ∷ [] in
        let P : FanEntry → Type 0 = λ e. is_by one e ≡ true → e.op ≡ Open in
        let earlier : AreOpens one (pass_seen before) = subst (λ players. AreOpens players (pass_seen before)) alone-before
        (feeding.opens before has.opened.was) in
        let so_far = opens-go-on one (pass_seen before) found has.opened.entered.since earlier in
        subst (λ players. AreOpens players (pass_seen after)) (sym alone-after)
        (subst (All P) (sym has.opened.entered.entered) (All-push P found made so_far (λ mine. refl)))

    told-after : ToldAll f.size.subscribers (pass_seen after) → All (λ s. seat_sent s ≡ messages (suc n)) (publisher_seats new)
    told-after told =
        let P : FanEntry → Type 0 = λ e. e.reply ≡ Subs (upto f.size.subscribers) in
        let whole = subst (All P) has.opened.entered.entered told in
        let earlier = told-before f.size.subscribers (pass_who before ∷ []) (pass_seen before) found has.opened.entered.since
        (All-front P found (made ∷ []) whole) in
        let reply : Subs has.listed ≡ Subs (upto f.size.subscribers) = All-head P made [] (All-back P found (made ∷ []) whole) in
        let listed : has.listed ≡ upto f.size.subscribers = same_Some _ _ (ap subs_told reply) in
        all-took n (publisher_seats old) (publisher_seats new) sent has.listed listed has.pushed feeding.own.seats.many
        (feeding.told before has.opened.was earlier)

    -- so far so many, and now one more
    pub one-more : publisher_room old ≤ publisher_room new + 1 →
        All (λ s. f.size.messages ≤ seat_room s + suc n) (publisher_seats new) → IsFeeding f p (suc n) new
    one-more room rooms =
        let so_far = feeding.room in
        record {
          own = own;
          room = omega arith;
          opens = λ q is. subst OpensAlone (same_Some after q (sym has.opened.is ∙ is)) opens-after;
          told = λ q is told. told-after (subst (λ (r : FanPass). ToldAll f.size.subscribers (pass_seen r))
              (sym (same_Some after q (sym has.opened.is ∙ is))) told);
          whose = still-whose n p (members f.subs.items has.listed) (publisher_seats old) (publisher_seats new) sent has.pushed
              feeding.own.seats.many feeding.whose;
          rooms = rooms;
        }

    -- each seat has as many pushes left
    pub rooms-after : ((k : ℕ) → All (λ s. k < seat_room s) (publisher_seats old) →
        All (λ s. k ≤ seat_room s) (publisher_seats new)) →
        All (λ s. f.size.messages ≤ seat_room s + suc n) (publisher_seats new)
    rooms-after falls =
        let k = f.size.messages - suc n in
        All-weaker (λ s. k ≤ seat_room s) (λ s. f.size.messages ≤ seat_room s + suc n) (λ s some. omega arith)
        (publisher_seats new)
        (falls k (All-weaker (λ s. f.size.messages ≤ seat_room s + n) (λ s. k < seat_room s) (λ s some. omega arith)
        (publisher_seats old) feeding.rooms))
