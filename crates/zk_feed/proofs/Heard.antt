-- What each subscriber took at the end.
use Rattle.std.proofs.Common.{◌≡◌, ℕ, ◌<◌, Some, All, List, [], ◌∷◌, ◌++◌, length, slice_get, Vec, Global, vec_len, sym, ap, subst, ◌∙◌, arith}
use Rattle.std.proofs.lemmas.List.{length-append}
use Rattle.std.proofs.lemmas.List.Elements.{All-head}
use Rattle.std.proofs.lemmas.Option.{slice_get_within}
use Rattle.zk_base.proofs.Lists.{All-at, All-back, All-front}
use Rattle.zk_msgsub.specs.declared.msg_sub.MsgSub.{MsgSub}
use Rattle.zk_msgsub.specs.declared.note.Note.{Note}
use Rattle.zk_msgsub.specs.declared.seats.PubSeat.{PubSeat}
use Rattle.zk_msgsub.specs.declared.seats.SubSeat.{SubSeat}
use Rattle.zk_msgsub.specs.Notes.{numbered, part}
use Rattle.zk_msgsub.specs.Publishers.{AreSeatsOf}
use Rattle.zk_msgsub.specs.Seats.{IsSeatOf, seat_publisher, seat_sent, sub_publishers, sub_taken}
use Rattle.zk_feed.specs.declared.size.FeedSize.{FeedSize}
use Rattle.zk_feed.specs.Feeding.{AreRows, AreSubs, HasSeat, IsIdle, IsRow, IsSubOf}
use Rattle.zk_feed.specs.Lasts.{HasTaken}
use Rattle.zk_feed.specs.Output.{IsHeard, messages}
use Rattle.zk_feed.proofs.Places.{All-places, at-end, at-front, at-some}

abbrev Seats : Type 0
Seats = Vec PubSeat Global

-- the last subscriber and what takes at it, and those before
pub subs-pop : (size : FeedSize) (subs : List MsgSub) (takers : List SubSeat) (m : MsgSub) (t : SubSeat) →
    AreSubs size (subs ++ m ∷ []) (takers ++ t ∷ []) → AreSubs size subs takers × IsSubOf size m × IsIdle m t
subs-pop size subs takers m t are =
    let many = are.many in
    let long = length-append subs (m ∷ []) in
    let long' = length-append takers (t ∷ []) in
    let same : length takers ≡ length subs = omega arith in (
      record {
        all = All-front (IsSubOf size) subs (m ∷ []) are.all;
        many = same;
        each = λ k m' t' at there. are.each k m' t' (at-front subs (m ∷ []) m' k at) (at-front takers (t ∷ []) t' k there);
      },
      All-head (IsSubOf size) m [] (All-back (IsSubOf size) subs (m ∷ []) are.all),
      are.each (length subs) m t (at-end subs [] m) (subst (λ (k : ℕ). slice_get (takers ++ t ∷ []) k ≡ Some t) same
          (at-end takers [] t)),
    )

module _ (subs : List MsgSub) (m : MsgSub) (n : ℕ) (old new : List Seats) (lasts : List PubSeat)
    (are : AreRows (subs ++ m ∷ []) n old) (taken : HasTaken old new lasts) where
  -- one row without its last seat, which is the last subscriber's
  one-row : (p : ℕ) (o r : Seats) (s : PubSeat) → slice_get old p ≡ Some o → slice_get new p ≡ Some r →
      slice_get lasts p ≡ Some s →
      IsRow subs p (messages n) r.items × IsSeatOf m s × HasSeat p (messages n) s
  one-row p o r s at there here =
      let row = are.each p o at in
      let is = (taken.each p o r s at there here).items in
      let own = subst (AreSeatsOf (subs ++ m ∷ [])) is row.own in
      let each = subst (All (HasSeat p (messages n))) is row.each in
      let many = own.many in
      let long = length-append subs (m ∷ []) in
      let long' = length-append r.items (s ∷ []) in
      let same : length r.items ≡ length subs = omega arith in (
        record {
          own = record {
            many = same;
            each = λ k m' s' at' there'. own.each k m' s' (at-front subs (m ∷ []) m' k at')
                (at-front r.items (s ∷ []) s' k there');
          };
          each = All-front (HasSeat p (messages n)) r.items (s ∷ []) each;
        },
        own.each (length subs) m s (at-end subs [] m)
            (subst (λ (k : ℕ). slice_get (r.items ++ s ∷ []) k ≡ Some s) same (at-end r.items [] s)),
        All-head (HasSeat p (messages n)) s [] (All-back (HasSeat p (messages n)) r.items (s ∷ []) each),
      )

  pub rows-shorter : AreRows subs n new
  rows-shorter = record {
    each = λ p r there.
        let within = slice_get_within new p r there in
        let many = taken.many in
        let many' = taken.count in
        let o = at-some old p (omega arith) in
        let s = at-some lasts p (omega arith) in
        (one-row p o.0 r s.0 o.1 there s.1).0;
  }

  pub own-seats : All (IsSeatOf m) lasts
  own-seats = All-places (IsSeatOf m) lasts (λ p s here.
      let within = slice_get_within lasts p s here in
      let many = taken.many in
      let many' = taken.count in
      let o = at-some old p (omega arith) in
      let r = at-some new p (omega arith) in
      (one-row p o.0 r.0 s o.1 r.1 here).1)

  -- what is left at its close
  pub heard-all : (size : FeedSize) (taker : SubSeat) (left : List Note) → size.messages ≡ n → length old ≡ size.publishers →
      IsSubOf size m → IsIdle m taker →
      All (λ s. part (seat_publisher s) (sub_taken taker ++ left) ≡ numbered (seat_publisher s) (seat_sent s)) lasts →
      All (λ x. x.publisher < sub_publishers m) (sub_taken taker ++ left) → IsHeard size left
  heard-all size taker left all many of idle parts known =
      let whole : sub_taken taker ++ left ≡ left = ap (λ l. l ++ left) idle.taken in
      record {
        known = subst (λ (y : ℕ × List Note). All (λ x. x.publisher < y.0) y.1) (λ i. (of.publishers i, whole i)) known;
        parts = λ p below.
            let many' = taken.many in
            let many'' = taken.count in
            let o = at-some old p (omega arith) in
            let r = at-some new p (omega arith) in
            let s = at-some lasts p (omega arith) in
            let has = (one-row p o.0 r.0 s.0 o.1 r.1 s.1).2 in
            let is = All-at (λ s. part (seat_publisher s) (sub_taken taker ++ left) ≡ numbered (seat_publisher s)
            (seat_sent s)) lasts p s.0 parts s.1 in
            ap (λ l. part p l) (sym whole)
            ∙ ap (λ (q : ℕ). part q (sub_taken taker ++ left)) (sym has.publisher)
            ∙ is
            ∙ ap (λ (q : ℕ). numbered q (seat_sent s.0)) has.publisher
            ∙ ap (numbered p) (has.is_sent ∙ ap messages (sym all));
      }

-- each row has a seat of the last subscriber
pub rows-some : (subs : List MsgSub) (m : MsgSub) (n : ℕ) (rows : List Seats) → AreRows (subs ++ m ∷ []) n rows →
    All (λ r. 0 < vec_len r) rows
rows-some subs m n rows are = All-places (λ r. 0 < vec_len r) rows (λ p r there.
    let many = (are.each p r there).own.many in
    let long = length-append subs (m ∷ []) in
    let ok = r.ok.0 in
    omega arith)
