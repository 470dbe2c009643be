-- The passes of publishers that were put together, and their rows.
use Rattle.std.proofs.Common.{◌≡◌, ℕ, ◌+◌, false, ⊎_elim, Option, Some, None, IsSome, All, List, [], ◌∷◌, ◌++◌, length, slice_get, Vec, Global, refl, sym, ap, subst, ◌∙◌, arith}
use Rattle.std.proofs.lemmas.List.{length-append}
use Rattle.std.proofs.lemmas.Option.{same_Some}
use Rattle.zk_base.specs.declared.ids.Who.{Who}
use Rattle.zk_base.specs.Legal.{IsLegal}
use Rattle.zk_turn.specs.Passes.{IsPassOf, pass_players, pass_seen, pass_who}
use Rattle.zk_msgsub.specs.declared.msg_sub.MsgSub.{MsgSub}
use Rattle.zk_msgsub.specs.declared.publisher.Publisher.{Publisher}
use Rattle.zk_msgsub.specs.declared.seats.PubSeat.{PubSeat}
use Rattle.zk_msgsub.specs.Fan.{fan_machine}
use Rattle.zk_msgsub.specs.FanSeen.{fan_start}
use Rattle.zk_msgsub.specs.Publishers.{AreSeatsOf, FanPass, publisher_pass, publisher_seats}
use Rattle.zk_feed.specs.declared.feeder.Feeder.{Feeder}
use Rattle.zk_feed.specs.declared.shared.Shared.{Shared}
use Rattle.zk_feed.specs.Feeding.{AreFed, AreRows, HasSeat, IsFeeding, IsGathered, IsJoined, IsRow, IsSoFar, JoinsTwo, ToldAll}
use Rattle.zk_feed.specs.Output.{messages}
use Rattle.zk_feed.proofs.Opens.{opens-joined, told-before}
use Rattle.zk_feed.proofs.Places.{at-end, at-last}

-- one row more
pub rows-push : (subs : List MsgSub) (n : ℕ) (rows : List (Vec PubSeat Global)) (row : Vec PubSeat Global) →
    AreRows subs n rows →
    IsRow subs (length rows) (messages n) row.items → AreRows subs n (rows ++ row ∷ [])
rows-push subs n rows row are one = record {
  each = λ p r at. ⊎_elim (λ before. are.each p r before)
      (λ last. subst (λ (y : ℕ × Vec PubSeat Global). IsRow subs y.0 (messages n) y.1.items)
      (λ i. (sym last.0 i, last.1 i)) one)
      (at-last rows row r p at);
}

module _ (f : Shared) (p : ℕ) (publisher : Publisher) (pass : FanPass) (row : Vec PubSeat Global)
    (feeding : IsFeeding f p f.size.messages publisher) (there : publisher_pass publisher ≡ Some pass)
    (seats : row.items ≡ publisher_seats publisher) where
  -- its row, where each open told of all
  row-of : ToldAll f.size.subscribers (pass_seen pass) → IsRow f.subs.items p (messages f.size.messages) row.items
  row-of told =
      let all = feeding.told pass there told in
      let whose = feeding.whose in
      record {
        own = subst (AreSeatsOf f.subs.items) (sym seats) feeding.own.seats;
        each = subst (All (HasSeat p (messages f.size.messages))) (sym seats)
            (λ k d within. record { publisher = whose k d within; is_sent = all k d within });
      }

  one-player : length (pass_players pass) ≡ 1
  one-player =
      let same = same_Some feeding.own.pass.pass pass (sym feeding.own.pass.there ∙ there) in
      ap (λ (l : List Who). length l) (subst (λ (q : FanPass). pass_players q ≡ pass_who q ∷ []) same feeding.own.pass.alone)

  -- the first
  pub gathered-first : p ≡ 0 → IsGathered f 1 pass (row ∷ [])
  gathered-first first = record {
    own = subst (λ (q : FanPass). IsPassOf (IsLegal fan_machine) fan_start f.fan q)
        (same_Some feeding.own.pass.pass pass (sym feeding.own.pass.there ∙ there)) feeding.own.pass.own;
    players = one-player;
    opens = feeding.opens pass there;
    count = refl;
    told = λ told. rows-push f.subs.items f.size.messages [] row (record { each = λ q r at. absurd (cc) })
        (subst (λ (q : ℕ). IsRow f.subs.items q (messages f.size.messages) row.items) first (row-of told));
  }

  -- and one more
  pub gathered-more : (all new : FanPass) (rows : List (Vec PubSeat Global)) → IsGathered f p all rows →
      JoinsTwo f all pass new →
      IsGathered f (p + 1) new (rows ++ row ∷ [])
  gathered-more all new rows are joins =
      let one = one-player in
      let before = are.players in
      let long = length-append (pass_players all) (pass_players pass) in
      let both = ap (λ (l : List Who). length l) joins.players in
      let count = are.count in
      let long' = length-append rows (row ∷ []) in
      record {
        own = joins.own;
        players = omega arith;
        opens = opens-joined f all pass new joins are.opens (feeding.opens pass there);
        count = omega arith;
        told = λ told. rows-push f.subs.items f.size.messages rows row
            (are.told (told-before f.size.subscribers (pass_players all) (pass_seen all) (pass_seen new) joins.first told))
            (subst (λ (q : ℕ). IsRow f.subs.items q (messages f.size.messages) row.items) (sym count)
            (row-of (told-before f.size.subscribers (pass_players pass) (pass_seen pass) (pass_seen new) joins.second told)));
      }

-- what is put together, with one more
pub so-far-more : (f : Shared) (n : ℕ) (publisher : Publisher) (pass : FanPass) (row : Vec PubSeat Global) →
    IsFeeding f n f.size.messages publisher → publisher_pass publisher ≡ Some pass → row.items ≡ publisher_seats publisher →
    (before : Option FanPass) (rows : List (Vec PubSeat Global)) (new : FanPass) → length rows ≡ n → IsSoFar f n before rows →
    IsJoined f before pass new → IsGathered f (n + 1) new (rows ++ row ∷ [])
so-far-more f n publisher pass row feeding there seats None rows new many none same =
    let first : IsGathered f 1 pass (row ∷ []) = gathered-first f n publisher pass row feeding there seats none in
    subst (λ (y : ℕ × FanPass × List (Vec PubSeat Global)). IsGathered f y.0 y.1 (y.2 ++ row ∷ []))
    (λ i. (one none i, sym same i, sym (no-rows rows (many ∙ none)) i)) first
  where
    one : n ≡ 0 → 1 ≡ n + 1
    one none = omega arith

    no-rows : (rows : List (Vec PubSeat Global)) → length rows ≡ 0 → rows ≡ []
    no-rows [] none = refl
    no-rows (r ∷ rows) none = absurd (omega arith)
so-far-more f n publisher pass row feeding there seats (Some all) rows new many are joins =
    gathered-more f n publisher pass row feeding there seats all new rows are joins

-- the next one that has sent all its messages
pub fed-at : (f : Shared) (many : ℕ) (feeders yielded rest : List Feeder) (feeder : Feeder) → AreFed f many feeders →
    yielded ++ (feeder ∷ rest) ≡ feeders → feeder.refused ≡ false → IsFeeding f (length yielded) f.size.messages feeder.publisher
fed-at f many feeders yielded rest feeder are is fine =
    are.each (length yielded) feeder
    (subst (λ l. slice_get l (length yielded) ≡ Some feeder) is (at-end yielded rest feeder)) fine

-- a publisher has its pass while no call of the fan goes on
pub some-pass : (f : Shared) (p n : ℕ) (publisher : Publisher) → IsFeeding f p n publisher → IsSome (publisher_pass publisher)
some-pass f p n publisher feeding = subst IsSome (sym feeding.own.pass.there) refl

pub own-pass : (f : Shared) (p n : ℕ) (publisher : Publisher) (pass : FanPass) → IsFeeding f p n publisher →
    publisher_pass publisher ≡ Some pass → IsPassOf (IsLegal fan_machine) fan_start f.fan pass
own-pass f p n publisher pass feeding there =
    subst (λ (q : FanPass). IsPassOf (IsLegal fan_machine) fan_start f.fan q)
    (same_Some feeding.own.pass.pass pass (sym feeding.own.pass.there ∙ there)) feeding.own.pass.own
