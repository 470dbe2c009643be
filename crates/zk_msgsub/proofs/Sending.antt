-- What one push more does to the seats of a publisher, and what an open tells it.
use Rattle.std.proofs.Common.{◌≡◌, ℕ, zero, suc, ◌+◌, ◌<◌, ◌≤◌, inl, inr, Bool, true, false, not, ◌==◌, ◌||◌, nat_lt, cond, Some, List, [], ◌∷◌, ◌++◌, filter, get_or, length, set, slice_get, take, All, refl, sym, ap, subst, ◌∙◌, arith}
use Rattle.std.proofs.lemmas.Bool.{cases_eq, eq-eqb, eqb-true, false_from_ne_true, le-ltb, lt-ltb, ne_eqb, or_from}
use Rattle.std.proofs.lemmas.List.{append-nil, length-set, length-take}
use Rattle.std.proofs.lemmas.List.Elements.{All-head, All-tail, filter-append, filter_more}
use Rattle.std.proofs.lemmas.List.Folds.{list_any_at}
use Rattle.std.proofs.lemmas.List.Sums.{length-filter, count_by-le-length}
use Rattle.std.proofs.lemmas.Option.{same_Some, slice_get-get_or, slice_get_read, slice_get_within}
use Rattle.zk_base.specs.declared.ids.Who.{Who}
use Rattle.zk_base.specs.declared.ids.Entry.{Entry}
use Rattle.zk_base.specs.History.{entry, IsAbove}
use Rattle.zk_base.specs.Legal.{AreInRange, IsLegal, state_after}
use Rattle.zk_base.specs.Limits.{most_few}
use Rattle.zk_base.proofs.Lists.{All-at, All-front}
use Rattle.zk_turn.specs.Calls.{IsEntered}
use Rattle.zk_turn.specs.Passes.{given_to, pass_mine, pass_players, pass_seen, pass_who}
use Rattle.zk_turn.specs.Players.{is_by, own, GoesOn}
use Rattle.zk_msgsub.specs.declared.fan_state.FanOp.{FanOp}
use Rattle.zk_msgsub.specs.declared.fan_state.FanOp.TheVariants.{Open}
use Rattle.zk_msgsub.specs.declared.fan_state.FanReply.{FanReply}
use Rattle.zk_msgsub.specs.declared.fan_state.FanReply.TheVariants.{Subs}
use Rattle.zk_msgsub.specs.declared.msg_sub.MsgSub.{MsgSub}
use Rattle.zk_msgsub.specs.declared.publisher.Sent.{Sent}
use Rattle.zk_msgsub.specs.declared.seats.PubSeat.{PubSeat}
use Rattle.zk_msgsub.specs.Fan.{are_subscribers, fan_in_range, fan_machine, is_in, is_once_each, subs_told}
use Rattle.zk_msgsub.specs.FanSeen.{fan_start}
use Rattle.zk_msgsub.specs.Notes.{Message}
use Rattle.zk_msgsub.specs.Publishers.{FanCell, FanPass, AreSeatsOf, HasPushed, PushesOne, SeatAfter, members}
use Rattle.zk_msgsub.specs.Seats.{IsSeatOf, seat_room}
use Rattle.zk_msgsub.proofs.Rosters.{history-kept}
use Rattle.zk_msgsub.proofs.Subscribers.{filter-but, is_in-append, not_in-filter, once-head, once-tail}

-- Lists.

set-here : {A : Type 0} (xs : List A) (i : ℕ) (y : A) → i < length xs → slice_get (set xs i y) i ≡ Some y
set-here [] i y within = absurd (omega arith)
set-here (x ∷ xs) zero y within = refl
set-here (x ∷ xs) (suc i) y within = set-here xs i y (omega arith)

set-else : {A : Type 0} (xs : List A) (i k : ℕ) (y : A) → (k ≡ i → ⊥) → slice_get (set xs i y) k ≡ slice_get xs k
set-else [] i k y differ = refl
set-else (x ∷ xs) zero zero y differ = absurd (differ refl)
set-else (x ∷ xs) zero (suc k) y differ = refl
set-else (x ∷ xs) (suc i) zero y differ = refl
set-else (x ∷ xs) (suc i) (suc k) y differ = set-else xs i k y (λ same. differ (ap suc same))

pub filter-short : (p : ℕ → Bool) (xs : List ℕ) → length (filter p xs) ≤ length xs
filter-short p xs = let long = length-filter p xs in let few = count_by-le-length p xs in omega arith

-- a number of a list of different ones isn't before its place
pub once-at : (xs : List ℕ) (i d : ℕ) → is_once_each xs ≡ true → i < length xs → is_in (take i xs) (get_or xs i d) ≡ false
once-at [] i d once within = absurd (omega arith)
once-at (x ∷ xs) zero d once within = refl
once-at (x ∷ xs) (suc i) d once within =
    let n = get_or xs i d in
    let there : is_in xs n ≡ true = list_any_at (λ m. m == n) xs i d (omega arith) (eq-eqb n n refl) in
    let apart : (x == n) ≡ false = false_from_ne_true (x == n) (λ same.
    let here = sym there ∙ ap (is_in xs) (sym (eqb-true x n same)) ∙ once-head x xs once in absurd (cc)) in
    or_from (x == n) (is_in (take i xs) n) apart (once-at xs i d (once-tail x xs once) (omega arith))

or-false : (b : Bool) → (b || false) ≡ b
or-false true = refl
or-false false = refl

-- a list with one more, or without
more-else : (xs : List ℕ) (k j : ℕ) (took : Bool) → (j ≡ k → ⊥) → is_in (xs ++ cond took (k ∷ []) []) j ≡ is_in xs j
more-else xs k j true differ = is_in-append xs (k ∷ []) j
    ∙ ap (λ (b : Bool). is_in xs j || (b || false)) (ne_eqb k j (λ same. differ (sym same))) ∙ or-false (is_in xs j)
more-else xs k j false differ = is_in-append xs [] j ∙ or-false (is_in xs j)

more-here : (xs : List ℕ) (k : ℕ) (took : Bool) → is_in xs k ≡ false → is_in (xs ++ cond took (k ∷ []) []) k ≡ took
more-here xs k true none = is_in-append xs (k ∷ []) k
    ∙ ap (λ (b : Bool). b || ((k == k) || false)) none ∙ or-false (k == k) ∙ eq-eqb k k refl
more-here xs k false none = is_in-append xs [] k ∙ or-false (is_in xs k) ∙ none

cond-not : (took : Bool) (k : ℕ) → cond (not took) (k ∷ []) [] ≡ cond took [] (k ∷ [])
cond-not true k = refl
cond-not false k = refl

-- Seats.

-- a seat is another one of the same subscriber
pub seats-set : (subs : List MsgSub) (seats : List PubSeat) (k : ℕ) (m : MsgSub) (s : PubSeat) → AreSeatsOf subs seats →
    slice_get subs k ≡ Some m →
    IsSeatOf m s → AreSeatsOf subs (set seats k s)
seats-set subs seats k m s are at own = record {
  many = length-set seats k s ∙ are.many;
  each = λ j m' s' at' there. elim (cases_eq j k) [
    | inl same ↦
        let within = slice_get_within subs k m at in
        let many = are.many in
        let is_s : s ≡ s' = same_Some s s' (sym (set-here seats k s (omega arith)) ∙ ap (slice_get (set seats k s)) (sym same)
        ∙ there) in
        let is_m : m ≡ m' = same_Some m m' (sym at ∙ ap (slice_get subs) (sym same) ∙ at') in
        subst (λ (y : MsgSub × PubSeat). IsSeatOf y.0 y.1) (λ i. (is_m i, is_s i)) own
    | inr differ ↦ are.each j m' s' at' (sym (set-else seats k j s differ) ∙ there)
  ];
}

-- nothing was pushed
pub pushed-none : (subs : List MsgSub) (message : Message) (seats : List PubSeat) → HasPushed subs [] message seats seats [] []
pushed-none subs message seats = record {
  pushed_are = refl;
  full_are = refl;
  many = refl;
  each = λ k m s s' at there there'. same_Some s' s (sym there' ∙ there);
}

module _ (subs : List MsgSub) (to : List ℕ) (message : Message) (old seats : List PubSeat) (pushed full : List ℕ)
    (has : HasPushed subs to message old seats pushed full) where
  pub pushed-few : length pushed ≤ length to
  pushed-few =
      let short = filter-short (is_in pushed) to in
      let same = ap (λ (l : List ℕ). length l) has.pushed_are in
      omega arith

  pub full-few : length full ≤ length to
  full-few =
      let short = filter-short (λ k. not (is_in pushed k)) to in
      let same = ap (λ (l : List ℕ). length l) has.full_are in
      omega arith

  -- the seat of one that isn't among the members is as it was
  pub not-yet : (k : ℕ) (m : MsgSub) (s s' : PubSeat) → is_in to k ≡ false → slice_get subs k ≡ Some m → slice_get old k
      ≡ Some s →
      slice_get seats k ≡ Some s' → s' ≡ s
  not-yet k m s s' none at there there' =
      subst (λ (b : Bool). SeatAfter b (is_in pushed k) m message s s') none (has.each k m s s' at there there')

  -- one member more
  pub pushed-one : (k : ℕ) (m : MsgSub) (s s' : PubSeat) (took : Bool) → is_in to k ≡ false → slice_get subs k ≡ Some m →
      slice_get seats k ≡ Some s → SeatAfter true took m message s s' →
      HasPushed subs (to ++ k ∷ []) message old (set seats k s') (pushed ++ cond took (k ∷ []) []) (full ++ cond took [] (k ∷ []))
  pushed-one k m s s' took none at there after =
      let pushed' = pushed ++ cond took (k ∷ []) [] in
      let not_pushed : is_in pushed k ≡ false = ap (λ (l : List ℕ). is_in l k) has.pushed_are
      ∙ not_in-filter (is_in pushed) to k none in
      let here : is_in pushed' k ≡ took = more-here pushed k took not_pushed in
      let else : (j : ℕ) → (j == k) ≡ false → is_in pushed' j ≡ is_in pushed j = λ j apart.
      more-else pushed k j took (λ same. let is = eq-eqb j k same in absurd (cc)) in
      record {
        pushed_are =
            ap (λ (l : List ℕ). l ++ cond took (k ∷ []) []) (has.pushed_are
            ∙ sym (filter-but (is_in pushed') (is_in pushed) k to none else))
            ∙ ap (λ (b : Bool). filter (is_in pushed') to ++ cond b (k ∷ []) []) (sym here)
            ∙ sym (filter-append (is_in pushed') to (k ∷ []));
        full_are =
            ap (λ (l : List ℕ). l ++ cond took [] (k ∷ [])) (has.full_are ∙ sym (filter-but (λ j. not (is_in pushed' j))
            (λ j. not (is_in pushed j)) k to none
            (λ j apart. ap not (else j apart))))
            ∙ ap (λ (l : List ℕ). filter (λ j. not (is_in pushed' j)) to ++ l) (sym (cond-not took k))
            ∙ ap (λ (b : Bool). filter (λ j. not (is_in pushed' j)) to ++ cond (not b) (k ∷ []) []) (sym here)
            ∙ sym (filter-append (λ j. not (is_in pushed' j)) to (k ∷ []));
        many = length-set seats k s' ∙ has.many;
        each = λ j m' so sn at' was now. elim (cases_eq j k) [
          | inl same ↦
              let within = slice_get_within seats k s there in
              let is_new : s' ≡ sn = same_Some s' sn (sym (set-here seats k s' within) ∙ ap (slice_get (set seats k s'))
              (sym same) ∙ now) in
              let is_m : m ≡ m' = same_Some m m' (sym at ∙ ap (slice_get subs) (sym same) ∙ at') in
              let is_old : s ≡ so = not-yet k m so s none at (ap (slice_get old) (sym same) ∙ was) there in
              let listed : true ≡ is_in (to ++ k ∷ []) j = sym (more-here to k true none) ∙ ap (is_in (to ++ k ∷ []))
              (sym same) in
              let in_pushed : took ≡ is_in pushed' j = sym here ∙ ap (is_in pushed') (sym same) in
              subst (λ (y : Bool × Bool). SeatAfter y.0 y.1 m' message so sn) (λ i. (listed i, in_pushed i))
              (subst (λ (y : MsgSub × PubSeat × PubSeat). SeatAfter true took y.0 message y.1 y.2)
              (λ i. (is_m i, is_old i, is_new i)) after)
          | inr differ ↦
              let listed : is_in to j ≡ is_in (to ++ k ∷ []) j = sym (more-else to k j true differ) in
              let in_pushed : is_in pushed j ≡ is_in pushed' j = sym (more-else pushed k j took differ) in
              subst (λ (y : Bool × Bool). SeatAfter y.0 y.1 m' message so sn) (λ i. (listed i, in_pushed i))
              (has.each j m' so sn at' was (sym (set-else seats k j s' differ) ∙ now))
        ];
      }

-- The room of a seat falls by one at most.

there : {A : Type 0} (xs : List A) (k : ℕ) → k < length xs → (x : A) × (slice_get xs k ≡ Some x)
there [] k within = absurd (omega arith)
there (x ∷ xs) zero within = (x, refl)
there (x ∷ xs) (suc k) within = there xs k (omega arith)

room-falls : (listed took : Bool) (m : MsgSub) (message : Message) (s s' : PubSeat) → SeatAfter listed took m message s s' →
    seat_room s ≤ seat_room s' + 1
room-falls false took m message s s' after = let same = ap (λ (x : PubSeat). seat_room x) after in omega arith
room-falls true true m message s s' after = let room = after.room in omega arith
room-falls true false m message s s' after = let room = after.room in omega arith

pub rooms-fall : (subs : List MsgSub) (to : List ℕ) (message : Message) (old new : List PubSeat) (pushed full : List ℕ) →
    length old ≡ length subs →
    HasPushed subs to message old new pushed full → (n : ℕ) → All (λ s. n < seat_room s) old → All (λ s. n ≤ seat_room s) new
rooms-fall subs to message old new pushed full many has n rooms = λ k d within.
    let same = has.many in
    let at_sub = there subs k (omega arith) in
    let at_old = there old k (omega arith) in
    let at_new = slice_get-get_or new k d within in
    let enough = All-at (λ s. n < seat_room s) old k at_old.0 rooms at_old.1 in
    let falls = room-falls (is_in to k) (is_in pushed k) at_sub.0 message at_old.0 (get_or new k d)
    (has.each k at_sub.0 at_old.0 (get_or new k d) at_sub.1 at_old.1 at_new) in
    omega arith

-- One number of the list of an open after another.

module _ (subs : List MsgSub) (message : Message) (old seats : List PubSeat) (pushed full numbers : List ℕ) (i : ℕ)
    (once : is_once_each numbers ≡ true) (within : i < length numbers) (are : AreSeatsOf subs seats)
    (has : HasPushed subs (members subs (take i numbers)) message old seats pushed full) where
  abbrev number : ℕ
  number = get_or numbers i 0

  -- it isn't among those before it
  pub not-before : is_in (members subs (take i numbers)) number ≡ false
  not-before = not_in-filter (λ k. nat_lt k (length subs)) (take i numbers) number (once-at numbers i 0 once within)

  -- there is room to note it
  few-before : length (members subs (take i numbers)) ≤ i
  few-before =
      let short = filter-short (λ k. nat_lt k (length subs)) (take i numbers) in
      let long = length-take i numbers in
      omega arith

  pub pushed-room : length numbers ≤ most_few → length pushed < most_few
  pushed-room most = let few = pushed-few subs (members subs (take i numbers)) message old seats pushed full
      has in let before = few-before in omega arith

  pub full-room : length numbers ≤ most_few → length full < most_few
  full-room most = let few = full-few subs (members subs (take i numbers)) message old seats pushed full
      has in let before = few-before in omega arith

  -- its seat is its subscriber's, with the room that it had
  pub own-seat : (m : MsgSub) (s : PubSeat) → number < length subs → m ≡ get_or subs number m → s ≡ get_or seats number s →
      IsSeatOf m s
  own-seat m s there is_m is_s =
      let many = are.many in
      are.each number m s (slice_get_read subs (length subs) number m refl there is_m) (slice_get_read seats
      (length seats) number s refl (omega arith) is_s)

  pub seat-room : (m : MsgSub) (s : PubSeat) → number < length subs → m ≡ get_or subs number m → s ≡ get_or seats number s →
      All (λ seat. 0 < seat_room seat) old → 0 < seat_room s
  seat-room m s there is_m is_s rooms =
      let many = are.many in
      let same = has.many in
      let P : PubSeat → Type 0 = λ seat. 0 < seat_room seat in
      let at_m = slice_get_read subs (length subs) number m refl there is_m in
      let at_s = slice_get_read seats (length seats) number s refl (omega arith) is_s in
      let at_old = slice_get-get_or old number s (omega arith) in
      subst P (sym (not-yet subs (members subs (take i numbers)) message old seats pushed full has number m
      (get_or old number s) s not-before at_m at_old at_s))
      (All-at P old number (get_or old number s) rooms at_old)

  -- after its push
  pub after-push : (m : MsgSub) (s s' : PubSeat) (before after : Sent) → number < length subs → m ≡ get_or subs number m →
      s ≡ get_or seats number s →
      before.pushed ≡ pushed → before.full ≡ full → IsSeatOf m s' → PushesOne m number message s s' before after →
      AreSeatsOf subs (set seats number s') × HasPushed subs (members subs (take (i + 1) numbers)) message old
      (set seats number s') after.pushed after.full
  after-push m s s' before after there is_m is_s is_pushed is_full own one =
      let many = are.many in
      let at_m = slice_get_read subs (length subs) number m refl there is_m in
      let at_s = slice_get_read seats (length seats) number s refl (omega arith) is_s in
      let more = filter_more (λ k. nat_lt k (length subs)) numbers i 0 within
      ∙ ap (λ (b : Bool). members subs (take i numbers) ++ cond b (number ∷ []) []) (lt-ltb number (length subs) there) in
      let new_pushed = one.pushed ∙ ap (λ (l : List ℕ). l ++ cond one.took (number ∷ []) []) is_pushed in
      let new_full = one.full ∙ ap (λ (l : List ℕ). l ++ cond one.took [] (number ∷ [])) is_full in (
        seats-set subs seats number m s' are at_m own,
        subst (λ (y : List ℕ × List ℕ × List ℕ). HasPushed subs y.0 message old (set seats number s') y.1 y.2)
            (λ j. (sym more j, sym new_pushed j, sym new_full j))
            (pushed-one subs (members subs (take i numbers)) message old seats pushed full has number m s s' one.took
            not-before at_m at_s one.seat),
      )

  -- where there is no subscriber for it
  pub passed-over : length subs ≤ number → HasPushed subs (members subs (take (i + 1) numbers)) message old seats pushed full
  passed-over past =
      let same = filter_more (λ k. nat_lt k (length subs)) numbers i 0 within
      ∙ ap (λ (b : Bool). members subs (take i numbers) ++ cond b (number ∷ []) []) (le-ltb number (length subs) past)
      ∙ append-nil (members subs (take i numbers)) in
      subst (λ (l : List ℕ). HasPushed subs l message old seats pushed full) (sym same) has

-- What an open tells.

-- entries of others aren't one's own
own-others : (ws : List Who) (later : List (Entry FanOp FanReply)) → All (λ e. is_by ws e ≡ false) later → own ws later ≡ []
own-others ws [] others = refl
own-others ws (e ∷ es) others =
    let P : Entry FanOp FanReply → Type 0 = λ f. is_by ws f ≡ false in
    ap (λ (b : Bool). cond b (e ∷ own ws es) (own ws es)) (All-head P e es others) ∙ own-others ws es (All-tail P e es others)

pub own-goes_on : (ws : List Who) (old new : List (Entry FanOp FanReply)) → GoesOn ws old new → own ws new ≡ own ws old
own-goes_on ws old new goes =
    ap (own ws) goes.longer ∙ filter-append (is_by ws) old goes.later ∙ ap (λ (l : List (Entry FanOp FanReply)). own ws old ++
    l) (own-others ws goes.later goes.others)
    ∙ append-nil (own ws old)

-- after a call that made no entry the next step is above the earlier ones still
pub still-above : (p q : FanPass) (step : ℕ) → pass_players p ≡ pass_who p ∷ [] → pass_players q ≡ pass_players p → pass_who q
    ≡ pass_who p →
    GoesOn (pass_who p ∷ []) (pass_seen p) (pass_seen q) → IsAbove (pass_mine p) (pass_who p).number step →
    IsAbove (pass_mine q) (pass_who q).number step
still-above p q step alone players who goes above =
    let mine : pass_mine q ≡ pass_mine p =
    ap (λ (ws : List Who). own ws (pass_seen q)) (players ∙ alone) ∙ own-goes_on (pass_who p ∷ []) (pass_seen p)
    (pass_seen q) goes
    ∙ ap (λ (ws : List Who). own ws (pass_seen p)) (sym alone) in
    subst (λ (y : List (Entry FanOp FanReply) × Who). IsAbove y.0 y.1.number step) (λ i. (sym mine i, sym who i)) above

-- the subscribers that are told are different ones
pub told-once : (fan : FanCell) (listed : List ℕ) (reply : FanReply) (who : Who) (step place : ℕ) (old new : List
    (Entry FanOp FanReply)) →
    IsLegal fan_machine (fan_start (given_to fan)) new →
    IsEntered fan_machine (fan_start (given_to fan)) who step Open reply place old new → Some listed ≡ subs_told reply →
    are_subscribers listed ≡ true
told-once fan listed reply who step place old new legal entered told =
    let start = fan_start (given_to fan) in
    let P : Entry FanOp FanReply → Type 0 = λ f. fan_in_range start f.op ≡ true in
    let in_range : AreInRange fan_machine start entered.found =
    All-front P entered.found (entry who step Open reply ∷ []) (subst (AreInRange fan_machine start) entered.entered legal.2) in
    let state = state_after fan_machine start entered.found in
    let answered : Subs state.listed ≡ reply = same_Some (Subs state.listed) reply entered.replied in
    let same : listed ≡ state.listed = same_Some listed state.listed (told ∙ ap subs_told (sym answered)) in
    ap are_subscribers same ∙ history-kept start start entered.found (given_to fan).first in_range
