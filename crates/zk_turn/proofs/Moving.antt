-- A seat that changes its view and stands for the same players keeps the rule.
use Rattle.std.proofs.Common.{◌≡◌, ◌≢◌, ◌⊎◌, inl, inr, ⊎_elim, ℕ, ◌+◌, ◌*◌, ◌%◌, ◌^◌, ◌<◌, ◌≤◌, Option, List, length, set, get_or, All, refl, sym, ap, subst, ◌∙◌, arith}
use Rattle.std.specs.List.{sum_by}
use Rattle.std.proofs.Math.Nat.{mod-add-mod}
use Rattle.std.proofs.lemmas.List.{get_or-set_same, get_or-set_other, set-get_or}
use Rattle.std.proofs.lemmas.List.Elements.{All-weaker}
use mathlib.Core.Option as maths
use mathlib.Core.Option.{some}
use native.Mathlib.Decide.{ℕ_discrete}
use lib.ListN.{get_elem?}
use Rattle.atomic_table.specs.Table.{State}
use Rattle.atomic_table.proofs.Lists.{at_set, set_else}
use Rattle.zk_base.specs.declared.ids.Who.{Who}
use Rattle.zk_base.specs.declared.ids.Entry.{Entry}
use Rattle.zk_turn.specs.declared.views.Stage.{Stage}
use Rattle.zk_turn.specs.declared.views.Stage.TheVariants.{Idle, Waiting, Holding}
use Rattle.zk_turn.specs.declared.views.Flight.{Flight}
use Rattle.zk_turn.specs.declared.views.View.{View}
use Rattle.zk_turn.specs.Players.{has, is_by, room_of_a_pass}
use Rattle.zk_turn.specs.Turn.{ticket_count, HasTicket, HoldsTurn, TicketStands, SeatStands, AreApart, IsCovered, NoneHolds, SomeHolds, player_count, tickets_of, made_of, LookStands, IsHome, Turn}
use Rattle.zk_turn.specs.Words.{WordStands}
use Rattle.zk_turn.specs.Views.{staged}
use Rattle.zk_turn.proofs.Seats.{at-same, at-set_there, sum-set, sum-times, AllApart, AllApart-set}

-- the words after a step on one of them
pub word-other : (words : List ℕ) (i j n d : ℕ) → j ≢ i → get_or words j 0 ≡ d → get_or (set words i n) j 0 ≡ d
word-other words i j n d differ is = get_or-set_other words i j n 0 differ ∙ is

pub word-next : (words : List ℕ) (i n : ℕ) → i < length words → get_or words i 0 ≡ n % 2 ^ 64 →
    get_or (set words i ((get_or words i 0 + 1) % 2 ^ 64)) i 0 ≡ (n + 1) % 2 ^ 64
word-next words i n within is =
    get_or-set_same words i ((get_or words i 0 + 1) % 2 ^ 64) 0 within ∙ ap (λ (k : ℕ). (k + 1) % 2 ^ 64) is
    ∙ mod-add-mod n (2 ^ 64) 1

-- a load leaves the words
pub word-same : (words : List ℕ) (i j n : ℕ) → get_or words j 0 ≡ n → get_or (set words i (get_or words i 0)) j 0 ≡ n
word-same words i j n is = ap (λ ws. get_or ws j 0) (set-get_or words i 0) ∙ is

-- a step on a word of the turn leaves those that are published, and a load leaves all
pub word-above : (words : List ℕ) (i n index : ℕ) → i < 3 → get_or (set words i n) (3 + index) 0 ≡ get_or words (3 + index) 0
word-above words i n index below = get_or-set_other words i (3 + index) n 0 (λ same. omega arith)

pub word-loaded : (words : List ℕ) (i j : ℕ) → get_or (set words i (get_or words i 0)) j 0 ≡ get_or words j 0
word-loaded words i j = ap (λ ws. get_or ws j 0) (set-get_or words i 0)

module _ {O R T : Type 0} where
  -- a seat that goes on to a stage without the turn
  pub look-staged : (word : List (Entry O R) → ℕ → ℕ) (width : ℕ) (history : List (Entry O R)) (flight : Flight O R)
      (v : View O R T) (stage : Stage) → (HoldsTurn stage → ⊥) → LookStands word width history flight v →
      LookStands word width history flight (staged v stage)
  look-staged word width history flight v stage free ok =
      record { words = ok.words; note = ok.note; holder = λ holds. absurd (free holds) }

  -- what covers an entry still does where a seat's players stay
  covered-still : (views : List (View O R T)) (id : ℕ) (v w : View O R T) → get_elem? views id ≡ some v →
      w.players ≡ v.players → (e : Entry O R) → IsCovered views e → IsCovered (set views id w) e
  covered-still views id v w at same e covers = which (ℕ_discrete covers.place id) where
    which : Dec (covers.place ≡ id) → IsCovered (set views id w) e
    which (yes here) =
        let read = at-same views id v covers.view at (subst (λ k. get_elem? views k ≡ some covers.view) here covers.there) in
        record {
          place = id;
          view = w;
          there = at-set_there views id v w at;
          theirs = ap (λ ws. is_by ws e) (same ∙ ap (λ (x : View O R T). x.players) read) ∙ covers.theirs;
        }
    which (no else) = record {
      place = covers.place;
      view = covers.view;
      there = set_else views id covers.place w else ∙ covers.there;
      theirs = covers.theirs;
    }

  pub NoneHolds-set : (views : List (View O R T)) (id : ℕ) (w : View O R T) →
      ((j : ℕ) (u : View O R T) → j ≢ id → get_elem? views j ≡ some u → HoldsTurn u.stage → ⊥) → (HoldsTurn w.stage → ⊥) →
      NoneHolds (set views id w)
  NoneHolds-set views id w others mine j u there holds =
      ⊎_elim (λ t. mine (subst (λ (x : View O R T). HoldsTurn x.stage) (sym t.1) holds)) (λ t. others j u t.0 t.1 holds)
      (at_set views id j w u there)

  pub SomeHolds-set : (views : List (View O R T)) (id : ℕ) (v w : View O R T) → get_elem? views id ≡ some v →
      (HoldsTurn v.stage → HoldsTurn w.stage) → SomeHolds views → SomeHolds (set views id w)
  SomeHolds-set views id v w at keep some_one = which (ℕ_discrete some_one.place id) where
    which : Dec (some_one.place ≡ id) → SomeHolds (set views id w)
    which (yes here) =
        let read = at-same views id v some_one.view at
        (subst (λ k. get_elem? views k ≡ some some_one.view) here some_one.there) in
        record {
          place = id;
          view = w;
          there = at-set_there views id v w at;
          holds = keep (subst (λ (x : View O R T). HoldsTurn x.stage) (sym read) some_one.holds);
        }
    which (no else) = record {
      place = some_one.place;
      view = some_one.view;
      there = set_else views id some_one.place w else ∙ some_one.there;
      holds = some_one.holds;
    }

-- stages
pub holds_turn : (st : Stage) (t : ℕ) → st ≡ Holding t → HoldsTurn st
holds_turn st t is = subst HoldsTurn (sym is) tt

pub idle_holds_none : (st : Stage) → st ≡ Idle → HoldsTurn st → ⊥
idle_holds_none st is holds = subst HoldsTurn is holds

pub waiting_holds_none : (st : Stage) (t : ℕ) → st ≡ Waiting t → HoldsTurn st → ⊥
waiting_holds_none st t is holds = subst HoldsTurn is holds

pub waiting_ticket : (st : Stage) (t : ℕ) → st ≡ Waiting t → HasTicket st t
waiting_ticket st t is = subst (λ x. HasTicket x t) (sym is) refl

pub same_ticket : (t t' : ℕ) (st : Stage) → st ≡ Waiting t → st ≡ Waiting t' → t ≡ t'
same_ticket t t' st is is' = ap number (sym is ∙ is') where
  number : Stage → ℕ
  number Idle = 0
  number (Waiting n) = n
  number (Holding n) = n

module _ {O R : Type 0} where
  -- a ticket that is out lies between the one served and the ones drawn
  pub ticket-within : (history : List (Entry O R)) (served drawn : ℕ) (seen : List (Entry O R)) (st : Stage) (t : ℕ) →
      TicketStands history served drawn seen st → HasTicket st t → (served ≤ t) × (t < drawn)
  ticket-within history served drawn seen Idle t ok has = absurd has
  ticket-within history served drawn seen (Waiting n) t ok has = subst (λ k. (served ≤ k) × (k < drawn)) has ok
  ticket-within history served drawn seen (Holding n) t ok has =
      subst (λ k. (served ≤ k) × (k < drawn)) has (let is = ok.0 in omega arith, ok.1)

  -- one more was drawn
  pub TicketStands-drawn : (history : List (Entry O R)) (served drawn : ℕ) (seen : List (Entry O R)) (st : Stage) →
      TicketStands history served drawn seen st → TicketStands history served (drawn + 1) seen st
  TicketStands-drawn history served drawn seen Idle ok = tt
  TicketStands-drawn history served drawn seen (Waiting n) ok = (ok.0, let below = ok.1 in omega arith)
  TicketStands-drawn history served drawn seen (Holding n) ok = (ok.0, let below = ok.1 in omega arith, ok.2)

  -- the history grew, and this seat doesn't hold the turn
  pub TicketStands-history : (history history' : List (Entry O R)) (served drawn : ℕ) (seen : List (Entry O R))
      (st : Stage) → (HoldsTurn st → ⊥) → TicketStands history served drawn seen st → TicketStands history' served drawn seen st
  TicketStands-history history history' served drawn seen Idle free ok = tt
  TicketStands-history history history' served drawn seen (Waiting n) free ok = ok
  TicketStands-history history history' served drawn seen (Holding n) free ok = absurd (free tt)

  -- the next ticket is served, and this seat hasn't the one that was
  pub TicketStands-served : (history : List (Entry O R)) (served drawn : ℕ) (seen : List (Entry O R)) (st : Stage) →
      (HoldsTurn st → ⊥) → (HasTicket st served → ⊥) → TicketStands history served drawn seen st →
      TicketStands history (served + 1) drawn seen st
  TicketStands-served history served drawn seen Idle free other ok = tt
  TicketStands-served history served drawn seen (Waiting n) free other ok = (
    let least = ok.0 in
        let differ : n ≢ served = other in omega arith,
    ok.1,
  )
  TicketStands-served history served drawn seen (Holding n) free other ok = absurd (free tt)

  -- who holds the turn has the ticket served
  pub holder_ticket : (history : List (Entry O R)) (served drawn : ℕ) (seen : List (Entry O R)) (st : Stage) →
      TicketStands history served drawn seen st → HoldsTurn st → HasTicket st served
  holder_ticket history served drawn seen Idle ok holds = absurd holds
  holder_ticket history served drawn seen (Waiting n) ok holds = absurd holds
  holder_ticket history served drawn seen (Holding n) ok holds = ok.0

  pub waiting-stands : (history : List (Entry O R)) (served drawn : ℕ) (seen : List (Entry O R)) (st : Stage) (t : ℕ) →
      st ≡ Waiting t → TicketStands history served drawn seen st → (served ≤ t) × (t < drawn)
  waiting-stands history served drawn seen st t is ok = subst (λ x. TicketStands history served drawn seen x) is ok

  pub holding-stands : (history : List (Entry O R)) (served drawn : ℕ) (seen : List (Entry O R)) (st : Stage) (t : ℕ) →
      st ≡ Holding t → TicketStands history served drawn seen st → (t ≡ served) × (t < drawn) × (seen ≡ history)
  holding-stands history served drawn seen st t is ok = subst (λ x. TicketStands history served drawn seen x) is ok

module _ {S O R T : Type 0} (legal : T → List (Entry O R) → Type 0) (fits : S → T → List (Entry O R) → Type 0)
    (word : T → List (Entry O R) → ℕ → ℕ) (width : ℕ) where
  -- the tickets out are no more than the players
  pub few_out : (origin : T) (count : ℕ) (s : State (Option S) (View O R T)) (r : Turn legal fits word width origin count s) →
      r.drawn ≤ r.served + 256
  few_out origin count s r =
      let most = sum-times 1 tickets_of player_count s.views (λ j u there. let player = (r.each j u there).player in
      omega arith) in
      let out = r.tickets in let all = r.players in let few = r.few in omega arith

  -- and the entries no more than all may add
  pub short_history : (origin : T) (count : ℕ) (s : State (Option S) (View O R T)) (r : Turn legal fits word width origin count s) →
      length r.history ≤ room_of_a_pass * 256
  short_history origin count s r =
      let most = sum-times room_of_a_pass made_of player_count s.views (λ j u there. (r.each j u there).room) in
      let made = r.made in let all = r.players in let few = r.few in omega arith

  -- while one has the ticket served, no other holds the turn or has that ticket
  pub others_free : (origin : T) (count : ℕ) (s : State (Option S) (View O R T)) (r : Turn legal fits word width origin count s)
      (id : ℕ) (v : View O R T) → get_elem? s.views id ≡ some v → HasTicket v.stage r.served →
      (j : ℕ) (u : View O R T) → j ≢ id → get_elem? s.views j ≡ some u →
      (HoldsTurn u.stage → ⊥) × (HasTicket u.stage r.served → ⊥)
  others_free origin count s r id v at mine j u else there =
      let apart = (r.apart id j v u (λ same. else (sym same)) at there).tickets r.served mine in
      ((λ holds. apart (holder_ticket r.history r.served r.drawn u.seen u.stage (r.each j u there).ticket holds)), apart)

  -- the published words are as they were where the history and what is in flight are
  pub published_still : (origin : T) (count : ℕ) (s : State (Option S) (View O R T)) (r : Turn legal fits word width origin count s)
      (words : List ℕ) → ((index : ℕ) → get_or words (3 + index) 0 ≡ get_or s.words (3 + index) 0) →
      (index : ℕ) → index < width →
      WordStands (λ h. word origin h index) r.history r.flight index (get_or words (3 + index) 0)
  published_still origin count s r words same index below =
      subst (λ n. WordStands (λ h. word origin h index) r.history r.flight index n) (sym (same index)) (r.published index below)

  -- what a changed table has to fulfil, beside what the views of the others say: its words, its history and its tickets
  pub record Changed (origin : T) (count : ℕ) (s : State (Option S) (View O R T)) (r : Turn legal fits word width origin count s)
      (v w : View O R T) (history : List (Entry O R)) (served drawn : ℕ) (flight : Flight O R) (words : List ℕ)
      (homes : List (maths.Option (Option S))) : Type 0 where
    pub players : w.players ≡ v.players
    pub wide : 3 + width ≤ length words
    pub slot : 0 < length homes
    pub ticket_word : get_or words 0 0 ≡ drawn % 2 ^ 64
    pub serving_word : get_or words 1 0 ≡ served % 2 ^ 64
    pub count_word : get_or words 2 0 ≡ length history
    pub lawful : legal origin history
    pub tickets : ticket_count w.stage + served + r.drawn ≡ ticket_count v.stage + r.served + drawn
    pub made : w.made + length r.history ≡ v.made + length history
    pub mine : SeatStands origin history served drawn w
    pub look : LookStands (word origin) width history flight w
    pub covered : All (IsCovered s.views) history

  pub moved : (origin : T) (count : ℕ) (s : State (Option S) (View O R T)) (r : Turn legal fits word width origin count s) (id : ℕ)
      (v w : View O R T) (history : List (Entry O R)) (served drawn : ℕ) (flight : Flight O R)
      (words : List ℕ) (homes : List (maths.Option (Option S))) →
      get_elem? s.views id ≡ some v → Changed origin count s r v w history served drawn flight words homes →
      ((index : ℕ) → index < width → WordStands (λ h. word origin h index) history flight index (get_or words (3 + index) 0)) →
      ((j : ℕ) (u : View O R T) → j ≢ id → get_elem? s.views j ≡ some u → SeatStands origin r.history r.served r.drawn u →
      SeatStands origin history served drawn u) →
      ((j : ℕ) (u : View O R T) → j ≢ id → get_elem? s.views j ≡ some u → (t : ℕ) → HasTicket w.stage t →
      HasTicket u.stage t → ⊥) →
      ((j : ℕ) (u : View O R T) → j ≢ id → get_elem? s.views j ≡ some u →
      LookStands (word origin) width r.history r.flight u → LookStands (word origin) width history flight u) →
      IsHome legal fits origin history flight record { words = words; homes = homes; views = set s.views id w }
      ⊎ SomeHolds (set s.views id w) →
      Turn legal fits word width origin count record { words = words; homes = homes; views = set s.views id w }
  moved origin count s r id v w history served drawn flight words homes at c published others differ others_look place = record {
    history = history;
    served = served;
    drawn = drawn;
    flight = flight;
    words = c.wide;
    slot = c.slot;
    ticket_word = c.ticket_word;
    serving_word = c.serving_word;
    count_word = c.count_word;
    lawful = c.lawful;
    few = r.few;
    players = let sum = sum-set player_count s.views id v w at in
        let same = ap (λ (ws : List Who). length ws) c.players in let all = r.players in omega arith;
    tickets = let sum = sum-set tickets_of s.views id v w at in let out = r.tickets in let now = c.tickets in omega arith;
    made = let sum = sum-set made_of s.views id v w at in let made = r.made in let now = c.made in omega arith;
    each = λ j u there. ⊎_elim (λ t. subst (λ (x : View O R T). SeatStands origin history served drawn x) t.1 c.mine)
        (λ t. others j u t.0 t.1 (r.each j u t.1)) (at_set s.views id j w u there);
    apart = AllApart-set s.views id w r.apart mine_apart;
    covered = All-weaker (IsCovered s.views) (IsCovered (set s.views id w)) (covered-still s.views id v w at c.players)
        history c.covered;
    published = published;
    looks = λ j u there. ⊎_elim
        (λ t. subst (λ (x : View O R T). LookStands (word origin) width history flight x) t.1 c.look)
        (λ t. others_look j u t.0 t.1 (r.looks j u t.1)) (at_set s.views id j w u there);
    place = place;
  } where
    mine_apart : (j : ℕ) (u : View O R T) → j ≢ id → get_elem? s.views j ≡ some u → AreApart w u
    mine_apart j u else there =
        let was = r.apart id j v u (λ same. else (sym same)) at there in
        record { players = λ n x y. was.players n (ap (λ ws. has ws n) (sym c.players) ∙ x) y; tickets = differ j u else there }

  -- the rule over other views of the same table: the same players, tickets and entries stand in them
  pub Turn-views : (origin : T) (count : ℕ) (s : State (Option S) (View O R T)) (r : Turn legal fits word width origin count s)
      (views : List (View O R T)) →
      sum_by player_count views ≡ sum_by player_count s.views → sum_by tickets_of views ≡ sum_by tickets_of s.views →
      sum_by made_of views ≡ sum_by made_of s.views →
      ((j : ℕ) (u : View O R T) → get_elem? views j ≡ some u → SeatStands origin r.history r.served r.drawn u) → AllApart views →
      ((j : ℕ) (u : View O R T) → get_elem? views j ≡ some u → LookStands (word origin) width r.history r.flight u) →
      ((e : Entry O R) → IsCovered s.views e → IsCovered views e) →
      (NoneHolds s.views → NoneHolds views) → (SomeHolds s.views → SomeHolds views) →
      Turn legal fits word width origin count record { words = s.words; homes = s.homes; views = views }
  Turn-views origin count s r views players tickets made each apart looks covers none some_one = record {
    history = r.history;
    served = r.served;
    drawn = r.drawn;
    flight = r.flight;
    words = r.words;
    slot = r.slot;
    ticket_word = r.ticket_word;
    serving_word = r.serving_word;
    count_word = r.count_word;
    lawful = r.lawful;
    few = r.few;
    players = players ∙ r.players;
    tickets = let out = r.tickets in omega arith;
    made = made ∙ r.made;
    each = each;
    apart = apart;
    covered = All-weaker (IsCovered s.views) (IsCovered views) covers r.history r.covered;
    published = r.published;
    looks = looks;
    place = ⊎_elim
        (λ home. inl (record {
          service = home.service;
          there = home.there;
          fit = home.fit;
          rest = home.rest;
          free = none home.free;
        }))
        (λ one. inr (some_one one))
        r.place;
  }
