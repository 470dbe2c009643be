-- Each step of a seat keeps the rule, and tells what it tells.
use Rattle.std.proofs.Common.{◌≡◌, ◌≢◌, inl, inr, ⊎_elim, ℕ, ◌+◌, ◌%◌, ◌^◌, ◌<◌, Bool, true, false, Some, None, Option, List, [], ◌∷◌, length, set, get_or, refl, sym, ap, subst, ◌∙◌, arith}
use Rattle.std.proofs.lemmas.List.{length-set}
use mathlib.Core.Option.{some, none}
use native.Mathlib.Decide.{ℕ_discrete}
use lib.ListN.{get_elem?}
use Rattle.atomic_table.specs.Table.{State, Me, Act, keeps, takes, gives, Allows, step, put_back, stepped, carried_after, Valid}
use Rattle.atomic_table.proofs.Lists.{set_here, one_turn}
use Rattle.zk_base.specs.declared.ids.Entry.{Entry}
use Rattle.zk_turn.specs.declared.views.Stage.TheVariants.{Idle, Waiting}
use Rattle.zk_turn.specs.declared.views.View.{View}
use Rattle.zk_turn.specs.Views.{staged, holding}
use Rattle.zk_turn.specs.Turn.{ticket_count, HasTicket, SomeHolds, IsHome, Turn}
use Rattle.zk_turn.specs.Steps.{out_with, Awaits, Draws, PassesOn, Recalls}
use Rattle.zk_turn.specs.Passes.{MayPass}
use Rattle.zk_turn.proofs.Players.{GoesOn-same}
use Rattle.zk_turn.proofs.Seats.{at-same, at-set_there}
use Rattle.zk_turn.proofs.Moving.{word-other, word-next, word-same, word-above, word-loaded, look-staged, published_still, NoneHolds-set, SomeHolds-set, holds_turn, idle_holds_none, waiting_holds_none, waiting_ticket, same_ticket, ticket-within, TicketStands-drawn, TicketStands-served, holder_ticket, waiting-stands, holding-stands, few_out, short_history, others_free, moved}

pub false_of : (b : Bool) → (b ≡ true → ⊥) → b ≡ false
false_of true not = absurd (not refl)
false_of false not = refl

abbrev value_or : {S : Type 0} → S → Option S → S
value_or d None = d
value_or d (Some x) = x

abbrev first_out : {S : Type 0} → S → List (ℕ × Option S) → S
first_out d [] = d
first_out d (slot ∷ slots) = value_or d slot.1

-- one slot has one service
pub same_out : {S : Type 0} (x y : S) (slots : List (ℕ × Option S)) → slots ≡ out_with x → slots ≡ out_with y → x ≡ y
same_out x y slots is is' = ap (first_out x) (sym is ∙ is')

-- and one start has one value
pub same_start : {T : Type 0} (o : Option T) (a b : T) → o ≡ Some a → o ≡ Some b → a ≡ b
same_start o a b is is' = ap (value_or a) (sym is ∙ is')

module _ {S O R T : Type 0} (legal : T → List (Entry O R) → Type 0) (fits : S → T → List (Entry O R) → Type 0)
    (word : T → List (Entry O R) → ℕ → ℕ) (width : ℕ) where
  pub draws : (origin : T) (count slots id : ℕ) (m : Me (Option S) (View O R T)) → m.0.stage ≡ Idle → 0 < length m.0.players →
      Allows (Turn legal fits word width origin count) slots id m 0 (λ n. (n + 1) % 2 ^ 64) (Draws (step slots 0 1 0 none) m)
  draws origin count slots id m idle players s r homes at bound =
      let v = m.0 in
      let w = staged v (Waiting r.drawn) in
      let ok = r.each id v at in
      let next = (get_or s.words 0 0 + 1) % 2 ^ 64 in
      let no_ticket = ap ticket_count idle in
      let stands = moved legal fits word width origin count s r id v w r.history r.served (r.drawn + 1) r.flight (set s.words 0 next) s.homes at
      (record {
        players = refl;
        wide = let long = length-set s.words 0 next in let wide = r.words in omega arith;
        slot = r.slot;
        ticket_word = word-next s.words 0 r.drawn (let wide = r.words in omega arith) r.ticket_word;
        serving_word = word-other s.words 0 1 next (r.served % 2 ^ 64) (λ same. omega arith) r.serving_word;
        count_word = word-other s.words 0 2 next (length r.history) (λ same. omega arith) r.count_word;
        lawful = r.lawful;
        tickets = omega arith;
        made = refl;
        mine = record {
          seen = ok.seen;
          ticket = (let out = r.tickets in omega arith, omega arith);
          room = ok.room;
          player = players;
          parts = ok.parts;
          start = ok.start;
        };
        look = look-staged (word origin) width r.history r.flight v (Waiting r.drawn) (λ holds. holds) (r.looks id v at);
        covered = r.covered;
      })
      (published_still legal fits word width origin count s r (set s.words 0 next)
      (λ index. word-above s.words 0 next index (omega arith)))
      (λ j u else there was.
      record {
        seen = was.seen;
        ticket = TicketStands-drawn r.history r.served r.drawn u.seen u.stage was.ticket;
        room = was.room;
        player = was.player;
        parts = was.parts;
        start = was.start;
      })
      (λ j u else there t mine theirs. let within = ticket-within r.history r.served r.drawn u.seen u.stage t
      (r.each j u there).ticket theirs in let is : r.drawn ≡ t = mine in let below = within.1 in omega arith)
      (λ j u else there was. was)
      (⊎_elim
      (λ home. inl (record {
        service = home.service;
        there = home.there;
        fit = home.fit;
        rest = home.rest;
        free = NoneHolds-set s.views id w (λ j u else there. home.free j u there) (λ holds. holds);
      }))
      (λ one. inr (SomeHolds-set s.views id v w at (λ holds. absurd (idle_holds_none v.stage idle holds)) one))
      r.place) in
      (w, keeps, tt, stands, record { ticket = r.drawn; shown = r.ticket_word; now = refl })

  -- a look that changes nothing
  pub looks : (origin : T) (count : ℕ) (s : State (Option S) (View O R T)) (r : Turn legal fits word width origin count s) (id i : ℕ)
      (v : View O R T) → get_elem? s.views id ≡ some v →
      Turn legal fits word width origin count record {
        words = set s.words i (get_or s.words i 0);
        homes = s.homes;
        views = set s.views id v;
      }
  looks origin count s r id i v at =
      moved legal fits word width origin count s r id v v r.history r.served r.drawn r.flight
      (set s.words i (get_or s.words i 0)) s.homes at
      (record {
        players = refl;
        wide = let long = length-set s.words i (get_or s.words i 0) in let wide = r.words in omega arith;
        slot = r.slot;
        ticket_word = word-same s.words i 0 (r.drawn % 2 ^ 64) r.ticket_word;
        serving_word = word-same s.words i 1 (r.served % 2 ^ 64) r.serving_word;
        count_word = word-same s.words i 2 (length r.history) r.count_word;
        lawful = r.lawful;
        tickets = refl;
        made = refl;
        mine = r.each id v at;
        look = r.looks id v at;
        covered = r.covered;
      })
      (published_still legal fits word width origin count s r (set s.words i (get_or s.words i 0))
      (λ index. word-loaded s.words i (3 + index)))
      (λ j u else there was. was)
      (λ j u else there t mine theirs. (r.apart id j v u (λ same. else (sym same)) at there).tickets t mine theirs)
      (λ j u else there was. was)
      (⊎_elim
      (λ home. inl (record {
        service = home.service;
        there = home.there;
        fit = home.fit;
        rest = home.rest;
        free = NoneHolds-set s.views id v (λ j u else there. home.free j u there) (home.free id v at);
      }))
      (λ one. inr (SomeHolds-set s.views id v v at (λ holds. holds) one))
      r.place)

  pub recalls : (origin : T) (count slots id : ℕ) (m : Me (Option S) (View O R T)) →
      Allows (Turn legal fits word width origin count) slots id m 0 (λ n. n) (Recalls (step slots 0 0 0 none) m)
  recalls origin count slots id m s r homes at bound =
      (m.0, keeps, tt, looks origin count s r id 0 m.0 at, record { same = refl; parts = (r.each id m.0 at).parts })

  pub awaits : (origin : T) (count slots id : ℕ) (m : Me (Option S) (View O R T)) (t : ℕ) → m.0.stage ≡ Waiting t →
      Allows (Turn legal fits word width origin count) slots id m 1 (λ n. n) (Awaits legal fits (step slots 1 0 0 none) m)
  awaits origin count slots id m t waits s r homes at bound = look (ℕ_discrete (get_or s.words 1 0) (t % 2 ^ 64)) where
    Result : Type 0
    Result = (w : View O R T) × (a : Act (Option S)) × Valid s.homes m.1 a
        × Turn legal fits word width origin count (stepped s 1 (get_or s.words 1 0) id m.1 w a)
        × Awaits legal fits (step slots 1 0 0 none) m (get_or s.words 1 0) (w, carried_after m.1 a)

    look : Dec (get_or s.words 1 0 ≡ t % 2 ^ 64) → Result
    look (no other) = (
      m.0,
      keeps,
      tt,
      looks origin count s r id 1 m.0 at,
      (λ t' is. record {
        served
            = (λ found. absurd (other (found ∙ ap (λ (n : ℕ). n % 2 ^ 64) (same_ticket t' t m.0.stage is waits))));
        not_yet = (λ differs. refl);
      }),
    )
    look (yes served) =
        let v = m.0 in
        let mine = waiting-stands r.history r.served r.drawn v.seen v.stage t waits (r.each id v at).ticket in
        let few = few_out legal fits word width origin count s r in
        let turn = one_turn r.served t (2 ^ 64) mine.0 (let below = mine.1 in omega arith) (sym r.serving_word ∙ served) in
        takes_it turn (⊎_elim (λ home. home) (λ one. absurd (conflict turn one)) r.place)
      where
        conflict : r.served ≡ t → SomeHolds s.views → ⊥
        conflict turn one =
            let v = m.0 in
            let u = one.view in
            let theirs = holder_ticket r.history r.served r.drawn u.seen u.stage (r.each one.place u one.there).ticket
            one.holds in
            let differs : id ≢ one.place = λ same. waiting_holds_none u.stage t
            (ap (λ (x : View O R T). x.stage)
            (at-same s.views one.place u v one.there (subst (λ k. get_elem? s.views k ≡ some v) same at))
            ∙ waits) one.holds in
            (r.apart id one.place v u differs at one.there).tickets r.served
            (subst (λ n. HasTicket v.stage n) (sym turn) (waiting_ticket v.stage t waits)) theirs

        takes_it : r.served ≡ t → IsHome legal fits origin r.history r.flight s → Result
        takes_it turn home =
            let v = m.0 in
            let ok = r.each id v at in
            let mine = waiting-stands r.history r.served r.drawn v.seen v.stage t waits ok.ticket in
            let w = holding v t r.history in
            let words = set s.words 1 (get_or s.words 1 0) in
            let one = ap ticket_count waits in
            let some_player = ok.player in
            let my_start = ok.start (omega arith) in
            let stands = moved legal fits word width origin count s r id v w r.history r.served r.drawn r.flight words (set s.homes 0 none) at
            (record {
              players = refl;
              wide = let long = length-set s.words 1 (get_or s.words 1 0) in let wide = r.words in omega arith;
              slot = let long = length-set s.homes 0 none in let some_slot = r.slot in omega arith;
              ticket_word = word-same s.words 1 0 (r.drawn % 2 ^ 64) r.ticket_word;
              serving_word = word-same s.words 1 1 (r.served % 2 ^ 64) r.serving_word;
              count_word = word-same s.words 1 2 (length r.history) r.count_word;
              lawful = r.lawful;
              tickets = omega arith;
              made = refl;
              mine = record {
                seen = GoesOn-same v.players r.history;
                ticket = (sym turn, mine.1, refl);
                room = ok.room;
                player = omega arith;
                parts = tt;
                start = ok.start;
              };
              look = record { words = (r.looks id v at).words; note = tt; holder = λ holds. sym home.rest };
              covered = r.covered;
            })
            (published_still legal fits word width origin count s r words (λ index. word-loaded s.words 1 (3 + index)))
            (λ j u else there was. was)
            (λ j u else there k held theirs. (r.apart id j v u (λ same. else (sym same)) at there).tickets k
            (subst (λ n. HasTicket v.stage n) held (waiting_ticket v.stage t waits)) theirs)
            (λ j u else there was. was)
            (inr (record { place = id; view = w; there = at-set_there s.views id v w at; holds = tt })) in (
              w,
              takes 0 (Some home.service),
              home.there,
              stands,
              (λ t' is. let same = same_ticket t t' v.stage waits is in record {
                served = (λ found. record {
                  service = home.service;
                  history = r.history;
                  now = (λ i. (holding v (same i) r.history, (0, Some home.service) ∷ m.1));
                  fit = (λ start is_start. subst (λ q. fits home.service q r.history × legal q r.history)
                      (same_start v.start origin start my_start is_start) (home.fit, r.lawful));
                  goes_on = ok.seen;
                  short = short_history legal fits word width origin count s r;
                });
                not_yet = (λ other. absurd (other (served ∙ ap (λ (n : ℕ). n % 2 ^ 64) same)));
              }),
            )

  pub passes_on : (origin : T) (count slots id : ℕ) (m : Me (Option S) (View O R T)) → MayPass fits m →
      Allows (Turn legal fits word width origin count) slots id m 1 (λ n. (n + 1) % 2 ^ 64) (PassesOn (step slots 1 1 0 none) m)
  passes_on origin count slots id m may s r homes at bound =
      let v = m.0 in
      let w = staged v Idle in
      let ok = r.each id v at in
      let mine = holding-stands r.history r.served r.drawn v.seen v.stage may.ticket may.holds ok.ticket in
      let one = ap ticket_count may.holds in
      let some_player = ok.player in
      let my_start = ok.start (omega arith) in
      let ticket = subst (λ k. HasTicket k r.served) (sym may.holds) mine.0 in
      let free = others_free legal fits word width origin count s r id v at ticket in
      let next = (get_or s.words 1 0 + 1) % 2 ^ 64 in
      let home = set s.homes 0 (some (Some may.service)) in
      let stands = moved legal fits word width origin count s r id v w r.history (r.served + 1) r.drawn r.flight (set s.words 1 next) home at
      (record {
        players = refl;
        wide = let long = length-set s.words 1 next in let wide = r.words in omega arith;
        slot = let long = length-set s.homes 0 (some (Some may.service)) in let some_slot = r.slot in omega arith;
        ticket_word = word-other s.words 1 0 next (r.drawn % 2 ^ 64) (λ same. omega arith) r.ticket_word;
        serving_word = word-next s.words 1 r.served (let wide = r.words in omega arith) r.serving_word;
        count_word = word-other s.words 1 2 next (length r.history) (λ same. omega arith) r.count_word;
        lawful = r.lawful;
        tickets = omega arith;
        made = refl;
        mine = record { seen = ok.seen; ticket = tt; room = ok.room; player = omega arith; parts = ok.parts; start = ok.start };
        look = look-staged (word origin) width r.history r.flight v Idle (λ holds. holds) (r.looks id v at);
        covered = r.covered;
      })
      (published_still legal fits word width origin count s r (set s.words 1 next)
      (λ index. word-above s.words 1 next index (omega arith)))
      (λ j u else there was. let f = free j u else there in
      record {
        seen = was.seen;
        ticket = TicketStands-served r.history r.served r.drawn u.seen u.stage f.0 f.1 was.ticket;
        room = was.room;
        player = was.player;
        parts = was.parts;
        start = was.start;
      })
      (λ j u else there k held theirs. held)
      (λ j u else there was. was)
      (inl (record {
        service = may.service;
        there = set_here s.homes 0 (some (Some may.service)) r.slot;
        fit = subst (λ l. fits may.service origin l) mine.2 (may.fit origin my_start);
        rest = sym ((r.looks id v at).holder (holds_turn v.stage may.ticket may.holds)) ∙ may.rest;
        free = NoneHolds-set s.views id w (λ j u else there. (free j u else there).0) (λ holds. holds);
      })) in (
        w,
        gives,
        tt,
        subst (λ (c : List (ℕ × Option S)). Turn legal fits word width origin count record {
          words = set s.words 1 next;
          homes = put_back s.homes c;
          views = set s.views id w;
        }) (sym may.out) stands,
        refl,
      )
