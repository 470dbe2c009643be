-- The steps of a look keep the rule: a word is loaded, and then the length of the history.
use Rattle.std.proofs.Common.{◌≡◌, ◌⊎◌, inl, inr, ⊎_elim, ℕ, ◌+◌, ◌%◌, ◌^◌, ◌<◌, ◌≤◌, max, Some, None, Option, List, ◌++◌, length, take, drop, set, get_or, refl, sym, ap, subst, ◌∙◌, arith}
use Rattle.std.proofs.lemmas.List.{length-set, length-take-le, take-append-drop}
use mathlib.Core.Option.{some, none}
use lib.ListN.{get_elem?}
use Rattle.atomic_table.specs.Table.{State, Me, Act, keeps, Allows, step, stepped, carried_after, Valid}
use Rattle.zk_base.specs.declared.ids.Entry.{Entry}
use Rattle.zk_turn.specs.declared.views.Stage.TheVariants.{Idle}
use Rattle.zk_turn.specs.declared.views.Note.{Note}
use Rattle.zk_turn.specs.declared.views.View.{View}
use Rattle.zk_turn.specs.Players.{GoesOn}
use Rattle.zk_turn.specs.Views.{noted, looked}
use Rattle.zk_turn.specs.Words.{position_of, after_of, before_of, IsOfPast, IsFlying, NoteStands}
use Rattle.zk_turn.specs.Turn.{ticket_count, HasTicket, HoldsTurn, TicketStands, SeatStands, LookStands, Turn}
use Rattle.zk_turn.specs.Steps.{Measures, LoadsWord, IsLooked, LoadsCount}
use Rattle.zk_turn.proofs.Players.{GoesOn-same}
use Rattle.zk_turn.proofs.Words.{loaded-note, GoesOn-front, GoesOn-rest, GoesOn-long}
use Rattle.zk_turn.proofs.Moving.{word-same, word-loaded, NoneHolds-set, SomeHolds-set, idle_holds_none, published_still, moved}
use Rattle.zk_turn.proofs.Keeping.{same_start, looks}

abbrev note_or : Note → Option Note → Note
note_or d None = d
note_or d (Some note) = note

same_note : (o : Option Note) (a b : Note) → o ≡ Some a → o ≡ Some b → a ≡ b
same_note o a b is is' = ap (note_or a) (sym is ∙ is')

module _ {S O R T : Type 0} (legal : T → List (Entry O R) → Type 0) (fits : S → T → List (Entry O R) → Type 0)
    (word : T → List (Entry O R) → ℕ → ℕ) (width : ℕ) where
  -- a seat at the same stage that has loaded a word, or seen more
  knows_more : (origin : T) (count : ℕ) (s : State (Option S) (View O R T)) (r : Turn legal fits word width origin count s)
      (id i : ℕ) (v w : View O R T) → get_elem? s.views id ≡ some v → w.players ≡ v.players → w.stage ≡ v.stage →
      w.made ≡ v.made → SeatStands origin r.history r.served r.drawn w →
      LookStands (word origin) width r.history r.flight w →
      Turn legal fits word width origin count record {
        words = set s.words i (get_or s.words i 0);
        homes = s.homes;
        views = set s.views id w;
      }
  knows_more origin count s r id i v w at players stage made mine look =
      moved legal fits word width origin count s r id v w r.history r.served r.drawn r.flight
      (set s.words i (get_or s.words i 0)) s.homes at
      (record {
        players = players;
        wide = let long = length-set s.words i (get_or s.words i 0) in let wide = r.words in omega arith;
        slot = r.slot;
        ticket_word = word-same s.words i 0 (r.drawn % 2 ^ 64) r.ticket_word;
        serving_word = word-same s.words i 1 (r.served % 2 ^ 64) r.serving_word;
        count_word = word-same s.words i 2 (length r.history) r.count_word;
        lawful = r.lawful;
        tickets = let same = ap ticket_count stage in omega arith;
        made = omega arith;
        mine = mine;
        look = look;
        covered = r.covered;
      })
      (published_still legal fits word width origin count s r (set s.words i (get_or s.words i 0))
      (λ index. word-loaded s.words i (3 + index)))
      (λ j u else there was. was)
      (λ j u else there t held theirs. (r.apart id j v u (λ same. else (sym same)) at there).tickets t
      (subst (λ k. HasTicket k t) stage held) theirs)
      (λ j u else there was. was)
      (⊎_elim
      (λ home. inl (record {
        service = home.service;
        there = home.there;
        fit = home.fit;
        rest = home.rest;
        free = NoneHolds-set s.views id w (λ j u else there. home.free j u there)
            (λ holds. home.free id v at (subst HoldsTurn stage holds));
      }))
      (λ one. inr (SomeHolds-set s.views id v w at (λ holds. subst HoldsTurn (sym stage) holds) one))
      r.place)

  pub measures : (origin : T) (count slots id : ℕ) (m : Me (Option S) (View O R T)) → 0 < length m.0.players →
      Allows (Turn legal fits word width origin count) slots id m 0 (λ n. n) (Measures width (step slots 0 0 0 none) m)
  measures origin count slots id m some_one s r homes at bound = (
    m.0,
    keeps,
    tt,
    looks legal fits word width origin count s r id 0 m.0 at,
    record { same = refl; words = (r.looks id m.0 at).words some_one },
  )

  pub loads_word : (origin : T) (count slots id : ℕ) (m : Me (Option S) (View O R T)) (i : ℕ) → i < width →
      Allows (Turn legal fits word width origin count) slots id m (3 + i) (λ n. n)
      (LoadsWord (step slots (3 + i) 0 0 none) m)
  loads_word origin count slots id m i within s r homes at bound =
      let v = m.0 in
      let found = get_or s.words (3 + i) 0 in
      let ok = r.each id v at in
      let look = r.looks id v at in
      let w = noted v (record { index = i; word = found }) in
      let long = GoesOn-long v.players v.seen r.history ok.seen in
      let stands = knows_more origin count s r id (3 + i) v w at refl refl refl
      (record {
        seen = ok.seen;
        ticket = ok.ticket;
        room = ok.room;
        player = ok.player;
        parts = ok.parts;
        start = ok.start;
      })
      (record {
        words = look.words;
        note = loaded-note (λ h. word origin h i) r.history r.flight i (length v.seen) found (r.published i within) long;
        holder = look.holder;
      }) in (
        w,
        keeps,
        tt,
        stands,
        λ index there. let here : i ≡ index = omega arith in
            λ k. (noted v (record { index = here k; word = found }), m.1),
      )

  pub loads_count : (origin : T) (count slots id : ℕ) (m : Me (Option S) (View O R T)) (note : Note) →
      m.0.stage ≡ Idle → 0 < length m.0.players → m.0.note ≡ Some note →
      ((o : T) (h l : List (Entry O R)) → legal o (h ++ l) → legal o h) →
      Allows (Turn legal fits word width origin count) slots id m 2 (λ n. n)
      (LoadsCount legal word (step slots 2 0 0 none) m)
  loads_count origin count slots id m note idle some_one is_note fronts s r homes at bound =
      by_note (subst (λ o. NoteStands (word origin) r.history r.flight.pending (length m.0.seen) o) is_note (r.looks id m.0 at).note)
    where
      found : ℕ
      found = get_or s.words 2 0

      Result : Type 0
      Result = (w : View O R T) × (a : Act (Option S)) × Valid s.homes m.1 a
          × Turn legal fits word width origin count (stepped s 2 found id m.1 w a)
          × LoadsCount legal word (step slots 2 0 0 none) m found (w, carried_after m.1 a)

      long : length m.0.seen ≤ length r.history
      long = GoesOn-long m.0.players m.0.seen r.history (r.each id m.0 at).seen

      -- the seat has seen this much of the history
      seen_now : (h : List (Entry O R)) → GoesOn m.0.players m.0.seen h → GoesOn m.0.players h r.history → legal origin h →
          (position_of note.word ≤ found → (length h ≡ max (position_of note.word) (length m.0.seen))
          × (word origin h note.index ≡ after_of note.word)) →
          (found < position_of note.word → (length h ≡ found) × (word origin h note.index ≡ before_of note.word)) → Result
      seen_now h goes_on rest lawful settled flying =
          let v = m.0 in
          let ok = r.each id v at in
          let look = r.looks id v at in
          let w = looked v h in
          let stands = knows_more origin count s r id 2 v w at refl refl refl
          (record {
            seen = rest;
            ticket = subst (λ k. TicketStands r.history r.served r.drawn h k) (sym idle) tt;
            room = ok.room;
            player = ok.player;
            parts = tt;
            start = ok.start;
          })
          (record { words = look.words; note = tt; holder = λ holds. absurd (idle_holds_none v.stage idle holds) }) in
          let told : IsLooked legal word note origin m found (w, m.1) = record {
            history = h;
            now = refl;
            goes_on = goes_on;
            lawful = lawful;
            settled = settled;
            flying = flying;
          } in (
            w,
            keeps,
            tt,
            stands,
            λ other start its begins.
                subst (λ (o : T). IsLooked legal word other o m found (w, m.1))
                (same_start v.start origin start (ok.start some_one) begins)
                (subst (λ (k : Note). IsLooked legal word k origin m found (w, m.1)) (same_note v.note note other is_note its) told),
          )

      by_note : IsOfPast (λ h. word origin h note.index) r.history (length m.0.seen) note.word
          ⊎ IsFlying (λ h. word origin h note.index) r.history r.flight.pending note.word → Result
      by_note (inl past) =
          let k = max (position_of note.word) (length m.0.seen) in
          let within = past.in_history in
          let fits_in : k ≤ length r.history = omega arith in
          let seen = (r.each id m.0 at).seen in
          let counted = r.count_word in
          seen_now (take k r.history) (GoesOn-front m.0.players m.0.seen r.history k seen (omega arith) fits_in)
          (GoesOn-rest m.0.players m.0.seen r.history k seen (omega arith) fits_in)
          (fronts origin (take k r.history) (drop k r.history)
          (subst (λ l. legal origin l) (sym (take-append-drop k r.history)) r.lawful))
          (λ below. (length-take-le k r.history fits_in, past.same))
          (λ above. absurd (omega arith))
      by_note (inr flying) =
          let counted = r.count_word in
          let position = flying.position in
          seen_now r.history (r.each id m.0 at).seen (GoesOn-same m.0.players r.history) r.lawful
          (λ below. absurd (omega arith))
          (λ above. (sym counted, flying.before))
