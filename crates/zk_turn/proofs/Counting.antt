-- The steps by which an entry comes into the history keep the rule: it is announced, words are weighed and stamped, and it
-- is counted.
use Rattle.std.proofs.Common.{◌≡◌, inr, ℕ, ◌+◌, ◌%◌, ◌^◌, ◌<◌, ◌≤◌, Some, Option, List, [], ◌∷◌, ◌++◌, length, drop, set, get_or, All, refl, sym, ap, subst, ◌∙◌, arith}
use Rattle.std.proofs.Math.Nat.{mod-eq_of_lt}
use Rattle.std.proofs.lemmas.List.{length-set, get_or-set_same, get_or-set_other, length-append}
use Rattle.std.proofs.lemmas.List.Elements.{All-nil, All-cons, All-append}
use mathlib.Core.Option.{some, none}
use native.Mathlib.Decide.{ℕ_discrete}
use lib.ListN.{get_elem?}
use Rattle.atomic_table.specs.Table.{State, Me, Act, keeps, Allows, step, stepped, carried_after, Valid}
use Rattle.zk_base.specs.declared.ids.Entry.{Entry}
use Rattle.zk_turn.specs.declared.views.Stage.TheVariants.{Holding}
use Rattle.zk_turn.specs.declared.views.Flight.{Flight}
use Rattle.zk_turn.specs.declared.views.Note.{Note}
use Rattle.zk_turn.specs.declared.views.View.{View}
use Rattle.zk_turn.specs.Players.{is_by, GoesOn}
use Rattle.zk_turn.specs.Views.{with_entry, in_flight, with_stamped}
use Rattle.zk_turn.specs.Words.{position_of, after_of, before_of, at_rest, WordStands, MayCount, NoteStands}
use Rattle.zk_turn.specs.Turn.{ticket_count, HasTicket, TicketStands, IsCovered, Turn}
use Rattle.zk_turn.specs.Steps.{out_with, Announces, IsWeighed, Weighs, Stamps, Publishes}
use Rattle.zk_turn.specs.Passes.{IsReady, IsPublishing, IsChange}
use Rattle.zk_turn.proofs.Players.{GoesOn-same, GoesOn-push}
use Rattle.zk_turn.proofs.Words.{announced-word, passed-word, stored-word, other-word, weighed-word, counted-word, rest-note, counted-notes, GoesOn-long}
use Rattle.zk_turn.proofs.Seats.{at-set_there}
use Rattle.zk_turn.proofs.Moving.{word-other, word-loaded, TicketStands-history, holding-stands, holds_turn, short_history, others_free, moved}
use Rattle.zk_turn.proofs.Keeping.{false_of, same_out, same_start, looks}

module _ {S O R T : Type 0} (legal : T → List (Entry O R) → Type 0) (fits : S → T → List (Entry O R) → Type 0)
    (word : T → List (Entry O R) → ℕ → ℕ) (width : ℕ) where
  -- the holder's entry in flight, or what is ready for it, changes
  flies : (origin : T) (count : ℕ) (s : State (Option S) (View O R T)) (r : Turn legal fits word width origin count s)
      (id : ℕ) (v : View O R T) (flight : Flight O R) (words : List ℕ) (t : ℕ) →
      get_elem? s.views id ≡ some v → v.stage ≡ Holding t → length words ≡ length s.words →
      ((j : ℕ) → j < 3 → get_or words j 0 ≡ get_or s.words j 0) →
      ((index : ℕ) → index < width →
      WordStands (λ h. word origin h index) r.history flight index (get_or words (3 + index) 0)) →
      ((front : ℕ) (note : Option Note) → NoteStands (word origin) r.history r.flight.pending front note →
      NoteStands (word origin) r.history flight.pending front note) →
      Turn legal fits word width origin count record {
        words = words;
        homes = s.homes;
        views = set s.views id (record v { flight = flight });
      }
  flies origin count s r id v flight words t at holds long same published notes =
      let ok = r.each id v at in
      let look = r.looks id v at in
      let w : View O R T = record v { flight = flight } in
      let mine = holding-stands r.history r.served r.drawn v.seen v.stage t holds ok.ticket in
      let ticket = subst (λ k. HasTicket k r.served) (sym holds) mine.0 in
      let free = others_free legal fits word width origin count s r id v at ticket in
      moved legal fits word width origin count s r id v w r.history r.served r.drawn flight words s.homes at
      (record {
        players = refl;
        wide = let wide = r.words in omega arith;
        slot = r.slot;
        ticket_word = same 0 (omega arith) ∙ r.ticket_word;
        serving_word = same 1 (omega arith) ∙ r.serving_word;
        count_word = same 2 (omega arith) ∙ r.count_word;
        lawful = r.lawful;
        tickets = refl;
        made = refl;
        mine = record {
          seen = ok.seen;
          ticket = ok.ticket;
          room = ok.room;
          player = ok.player;
          parts = ok.parts;
          start = ok.start;
        };
        look = record { words = look.words; note = notes (length v.seen) v.note look.note; holder = λ mine. refl };
        covered = r.covered;
      })
      published
      (λ j u else there was. was)
      (λ j u else there k held theirs. (r.apart id j v u (λ same. else (sym same)) at there).tickets k held theirs)
      (λ j u else there was. record {
        words = was.words;
        note = notes (length u.seen) u.note was.note;
        holder = λ theirs. absurd ((free j u else there).0 theirs);
      })
      (inr (record { place = id; view = w; there = at-set_there s.views id v w at; holds = holds_turn v.stage t holds }))

  -- what holds of the words, by what the holder knows of the entry in flight
  holders_words : (origin : T) (count : ℕ) (s : State (Option S) (View O R T))
      (r : Turn legal fits word width origin count s) (id : ℕ) (v : View O R T) (t : ℕ) →
      get_elem? s.views id ≡ some v → v.stage ≡ Holding t → (index : ℕ) → index < width →
      WordStands (λ h. word origin h index) r.history v.flight index (get_or s.words (3 + index) 0)
  holders_words origin count s r id v t at holds index below =
      subst (λ f. WordStands (λ h. word origin h index) r.history f index (get_or s.words (3 + index) 0))
      (sym ((r.looks id v at).holder (holds_turn v.stage t holds))) (r.published index below)

  -- and of the words that were loaded
  holders_notes : (origin : T) (count : ℕ) (s : State (Option S) (View O R T))
      (r : Turn legal fits word width origin count s) (id : ℕ) (v : View O R T) (t : ℕ) →
      get_elem? s.views id ≡ some v → v.stage ≡ Holding t → (front : ℕ) (note : Option Note) →
      NoteStands (word origin) r.history r.flight.pending front note →
      NoteStands (word origin) r.history v.flight.pending front note
  holders_notes origin count s r id v t at holds front note was =
      subst (λ (f : Flight O R). NoteStands (word origin) r.history f.pending front note)
      (sym ((r.looks id v at).holder (holds_turn v.stage t holds))) was

  pub announces : (origin : T) (count slots id : ℕ) (m : Me (Option S) (View O R T)) (start_of : S → T)
      (history_of : S → List (Entry O R)) (service : S) → m.1 ≡ out_with service →
      IsReady legal start_of history_of service m.0 →
      Allows (Turn legal fits word width origin count) slots id m 0 (λ n. n)
      (Announces width history_of (step slots 0 0 0 none) m)
  announces origin count slots id m start_of history_of service out ready s r homes at bound =
      let v = m.0 in
      let ok = r.each id v at in
      let look = r.looks id v at in
      let pending = drop (length v.seen) (history_of service) in
      let one = ap ticket_count ready.holds in
      let some_player = ok.player in
      let loaded = set s.words 0 (get_or s.words 0 0) in
      let stands = flies origin count s r id v (record { pending = pending; stamped = [] }) loaded ready.ticket at ready.holds
      (length-set s.words 0 (get_or s.words 0 0))
      (λ j below. word-loaded s.words 0 j)
      (λ index below. subst
      (λ n. WordStands (λ h. word origin h index) r.history (record { pending = pending; stamped = [] }) index n)
      (sym (word-loaded s.words 0 (3 + index)))
      (announced-word (λ h. word origin h index) r.history pending index (get_or s.words (3 + index) 0)
      (subst (λ f. WordStands (λ h. word origin h index) r.history f index (get_or s.words (3 + index) 0)) ready.rest
      (holders_words origin count s r id v ready.ticket at ready.holds index below))))
      (λ front note was. rest-note (word origin) r.history pending front note
      (subst (λ (f : Flight O R). NoteStands (word origin) r.history f.pending front note) ready.rest
      (holders_notes origin count s r id v ready.ticket at ready.holds front note was))) in (
        in_flight v pending,
        keeps,
        tt,
        stands,
        record {
          words = look.words (omega arith);
          now = (λ y is. λ i. (in_flight v (drop (length v.seen) (history_of (same_out service y m.1 out is i))), m.1));
        },
      )

  pub weighs : (origin : T) (count slots id : ℕ) (m : Me (Option S) (View O R T)) (i t : ℕ) → m.0.stage ≡ Holding t →
      0 < length m.0.players → i < width →
      Allows (Turn legal fits word width origin count) slots id m (3 + i) (λ n. n)
      (Weighs word (step slots (3 + i) 0 0 none) m)
  weighs origin count slots id m i t holds some_one within s r homes at bound =
      which (ℕ_discrete (word origin (m.0.seen ++ m.0.flight.pending) i) (after_of (get_or s.words (3 + i) 0)))
    where
      found : ℕ
      found = get_or s.words (3 + i) 0

      Result : Type 0
      Result = (w : View O R T) × (a : Act (Option S)) × Valid s.homes m.1 a
          × Turn legal fits word width origin count (stepped s (3 + i) found id m.1 w a)
          × Weighs word (step slots (3 + i) 0 0 none) m found (w, carried_after m.1 a)

      seen_is : m.0.seen ≡ r.history
      seen_is = (holding-stands r.history r.served r.drawn m.0.seen m.0.stage t holds (r.each id m.0 at).ticket).2

      stands : WordStands (λ h. word origin h i) m.0.seen m.0.flight i found
      stands = subst (λ l. WordStands (λ h. word origin h i) l m.0.flight i found) (sym seen_is)
          (holders_words origin count s r id m.0 t at holds i within)

      tells : (new : Me (Option S) (View O R T)) → IsWeighed (λ h. word origin h i) i m found new →
          Weighs word (step slots (3 + i) 0 0 none) m found new
      tells new told index start there begins =
          let here : i ≡ index = omega arith in
          let same = same_start m.0.start origin start ((r.each id m.0 at).start some_one) begins in
          subst (λ (o : T). IsWeighed (λ h. word o h index) index m found new) same
          (subst (λ (k : ℕ). IsWeighed (λ h. word origin h k) k m found new) here told)

      which : Dec (word origin (m.0.seen ++ m.0.flight.pending) i ≡ after_of found) → Result
      which (yes is) =
          let v = m.0 in
          let flight : Flight O R = record { pending = v.flight.pending; stamped = i ∷ v.flight.stamped } in
          let same = passed-word (λ h. word origin h i) v.seen v.flight i found stands is in
          let loaded = set s.words (3 + i) found in
          let kept = flies origin count s r id v flight loaded t at holds
          (length-set s.words (3 + i) found)
          (λ j below. word-loaded s.words (3 + i) j)
          (λ index below. subst (λ n. WordStands (λ h. word origin h index) r.history flight index n)
          (sym (word-loaded s.words (3 + i) (3 + index)))
          (ready_word v flight index below (ℕ_discrete index i) (subst (λ l. WordStands (λ h. word origin h i) l flight i
          found) seen_is same)))
          (λ front note was. holders_notes origin count s r id v t at holds front note was) in (
            with_stamped v (i ∷ v.flight.stamped),
            keeps,
            tt,
            kept,
            tells (with_stamped v (i ∷ v.flight.stamped), m.1)
                (record { ready = λ again. refl; other = λ never. absurd (never is) }),
          )
        where
          ready_word : (v : View O R T) (flight : Flight O R) (index : ℕ) → index < width → Dec (index ≡ i) →
              WordStands (λ h. word origin h i) r.history (record { pending = m.0.flight.pending; stamped = i ∷ m.0.flight.stamped }) i found →
              WordStands (λ h. word origin h index) r.history
              (record { pending = m.0.flight.pending; stamped = i ∷ m.0.flight.stamped }) index (get_or s.words (3 + index) 0)
          ready_word v flight index below (yes here) made =
              subst (λ k. WordStands (λ h. word origin h k) r.history
              (record { pending = m.0.flight.pending; stamped = i ∷ m.0.flight.stamped }) k (get_or s.words (3 + k) 0)) (sym here) made
          ready_word v flight index below (no else) made =
              other-word (λ h. word origin h index) r.history m.0.flight i index (get_or s.words (3 + index) 0) else
              (holders_words origin count s r id m.0 t at holds index below)
      which (no other) = (
        m.0,
        keeps,
        tt,
        looks legal fits word width origin count s r id (3 + i) m.0 at,
        tells (m.0, m.1) (record {
          ready = λ is. absurd (other is);
          other = λ still. (refl, weighed-word (λ h. word origin h i) m.0.seen m.0.flight i found stands still);
        }),
      )

  pub stamps : (origin : T) (count slots id : ℕ) (m : Me (Option S) (View O R T)) (i after place n : ℕ)
      (c : IsChange word i after place m.0) → 0 < length m.0.players → i < width → position_of n ≡ place →
      after_of n ≡ after → ((o : T) → m.0.start ≡ Some o → word o m.0.seen i ≡ before_of n) →
      Allows (Turn legal fits word width origin count) slots id m (3 + i) (λ found. n)
      (λ found. Stamps (step slots (3 + i) n 0 none) m n)
  stamps origin count slots id m i after place n c some_one within position is_after is_before s r homes at bound =
      let v = m.0 in
      let mine = holding-stands r.history r.served r.drawn v.seen v.stage c.ticket c.holds (r.each id v at).ticket in
      let same = same_start v.start c.start origin c.begins ((r.each id v at).start some_one) in
      let long = ap (λ (l : List (Entry O R)). length l) mine.2 in
      let at_place = c.place in
      let flight : Flight O R = record { pending = v.flight.pending; stamped = i ∷ v.flight.stamped } in
      let stored : WordStands (λ h. word origin h i) r.history flight i n =
      stored-word (λ h. word origin h i) r.history v.flight i n (c.entry, c.pending) (omega arith)
      (subst (λ (l : List (Entry O R)). word origin l i ≡ before_of n) mine.2
      (is_before origin ((r.each id v at).start some_one)))
      (subst (λ (l : List (Entry O R)). word origin (l ++ v.flight.pending) i ≡ after_of n) mine.2
      (subst (λ (o : T). word o (v.seen ++ v.flight.pending) i ≡ after_of n) same (sym c.value ∙ sym is_after))) in
      let kept = flies origin count s r id v flight (set s.words (3 + i) n) c.ticket at c.holds
      (length-set s.words (3 + i) n)
      (λ j below. get_or-set_other s.words (3 + i) j n 0 (λ here. omega arith))
      (λ index below. which index below (ℕ_discrete index i) stored)
      (λ front note was. holders_notes origin count s r id v c.ticket at c.holds front note was) in (
        with_stamped v (i ∷ v.flight.stamped),
        keeps,
        tt,
        kept,
        λ index there. let here : i ≡ index = omega arith in λ k. (with_stamped v (here k ∷ v.flight.stamped), m.1),
      )
    where
      which : (index : ℕ) → index < width → Dec (index ≡ i) →
          WordStands (λ h. word origin h i) r.history (record { pending = m.0.flight.pending; stamped = i ∷ m.0.flight.stamped }) i n →
          WordStands (λ h. word origin h index) r.history
          (record { pending = m.0.flight.pending; stamped = i ∷ m.0.flight.stamped }) index (get_or (set s.words (3 + i) n) (3 + index) 0)
      which index below (yes here) stored =
          let wide = r.words in
          let there = get_or-set_same s.words (3 + i) n 0 (omega arith) in
          subst (λ k. WordStands (λ h. word origin h k) r.history
          (record { pending = m.0.flight.pending; stamped = i ∷ m.0.flight.stamped }) k (get_or (set s.words (3 + i) n) (3 + k) 0)) (sym here)
          (subst (λ x. WordStands (λ h. word origin h i) r.history
          (record { pending = m.0.flight.pending; stamped = i ∷ m.0.flight.stamped }) i x) (sym there) stored)
      which index below (no else) stored =
          let there = get_or-set_other s.words (3 + i) (3 + index) n 0 (λ here. else (omega arith)) in
          subst (λ x. WordStands (λ h. word origin h index) r.history
          (record { pending = m.0.flight.pending; stamped = i ∷ m.0.flight.stamped }) index x) (sym there)
          (other-word (λ h. word origin h index) r.history m.0.flight i index (get_or s.words (3 + index) 0) else
          (holders_words origin count s r id m.0 c.ticket at c.holds index below))

  pub publishes : (origin : T) (count slots id : ℕ) (m : Me (Option S) (View O R T)) (start_of : S → T)
      (history_of : S → List (Entry O R)) (service : S) (ready : IsPublishing legal start_of history_of service m.0) →
      ((i : ℕ) → i < width → MayCount (λ h. word (start_of service) h i) m.0.seen m.0.flight i) →
      Allows (Turn legal fits word width origin count) slots id m 2 (λ n. (n + 1) % 2 ^ 64)
      (Publishes (step slots 2 1 0 none) m)
  publishes origin count slots id m start_of history_of service ready may s r homes at bound =
      let v = m.0 in
      let e = ready.entry in
      let h = v.seen ++ v.flight.pending in
      let w = with_entry v h in
      let ok = r.each id v at in
      let mine = holding-stands r.history r.served r.drawn v.seen v.stage ready.ticket ready.holds ok.ticket in
      let one = ap ticket_count ready.holds in
      let some_player = ok.player in
      let my_start = ok.start (omega arith) in
      let same = same_start v.start (start_of service) origin ready.start my_start in
      let ticket = subst (λ k. HasTicket k r.served) (sym ready.holds) mine.0 in
      let free = others_free legal fits word width origin count s r id v at ticket in
      let history_is : h ≡ r.history ++ e ∷ [] = ap (λ l. v.seen ++ l) ready.pending ∙ ap (λ l. l ++ e ∷ []) mine.2 in
      let long : length h ≡ length r.history + 1 = ap (λ l. length l) history_is ∙ length-append r.history (e ∷ []) in
      let short = short_history legal fits word width origin count s r in
      let next = (get_or s.words 2 0 + 1) % 2 ^ 64 in
      let counts = get_or-set_same s.words 2 next 0 (let wide = r.words in omega arith)
      ∙ ap (λ (n : ℕ). (n + 1) % 2 ^ 64) r.count_word ∙ mod-eq_of_lt (omega arith) ∙ sym long in
      let P : Entry O R → Type 0 = IsCovered s.views in
      let pending_is = ap (λ (f : Flight O R). f.pending) ((r.looks id v at).holder (holds_turn v.stage ready.ticket ready.holds)) in
      let notes : (front : ℕ) (note : Option Note) → front ≤ length r.history →
      NoteStands (word origin) r.history r.flight.pending front note → NoteStands (word origin) h [] front note =
      (λ front note seen was. subst (λ l. NoteStands (word origin) l [] front note) (sym history_is)
      (counted-notes (word origin) r.history r.flight.pending e front note (sym pending_is ∙ ready.pending) seen was)) in
      let stands = moved legal fits word width origin count s r id v w h r.served r.drawn at_rest (set s.words 2 next) s.homes at
      (record {
        players = refl;
        wide = let long_words = length-set s.words 2 next in let wide = r.words in omega arith;
        slot = r.slot;
        ticket_word = word-other s.words 2 0 next (r.drawn % 2 ^ 64) (λ same. omega arith) r.ticket_word;
        serving_word = word-other s.words 2 1 next (r.served % 2 ^ 64) (λ same. omega arith) r.serving_word;
        count_word = counts;
        lawful = subst (λ (o : T). legal o h) same (subst (λ l. legal (start_of service) l) ready.longer ready.lawful);
        tickets = refl;
        made = omega arith;
        mine = record {
          seen = GoesOn-same v.players h;
          ticket = subst (λ k. TicketStands h r.served r.drawn h k) (sym ready.holds) (mine.0, mine.1, refl);
          room =
              ready.room;
          player = some_player;
          parts = tt;
          start = ok.start;
        };
        look = record { words = (r.looks id v at).words; note = tt; holder = λ mine. refl };
        covered = subst (All P) (sym history_is)
            (All-append P r.history (e ∷ []) r.covered
            (All-cons P e [] (record { place = id; view = v; there = at; theirs = ready.mine }) (All-nil P)));
      })
      (λ index below. subst (λ l. WordStands (λ x. word origin x index) l at_rest index (get_or (set s.words 2 next) (3 + index) 0))
      (sym history_is)
      (subst (λ n. WordStands (λ x. word origin x index) (r.history ++ e ∷ []) at_rest index n)
      (sym (get_or-set_other s.words 2 (3 + index) next 0 (λ here. omega arith)))
      (counted-word (λ x. word origin x index) r.history e v.flight index (get_or s.words (3 + index) 0) ready.pending
      (holders_words origin count s r id v ready.ticket at ready.holds index below)
      (subst (λ l. MayCount (λ x. word origin x index) l v.flight index) mine.2
      (subst (λ (o : T). MayCount (λ x. word o x index) v.seen v.flight index) same (may index below))))))
      (λ j u else there was.
      let apart = r.apart id j v u (λ same. else (sym same)) at there in
      let not_theirs = false_of (is_by u.players e) (λ theirs. apart.players e.who.number ready.mine theirs) in
      record {
        seen = subst (λ l. GoesOn u.players u.seen l) (sym history_is)
            (GoesOn-push u.players u.seen r.history e was.seen not_theirs);
        ticket = TicketStands-history r.history h r.served r.drawn u.seen u.stage (free j u else there).0 was.ticket;
        room = was.room;
        player = was.player;
        parts = was.parts;
        start = was.start;
      })
      (λ j u else there k held theirs. (r.apart id j v u (λ same. else (sym same)) at there).tickets k held theirs)
      (λ j u else there was. record {
        words = was.words;
        note = notes (length u.seen) u.note (GoesOn-long u.players u.seen r.history (r.each j u there).seen) was.note;
        holder = λ theirs. absurd ((free j u else there).0 theirs);
      })
      (inr (record {
        place = id;
        view = w;
        there = at-set_there s.views id v w at;
        holds = holds_turn v.stage ready.ticket ready.holds;
      })) in
      (w, keeps, tt, stands, refl)
