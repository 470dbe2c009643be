-- What a submission, a cancel, a begin and an end make of the open admissions, and so what the engine stands for then.
use Rattle.zk_base.specs.Limits.{most_entries}
use Rattle.zk_base.specs.declared.ids.Who.{Who}
use Rattle.std.proofs.Common.{◌≡◌, ℕ, zero, suc, ◌+◌, ◌-◌, ◌^◌, ◌<◌, ◌≤◌, ◌⊎◌, inl, inr, ◌≢◌, Bool, true, false, not, ◌&&◌, cond, eqb, ◌==◌, Option, Some, None, is_some, option_map, option_to_list, List, [], ◌∷◌, ◌++◌, length, length-append, map, get_or, set, slice_get, count_by, All, refl, sym, ap, subst, ◌∙◌, arith}
use Rattle.std.specs.Cmp.{first_so, second_so}
use Rattle.std.proofs.Math.ListN.{get_or-map}
use Rattle.std.proofs.lemmas.Bool.{eqb-true, eq-eqb, false≢true, and_right, and_from}
use Rattle.std.proofs.lemmas.Bool.Decides.{eqb_tells}
use Rattle.std.proofs.lemmas.List.{get_or-set_same, get_or-set_other, length-set, length-map, append-nil}
use Rattle.std.proofs.lemmas.List.Elements.{All-set, All-append, All-cons, All-nil, All-weaker}
use Rattle.std.proofs.lemmas.List.Sums.{count_by-le-length}
use Rattle.std.proofs.lemmas.Option.{slice_get-map, same_Some}
use Rattle.zk_model_work.specs.declared.parts.Life.TheVariants.{Waiting, Running, Ended}
use Rattle.zk_model_work.specs.declared.parts.Admission.{Admission}
use Rattle.zk_model_work.specs.declared.parts.Queue.{Queue}
use Rattle.zk_model_work.specs.declared.parts.Awaited.TheVariants.{Drain}
use Rattle.zk_model_work.specs.declared.parts.Wait.{Wait}
use Rattle.zk_model_work.specs.Lists.{first}
use Rattle.zk_model_work.specs.Questions.{is_waiting, is_running, waits_as, runs_as, waits_for, runs_on, running, last_queue, line, run, is_empty_and_idle, is_cancelling, item_of as machine_item}
use Rattle.zk_model_work.specs.Answers.{drain_wait, drained_of, wait_for}
use Rattle.zk_model_work.specs.Machine.{with_life, set_life, drop_one, end_one, settle_from, end, cancel, drain, drain_start, stop, awaiting}
use Rattle.zk_model_work.specs.State.{State}
use Rattle.zk_model_work.proofs.Counts.{IsTimed-more, IsCounted-more, IsCounted-settled, length-settle_from}
use Rattle.zk_model_work.proofs.Lives.{open-running}
use Rattle.zk_model_work.proofs.Overlaps.{Admits}
use Rattle.zk_queue.specs.declared.ticket.Ticket.{Ticket}
use Rattle.zk_queue.specs.Line.{without}
use Rattle.zk_queue.specs.Open as active
use Rattle.zk_queue.specs.Open.{Open, IsAbove}
use Rattle.zk_queue.proofs.Numbers.{IsAbove-drop}
use Rattle.zk_work.specs.EngineState.{EngineState, IsSound, IsWhole, StandsFor, is_there}
use Rattle.zk_work.specs.Tickets.{tickets}
use Rattle.zk_work.specs.Engine.{admitted, cancelled, settled, drained}
use Rattle.zk_work.proofs.Tickets.{ticket, first_stands, IsTicketOf, tickets-push, tickets-map, tickets-map_none, tickets-one, count-push, count-map, count-some}
use Rattle.zk_work.proofs.Changes.{is_nil, length-nil, idle-tickets, without-drop, without-begin, runs-begin, runs-begin_other, runs_on-drop, runs_on-end, runs_on-end_other, running-drop, running-begin, running-end, waits_for-end, item-drop, queue-drop, item-end, queue-end}
use Rattle.zk_work.proofs.LastQueues.{last-push, last-map, last-set_life}
use Rattle.zk_work.proofs.Cancelling.{remarked, cancelling-push, cancelling-begin, cancelling-end_other, cancelling-none, cancelling-cancel, cancelling-cancel_none, cancelling-cancel_other}
use Rattle.zk_work.proofs.Sound.{IsSound-push, IsSound-cancel, IsSound-end, IsSound-begin}
use Rattle.zk_work.proofs.Replies.{runs_item}
use Rattle.zk_work.proofs.Beside.{drains-stand, stops-stand, wait-stands}
use Rattle.zk_work.proofs.Items.{queued}
use Rattle.zk_work.proofs.Numbered.{numbered_as, numbered-admit}
use Rattle.zk_work.proofs.Awaited.{there-later, Later-push, Later-drop, Later-begin, Later-end}

abbrev Same : ℕ → ℕ → Type 0
Same i j = ((eqb i j ≡ true) × (i ≡ j)) ⊎ ((eqb i j ≡ false) × (i ≢ j))

-- what the runs say of a ticket that a queue runs
record RunsIt (items : ℕ) (xs : List Admission) (t : Ticket) : Type 0 where
  pub some : 0 < count_by (λ (a : Admission). is_running a.life) xs
  pub known : t.item < items

runs_it : (items : ℕ) (xs : List Admission) (marks : List ℕ) (o : Option Ticket) (queue : ℕ) (t : Ticket) →
    IsSound items xs marks → option_to_list o ≡ tickets (runs_on queue) xs → o ≡ Some t → RunsIt items xs t
runs_it items xs marks o queue t sound runs is =
    let one : first (tickets (runs_on queue) xs) ≡ Some t = ap first (sym runs ∙ ap option_to_list is) in
    let s = first_stands 0 (runs_on queue) xs t one in
    let known = sound.known s.place s.admission s.there in
    let item = s.item in
    let some = count-some (λ (a : Admission). is_running a.life) xs s.place s.admission s.there
    (second_so (eqb s.admission.queue queue) (is_running s.admission.life) s.passes) in
    record { some = omega arith; known = omega arith }

-- a line without an item, read by its queue
line-drop : (o : Open) (item queue : ℕ) → active.line (active.drop_item o item) queue ≡ without item (active.line o queue)
line-drop o item queue = get_or-map (without item) o.lines queue []

-- settling by two words that agree
settle-same : (f g : ℕ → Bool) (n : ℕ) (qs : List Queue) → ((q : ℕ) → f q ≡ g q) → settle_from f n qs ≡ settle_from g n qs
settle-same f g n [] same = refl
settle-same f g n (q ∷ qs) same =
    ap (λ b. cond (q.draining && b) (record q { draining = false; drained = q.drained + 1 }) q ∷ settle_from f (n + 1) qs)
    (same n)
    ∙ ap (λ (rest : List Queue). cond (q.draining && g n) (record q { draining = false; drained = q.drained + 1 }) q
    ∷ rest) (settle-same f g (n + 1) qs same)

-- a queue is idle alike
pub idle-same : (o : Open) (xs : List Admission) (queue : ℕ) → active.line o queue ≡ tickets (waits_for queue) xs →
    option_to_list (active.run o queue) ≡ tickets (runs_on queue) xs →
    active.is_idle o queue ≡ is_empty_and_idle xs queue
idle-same o xs queue line run =
    none (active.run o queue) (length (active.line o queue) == 0)
    ∙ ap (λ b. is_nil (option_to_list (active.run o queue)) && b) (length-nil (active.line o queue))
    ∙ ap (λ (ts : List Ticket). is_nil (option_to_list (active.run o queue)) && is_nil ts) line
    ∙ ap (λ (ts : List Ticket). is_nil ts && is_nil (tickets (waits_for queue) xs)) run
    ∙ sym (idle-tickets queue 0 xs) where
      none : (r : Option Ticket) (b : Bool) → (Rattle.std.proofs.Common.is_none r && b) ≡ (is_nil (option_to_list r) && b)
      none None b = refl
      none (Some t) b = refl

-- what the engine keeps is whole after an admission, for which there is an entry
pub admitted-whole : (k : EngineState) (item queue : ℕ) → IsWhole k → item < k.active.items → queue < k.active.queues →
    active.is_queued k.active item ≡ false → k.made + length k.timeouts.live < k.entries → IsWhole (admitted k item queue)
admitted-whole k item queue w item_in queue_in free room =
    let fewest = w.fewest in
    let shaped_lines = w.shaped.lines in
    record {
      counted = w.counted;
      timed = w.timed;
      fewer = omega arith;
      fewest = omega arith;
      items = length-set k.last item (Some queue) ∙ w.items;
      armed = w.armed;
      ordered = w.ordered;
      queues = w.queues;
      shaped = record {
        marks = w.shaped.marks;
        lines = length-set k.active.lines queue _
            ∙ w.shaped.lines;
        runs = w.shaped.runs;
      };
      above = above (omega arith);
      busy = w.busy;
      known = w.known;
      numbered = numbered-admit k.made k.active item queue w.numbered item_in (omega arith) free;
    } where
      above : queue < length k.active.lines → IsAbove (k.made + 1) (active.admit k.active item queue k.made)
      above within =
          let old : IsAbove (k.made + 1) k.active =
          All-weaker (All (λ (t : Ticket). t.number < k.made)) (All (λ (t : Ticket). t.number < k.made + 1))
          (λ (l : List Ticket) all. All-weaker (λ (t : Ticket). t.number < k.made) (λ (t : Ticket). t.number < k.made + 1)
          (λ t less. omega arith) l all) k.active.lines w.above in
          let P : Ticket → Type 0 = λ t. t.number < k.made + 1 in
          let t : Ticket = record { item = item; number = k.made } in
          All-set (All P) k.active.lines queue (active.line k.active queue ++ t ∷ [])
          (All-append P (active.line k.active queue) (t ∷ []) (old queue [] within)
          (All-cons P t [] (omega arith) (All-nil P))) old

-- a submission that admits
pub admitted-stands : (k : EngineState) (s : State) (item queue : ℕ) (named : Option ℕ) → StandsFor k s →
    Admits (machine_item s.admissions s.marks item) named queue → item < s.items → queue < length s.queues →
    k.made + length k.timeouts.live < k.entries →
    StandsFor (admitted k item queue)
    (record s { admissions = s.admissions ++ record { item = item; queue = queue; life = Waiting } ∷ [] })
admitted-stands k s item queue named st admits item_in queue_in room =
    let w = st.whole in
    let items = st.admissions.items in
    let lasts = w.items in
    let made = st.admissions.made in
    let running = st.admissions.running in
    let shaped_lines = w.shaped.lines in
    let all_queues = w.queues in
    let queues = ap length st.queues in
    record {
      whole = admitted-whole k item queue w (omega arith) (omega arith)
          (queued k.active xs item st.admissions.lines ∙ admits.not_waiting) room;
      time = st.time;
      entries = st.entries;
      queues = st.queues;
      arms = st.arms;
      waits = record {
        left = st.waits.left;
        there = there-later xs (xs ++ a ∷ []) s.waits (Later-push xs a) st.waits.there;
      };
      admissions = record {
        items = st.admissions.items;
        made = (let long = length-append xs (a ∷ []) in omega arith);
        running = (let more = count-push (λ (a : Admission). is_running a.life) xs a in omega arith);
        last = λ i. last i (eqb_tells item i) (omega arith);
        lines = λ q. lines q (eqb_tells queue q) (omega arith);
        runs = λ q. st.admissions.runs q
            ∙ sym (tickets-push 0 (runs_on q) xs a
            ∙ ap (λ b. tickets (runs_on q) xs ++ cond b (ticket a (0 + length xs) ∷ []) [])
            (and_right (queue == q) false refl) ∙ append-nil (tickets (runs_on q) xs));
        marks = λ i. st.admissions.marks i
            ∙ ap (λ b. record { cancelling = b; delayed = false; flushing = false })
            (sym (cancelling-push xs s.marks item queue i));
        sound = IsSound-push s.items xs s.marks item named queue admits item_in st.admissions.sound;
      };
    } where
      xs : List Admission
      xs = s.admissions

      a : Admission
      a = record { item = item; queue = queue; life = Waiting }

      last : (i : ℕ) → Same item i → item < length k.last →
          get_or (set k.last item (Some queue)) i None ≡ last_queue (xs ++ a ∷ []) i
      last i (inl same) within =
          subst (λ j. get_or (set k.last item (Some queue)) j None ≡ last_queue (xs ++ a ∷ []) j) same.1
          (get_or-set_same k.last item (Some queue) None within
          ∙ sym (last-push item xs a ∙ ap (λ b. cond b (Some queue) (last_queue xs item)) (eq-eqb item item refl)))
      last i (inr differ) within =
          get_or-set_other k.last item i (Some queue) None (λ e. differ.1 (sym e)) ∙ st.admissions.last i
          ∙ sym (last-push i xs a ∙ ap (λ b. cond b (Some queue) (last_queue xs i)) differ.0)

      lines : (q : ℕ) → Same queue q → queue < length k.active.lines →
          active.line (active.admit k.active item queue k.made) q ≡ tickets (waits_for q) (xs ++ a ∷ [])
      lines q (inl same) within =
          subst (λ p. active.line (active.admit k.active item queue k.made) p ≡ tickets (waits_for p) (xs ++ a ∷ [])) same.1
          (get_or-set_same k.active.lines queue (active.line k.active queue ++ record { item = item; number = k.made }
          ∷ []) [] within
          ∙ ap (λ (ts : List Ticket). ts ++ record { item = item; number = k.made } ∷ []) (st.admissions.lines queue)
          ∙ ap (λ n. tickets (waits_for queue) xs ++ record { item = item; number = n } ∷ [])
          (let made = st.admissions.made in omega arith)
          ∙ sym (tickets-push 0 (waits_for queue) xs a
          ∙ ap (λ b. tickets (waits_for queue) xs ++ cond (b && true) (ticket a (0 + length xs) ∷ []) [])
          (eq-eqb queue queue refl)))
      lines q (inr differ) within =
          get_or-set_other k.active.lines queue q _ [] (λ e. differ.1 (sym e)) ∙ st.admissions.lines q
          ∙ sym (tickets-push 0 (waits_for q) xs a
          ∙ ap (λ b. tickets (waits_for q) xs ++ cond (b && true) (ticket a (0 + length xs) ∷ []) []) differ.0
          ∙ append-nil (tickets (waits_for q) xs))

-- the wait of a drain isn't answered, and needs nothing to be there
drain_wait-new : (idle : Bool) (s : State) (who : Who) (queue : ℕ) (w : Wait) →
    drain_wait idle s.entries s.queues who queue ≡ Some w →
    (w.answered ≡ false) × (is_there s.admissions w.awaited w.answered ≡ true)
drain_wait-new true s who queue w is = absurd (cc)
drain_wait-new false s who queue w is =
    let same = same_Some (wait_for s.entries who (Drain queue (drained_of s.queues queue))) w is in
    (sym (ap (λ (v : Wait). v.answered) same), subst (λ (v : Wait). is_there s.admissions v.awaited v.answered ≡ true) same refl)

-- the start of a drain
pub drain-stands : (k : EngineState) (s : State) (who : Who) (queue : ℕ) (plug : Bool) → StandsFor k s → s.entries < most_entries →
    StandsFor (record (drained k who queue plug) { entries = k.entries + 1 })
    (record (drain_start s who queue plug) { entries = s.entries + 1 })
drain-stands k s who queue plug st few =
    let idle = idle-same k.active s.admissions queue (st.admissions.lines queue) (st.admissions.runs queue) in
    let i = is_empty_and_idle s.admissions queue in
    let new = drain_wait-new i s who queue in
    let S : State = record (drain_start s who queue plug) { entries = s.entries + 1 } in
    let T : Bool → Option Wait → EngineState =
    λ b o. record k { queues = drain b plug k.queues queue; waits = awaiting k.waits o; entries = k.entries + 1 } in
    let wait : drain_wait (active.is_idle k.active queue) k.entries k.queues who queue
    ≡ drain_wait i s.entries s.queues who queue =
    ap (λ b. drain_wait b k.entries k.queues who queue) idle ∙ ap (λ n. drain_wait i n k.queues who queue) st.entries
    ∙ ap (λ (qs : List Queue). drain_wait i s.entries qs who queue) st.queues in
    subst (λ o. StandsFor (T (active.is_idle k.active queue) o) S) (sym wait)
    (subst (λ b. StandsFor (T b (drain_wait i s.entries s.queues who queue)) S) (sym idle)
    (wait-stands (drain_wait i s.entries s.queues who queue)
    (record k { queues = drain i plug k.queues queue; entries = k.entries + 1 })
    (record s { queues = drain i plug s.queues queue; entries = s.entries + 1 })
    (drains-stand i plug k s queue st few) (λ w is. (new w is).0) (λ w is. (new w is).1)))

-- a stop of a queue
pub stop-stands : (k : EngineState) (s : State) (queue : ℕ) → StandsFor k s → s.entries < most_entries →
    StandsFor (record k { queues = stop (active.is_idle k.active queue) k.queues queue; entries = k.entries + 1 })
    (record s { queues = stop (is_empty_and_idle s.admissions queue) s.queues queue; entries = s.entries + 1 })
stop-stands k s queue st few =
    let idle = is_empty_and_idle s.admissions queue in
    let S : State = record s { queues = stop idle s.queues queue; entries = s.entries + 1 } in
    subst (λ b. StandsFor (record k { queues = stop b k.queues queue; entries = k.entries + 1 }) S)
    (sym (idle-same k.active s.admissions queue (st.admissions.lines queue) (st.admissions.runs queue)))
    (stops-stand idle k s queue st few)

kept-cond : {A B : Type 0} (f : A → B) (b : Bool) (x y : A) → f x ≡ f y → f (cond b x y) ≡ f y
kept-cond f true x y same = same
kept-cond f false x y same = refl

-- a cancel leaves all but the lines and the marks
same-cancelled : {B : Type 0} (f : Open → B) (o : Open) (item : ℕ) →
    f (active.mark (active.drop_item o item) item 2) ≡ f (active.drop_item o item) →
    f (cancelled o item) ≡ f (active.drop_item o item)
same-cancelled f o item same = kept-cond f (active.is_running o item) (active.mark (active.drop_item o item) item 2)
    (active.drop_item o item) same

-- a cancel, but for the arms
pub cancel-stands : (k : EngineState) (s : State) (item : ℕ) → StandsFor k s → item < s.items → s.entries < most_entries →
    StandsFor (record (settled k (cancelled k.active item)) { entries = k.entries + 1 })
    (record (cancel s item) { arms = s.arms; entries = s.entries + 1 })
cancel-stands k s item st item_in few =
    let w = st.whole in
    let entries = st.entries in
    let fewer = w.fewer in
    let items = st.admissions.items in
    let marks_long = w.shaped.marks in
    record {
      whole = record {
        counted = IsCounted-settled k.entries (active.is_idle o) k.queues w.counted (omega arith);
        timed = IsTimed-more k.time k.entries w.timed;
        fewer = omega arith;
        fewest = w.fewest;
        items = w.items ∙ sym o_items;
        armed = w.armed ∙ sym o_items;
        ordered = w.ordered;
        queues = length-settle_from (active.is_idle o) 0 k.queues ∙ w.queues ∙ sym o_queues;
        shaped = record {
          marks = marks_kept (active.is_running k.active item) ∙ w.shaped.marks ∙ sym o_items;
          lines = ap length o_lines ∙ length-map k.active.lines (without item) ∙ w.shaped.lines ∙ sym o_queues;
          runs = ap length o_runs ∙ w.shaped.runs ∙ sym o_queues;
        };
        above = subst (All (All (λ (t : Ticket). t.number < k.made))) (sym o_lines) (IsAbove-drop k.made item k.active w.above);
        busy = λ q t is. w.busy q t (ap (λ (rs : List (Option Ticket)). get_or rs q None) (sym o_runs) ∙ is);
        known = λ q t is. let before = w.known q t (ap (λ (rs : List (Option Ticket)). get_or rs q None) (sym o_runs)
            ∙ is) in subst (λ n. t.item < n) (sym o_items) before;
        numbered = numbered_as o ys s.items (remarked xs s.marks item) lines runs
            (IsSound-cancel s.items xs s.marks item st.admissions.sound) k.made
            (st.admissions.made ∙ sym (length-map xs (drop_one item))) (o_items ∙ st.admissions.items);
      };
      time = st.time;
      entries = ap (λ n. n + 1) st.entries;
      queues = ap (settle_from (active.is_idle o) 0) st.queues
          ∙ settle-same (active.is_idle o) (is_empty_and_idle ys) 0 s.queues (λ q. idle-same o ys q (lines q) (runs q));
      arms = st.arms;
      waits = record {
        left = st.waits.left;
        there = there-later xs ys s.waits (Later-drop item xs) st.waits.there;
      };
      admissions = record {
        items = o_items ∙ st.admissions.items;
        made = st.admissions.made ∙ sym (length-map xs (drop_one item));
        running = st.admissions.running
            ∙ sym (count-map (λ (a : Admission). is_running a.life) (drop_one item) xs (running-drop item));
        last = λ i. st.admissions.last i ∙ sym (last-map i (drop_one item) xs (item-drop item) (queue-drop item));
        lines = lines;
        runs = runs;
        marks = λ i. marks i (active.is_running k.active item) refl (eqb_tells i item) (omega arith);
        sound = IsSound-cancel s.items xs s.marks item st.admissions.sound;
      };
    } where
      xs : List Admission
      xs = s.admissions

      ys : List Admission
      ys = map (drop_one item) s.admissions

      o : Open
      o = cancelled k.active item

      o_items : o.items ≡ k.active.items
      o_items = same-cancelled (λ o. o.items) k.active item refl

      o_queues : o.queues ≡ k.active.queues
      o_queues = same-cancelled (λ o. o.queues) k.active item refl

      o_lines : o.lines ≡ map (without item) k.active.lines
      o_lines = same-cancelled (λ o. o.lines) k.active item refl

      o_runs : o.runs ≡ k.active.runs
      o_runs = same-cancelled (λ o. o.runs) k.active item refl

      marks_kept : (b : Bool) →
          length (cond b (active.mark (active.drop_item k.active item) item 2) (active.drop_item k.active item)).marks
          ≡ length k.active.marks
      marks_kept true = length-set k.active.marks item _
      marks_kept false = refl

      lines : (q : ℕ) → active.line o q ≡ tickets (waits_for q) ys
      lines q =
          ap (λ (ls : List (List Ticket)). get_or ls q []) o_lines ∙ line-drop k.active item q
          ∙ ap (without item) (st.admissions.lines q)
          ∙ without-drop item q 0 xs (st.admissions.sound.once item)

      runs : (q : ℕ) → option_to_list (active.run o q) ≡ tickets (runs_on q) ys
      runs q =
          ap (λ (rs : List (Option Ticket)). option_to_list (get_or rs q None)) o_runs ∙ st.admissions.runs q
          ∙ sym (tickets-map 0 (runs_on q) (drop_one item) xs (runs_on-drop item q) (item-drop item))

      marks : (i : ℕ) (b : Bool) → active.is_running k.active item ≡ b → Same i item → item < length k.active.marks →
          active.marks_of (cond b (active.mark (active.drop_item k.active item) item 2) (active.drop_item k.active item))
          i ≡ record { cancelling = is_cancelling ys (remarked xs s.marks item) i; delayed = false; flushing = false }
      marks i true runs (inl same) within =
          let some : is_some (running xs item) ≡ true = sym (runs_item k s st item) ∙ runs in
          subst (λ j. active.marks_of (active.mark (active.drop_item k.active item) item 2) j
          ≡ record { cancelling = is_cancelling ys (remarked xs s.marks item) j; delayed = false; flushing = false })
          (sym same.1)
          (get_or-set_same k.active.marks item (active.marks_in 2) active.unmarked within
          ∙ ap (λ b. record { cancelling = b; delayed = false; flushing = false }) (sym (cancelling-cancel xs s.marks item some)))
      marks i true runs (inr differ) within =
          get_or-set_other k.active.marks item i (active.marks_in 2) active.unmarked differ.1 ∙ st.admissions.marks i
          ∙ ap (λ b. record { cancelling = b; delayed = false; flushing = false })
          (sym (cancelling-cancel_other xs s.marks item i differ.1))
      marks i false runs which within =
          let none : is_some (running xs item) ≡ false = sym (runs_item k s st item) ∙ runs in
          st.admissions.marks i
          ∙ ap (λ b. record { cancelling = b; delayed = false; flushing = false })
          (sym (cancelling-cancel_none xs s.marks item i none))

length-taken : (xs : List Admission) (n : ℕ) → length (set_life xs n Running) ≡ length xs
length-taken [] n = refl
length-taken (x ∷ xs) zero = refl
length-taken (x ∷ xs) (suc n) = ap suc (length-taken xs n)

-- a begin of the lowest of a line, where nothing runs
pub begin-stands : (k : EngineState) (s : State) (queue : ℕ) (t : Ticket) → StandsFor k s → queue < length s.queues →
    s.entries < most_entries → active.run k.active queue ≡ None → first (active.line k.active queue) ≡ Some t →
    StandsFor (record k { active = active.begun k.active queue t; running = k.running + 1; entries = k.entries + 1 })
    (record s { admissions = set_life s.admissions t.number Running; entries = s.entries + 1 })
begin-stands k s queue t st queue_in few idle lowest =
    let w = st.whole in
    let entries = st.entries in
    let fewer = w.fewer in
    let made = st.admissions.made in
    let running = st.admissions.running in
    let all_queues = w.queues in
    let queues = ap length st.queues in
    let runs_long = w.shaped.runs in
    let within : queue < length k.active.runs = omega arith in
    let more : count_by (λ (a : Admission). is_running a.life) ys ≡ count_by (λ (a : Admission). is_running a.life) xs
    + 1 = running-begin xs t.number a there waits in
    let most = count_by-le-length (λ (a : Admission). is_running a.life) ys in
    let long : length ys ≡ length xs = length-taken xs t.number in
    let sound = IsSound-begin s.items xs s.marks t.number a there waits st.admissions.sound in
    let new_running : k.running + 1 ≡ count_by (λ (a : Admission). is_running a.life) ys = omega arith in
    let it : (q : ℕ) (u : Ticket) → active.run (active.begun k.active queue t) q ≡ Some u → RunsIt s.items ys u =
    λ q u is. runs_it s.items ys s.marks (active.run (active.begun k.active queue t) q) q u sound
    (runs q (eqb_tells q queue) within) is in
    record {
      whole = record {
        counted = IsCounted-more k.entries k.queues w.counted (omega arith);
        timed = IsTimed-more k.time k.entries w.timed;
        fewer = omega arith;
        fewest = omega arith;
        items = w.items;
        armed = w.armed;
        ordered = w.ordered;
        queues = w.queues;
        shaped = record {
          marks = w.shaped.marks;
          lines = length-map k.active.lines (without t.item) ∙ w.shaped.lines;
          runs = length-set k.active.runs queue (Some t) ∙ w.shaped.runs;
        };
        above = IsAbove-drop k.made t.item k.active w.above;
        busy = λ q u is. let some = (it q u is).some in omega arith;
        known = λ q u is. let known = (it q u is).known in let items = st.admissions.items in omega arith;
        numbered = numbered_as (active.begun k.active queue t) ys s.items s.marks lines
            (λ q. runs q (eqb_tells q queue) within) sound k.made (omega arith) st.admissions.items;
      };
      time = st.time;
      entries = ap (λ n. n + 1) st.entries;
      queues = st.queues;
      arms = st.arms;
      waits = record {
        left = st.waits.left;
        there = there-later xs ys s.waits (Later-begin xs t.number a there waits) st.waits.there;
      };
      admissions = record {
        items = st.admissions.items;
        made = omega arith;
        running = new_running;
        last = λ i. st.admissions.last i ∙ sym (last-set_life i xs t.number Running);
        lines = lines;
        runs = λ q. runs q (eqb_tells q queue) within;
        marks = λ i. st.admissions.marks i
            ∙ ap (λ b. record { cancelling = b; delayed = false; flushing = false })
            (sym (cancelling-begin xs s.marks t.number i a there waits st.admissions.sound.marked));
        sound = sound;
      };
    } where
      xs : List Admission
      xs = s.admissions

      ys : List Admission
      ys = set_life s.admissions t.number Running

      stands : IsTicketOf 0 (waits_for queue) xs t
      stands = first_stands 0 (waits_for queue) xs t (ap first (sym (st.admissions.lines queue)) ∙ lowest)

      a : Admission
      a = stands.admission

      there : slice_get xs t.number ≡ Some a
      there = let number = stands.number in let place : stands.place ≡ t.number = omega arith in
          ap (slice_get xs) (sym place) ∙ stands.there

      waits : is_waiting a.life ≡ true
      waits = second_so (eqb a.queue queue) (is_waiting a.life) stands.passes

      on : a.queue ≡ queue
      on = eqb-true a.queue queue (first_so (eqb a.queue queue) (is_waiting a.life) stands.passes)

      waits_as_item : waits_as t.item a ≡ true
      waits_as_item = and_from (eqb a.item t.item) (is_waiting a.life) (eq-eqb a.item t.item stands.item) waits

      lines : (q : ℕ) → active.line (active.begun k.active queue t) q ≡ tickets (waits_for q) ys
      lines q = line-drop k.active t.item q ∙ ap (without t.item) (st.admissions.lines q)
          ∙ sym (without-begin t.item q 0 xs t.number a there waits_as_item (st.admissions.sound.once t.item))

      none_runs : tickets (runs_on queue) xs ≡ []
      none_runs = sym (st.admissions.runs queue) ∙ ap option_to_list idle

      runs : (q : ℕ) → Same q queue → queue < length k.active.runs →
          option_to_list (active.run (active.begun k.active queue t) q) ≡ tickets (runs_on q) ys
      runs q (inl same) within =
          subst (λ p. option_to_list (active.run (active.begun k.active queue t) p) ≡ tickets (runs_on p) ys) (sym same.1)
          (ap option_to_list (get_or-set_same k.active.runs queue (Some t) None within)
          ∙ ap (λ n. record { item = t.item; number = n } ∷ []) (let zero_first : t.number ≡ 0 + t.number = omega arith in
          zero_first)
          ∙ ap (λ i. record { item = i; number = 0 + t.number } ∷ []) (sym stands.item)
          ∙ sym (runs-begin queue 0 xs t.number a there on none_runs))
      runs q (inr differ) within =
          ap option_to_list (get_or-set_other k.active.runs queue q (Some t) None differ.1) ∙ st.admissions.runs q
          ∙ sym (runs-begin_other q 0 xs t.number a there waits (not_same (eqb a.queue q) refl)) where
            not_same : (b : Bool) → eqb a.queue q ≡ b → b ≡ false
            not_same true is = absurd (differ.1 (sym (eqb-true a.queue q is) ∙ on))
            not_same false is = refl

-- an end of what a queue runs
pub end-stands : (k : EngineState) (s : State) (queue : ℕ) (t : Ticket) → StandsFor k s → queue < length s.queues →
    s.entries < most_entries → active.run k.active queue ≡ Some t →
    StandsFor (record (settled k (active.mark (active.end k.active queue) t.item 0)) {
      running = k.running - 1;
      entries = k.entries + 1;
    }) (record (end s queue) { entries = s.entries + 1 })
end-stands k s queue t st queue_in few run =
    let w = st.whole in
    let entries = st.entries in
    let fewer = w.fewer in
    let fewest = w.fewest in
    let running = st.admissions.running in
    let items = st.admissions.items in
    let all_queues = w.queues in
    let queues = ap length st.queues in
    let runs_long = w.shaped.runs in
    let marks_long = w.shaped.marks in
    let within : queue < length k.active.runs = omega arith in
    let known = w.known queue t run in
    let item_in : t.item < length k.active.marks = omega arith in
    let less : count_by (λ (a : Admission). is_running a.life) ys + length (tickets (runs_on queue) xs)
    ≡ count_by (λ (a : Admission). is_running a.life) xs = running-end queue 0 xs in
    let one : length (tickets (runs_on queue) xs) ≡ 1 = ap length one_run in
    let sound = IsSound-end s.items xs s.marks queue st.admissions.sound in
    let new_running : k.running - 1 ≡ count_by (λ (a : Admission). is_running a.life) ys = omega arith in
    let it : (q : ℕ) (u : Ticket) → active.run o q ≡ Some u → RunsIt s.items ys u =
    λ q u is. runs_it s.items ys s.marks (active.run o q) q u sound (runs q (eqb_tells q queue) within) is in
    record {
      whole = record {
        counted = IsCounted-settled k.entries (active.is_idle o) k.queues w.counted (omega arith);
        timed = IsTimed-more k.time k.entries w.timed;
        fewer = omega arith;
        fewest = omega arith;
        items = w.items;
        armed = w.armed;
        ordered = w.ordered;
        queues = length-settle_from (active.is_idle o) 0 k.queues ∙ w.queues;
        shaped = record {
          marks = length-set k.active.marks t.item (active.marks_in 0) ∙ w.shaped.marks;
          lines = w.shaped.lines;
          runs = length-set k.active.runs queue None ∙ w.shaped.runs;
        };
        above = w.above;
        busy = λ q u is. let some = (it q u is).some in omega arith;
        known = λ q u is. let known = (it q u is).known in omega arith;
        numbered = numbered_as o ys s.items s.marks lines (λ q. runs q (eqb_tells q queue) within) sound k.made
            (st.admissions.made ∙ sym (length-map xs (end_one queue))) st.admissions.items;
      };
      time = st.time;
      entries = ap (λ n. n + 1) st.entries;
      queues = ap (settle_from (active.is_idle o) 0) st.queues
          ∙ settle-same (active.is_idle o) (is_empty_and_idle ys) 0 s.queues
          (λ q. idle-same o ys q (lines q) (runs q (eqb_tells q queue) within));
      arms = st.arms;
      waits = record {
        left = st.waits.left;
        there = there-later xs ys s.waits (Later-end queue xs) st.waits.there;
      };
      admissions = record {
        items = st.admissions.items;
        made = st.admissions.made ∙ sym (length-map xs (end_one queue));
        running = new_running;
        last = λ i. st.admissions.last i ∙ sym (last-map i (end_one queue) xs (item-end queue) (queue-end queue));
        lines = lines;
        runs = λ q. runs q (eqb_tells q queue) within;
        marks = λ i. marks i (eqb_tells i t.item) item_in;
        sound = sound;
      };
    } where
      xs : List Admission
      xs = s.admissions

      ys : List Admission
      ys = map (end_one queue) s.admissions

      o : Open
      o = active.mark (active.end k.active queue) t.item 0

      one_run : tickets (runs_on queue) xs ≡ t ∷ []
      one_run = sym (st.admissions.runs queue) ∙ ap option_to_list run

      lines : (q : ℕ) → active.line o q ≡ tickets (waits_for q) ys
      lines q = st.admissions.lines q
          ∙ sym (tickets-map 0 (waits_for q) (end_one queue) xs (waits_for-end queue q) (item-end queue))

      runs : (q : ℕ) → Same q queue → queue < length k.active.runs → option_to_list (active.run o q) ≡ tickets (runs_on q) ys
      runs q (inl same) within =
          subst (λ p. option_to_list (active.run o p) ≡ tickets (runs_on p) ys) (sym same.1)
          (ap option_to_list (get_or-set_same k.active.runs queue None None within)
          ∙ sym (tickets-map_none 0 (runs_on queue) (end_one queue) xs (runs_on-end queue)))
      runs q (inr differ) within =
          ap option_to_list (get_or-set_other k.active.runs queue q None None differ.1) ∙ st.admissions.runs q
          ∙ sym (tickets-map 0 (runs_on q) (end_one queue) xs (λ a. runs_on-end_other queue q a differ.1) (item-end queue))

      stands : IsTicketOf 0 (runs_on queue) xs t
      stands = first_stands 0 (runs_on queue) xs t (ap first one_run)

      -- an admission of the item that ran doesn't run any more
      over : (m : ℕ) (b : Admission) → slice_get ys m ≡ Some b → runs_as t.item b ≡ false
      over m b at = by (slice_get xs m) refl (sym (slice_get-map (end_one queue) xs m) ∙ at) where
        ends : (a : Admission) (c : Bool) → slice_get xs m ≡ Some a → runs_on queue a ≡ c →
            runs_as t.item (cond c (with_life Ended a) a) ≡ false
        ends a true was is = and_right (eqb a.item t.item) false refl
        ends a false was is = not_so (runs_as t.item a) refl where
          not_so : (c : Bool) → runs_as t.item a ≡ c → c ≡ false
          not_so true runs_too =
              let item_is = eqb-true a.item t.item (first_so (eqb a.item t.item) (is_running a.life) runs_too) in
              let a_runs = second_so (eqb a.item t.item) (is_running a.life) runs_too in
              let here = st.admissions.sound.home m a was (open-running a.life a_runs) in
              let first_one = st.admissions.sound.home stands.place stands.admission stands.there
              (open-running stands.admission.life
              (second_so (eqb stands.admission.queue queue) (is_running stands.admission.life) stands.passes)) in
              let same_item : a.item ≡ stands.admission.item = item_is ∙ sym stands.item in
              let same_queue : a.queue ≡ stands.admission.queue =
              same_Some a.queue stands.admission.queue (sym here ∙ ap (last_queue xs) same_item ∙ first_one) in
              let on : stands.admission.queue ≡ queue =
              eqb-true stands.admission.queue queue
              (first_so (eqb stands.admission.queue queue) (is_running stands.admission.life) stands.passes) in
              absurd (false≢true (sym is
              ∙ and_from (eqb a.queue queue) (is_running a.life) (eq-eqb a.queue queue (same_queue ∙ on)) a_runs))
          not_so false runs_too = refl

        by : (u : Option Admission) → slice_get xs m ≡ u → option_map (end_one queue) u ≡ Some b → runs_as t.item b ≡ false
        by None was is = absurd (cc)
        by (Some a) was is = ap (runs_as t.item) (sym (same_Some (end_one queue a) b is)) ∙ ends a (runs_on queue a) was refl

      marks : (i : ℕ) → Same i t.item → t.item < length k.active.marks →
          active.marks_of o i ≡ record { cancelling = is_cancelling ys s.marks i; delayed = false; flushing = false }
      marks i (inl same) within =
          subst (λ j. active.marks_of o j ≡ record {
            cancelling = is_cancelling ys s.marks j;
            delayed = false;
            flushing = false;
          }) (sym same.1)
          (get_or-set_same k.active.marks t.item (active.marks_in 0) active.unmarked within
          ∙ ap (λ b. record { cancelling = b; delayed = false; flushing = false }) (sym (cancelling-none ys s.marks t.item over)))
      marks i (inr differ) within =
          get_or-set_other k.active.marks t.item i (active.marks_in 0) active.unmarked differ.1 ∙ st.admissions.marks i
          ∙ ap (λ b. record { cancelling = b; delayed = false; flushing = false })
          (sym (cancelling-end_other xs s.marks queue i apart)) where
            apart : (a : Admission) (m : ℕ) → slice_get xs m ≡ Some a → runs_on queue a ≡ true → a.item ≢ i
            apart a m at runs is =
                differ.1 (sym is ∙ sym (ap (λ (u : Ticket). u.item) (tickets-one 0 (runs_on queue) xs m a t one_run at runs)))
