-- The callers of a new kernel.
use Rattle.std.proofs.Common.{◌≡◌, ℕ, zero, suc, ◌+◌, ◌<◌, ◌≤◌, ◌^◌, Bool, false, true, ◌||◌, eqb, Option, Some, None, List, [], ◌∷◌, ◌++◌, length, map, option_map, get_or, All, reverse, append_assoc, refl, sym, ap, subst, ◌∙◌, arith}
use Rattle.std.specs.Prelude.{slice_get}
use Rattle.std.proofs.lemmas.Bool.{ne_eqb}
use Rattle.std.proofs.lemmas.List.{length-map, map-append, reverse-append}
use Rattle.std.proofs.lemmas.List.Elements.{All-nil, All-cons, All-get_or}
use Rattle.std.proofs.lemmas.Option.{slice_get-map, slice_get-get_or, slice_get_within, get_or_from_slice_get, same_Some}
use Rattle.zk_base.specs.Legal.{IsLegal}
use Rattle.zk_base.specs.declared.ids.Who.{Who}
use Rattle.zk_base.specs.declared.ids.Entry.{Entry}
use Rattle.zk_base.specs.RecordedView.{RecordedView}
use Rattle.zk_line.specs.declared.types.Decl.{Decl}
use Rattle.zk_line.specs.declared.types.Decl.TheVariants as decls_of
use Rattle.zk_line.specs.Objects.{places, is_item}
use Rattle.zk_model_wait.specs.Clock.{clock_machine}
use Rattle.zk_model_wait.specs.Sem.{sem_machine}
use Rattle.zk_model_wait.specs.Msgq.{msgq_machine}
use Rattle.zk_model_wait.specs.Signal.{Signal, new_signal}
use Rattle.zk_model_wait.specs.declared.signal.SignalOp.{SignalOp}
use Rattle.zk_model_wait.specs.declared.signal.SignalReply.{SignalReply}
use Rattle.zk_model_bus.specs.Channel.{chan_machine}
use Rattle.zk_model_bus.specs.Observer.{obs_machine}
use Rattle.zk_model_bus.specs.Table.{table_machine}
use Rattle.zk_model_work.specs.Machine.{work_machine}
use Rattle.zk_bus.specs.Seen.{chan_start, chan_history}
use Rattle.zk_msgq.specs.Seen.{msgq_start, msgq_history}
use Rattle.zk_objects.specs.Seen.{objects_start}
use Rattle.zk_poll.specs.Seen.{signal_start}
use Rattle.zk_signal.specs.declared.signal.SharedSignal.{SharedSignal}
use Rattle.zk_sem.specs.Seen.{sem_start, sem_history}
use Rattle.zk_subq.specs.Seen.{obs_start, obs_history}
use Rattle.zk_time.specs.ClockSeen.{clock_start}
use Rattle.zk_work.specs.Seen.{work_start}
use Rattle.zk_work.specs.Words.{most_items}
use Rattle.zk_scenario.specs.Content.{Content}
use Rattle.zk_scenario.specs.Players.{players}
use Rattle.zk_scenario.specs.Valid.{IsValid}
use Rattle.zk_scenario.proofs.Valid.{length-players}
use Rattle.zk_turn.specs.declared.cell.Cell.{Cell}
use Rattle.zk_turn.specs.Passes.{given_to}
use Rattle.zk_turn.specs.Players.{has, Differ}
use Rattle.zk_worker.specs.declared.steps.Step.{Step}
use Rattle.zk_worker.specs.declared.steps.Step.TheVariants as steps
use Rattle.zk_worker.specs.Families.{no_entries}
use Rattle.zk_worker.specs.Machines.{machines_of, Machines}
use Rattle.zk_worker.specs.Machines as first
use Rattle.zk_worker.specs.Places.{PlayerPlace}
use Rattle.zk_worker.specs.Protocol.{start_at}
use Rattle.zk_worker.specs.Shown.{Shown, nothing_shown}
use Rattle.zk_services.specs.declared.plain.Plain.{Plain}
use Rattle.zk_services.specs.Alone.{plain_machines, plain_shown}
use Rattle.zk_services.specs.Objects.{history_of, histories_of, starts_of}
use Rattle.zk_services.specs.Starts.{starts}
use Rattle.zk_services.proofs.Firsts.{few-items}
use Rattle.zk_services.proofs.Starts.{length-starts, numbers-starts, starts-there}
use Rattle.zk_kernel.specs.declared.caller.Caller.{Caller}
use Rattle.zk_cells.specs.declared.cells.Cells.{Cells}
use Rattle.zk_cells.specs.declared.dealing.Undealt.{Undealt}
use Rattle.zk_cells.specs.declared.passes.Passes.{Passes}
use Rattle.zk_kernel.specs.Callers.{IsAtDesk, IsCaller, number_of, place_of, shown_by, counts_by}
use Rattle.zk_cells.specs.declared.notes.Note.{Note}
use Rattle.zk_cells.specs.Dealt.{IsBegun, IsUnused, AreUnused, AreUndealt, IsDealt, AreNew, HasNew}
use Rattle.zk_cells.specs.Desks.{IsServed, cells_machines, desk_shown, desk_counts, capped}
use Rattle.std.specs.declared.snapshot.Snapshot.{Snapshot}
use Rattle.zk_cells.specs.Joined.{whos}
use Rattle.zk_cells.specs.Kernels.{Shared, AreWhole, IsMadeFor}
use Rattle.zk_cells.specs.Notes.{Write, writes_at}
use Rattle.zk_kernel.specs.Opened.{IsUnplayed, nothing_seen, AreNewCallers}
use Rattle.zk_cells.specs.Rows.{starts_in, holds_in}
use Rattle.zk_visit.specs.Seats.{holds_at}
use Rattle.zk_cells.specs.Signals.{signals_by, looks_in, IsShownIn, HaveOwn, AreNoted}
use Rattle.zk_cells.proofs.NewShares.{all-sig-left-taken, own-new, shown-none, looks-none, idle-none}
use Rattle.zk_pool.specs.Counts.{tally}
use Rattle.zk_kernel.proofs.Numbers.{numbered}
use Rattle.zk_kernel.proofs.SoundLooks.{player-seen}
use Rattle.zk_cells.proofs.NewPasses.{left-taken, all-left-taken, at-new, seats-new, seen-new, idle-new, all-seen-new, all-idle-new}

-- where nothing is shown of services nothing was done at them
unused : {S E : Type 0} (history : S → List E) (x : Option S) → history_of history x ≡ [] → IsUnused history x
unused history None is = tt
unused history (Some service) is = is

abbrev behind : {A : Type 0} → List A → List A
behind [] = []
behind (x ∷ xs) = xs

unused-row : {S E : Type 0} (history : S → List E) (objects : List (Option S)) (decls : List Decl) →
    histories_of history objects ≡ map (λ d. []) decls → All (IsUnused history) objects
unused-row history [] decls none = All-nil (IsUnused history)
unused-row {E} history (x ∷ objects) [] none =
    let long = ap (λ (l : List (List E)). length l) none in absurd (omega arith)
unused-row {E} history (x ∷ objects) (d ∷ decls) none =
    All-cons (IsUnused history) x objects (unused history x (ap (λ (l : List (List E)). get_or l 0 []) none))
    (unused-row history objects decls (ap (behind {A = List E}) none))

-- a signal that is declared starts before its first write
declared-new : (d : Decl) (m : Signal) → first.signal_start d ≡ Some m → m ≡ new_signal
declared-new (decls_of.Signal name raw) m is = sym (same_Some new_signal m is)
declared-new d m is = absurd (cc)

begun : (x : Option (RecordedView Signal SignalOp SignalReply)) (d : Decl) → option_map signal_start x ≡ first.signal_start d → IsBegun x
begun None d is = tt
begun (Some signal) d is = declared-new d (signal_start signal) (sym is)

begun-row : (objects : List (Option (RecordedView Signal SignalOp SignalReply))) (decls : List Decl) → starts_of signal_start objects ≡ map first.signal_start decls → All IsBegun objects
begun-row [] decls same = All-nil IsBegun
begun-row (x ∷ objects) [] same = let long = ap (λ (l : List (Option Signal)). length l) same in absurd (omega arith)
begun-row (x ∷ objects) (d ∷ decls) same =
    All-cons IsBegun x objects (begun x d (ap (λ (l : List (Option Signal)). get_or l 0 None) same))
    (begun-row objects decls (ap (behind {A = Option Signal}) same))

pub unused-all : (p : Plain) (s : Content) → plain_machines p ≡ machines_of s → plain_shown p ≡ nothing_shown s.decls → AreUnused p
unused-all p s machines none = let decls = s.decls in record {
  work = ap (λ (x : Shown). x.work) none;
  clock = ap (λ (x : Shown). x.clock) none;
  table = ap (λ (x : Shown). x.table) none;
  sems = unused-row sem_history p.sems.items decls (ap (λ (x : Shown). x.sems) none);
  msgqs = unused-row msgq_history p.msgqs.items decls (ap (λ (x : Shown). x.msgqs) none);
  signals = begun-row p.signals.items decls (ap (λ (m : Machines). m.signals.starts) machines);
  chans = unused-row chan_history p.chans.items decls (ap (λ (x : Shown). x.chans) none);
  observers = unused-row obs_history p.observers.items decls (ap (λ (x : Shown). x.observers) none);
}

-- players whose numbers are their places, from a first number on
abbrev Numbered : ℕ → List Who → Type 0
Numbered k ws = (p : ℕ) (w : Who) → slice_get ws p ≡ Some w → w.number ≡ k + p

numbered-tail : (k : ℕ) (w : Who) (ws : List Who) → Numbered k (w ∷ ws) → Numbered (k + 1) ws
numbered-tail k w ws all p x is = let one = all (suc p) x is in omega arith

none-below : (ws : List Who) (k n : ℕ) → Numbered k ws → n < k → has ws n ≡ false
none-below [] k n all below = refl
none-below (w ∷ ws) k n all below =
    let lowest = all zero w refl in
    neither (eqb w.number n) (has ws n) (ne_eqb w.number n (λ same. omega arith))
    (none-below ws (k + 1) n (numbered-tail k w ws all) (omega arith))
  where
    neither : (b c : Bool) → b ≡ false → c ≡ false → (b || c) ≡ false
    neither true c one other = absurd (cc)
    neither false c one other = other

numbered-differ : (ws : List Who) (k : ℕ) → Numbered k ws → Differ ws
numbered-differ [] k all = tt
numbered-differ (w ∷ ws) k all =
    let lowest = all zero w refl in
    let tail = numbered-tail k w ws all in
    (none-below ws (k + 1) w.number tail (omega arith), numbered-differ ws (k + 1) tail)

-- what stands in a mapped list comes from what stands at its place
mapped-there : {A B : Type 0} (f : A → B) (xs : List A) (p : ℕ) (y : B) → slice_get (map f xs) p ≡ Some y →
    (x : A) × (slice_get xs p ≡ Some x) × (f x ≡ y)
mapped-there f [] p y is = absurd (cc)
mapped-there f (x ∷ xs) zero y is = (x, refl, same_Some (f x) y is)
mapped-there f (x ∷ xs) (suc p) y is = mapped-there f xs p y is

-- the players of a scenario differ
pub starts-differ : (s : Content) (n : ℕ) → n ≤ length (players s.decls) → Differ (whos (starts s n))
starts-differ s n within = numbered-differ (whos (starts s n)) 0 numbered
  where
    numbered : Numbered 0 (whos (starts s n))
    numbered p w is =
        let there = mapped-there (λ (a : PlayerPlace). a.who) (starts s n) p w is in
        let is_p : w.number ≡ p = ap (λ (x : Who). x.number) (sym there.2) ∙ numbers-starts s n within p there.0 there.1 in
        omega (arith, is_p)

-- and they are few
pub starts-few : (s : Content) (n : ℕ) → IsValid s → n ≤ length (players s.decls) → length (whos (starts s n)) ≤ 256
starts-few s n valid within =
    let long : length (whos (starts s n)) ≡ length (starts s n) = length-map (starts s n) (λ (a : PlayerPlace). a.who) in
    let all = length-starts s n within in
    let known = length-players s.decls in
    let most = valid.players in
    omega arith

-- those for whom a scenario's cells are made differ, are few, and are all its players
abbrev pub ArePlayers : Content → List PlayerPlace → List Who → Type 0
ArePlayers s at ws = (at ≡ starts s (length (players s.decls))) × (ws ≡ whos at)

all-whos : (s : Content) (at : List PlayerPlace) (ws : List Who) → ArePlayers s at ws →
    ws ≡ whos (starts s (length (players s.decls)))
all-whos s at ws are = are.1 ∙ ap whos are.0

pub whos-differ : (s : Content) (at : List PlayerPlace) (ws : List Who) → ArePlayers s at ws → Differ ws
whos-differ s at ws are =
    subst Differ (sym (all-whos s at ws are)) (starts-differ s (length (players s.decls)) (omega arith))

pub whos-few : (s : Content) (at : List PlayerPlace) (ws : List Who) → IsValid s → ArePlayers s at ws → length ws ≤ 256
whos-few s at ws valid are =
    subst (λ (l : List Who). length l ≤ 256) (sym (all-whos s at ws are))
    (starts-few s (length (players s.decls)) valid (omega arith))

pub whos-whole : (s : Content) (at : List PlayerPlace) (ws : List Who) → ArePlayers s at ws →
    length ws ≡ length (players s.decls)
whos-whole s at ws are =
    ap (λ (l : List Who). length l) (all-whos s at ws are)
    ∙ length-map (starts s (length (players s.decls))) (λ (a : PlayerPlace). a.who)
    ∙ length-starts s (length (players s.decls)) (omega arith)

-- what is left once the last player's passes were taken out
pub undealt-taken : (c : Cells) (ws : List Who) (w : Who) (old : Undealt) (p : Passes) (new : Undealt) →
    AreUndealt c (ws ++ w ∷ []) old → IsDealt c.most old p new → AreUndealt c ws new
undealt-taken c ws w old p new left taken = record {
  work = (left-taken (IsLegal work_machine) work_start ws w (Some c.work) old.work p.work new.work left.work taken.work).0;
  clock = (left-taken (IsLegal clock_machine) clock_start ws w (Some c.clock) old.clock p.clock new.clock left.clock taken.clock).0;
  table = (left-taken (IsLegal table_machine) objects_start ws w (Some c.table) old.table p.table new.table left.table taken.table).0;
  sems = (all-left-taken (IsLegal sem_machine) sem_start ws w c.sems.items old.sems.items p.sems.items new.sems.items left.sems taken.sems).0;
  msgqs = (all-left-taken (IsLegal msgq_machine) msgq_start ws w c.msgqs.items old.msgqs.items p.msgqs.items new.msgqs.items left.msgqs taken.msgqs).0;
  signals = (all-sig-left-taken ws w c.signals.items old.signals.items p.signals.items new.signals.items left.signals taken.signals).0;
  chans = (all-left-taken (IsLegal chan_machine) chan_start ws w c.chans.items old.chans.items p.chans.items new.chans.items left.chans taken.chans).0;
  observers = (all-left-taken (IsLegal obs_machine) obs_start ws w c.observers.items old.observers.items p.observers.items new.observers.items left.observers taken.observers).0;
}

-- they are new ones of this player
pub new-taken : (c : Cells) (ws : List Who) (w : Who) (old : Undealt) (p : Passes) (new : Undealt) →
    AreUndealt c (ws ++ w ∷ []) old → IsDealt c.most old p new → AreNew c w p
new-taken c ws w old p new left taken = record {
  work = (left-taken (IsLegal work_machine) work_start ws w (Some c.work) old.work p.work new.work left.work taken.work).1;
  clock = (left-taken (IsLegal clock_machine) clock_start ws w (Some c.clock) old.clock p.clock new.clock left.clock taken.clock).1;
  table = (left-taken (IsLegal table_machine) objects_start ws w (Some c.table) old.table p.table new.table left.table taken.table).1;
  sems = (all-left-taken (IsLegal sem_machine) sem_start ws w c.sems.items old.sems.items p.sems.items new.sems.items left.sems taken.sems).1;
  msgqs = (all-left-taken (IsLegal msgq_machine) msgq_start ws w c.msgqs.items old.msgqs.items p.msgqs.items new.msgqs.items left.msgqs taken.msgqs).1;
  signals = (all-sig-left-taken ws w c.signals.items old.signals.items p.signals.items new.signals.items left.signals taken.signals).1;
  chans = (all-left-taken (IsLegal chan_machine) chan_start ws w c.chans.items old.chans.items p.chans.items new.chans.items left.chans taken.chans).1;
  observers = (all-left-taken (IsLegal obs_machine) obs_start ws w c.observers.items old.observers.items p.observers.items new.observers.items left.observers taken.observers).1;
  looked = taken.looked;
  notes = taken.notes;
  capacity = taken.capacity;
}

-- one caller more, before those of the players behind its player
pub one-dealt : (k : Shared) (home : Snapshot Shared) (left all : List PlayerPlace) (at : PlayerPlace) (old : Undealt) (p : Passes) (new : Undealt)
    (callers more : List Caller) → home.value ≡ k → all ≡ left ++ at ∷ [] → IsDealt k.cells.most old p new →
    more ≡ callers ++ record { player = at; passes = Some p; stopped = false; kernel = home } ∷ [] →
    AreUndealt k.cells (whos all) old × All (IsUnplayed k) (reverse callers) →
    AreUndealt k.cells (whos left) new × All (IsUnplayed k) (reverse more)
one-dealt k home left all at old p new callers more of split dealt added was =
    let x : Caller = record { player = at; passes = Some p; stopped = false; kernel = home } in
    let last : whos all ≡ whos left ++ at.who ∷ [] =
    ap whos split ∙ map-append (λ (a : PlayerPlace). a.who) left (at ∷ []) in
    let before = subst (λ (ws : List Who). AreUndealt k.cells ws old) last was.0 in
    let turned : reverse more ≡ x ∷ reverse callers = ap reverse added ∙ reverse-append callers (x ∷ []) in (
      undealt-taken k.cells (whos left) at.who old p new before dealt,
      subst (All (IsUnplayed k)) (sym turned) (All-cons (IsUnplayed k) x (reverse callers)
          (record { kernel = of; passes = new-taken k.cells (whos left) at.who old p new before dealt; going = refl }) was.1),
    )

-- the players that are left, and those of the callers
pub one-placed : (left all made : List PlayerPlace) (x : Caller) (callers more : List Caller) →
    all ≡ left ++ place_of x ∷ [] → more ≡ callers ++ x ∷ [] → all ++ map place_of (reverse callers) ≡ made →
    left ++ map place_of (reverse more) ≡ made
one-placed left all made x callers more split added was =
    let turned : reverse more ≡ x ∷ reverse callers = ap reverse added ∙ reverse-append callers (x ∷ []) in
    ap (λ (l : List Caller). left ++ map place_of l) turned
    ∙ sym (append_assoc left (place_of x ∷ []) (map place_of (reverse callers)))
    ∙ ap (λ (l : List PlayerPlace). l ++ map place_of (reverse callers)) (sym split) ∙ was

-- nothing is noted
none-noted : (w : Who) (notes : List Note) (hs : List (List Write)) → notes ≡ [] → AreNoted w notes hs
none-noted w notes hs none = subst (λ (ns : List Note). AreNoted w ns hs) (sym none) (
    let W : Note → Type 0 = λ n. n.entry.who ≡ w in
    let S : Note → Type 0 = IsShownIn hs in
    record { own = All-nil W; rise = tt; shown = All-nil S })

-- each item of a valid scenario has a word
few-words : (c : Cells) (s : Content) → IsValid s → cells_machines c ≡ machines_of s →
    (work_start (given_to c.work)).items ≤ most_items
few-words c s valid machines =
    let same : (work_start (given_to c.work)).items ≡ length (places is_item s.decls) =
    ap (λ (m : Machines). m.work_start.items) machines in
    omega (arith, same, few-items s valid)

-- new passes serve their player
served-new : (c : Cells) (w : Who) (p : Passes) → w.number < 2 ^ 32 → (work_start (given_to c.work)).items ≤ most_items →
    AreNew c w p → IsServed c p w
served-new c w p few words new = record {
  work = at-new (IsLegal work_machine) work_start w c.work p.looked p.work new.work;
  clock = at-new (IsLegal clock_machine) clock_start w c.clock 0 p.clock new.clock;
  table = at-new (IsLegal table_machine) objects_start w c.table 0 p.table new.table;
  sems = seats-new (IsLegal sem_machine) sem_start w c.sems.items p.sems.items new.sems;
  msgqs = seats-new (IsLegal msgq_machine) msgq_start w c.msgqs.items p.msgqs.items new.msgqs;
  signals = subst (λ (ns : List Note). HaveOwn w (writes_at ns) c.signals.items p.signals.items) (sym new.notes) (own-new w c.signals.items p.signals.items new.signals);
  chans = seats-new (IsLegal chan_machine) chan_start w c.chans.items p.chans.items new.chans;
  observers = seats-new (IsLegal obs_machine) obs_start w c.observers.items p.observers.items new.observers;
  noted = none-noted w p.notes.items (signals_by (writes_at p.notes.items) p.signals.items) new.notes;
  capacity = new.capacity;
  number = few;
  items = words;
}

-- lists that are as long have as many empty histories
none-each : {A B E : Type 0} (xs : List A) (ys : List B) → length xs ≡ length ys →
    ◌≡◌ {A = List (List E)} (map (λ x. []) xs) (map (λ y. []) ys)
none-each [] [] long = refl
none-each [] (y ∷ ys) long = absurd (omega arith)
none-each (x ∷ xs) [] long = absurd (omega arith)
none-each {E} (x ∷ xs) (y ∷ ys) long = ap (λ (l : List (List E)). [] ∷ l) (none-each xs ys (omega arith))

-- cells that start as declared have as many empty histories as there are declarations
none-shown : {S O R T : Type 0} (start : S → T) (cs : List (Option (Cell S O R T))) (f : Decl → Option T)
    (decls : List Decl) → starts_in start cs ≡ map f decls →
    ◌≡◌ {A = List (List (Entry O R))} (map (λ c. []) cs) (no_entries decls)
none-shown {S} {O} {R} {T} start cs f decls same =
    let long = ap (λ (l : List (Option T)). length l) same in
    none-each cs decls (omega (arith, length-map cs (option_map (λ (c : Cell S O R T). start (given_to c))), length-map decls f))

-- so it is of signals
none-seen : {E : Type 0} (ss : List (Option SharedSignal)) (decls : List Decl) → map (option_map (λ (s : SharedSignal). new_signal)) ss ≡ map first.signal_start decls →
    ◌≡◌ {A = List (List E)} (map (λ s. []) ss) (map (λ d. []) decls)
none-seen {E} ss decls same =
    let long = ap (λ (l : List (Option Signal)). length l) same in
    none-each ss decls (omega (arith, length-map ss (option_map (λ (s : SharedSignal). new_signal)), length-map decls first.signal_start))

-- they have seen nothing
shown-new : (c : Cells) (s : Content) (w : Who) (p : Passes) → cells_machines c ≡ machines_of s → AreNew c w p →
    desk_shown p ≡ nothing_seen s.decls
shown-new c s w p machines new = λ i. record {
  work = seen-new (IsLegal work_machine) work_start w c.work p.work new.work i;
  clock = seen-new (IsLegal clock_machine) clock_start w c.clock p.clock new.clock i;
  table = seen-new (IsLegal table_machine) objects_start w c.table p.table new.table i;
  sems = (all-seen-new (IsLegal sem_machine) sem_start w c.sems.items p.sems.items new.sems
      ∙ none-shown sem_start c.sems.items first.sem_start s.decls (ap (λ (m : Machines). m.sems.starts) machines)) i;
  msgqs = (all-seen-new (IsLegal msgq_machine) msgq_start w c.msgqs.items p.msgqs.items new.msgqs
      ∙ none-shown msgq_start c.msgqs.items first.msgq_start s.decls (ap (λ (m : Machines). m.msgqs.starts) machines)) i;
  signals = (ap (λ (ns : List Note). signals_by (writes_at ns) p.signals.items) new.notes
      ∙ shown-none w c.signals.items p.signals.items new.signals
      ∙ none-seen c.signals.items s.decls (ap (λ (m : Machines). m.signals.starts) machines)) i;
  chans = (all-seen-new (IsLegal chan_machine) chan_start w c.chans.items p.chans.items new.chans
      ∙ none-shown chan_start c.chans.items first.chan_start s.decls (ap (λ (m : Machines). m.chans.starts) machines)) i;
  observers = (all-seen-new (IsLegal obs_machine) obs_start w c.observers.items p.observers.items new.observers
      ∙ none-shown obs_start c.observers.items first.observer_start s.decls (ap (λ (m : Machines). m.observers.starts) machines)) i;
  looks = Some ((looks-none w c.signals.items p.signals.items new.signals
      ∙ none-seen c.signals.items s.decls (ap (λ (m : Machines). m.signals.starts) machines)) i);
  looked = Some (new.looked i);
}

none-capped : (n : ℕ) → n ≡ 0 → capped n ≡ 0
none-capped n none = ap capped none ∙ omega arith

-- and had no turn
idle-all : (c : Cells) (w : Who) (p : Passes) (step : Step) → AreNew c w p → desk_counts p step ≡ 0
idle-all c w p (steps.Work op) new = none-capped (holds_at p.work) (idle-new (IsLegal work_machine) work_start w c.work p.work new.work)
idle-all c w p (steps.Clock op) new = none-capped (holds_at p.clock) (idle-new (IsLegal clock_machine) clock_start w c.clock p.clock new.clock)
idle-all c w p (steps.Table op) new = none-capped (holds_at p.table) (idle-new (IsLegal table_machine) objects_start w c.table p.table new.table)
idle-all c w p (steps.Sem object op) new =
    none-capped (holds_in p.sems.items object) (all-idle-new (IsLegal sem_machine) sem_start w c.sems.items p.sems.items object new.sems)
idle-all c w p (steps.Msgq object op) new =
    none-capped (holds_in p.msgqs.items object) (all-idle-new (IsLegal msgq_machine) msgq_start w c.msgqs.items p.msgqs.items object new.msgqs)
idle-all c w p (steps.Signal object op) new = none-capped (looks_in p.signals.items object) (idle-none w c.signals.items p.signals.items object new.signals)
idle-all c w p (steps.Chan object op) new =
    none-capped (holds_in p.chans.items object) (all-idle-new (IsLegal chan_machine) chan_start w c.chans.items p.chans.items object new.chans)
idle-all c w p (steps.Obs object op) new =
    none-capped (holds_in p.observers.items object) (all-idle-new (IsLegal obs_machine) obs_start w c.observers.items p.observers.items object new.observers)
idle-all c w p (steps.LookItem object) new = none-capped (holds_at p.work) (idle-new (IsLegal work_machine) work_start w c.work p.work new.work)
idle-all c w p (steps.LookSignal object must) new = none-capped (looks_in p.signals.items object) (idle-none w c.signals.items p.signals.items object new.signals)

-- a player that starts, with new passes, may play
at-desk : (c : Cells) (s : Content) (number : ℕ) (at : PlayerPlace) (o : Option Passes) → IsValid s →
    cells_machines c ≡ machines_of s → at.who.number < 2 ^ 32 → start_at s number ≡ Some at → HasNew c at.who o → IsAtDesk c s at o
at-desk c s number at None valid machines few is new = absurd new
at-desk c s number at (Some p) valid machines few is new = record {
  served = served-new c at.who p few (few-words c s valid machines) new;
  sound = player-seen s number (desk_shown p) at (shown-new c s at.who p machines new) is;
}

shown-by : (c : Cells) (s : Content) (w : Who) (o : Option Passes) → cells_machines c ≡ machines_of s → HasNew c w o →
    shown_by o ≡ nothing_seen s.decls
shown-by c s w None machines new = absurd new
shown-by c s w (Some p) machines new = shown-new c s w p machines new

counts-by : (c : Cells) (w : Who) (o : Option Passes) (step : Step) → HasNew c w o → counts_by o step ≡ 0
counts-by c w None step new = absurd new
counts-by c w (Some p) step new = idle-all c w p step new

-- cells that were made of a scenario's first services, for all its players
pub made-for : (s : Content) (at : List PlayerPlace) (ws : List Who) (c : Cells) (p : Plain) → IsValid s → ArePlayers s at ws →
    cells_machines c ≡ plain_machines p → plain_machines p ≡ machines_of s → AreWhole c (length ws) →
    0 < length (players s.decls) → IsMadeFor c s
made-for s at ws c p valid are opened same whole some = record {
  valid = valid;
  machines = opened ∙ same;
  whole = subst (AreWhole c) (whos-whole s at ws are) whole;
  some = some;
}

-- callers whose players start, with new passes, are all the new callers of their kernel
pub callers-new : (k : Shared) (n : ℕ) (callers : List Caller) → IsValid k.scenario → cells_machines k.cells ≡ machines_of k.scenario →
    n ≡ length (players k.scenario.decls) → map place_of callers ≡ starts k.scenario n →
    All (IsUnplayed k) callers → AreNewCallers k callers
callers-new k n callers valid machines many items unplayed = record {
  all = record {
    own = λ p d within. own p (get_or callers p d) (slice_get-get_or callers p d within);
    all =
        (let long = ap (λ (l : List PlayerPlace). length l) items in
        omega (arith, length-map callers place_of, length-starts k.scenario n (omega arith)));
    once = λ m. ap (tally m) (numbered number_of callers 0 (λ p c is. numbers-starts k.scenario n few-starts p (place_of c) (there p c is) ∙ omega arith));
  };
  new = λ p c is. record {
    stands = start p c is;
    seen = shown-by k.cells k.scenario (place_of c).who c.passes machines (dealt p c is).passes;
    idle = λ step. counts-by k.cells (place_of c).who c.passes step (dealt p c is).passes;
    going = (dealt p c is).going;
  };
} where
  few-starts : n ≤ length (players k.scenario.decls)
  few-starts = omega arith

  there : (p : ℕ) (c : Caller) → slice_get callers p ≡ Some c → slice_get (starts k.scenario n) p ≡ Some (place_of c)
  there p c is = ap (λ (l : List PlayerPlace). slice_get l p) (sym items) ∙ slice_get-map place_of callers p
      ∙ ap (option_map place_of) is

  start : (p : ℕ) (c : Caller) → slice_get callers p ≡ Some c → start_at k.scenario p ≡ Some (place_of c)
  start p c is = starts-there k.scenario n (omega arith) p (place_of c) (there p c is)

  dealt : (p : ℕ) (c : Caller) → slice_get callers p ≡ Some c → IsUnplayed k c
  dealt p c is = subst (IsUnplayed k) (get_or_from_slice_get callers p c c is)
      (All-get_or (IsUnplayed k) callers p c (slice_get_within callers p c is) unplayed)

  -- numbers are below the number of players, and they are few
  few : (p : ℕ) (c : Caller) → slice_get callers p ≡ Some c → (place_of c).who.number < 2 ^ 32
  few p c is =
      let number = numbers-starts k.scenario n (omega arith) p (place_of c) (there p c is) in
      let within = slice_get_within callers p c is in
      let long = ap (λ (l : List PlayerPlace). length l) items in
      let as_many = length-map callers place_of in
      let all = length-starts k.scenario n (omega arith) in
      let known = length-players k.scenario.decls in
      let most = valid.players in
      omega arith

  own : (p : ℕ) (c : Caller) → slice_get callers p ≡ Some c → IsCaller k c
  own p c is = ((dealt p c is).kernel, at-desk k.cells k.scenario p (place_of c) c.passes valid machines (few p c is) (start p c is) (dealt p c is).passes)
