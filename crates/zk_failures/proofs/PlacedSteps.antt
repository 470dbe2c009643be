-- The steps of each log are numbered, and each has its line; and each line is where the log of its player says.
use Rattle.std.proofs.Common.{◌≡◌, ◌⊎◌, ℕ, zero, suc, ◌+◌, ◌<◌, ◌==◌, Bool, true, false, Option, Some, None, List, [], ◌∷◌, length, refl, sym, ap, subst, ◌∙◌, inl, inr, arith}
use Rattle.std.specs.List.{AllByRecursion, filter, range_with_len, slice_get, cons_option}
use Rattle.std.specs.Option.{option_map, option_map_or}
use Rattle.std.proofs.lemmas.Bool.{cond-true, eq-eqb, eqb-true}
use Rattle.std.proofs.lemmas.List.{length-map}
use Rattle.std.proofs.lemmas.List.FromFn.{length-range_with_len, get_or-range_with_len}
use Rattle.std.proofs.lemmas.Option.{same_Some, none-some, slice_get-map, slice_get-get_or, slice_get_within, option_and_then_some}
use Rattle.zk_base.specs.declared.ids.Entry.{Entry}
use Rattle.zk_base.specs.declared.ids.Who.{Who}
use Rattle.zk_base.specs.Order.{by_key}
use Rattle.zk_blocks.specs.Blocks.{FitsGiven}
use Rattle.zk_blocks.specs.Rows.{AllFit}
use Rattle.zk_blocks.proofs.Each.{each_fits-length, each_fits_at}
use Rattle.zk_line.specs.declared.types.Decl.{Decl}
use Rattle.zk_line.specs.Objects.{is_sem, is_msgq, is_signal, is_chan, is_observer}
use Rattle.zk_line.proofs.Options.{one_part}
use Rattle.zk_scenario.specs.Content.{Content}
use Rattle.zk_scenario.specs.Players.{players, prio_of, who_of}
use Rattle.zk_worker.specs.declared.log.Log.{Log}
use Rattle.zk_worker.specs.declared.steps.Spot.{Spot}
use Rattle.zk_worker.specs.declared.steps.Spot.TheVariants as spots
use Rattle.zk_worker.specs.Families.{entry_at}
use Rattle.zk_worker.specs.Shown.{shown_at}
use Rattle.zk_worker.specs.Single as single
use Rattle.zk_worker.proofs.Lists.{there-mapped}
use Rattle.zk_trace.specs.declared.looks.ItemLook.{ItemLook}
use Rattle.zk_trace.specs.declared.looks.SignalLook.{SignalLook}
use Rattle.zk_trace.specs.declared.stood.Stood.{Stood}
use Rattle.zk_trace.specs.declared.trace.Trace.{Trace}
use Rattle.zk_trace.specs.EntryKinds.{IsWork, IsClock, IsTable, IsSem, IsMsgq, IsSignal, IsChan, IsObs}
use Rattle.zk_trace.specs.Form.{AreOfKind, IsLog, player_numbers, IsInForm}
use Rattle.zk_trace.specs.Looked.{item_look_at, signal_look_at, looks_from, all_looks, signal_looks_of}
use Rattle.zk_trace.specs.LookRead.{FitsItemLook, FitsSignalLook}
use Rattle.zk_trace.specs.Place.{IsPlaced}
use Rattle.zk_trace.specs.Shown.{trace_shown}
use Rattle.zk_trace.specs.Stood.{is_of, item_look_stood, signal_look_stood, steps_of, stood}
use Rattle.zk_trace.specs.Text.{looks_at}
use Rattle.zk_trace.proofs.LinesOnce.{line_at}
use Rattle.zk_failures.specs.PlaceFailure.{IsNumbered, step_numbers}
use Rattle.zk_failures.proofs.PlacedLists.{IsIn, in-first, in-rest, in-front, in-back, in-map, each-in, each-of, there-is, from-filter, in-filter, from-by_key, in-by_key}
use Rattle.zk_failures.proofs.PlacedNumbers.{numbered, numbered-at, keys-ascend}
use Rattle.zk_failures.proofs.PlacedRows.{row-of-shown, row-of-item, row-of-look, stood-each}

-- the step of a line, and where it stands
abbrev pub step_in : Stood → ℕ
step_in l = l.step

abbrev pub spot_of : Stood → Spot
spot_of l = l.spot

-- a line by its parts
same-line : (l : Stood) (player step : ℕ) (spot : Spot) → l.player ≡ player → l.step ≡ step → l.spot ≡ spot → l ≡ line_at player step spot
same-line l player step spot of at where_is =
    ap (λ (n : ℕ). line_at n l.step l.spot) of ∙ ap (λ (n : ℕ). line_at player n l.spot) at ∙ ap (λ (x : Spot). line_at player step x) where_is

-- a number of a range is its place
range-at : (many k : ℕ) → k < many → slice_get (range_with_len 0 many) k ≡ Some k
range-at many k below =
    let long = length-range_with_len 0 many in
    let same : 0 + k ≡ k = omega arith in
    slice_get-get_or (range_with_len 0 many) k 0 (omega arith) ∙ ap (λ (n : ℕ). Some n) (get_or-range_with_len 0 many k 0 below ∙ same)

-- What is in form.

-- one that is known is one of the players
known-player : (decls : List Decl) (player : ℕ) (who : Who) → who_of decls player ≡ Some who → player < length (players decls)
known-player decls player who is =
    option_and_then_some (λ object. option_map (λ d. record { number = player; prio = prio_of d }) (slice_get decls object)) (slice_get (players decls) player) who is
    (λ object at made. slice_get_within (players decls) player object at)

-- the list of an object is empty, or fits
pub kind-at : {X : Type 0} (of_kind : Decl → Bool) (Fits : List X → Type 0) (decls : List Decl) (lists : List (List X)) → AreOfKind of_kind Fits decls lists →
    (object : ℕ) (l : List X) → slice_get lists object ≡ Some l → (l ≡ []) ⊎ Fits l
kind-at {X} of_kind Fits decls lists fits object l there =
    let many = each_fits-length (λ d. FitsGiven (of_kind d) [] Fits) decls lists fits in
    let within = slice_get_within lists object l there in
    let d = there-is decls object (omega arith) in
    by (of_kind d.0) (each_fits_at (λ d. FitsGiven (of_kind d) [] Fits) decls lists fits object d.0 l d.1 there)
  where
    by : (b : Bool) → FitsGiven b [] Fits l → (l ≡ []) ⊎ Fits l
    by true fits = inr fits
    by false none = inl none

-- the entry of an object fits
pub entry-fits : {O R : Type 0} (of_kind : Decl → Bool) (P : Entry O R → Type 0) (decls : List Decl) (hs : List (List (Entry O R))) → AreOfKind of_kind (AllByRecursion P) decls hs →
    (object place : ℕ) (e : Entry O R) → entry_at hs object place ≡ Some e → P e
entry-fits {O} {R} of_kind P decls hs fits object place e there =
    option_and_then_some (λ h. slice_get h place) (slice_get hs object) e there (λ h at here. by h here (kind-at of_kind (AllByRecursion P) decls hs fits object h at))
  where
    by : (h : List (Entry O R)) → slice_get h place ≡ Some e → ((h ≡ []) ⊎ AllByRecursion P h) → P e
    by h here (inl none) = absurd (none-some e (ap (λ (l : List (Entry O R)). slice_get l place) (sym none) ∙ here))
    by h here (inr all) = each-in P h e all (place, here)

-- rows that fit behind one another fit each
pub fits-each : {X : Type 0} (F : Option X → X → Type 0) (P : X → Type 0) → ((last : Option X) (x : X) → F last x → P x) → (last : Option X) (xs : List X) → AllFit F last xs → AllByRecursion P xs
fits-each F P follows last [] fit = tt
fits-each F P follows last (x ∷ xs) fit = (follows last x fit.0, fits-each F P follows (Some x) xs fit.1)

-- the looks at an object are its list, if there is one
pub looks-there : {L : Type 0} (looks : List (List L)) (object : ℕ) (l : List L) → slice_get looks object ≡ Some l → looks_at looks object ≡ l
looks-there {L} looks object l there = ap (λ (o : Option (List L)). option_map_or (λ x. x) o []) there

-- Looks of logs.

module _ {L : Type 0} (look_at : ℕ → ℕ → Spot → Option L) where
  in-option : (o : Option L) (rest : List L) (l : L) → IsIn rest l → IsIn (cons_option o rest) l
  in-option None rest l is = is
  in-option (Some x) rest l is = in-rest x l rest is

  in-steps : (number from : ℕ) (steps : List Spot) (k step : ℕ) (spot : Spot) (l : L) → from + k ≡ step → slice_get steps k ≡ Some spot → look_at number step spot ≡ Some l →
      IsIn (looks_from look_at number from steps) l
  in-steps number from [] k step spot l at there is = absurd (none-some spot there)
  in-steps number from (x ∷ xs) zero step spot l at there is =
      let rest = looks_from look_at number (from + 1) xs in
      let same : from ≡ step = omega arith in
      let first : look_at number from x ≡ Some l = ap (λ (n : ℕ). look_at number n x) same ∙ ap (look_at number step) (same_Some x spot there) ∙ is in
      subst (λ (o : Option L). IsIn (cons_option o rest) l) (sym first) (in-first l rest)
  in-steps number from (x ∷ xs) (suc k) step spot l at there is =
      in-option (look_at number from x) (looks_from look_at number (from + 1) xs) l (in-steps number (from + 1) xs k step spot l (omega arith) there is)

  -- the look that a step of a log is is among all looks
  pub in-logs : (from : ℕ) (logs : List Log) (o number : ℕ) (log : Log) (k : ℕ) (spot : Spot) (l : L) → from + o ≡ number → slice_get logs o ≡ Some log → slice_get log.steps k ≡ Some spot →
      look_at number k spot ≡ Some l → IsIn (all_looks look_at from logs) l
  in-logs from [] o number log k spot l at there here is = absurd (none-some log there)
  in-logs from (x ∷ logs) zero number log k spot l at there here is =
      let same : number ≡ from = omega arith in
      in-front (looks_from look_at from 0 x.steps) (all_looks look_at (from + 1) logs) l
      (in-steps from 0 x.steps k k spot l (omega arith) (ap (λ (g : Log). slice_get g.steps k) (same_Some x log there) ∙ here) (ap (λ (n : ℕ). look_at n k spot) (sym same) ∙ is))
  in-logs from (x ∷ logs) (suc o) number log k spot l at there here is =
      in-back (looks_from look_at from 0 x.steps) (all_looks look_at (from + 1) logs) l (in-logs (from + 1) logs o number log k spot l (omega arith) there here is)

-- the looks of logs at the signal of an object
pub looks-of-logs : (many : ℕ) (logs : List Log) (object : ℕ) → object < many → looks_at (signal_looks_of many logs) object ≡ all_looks (signal_look_at object) 0 logs
looks-of-logs many logs object below =
    let f : ℕ → List SignalLook = λ object. all_looks (signal_look_at object) 0 logs in
    looks-there (signal_looks_of many logs) object (f object) (slice_get-map f (range_with_len 0 many) object ∙ ap (option_map f) (range-at many object below))

-- a spot that is a look at a signal is at one of so many objects
abbrev SignalWithin : ℕ → Spot → Type 0
SignalWithin many (spots.LookSignal object seen) = object < many
SignalWithin many spot = Unit {0}

-- the lines of a player, and these by step
abbrev pub own : Trace → ℕ → List Stood
own t player = filter (is_of player) (stood t)

abbrev pub sorted : Trace → ℕ → List Stood
sorted t player = by_key step_in (own t player)

-- the steps of each player are 0, 1, 2 and on
abbrev pub AreNumbered : Trace → Type 0
AreNumbered t = (player : ℕ) → player < length t.logs → IsNumbered (step_numbers (stood t) player)

module _ (s : Content) (t : Trace) (form : IsInForm s t) where
  -- there is a log for each player
  pub logs-long : length t.logs ≡ length (players s.decls)
  logs-long = sym (each_fits-length (IsLog s.decls (stood t)) (player_numbers s.decls) t.logs form.logs) ∙ length-range_with_len 0 (length (players s.decls))

  -- its steps are where the player's lines stand
  pub log-steps : (player : ℕ) (log : Log) → slice_get t.logs player ≡ Some log → log.steps ≡ steps_of (stood t) player
  log-steps player log there =
      let within = slice_get_within t.logs player log there in
      let number = range-at (length (players s.decls)) player (omega (arith, logs-long)) in
      (each_fits_at (IsLog s.decls (stood t)) (player_numbers s.decls) t.logs form.logs player player log number there).steps

  -- what is shown is of a player
  shown-known : (spot : Spot) (number step : ℕ) → shown_at (trace_shown t) spot ≡ Some (number, step) → number < length t.logs
  shown-known spot number step is = subst (λ (n : ℕ). number < n) (sym logs-long) (by spot is) where
    known : {O R : Type 0} (e : Entry O R) → who_of s.decls e.who.number ≡ Some e.who → ◌≡◌ {A = ℕ × ℕ} (single.step_of e) (number, step) → number < length (players s.decls)
    known e is same = subst (λ (n : ℕ). n < length (players s.decls)) (ap (λ (b : ℕ × ℕ). b.0) same) (known-player s.decls e.who.number e.who is)

    by : (spot : Spot) → shown_at (trace_shown t) spot ≡ Some (number, step) → number < length (players s.decls)
    by (spots.Work p) is =
        let e = one_part single.step_of (slice_get t.work p) (number, step) is in known e.0 (each-in (IsWork s.decls) t.work e.0 form.work (p, e.1)).known e.2
    by (spots.Clock p) is =
        let e = one_part single.step_of (slice_get t.clock p) (number, step) is in known e.0 (each-in (IsClock s.decls) t.clock e.0 form.clock (p, e.1)).known e.2
    by (spots.Table p) is =
        let e = one_part single.step_of (slice_get t.table p) (number, step) is in known e.0 (each-in (IsTable s.decls) t.table e.0 form.table (p, e.1)).known e.2
    by (spots.Sem o p) is =
        let e = one_part single.step_of (entry_at t.sems o p) (number, step) is in known e.0 (entry-fits is_sem (IsSem s.decls) s.decls t.sems form.sems o p e.0 e.1).known e.2
    by (spots.Msgq o p) is =
        let e = one_part single.step_of (entry_at t.msgqs o p) (number, step) is in known e.0 (entry-fits is_msgq (IsMsgq s.decls) s.decls t.msgqs form.msgqs o p e.0 e.1).known e.2
    by (spots.Signal o p) is =
        let e = one_part single.step_of (entry_at t.signals o p) (number, step) is in known e.0 (entry-fits is_signal (IsSignal s.decls) s.decls t.signals form.signals o p e.0 e.1).known e.2
    by (spots.Chan o p) is =
        let e = one_part single.step_of (entry_at t.chans o p) (number, step) is in known e.0 (entry-fits is_chan (IsChan s.decls) s.decls t.chans form.chans o p e.0 e.1).known e.2
    by (spots.Obs o p) is =
        let e = one_part single.step_of (entry_at t.observers o p) (number, step) is in known e.0 (entry-fits is_observer (IsObs s.decls) s.decls t.observers form.observers o p e.0 e.1).known e.2
    by (spots.LookItem item flags at) is = absurd (none-some (number, step) is)
    by (spots.LookSignal object seen) is = absurd (none-some (number, step) is)

  -- the looks at each signal are of players
  pub look-players : (object : ℕ) → AllByRecursion (λ l. l.player < length t.logs) (looks_at t.looks.signals object)
  look-players object = by (slice_get t.looks.signals object) refl where
    each : (ls : List SignalLook) → ((ls ≡ []) ⊎ AllFit (FitsSignalLook s.decls) None ls) → AllByRecursion (λ l. l.player < length t.logs) ls
    each ls (inl none) = subst (AllByRecursion (λ (l : SignalLook). l.player < length t.logs)) (sym none) tt
    each ls (inr fit) = fits-each (FitsSignalLook s.decls) (λ l. l.player < length t.logs) (λ last l fits. subst (λ (n : ℕ). l.player < n) (sym logs-long) fits.1.player) None ls fit

    by : (o : Option (List SignalLook)) → slice_get t.looks.signals object ≡ o → AllByRecursion (λ l. l.player < length t.logs) (looks_at t.looks.signals object)
    by None is = subst (λ (o : Option (List SignalLook)). AllByRecursion (λ (l : SignalLook). l.player < length t.logs) (option_map_or (λ x. x) o [])) (sym is) tt
    by (Some ls) is =
        subst (AllByRecursion (λ (l : SignalLook). l.player < length t.logs)) (sym (looks-there t.looks.signals object ls is))
        (each ls (kind-at is_signal (AllFit (FitsSignalLook s.decls) None) s.decls t.looks.signals form.signal_looks object ls is))

  -- each line is of a player
  pub players-known : AllByRecursion (λ l. l.player < length t.logs) (stood t)
  players-known =
      stood-each t (λ l. l.player < length t.logs) shown-known
      (fits-each (FitsItemLook s.decls) (λ (l : ItemLook). l.player < length t.logs) (λ last l fits. subst (λ (n : ℕ). l.player < n) (sym logs-long) fits.1.player) None t.looks.items form.item_looks)
      (λ object within. look-players object)

  -- each look at a signal is at one
  looks-within : AllByRecursion (λ l. SignalWithin (length t.signals) l.spot) (stood t)
  looks-within =
      stood-each t (λ l. SignalWithin (length t.signals) l.spot) shown
      (each-of (λ (l : ItemLook). SignalWithin (length t.signals) (item_look_stood l).spot) (λ l. tt) t.looks.items)
      (λ object within. each-of (λ (l : SignalLook). SignalWithin (length t.signals) (signal_look_stood object l).spot) (λ l. within) (looks_at t.looks.signals object))
    where
      shown : (spot : Spot) (number step : ℕ) → shown_at (trace_shown t) spot ≡ Some (number, step) → SignalWithin (length t.signals) spot
      shown (spots.LookSignal object seen) number step is = absurd (none-some (number, step) is)
      shown spot number step is = tt

  -- a line of the sorted ones is one of the player
  pub from-sorted : (player : ℕ) (line : Stood) → IsIn (sorted t player) line → IsIn (stood t) line × (line.player ≡ player)
  from-sorted player line is =
      let found = from-filter (is_of player) (stood t) line (from-by_key step_in (own t player) line is) in
      (found.0, eqb-true line.player player found.1)

  pub in-sorted : (line : Stood) → IsIn (stood t) line → IsIn (sorted t line.player) line
  in-sorted line is = in-by_key step_in (own t line.player) line (in-filter (is_of line.player) (stood t) line is (eq-eqb line.player line.player refl))

  -- a step of a log is where one of the sorted lines stands
  pub step-line : (player : ℕ) (log : Log) (k : ℕ) (spot : Spot) → slice_get t.logs player ≡ Some log → slice_get log.steps k ≡ Some spot →
      (line : Stood) × (slice_get (sorted t player) k ≡ Some line) × (line.spot ≡ spot)
  step-line player log k spot there here =
      there-mapped spot_of (sorted t player) k spot (ap (λ (l : List Spot). slice_get l k) (sym (log-steps player log there)) ∙ here)

  -- as many
  pub steps-long : (player : ℕ) (log : Log) → slice_get t.logs player ≡ Some log → length log.steps ≡ length (step_numbers (stood t) player)
  steps-long player log there = ap length (log-steps player log there) ∙ length-map (sorted t player) spot_of ∙ sym (length-map (sorted t player) step_in)

  module _ (numbers : AreNumbered t) where
    number-at : (player k : ℕ) (line : Stood) → player < length t.logs → slice_get (sorted t player) k ≡ Some line → line.step ≡ k
    number-at player k line within at =
        numbered-at (step_numbers (stood t) player) k line.step (numbers player within) (slice_get-map step_in (sorted t player) k ∙ ap (option_map step_in) at)

    -- then each step has its line
    pub row-by-number : (player : ℕ) (log : Log) (k : ℕ) (spot : Spot) → slice_get t.logs player ≡ Some log → slice_get log.steps k ≡ Some spot → IsIn (stood t) (line_at player k spot)
    row-by-number player log k spot there here =
        let found = step-line player log k spot there here in
        let line = found.0 in
        let mine = from-sorted player line (k, found.1) in
        let step = number-at player k line (slice_get_within t.logs player log there) found.1 in
        subst (λ (l : Stood). IsIn (stood t) l) (same-line line player k spot mine.1 step found.2) mine.0

    -- and each line is where the log of its player says
    pub step-by-number : (line : Stood) → IsIn (stood t) line → (log : Log) × (slice_get t.logs line.player ≡ Some log) × (slice_get log.steps line.step ≡ Some line.spot)
    step-by-number line is =
        let player = line.player in
        let within : player < length t.logs = each-in (λ l. l.player < length t.logs) (stood t) line players-known is in
        let log = there-is t.logs player within in
        let place = in-sorted line is in
        let step = number-at player place.0 line within place.1 in (
          log.0,
          log.1,
          ap (λ (l : List Spot). slice_get l line.step) (log-steps player log.0 log.1)
              ∙ ap (slice_get (steps_of (stood t) player)) step ∙ slice_get-map spot_of (sorted t player) place.0 ∙ ap (option_map spot_of) place.1,
        )

  module _ (placed : IsPlaced s t) where
    -- a step of a log has its line
    row-placed : (player : ℕ) (log : Log) (k : ℕ) (spot : Spot) → slice_get t.logs player ≡ Some log → slice_get log.steps k ≡ Some spot → IsIn (stood t) (line_at player k spot)
    row-placed player log k (spots.LookItem item flags at) there here =
        let look : ItemLook = record { player = player; step = k; item = item; flags = flags; at = at } in
        row-of-item t look
        (subst (λ (ls : List ItemLook). IsIn ls look) (sym placed.item_looks) (in-logs item_look_at 0 t.logs player player log k (spots.LookItem item flags at) look (omega arith) there here refl))
    row-placed player log k (spots.LookSignal object seen) there here =
        let spot : Spot = spots.LookSignal object seen in
        let look : SignalLook = record { player = player; step = k; seen = seen } in
        let found = step-line player log k spot there here in
        let within : object < length t.signals =
        subst (λ (x : Spot). SignalWithin (length t.signals) x) found.2
        (each-in (λ l. SignalWithin (length t.signals) l.spot) (stood t) found.0 looks-within (from-sorted player found.0 (k, found.1)).0) in
        let told : signal_look_at object player k spot ≡ Some look = cond-true (object == object) (Some look) None (eq-eqb object object refl) in
        let same : looks_at t.looks.signals object ≡ all_looks (signal_look_at object) 0 t.logs =
        ap (λ (ls : List (List SignalLook)). looks_at ls object) placed.signal_looks ∙ looks-of-logs (length t.signals) t.logs object within in
        row-of-look t object look within
        (subst (λ (ls : List SignalLook). IsIn ls look) (sym same) (in-logs (signal_look_at object) 0 t.logs player player log k spot look (omega arith) there here told))
    row-placed player log k spot there here = row-of-shown t spot player k (placed.stands player k spot log there here refl)

    -- so the steps are numbered
    pub are-numbered : AreNumbered t
    are-numbered player within =
        let log = there-is t.logs player within in
        let long = steps-long player log.0 log.1 in
        numbered (step_numbers (stood t) player) 0 (keys-ascend step_in (own t player))
        (λ k above below.
        let spot = there-is log.0.steps k (omega arith) in
        in-map step_in (sorted t player) (line_at player k spot.0) (in-sorted (line_at player k spot.0) (row-placed player log.0 k spot.0 log.1 spot.1)))

    -- the line of a step of a log
    pub row-of-step : (player : ℕ) (log : Log) (k : ℕ) (spot : Spot) → slice_get t.logs player ≡ Some log → slice_get log.steps k ≡ Some spot →
        (place : ℕ) × (line : Stood) × (slice_get (stood t) place ≡ Some line) × (line.player ≡ player) × (line.step ≡ k) × (line.spot ≡ spot)
    row-of-step player log k spot there here =
        let row = row-placed player log k spot there here in
        (row.0, line_at player k spot, row.1, refl, refl, refl)

    -- and the step of a line
    pub step-of-row : (place : ℕ) (line : Stood) → slice_get (stood t) place ≡ Some line →
        (log : Log) × (slice_get t.logs line.player ≡ Some log) × (slice_get log.steps line.step ≡ Some line.spot)
    step-of-row place line there = step-by-number are-numbered line (place, there)
