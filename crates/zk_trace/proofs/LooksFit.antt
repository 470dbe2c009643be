-- The looks of logs are in form: by player and then by step, each of a known player at what is declared.
use Rattle.std.proofs.Common.{◌≡◌, ℕ, zero, suc, ◌+◌, ◌==◌, ◌<◌, Bool, true, false, cond, Option, Some, None, is_some, List, [], ◌∷◌, ◌++◌, length, map, All, refl, sym, ap, subst, ◌∙◌, arith}
use Rattle.std.specs.List.{AllByRecursion, cons_option, range_with_len, slice_get}
use Rattle.std.specs.Option.{option_map, option_map_or}
use Rattle.std.proofs.lemmas.Bool.Decides.{nat_tests}
use Rattle.std.proofs.lemmas.List.Elements.{All-head, All-tail, recursion_from_All}
use Rattle.std.proofs.lemmas.Bool.{eqb-true}
use Rattle.std.proofs.lemmas.Option.{same_Some, none-some, slice_get_within}
use Rattle.zk_base.specs.declared.seen.Seen.{Seen}
use Rattle.zk_blocks.specs.Blocks.{FitsGiven}
use Rattle.zk_blocks.specs.Each.{EachFits}
use Rattle.zk_blocks.specs.Rows.{AllFit}
use Rattle.zk_line.specs.declared.types.Decl.{Decl}
use Rattle.zk_line.specs.declared.types.Decl.TheVariants as decls_of
use Rattle.zk_line.specs.Objects.{is_item, is_signal}
use Rattle.zk_scenario.specs.Players.{players}
use Rattle.zk_worker.specs.declared.log.Log.{Log}
use Rattle.zk_worker.specs.declared.steps.Spot.{Spot}
use Rattle.zk_worker.specs.declared.steps.Spot.TheVariants as spots
use Rattle.zk_worker.specs.Families.{is_declared}
use Rattle.zk_worker.specs.Machines.{signal_start}
use Rattle.zk_trace.specs.declared.looks.ItemLook.{ItemLook}
use Rattle.zk_trace.specs.declared.looks.SignalLook.{SignalLook}
use Rattle.zk_trace.specs.Fields.{IsOf}
use Rattle.zk_trace.specs.Looked.{item_look_at, signal_look_at, looks_from, all_looks, item_looks_of, signal_looks_of}
use Rattle.zk_trace.specs.LookRead.{may_stand, item_step, FitsItemLook, can_be_seen, signal_step, FitsSignalLook}
use Rattle.zk_trace.specs.Sized.{IsSizedItemLook, IsSizedSignalLook}

-- what may stand at a step may stand at the next one, and at the first of the next player
next-step : (last : Option (ℕ × ℕ)) (player step : ℕ) → may_stand last (player, step) ≡ true → may_stand last (player, step + 1) ≡ true
next-step None player step stands = refl
next-step (Some last) player step stands = grind (arith, nat_tests)

next-player : (last : Option (ℕ × ℕ)) (player step : ℕ) → may_stand last (player, step) ≡ true → may_stand last (player + 1, 0) ≡ true
next-player None player step stands = refl
next-player (Some last) player step stands = grind (arith, nat_tests)

behind-itself : (player step : ℕ) → may_stand (Some (player, step)) (player, step + 1) ≡ true
behind-itself player step = grind (arith, nat_tests)

pub all-append : {A : Type 0} (P : A → Type 0) (xs ys : List A) → AllByRecursion P xs → AllByRecursion P ys → AllByRecursion P (xs ++ ys)
all-append P [] ys all more = more
all-append P (x ∷ xs) ys all more = (all.0, all-append P xs ys all.1 more)

-- where each is impossible there is none
no-element : {A : Type 0} (xs : List A) → AllByRecursion (λ x. ⊥) xs → xs ≡ []
no-element [] none = refl
no-element (x ∷ xs) none = absurd none.0

-- rows that fit behind one another, and hold something each
both-fit : {A : Type 0} (F : Option A → A → Type 0) (P : A → Type 0) (last : Option A) (xs : List A) → AllFit F last xs → AllByRecursion P xs → AllFit (λ last x. F last x × P x) last xs
both-fit F P last [] fit all = tt
both-fit F P last (x ∷ xs) fit all = ((fit.0, all.0), both-fit F P (Some x) xs fit.1 all.1)

module _ {L : Type 0} (look_at : ℕ → ℕ → Spot → Option L) (step_of : L → ℕ × ℕ) (own : (player step : ℕ) (spot : Spot) (l : L) → look_at player step spot ≡ Some l → ◌≡◌ {A = ℕ × ℕ} (step_of l) (player, step)) where
  -- a look may stand behind the one before
  abbrev Stands : Option L → L → Type 0
  Stands last l = may_stand (option_map step_of last) (step_of l) ≡ true

  player-rises : (player step : ℕ) (steps : List Spot) (last : Option L) (rest : List L) → may_stand (option_map step_of last) (player, step) ≡ true →
      ((last : Option L) → may_stand (option_map step_of last) (player + 1, 0) ≡ true → AllFit Stands last rest) → AllFit Stands last (looks_from look_at player step steps ++ rest)
  player-rises player step [] last rest stands more = more last (next-player (option_map step_of last) player step stands)
  player-rises player step (spot ∷ steps) last rest stands more =
      by (look_at player step spot) refl (λ last stands. player-rises player (step + 1) steps last rest stands more)
    where
      by : (o : Option L) → look_at player step spot ≡ o → ((last : Option L) → may_stand (option_map step_of last) (player, step + 1) ≡ true →
          AllFit Stands last (looks_from look_at player (step + 1) steps ++ rest)) → AllFit Stands last (cons_option o (looks_from look_at player (step + 1) steps) ++ rest)
      by None is further = further last (next-step (option_map step_of last) player step stands)
      by (Some l) is further =
          let here = own player step spot l is in (
            subst (λ (at : ℕ × ℕ). may_stand (option_map step_of last) at ≡ true) (sym here) stands,
            further (Some l) (subst (λ (at : ℕ × ℕ). may_stand (Some at) (player, step + 1) ≡ true) (sym here) (behind-itself player step)),
          )

  all-rise : (player : ℕ) (logs : List Log) (last : Option L) → may_stand (option_map step_of last) (player, 0) ≡ true → AllFit Stands last (all_looks look_at player logs)
  all-rise player [] last stands = tt
  all-rise player (log ∷ logs) last stands = player-rises player 0 log.steps last (all_looks look_at (player + 1) logs) stands (λ later. all-rise (player + 1) logs later)

  module _ (P : L → Type 0) where
    pub steps-each : (player step : ℕ) (steps : List Spot) → ((k : ℕ) (spot : Spot) (l : L) → slice_get steps k ≡ Some spot → look_at player (step + k) spot ≡ Some l → P l) →
        AllByRecursion P (looks_from look_at player step steps)
    steps-each player step [] each = tt
    steps-each player step (spot ∷ steps) each =
        by (look_at player step spot) refl (steps-each player (step + 1) steps (λ k s l there is. each (suc k) s l there
        (let same : step + suc k ≡ (step + 1) + k = omega arith in ap (λ (n : ℕ). look_at player n s) same ∙ is)))
      where
        by : (o : Option L) → look_at player step spot ≡ o → AllByRecursion P (looks_from look_at player (step + 1) steps) → AllByRecursion P (cons_option o (looks_from look_at player (step + 1) steps))
        by None is rest = rest
        by (Some l) is rest = (each zero spot l refl (let same : step + zero ≡ step = omega arith in ap (λ (n : ℕ). look_at player n spot) same ∙ is), rest)

    -- what holds of the look that each step is, if it is one, holds of all looks
    pub logs-each : (player : ℕ) (logs : List Log) → ((number : ℕ) (log : Log) (k : ℕ) (spot : Spot) (l : L) → slice_get logs number ≡ Some log → slice_get log.steps k ≡ Some spot →
        look_at (player + number) k spot ≡ Some l → P l) → AllByRecursion P (all_looks look_at player logs)
    logs-each player [] each = tt
    logs-each player (log ∷ logs) each =
        all-append P (looks_from look_at player 0 log.steps) (all_looks look_at (player + 1) logs)
        (steps-each player 0 log.steps (λ k spot l there is. each zero log k spot l refl there
        (let same : player + zero ≡ player = omega arith in let begin : 0 + k ≡ k = omega arith in
        ap (λ (n : ℕ). look_at n k spot) same ∙ ap (λ (n : ℕ). look_at player n spot) (sym begin) ∙ is)))
        (logs-each (player + 1) logs (λ number other k spot l at there is. each (suc number) other k spot l at there
        (let same : player + suc number ≡ (player + 1) + number = omega arith in ap (λ (n : ℕ). look_at n k spot) same ∙ is)))

-- Looks at items.

pub item-own : (player step : ℕ) (spot : Spot) (l : ItemLook) → item_look_at player step spot ≡ Some l → ◌≡◌ {A = ℕ × ℕ} (item_step l) (player, step)
item-own player step (spots.LookItem item flags at) l is =
    ap item_step (sym (same_Some (record { player = player; step = step; item = item; flags = flags; at = at }) l is))
item-own player step spot l is = absurd (none-some l is)

-- of a log, that its player is known, and that its looks at items are at such, and found flags
abbrev pub ItemLooksHold : List Decl → List Log → Type 0
ItemLooksHold decls logs = (number : ℕ) (log : Log) (k item flags at : ℕ) → slice_get logs number ≡ Some log → slice_get log.steps k ≡ Some (spots.LookItem item flags at) →
    (number < length (players decls)) × IsOf is_item decls item × (flags < 32)

-- that is of a look which it has
abbrev ItemHolds : List Decl → ItemLook → Type 0
ItemHolds decls l = (l.player < length (players decls)) × IsOf is_item decls l.item × (l.flags < 32)

item-each : (decls : List Decl) (logs : List Log) → ItemLooksHold decls logs → AllByRecursion (ItemHolds decls) (item_looks_of logs)
item-each decls logs holds = logs-each item_look_at item_step item-own (ItemHolds decls) 0 logs (λ number log k spot l at there is. by number log k spot l at there is) where
  by : (number : ℕ) (log : Log) (k : ℕ) (spot : Spot) (l : ItemLook) → slice_get logs number ≡ Some log → slice_get log.steps k ≡ Some spot → item_look_at (0 + number) k spot ≡ Some l → ItemHolds decls l
  by number log k (spots.LookItem item flags at) l there is told =
      let same : 0 + number ≡ number = omega arith in
      let look : ItemLook = record { player = 0 + number; step = k; item = item; flags = flags; at = at } in
      let found = holds number log k item flags at there is in
      subst (ItemHolds decls) (same_Some look l told) (omega (arith, found.0), found.1, found.2)
  by number log k spot l there is told = absurd (none-some l told)

item-assembled : (decls : List Decl) (last : Option ItemLook) (looks : List ItemLook) → AllFit (λ last l. (may_stand (option_map item_step last) (item_step l) ≡ true) × ItemHolds decls l) last looks →
    AllByRecursion IsSizedItemLook looks → AllFit (FitsItemLook decls) last looks
item-assembled decls last [] fit sized = tt
item-assembled decls last (l ∷ ls) fit sized = (
  (fit.0.0, record { player = fit.0.1.0; step = sized.0.step; item = fit.0.1.1; flags = fit.0.1.2; at = sized.0.at }),
  item-assembled decls (Some l) ls fit.1 sized.1,
)

-- they are in form
pub item-looks-fit : (decls : List Decl) (logs : List Log) → ItemLooksHold decls logs → All IsSizedItemLook (item_looks_of logs) → AllFit (FitsItemLook decls) None (item_looks_of logs)
item-looks-fit decls logs holds sized =
    item-assembled decls None (item_looks_of logs)
    (both-fit (Stands item_look_at item_step item-own) (ItemHolds decls) None (item_looks_of logs) (all-rise item_look_at item_step item-own 0 logs None refl) (item-each decls logs holds))
    (recursion_from_All IsSizedItemLook (item_looks_of logs) sized)

-- Looks at signals.

pub signal-own : (object player step : ℕ) (spot : Spot) (l : SignalLook) → signal_look_at object player step spot ≡ Some l → ◌≡◌ {A = ℕ × ℕ} (signal_step l) (player, step)
signal-own object player step (spots.LookSignal at seen) l is = by (at == object) is where
  by : (b : Bool) → cond b (Some (record { player = player; step = step; seen = seen })) None ≡ Some l → ◌≡◌ {A = ℕ × ℕ} (signal_step l) (player, step)
  by true is = ap signal_step (sym (same_Some (record { player = player; step = step; seen = seen }) l is))
  by false is = absurd (none-some l is)
signal-own object player step spot l is = absurd (none-some l is)

-- of a log, that its player is known, and that its looks at signals are at such, and found what can be
abbrev pub SignalLooksHold : List Decl → List Log → Type 0
SignalLooksHold decls logs = (number : ℕ) (log : Log) (k object : ℕ) (seen : Seen) → slice_get logs number ≡ Some log → slice_get log.steps k ≡ Some (spots.LookSignal object seen) →
    (number < length (players decls)) × (is_declared signal_start decls object ≡ true) × (can_be_seen seen ≡ true)

-- that is of a look at the signal of a number
abbrev SignalHolds : List Decl → ℕ → SignalLook → Type 0
SignalHolds decls object l = (l.player < length (players decls)) × (is_declared signal_start decls object ≡ true) × (can_be_seen l.seen ≡ true)

signal-each : (decls : List Decl) (logs : List Log) (object : ℕ) → SignalLooksHold decls logs → AllByRecursion (SignalHolds decls object) (all_looks (signal_look_at object) 0 logs)
signal-each decls logs object holds =
    logs-each (signal_look_at object) signal_step (signal-own object) (SignalHolds decls object) 0 logs (λ number log k spot l at there is. by number log k spot l at there is)
  where
    here : (number : ℕ) (log : Log) (k at : ℕ) (seen : Seen) (l : SignalLook) → slice_get logs number ≡ Some log → slice_get log.steps k ≡ Some (spots.LookSignal at seen) → (b : Bool) → (at == object) ≡ b →
        cond b (Some (record { player = 0 + number; step = k; seen = seen })) None ≡ Some l → SignalHolds decls object l
    here number log k at seen l there is true one told =
        let look : SignalLook = record { player = 0 + number; step = k; seen = seen } in
        let found = holds number log k at seen there is in
        let same : at ≡ object = eqb-true at object one in
        subst (SignalHolds decls object) (same_Some look l told) (omega (arith, found.0), subst (λ (o : ℕ). is_declared signal_start decls o ≡ true) same found.1, found.2)
    here number log k at seen l there is false one told = absurd (none-some l told)

    by : (number : ℕ) (log : Log) (k : ℕ) (spot : Spot) (l : SignalLook) → slice_get logs number ≡ Some log → slice_get log.steps k ≡ Some spot → signal_look_at object (0 + number) k spot ≡ Some l → SignalHolds decls object l
    by number log k (spots.LookSignal at seen) l there is told = here number log k at seen l there is (at == object) refl told
    by number log k spot l there is told = absurd (none-some l told)

signal-assembled : (decls : List Decl) (object : ℕ) (last : Option SignalLook) (looks : List SignalLook) →
    AllFit (λ last l. (may_stand (option_map signal_step last) (signal_step l) ≡ true) × SignalHolds decls object l) last looks → AllByRecursion IsSizedSignalLook looks → AllFit (FitsSignalLook decls) last looks
signal-assembled decls object last [] fit sized = tt
signal-assembled decls object last (l ∷ ls) fit sized = (
  (fit.0.0, record { player = fit.0.1.0; step = sized.0.step; seen = record { can_be = fit.0.1.2; result = sized.0.result; stamp = sized.0.stamp } }),
  signal-assembled decls object (Some l) ls fit.1 sized.1,
)

object-looks-fit : (decls : List Decl) (logs : List Log) (object : ℕ) → SignalLooksHold decls logs → All IsSizedSignalLook (all_looks (signal_look_at object) 0 logs) →
    AllFit (FitsSignalLook decls) None (all_looks (signal_look_at object) 0 logs)
object-looks-fit decls logs object holds sized =
    let looks = all_looks (signal_look_at object) 0 logs in
    signal-assembled decls object None looks
    (both-fit (Stands (signal_look_at object) signal_step (signal-own object)) (SignalHolds decls object) None looks
    (all-rise (signal_look_at object) signal_step (signal-own object) 0 logs None refl) (signal-each decls logs object holds))
    (recursion_from_All IsSizedSignalLook looks sized)

-- there are none at what is no signal
no-looks : (decls : List Decl) (logs : List Log) (object : ℕ) → SignalLooksHold decls logs → is_declared signal_start decls object ≡ false → all_looks (signal_look_at object) 0 logs ≡ []
no-looks decls logs object holds isnt =
    let looks = all_looks (signal_look_at object) 0 logs in
    no-element looks (none looks (signal-each decls logs object holds))
  where
    none : (ls : List SignalLook) → AllByRecursion (SignalHolds decls object) ls → AllByRecursion (λ l. ⊥) ls
    none [] all = tt
    none (l ∷ ls) all = (absurd (let is = all.0.1 in cc), none ls all.1)

not-declared : (d : Decl) → is_signal d ≡ false → is_some (signal_start d) ≡ false
not-declared (decls_of.Signal name raw) isnt = absurd (cc)
not-declared d isnt = refl

-- for each of some, by its place
each-range : {B : Type 0} (Fits : Decl → B → Type 0) (f : ℕ → B) (ds : List Decl) (from : ℕ) → ((k : ℕ) (d : Decl) → slice_get ds k ≡ Some d → Fits d (f (from + k))) →
    EachFits Fits ds (map f (range_with_len from (length ds)))
each-range Fits f [] from each = tt
each-range Fits f (d ∷ ds) from each = (
  let same : from + zero ≡ from = omega arith in subst (λ (n : ℕ). Fits d (f n)) same (each zero d refl),
  each-range Fits f ds (from + 1) (λ k x there. let same : from + suc k ≡ (from + 1) + k = omega arith in subst (λ (n : ℕ). Fits x (f n)) same (each (suc k) x there)),
)

-- of each signal they are in form
pub signal-looks-fit : (decls : List Decl) (logs : List Log) → SignalLooksHold decls logs → All (All IsSizedSignalLook) (signal_looks_of (length decls) logs) →
    EachFits (λ d. FitsGiven (is_signal d) [] (AllFit (FitsSignalLook decls) None)) decls (signal_looks_of (length decls) logs)
signal-looks-fit decls logs holds sized =
    each-range (λ d. FitsGiven (is_signal d) [] (AllFit (FitsSignalLook decls) None)) (λ object. all_looks (signal_look_at object) 0 logs) decls 0
    (λ k d there. at k d there (is_signal d) refl (sized-at 0 (length decls) k (below decls k d there) sized))
  where
    below : (ds : List Decl) (k : ℕ) (d : Decl) → slice_get ds k ≡ Some d → k < length ds
    below ds k d there = slice_get_within ds k d there

    sized-at : (from n k : ℕ) → k < n → All (All IsSizedSignalLook) (map (λ object. all_looks (signal_look_at object) 0 logs) (range_with_len from n)) →
        All IsSizedSignalLook (all_looks (signal_look_at (from + k)) 0 logs)
    sized-at from zero k few all = absurd (omega arith)
    sized-at from (suc n) zero few all =
        let P : List SignalLook → Type 0 = All IsSizedSignalLook in
        let same : from ≡ from + zero = omega arith in
        subst (λ (m : ℕ). P (all_looks (signal_look_at m) 0 logs)) same (All-head P (all_looks (signal_look_at from) 0 logs) (map (λ object. all_looks (signal_look_at object) 0 logs) (range_with_len (from + 1) n)) all)
    sized-at from (suc n) (suc k) few all =
        let P : List SignalLook → Type 0 = All IsSizedSignalLook in
        let same : (from + 1) + k ≡ from + suc k = omega arith in
        subst (λ (m : ℕ). P (all_looks (signal_look_at m) 0 logs)) same
        (sized-at (from + 1) n k (omega arith) (All-tail P (all_looks (signal_look_at from) 0 logs) (map (λ object. all_looks (signal_look_at object) 0 logs) (range_with_len (from + 1) n)) all))

    at : (k : ℕ) (d : Decl) → slice_get decls k ≡ Some d → (b : Bool) → is_signal d ≡ b → All IsSizedSignalLook (all_looks (signal_look_at (0 + k)) 0 logs) →
        FitsGiven b [] (AllFit (FitsSignalLook decls) None) (all_looks (signal_look_at (0 + k)) 0 logs)
    at k d there true is numbers = object-looks-fit decls logs (0 + k) holds numbers
    at k d there false isnt numbers =
        let same : 0 + k ≡ k = omega arith in
        no-looks decls logs (0 + k) holds
        (ap (is_declared signal_start decls) same ∙ ap (λ (o : Option Decl). option_map_or (λ decl. is_some (signal_start decl)) o false) there ∙ not-declared d isnt)
