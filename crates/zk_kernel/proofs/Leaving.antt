-- From callers that were put together to what a kernel leaves.
use Rattle.std.proofs.Common.{◌≡◌, ℕ, suc, ◌≤◌, ◌*◌, Bool, true, false, ◌||◌, Some, None, Option, List, [], ◌∷◌, length, map, get_or, All, Contains, refl, sym, ap, subst, ◌∙◌, arith, eqb}
use Rattle.std.specs.List.{slice_get}
use Rattle.std.specs.Option.{option_map, option_and_then}
use Rattle.std.proofs.lemmas.Bool.{eqb-true}
use Rattle.std.proofs.lemmas.List.{length-map}
use Rattle.std.proofs.lemmas.List.Elements.{All-map, Contains-get_or}
use Rattle.std.proofs.lemmas.Option.{same_Some, slice_get_within, slice_get-get_or}
use Rattle.zk_base.proofs.Lists.{All-at}
use Rattle.zk_base.specs.declared.ids.Who.{Who}
use Rattle.zk_base.specs.declared.ids.Entry.{Entry}
use Rattle.zk_scenario.specs.Content.{Content}
use Rattle.zk_scenario.specs.Players as scenario
use Rattle.zk_scenario.specs.Valid.{IsValid}
use Rattle.zk_turn.specs.Players.{is_by, has, room_of_a_pass}
use Rattle.zk_worker.proofs.Lists.{there-mapped}
use Rattle.zk_worker.specs.declared.steps.Spot.{Spot}
use Rattle.zk_worker.specs.declared.steps.Spot.TheVariants as spots
use Rattle.zk_worker.specs.Families.{entry_at}
use Rattle.zk_worker.specs.Machines.{machines_of}
use Rattle.zk_worker.specs.Places.{PlayerPlace}
use Rattle.zk_worker.specs.Shown.{Shown, shown_at}
use Rattle.zk_worker.specs.Single.{step_of}
use Rattle.zk_world.specs.Legal.{IsLegalShown}
use Rattle.zk_world.specs.Sound.{AreKnown, IsSound}
use Rattle.zk_world.specs.SoundPlayer.{IsSoundPlayer}
use Rattle.zk_world.specs.Within.{AreWithin}
use Rattle.zk_world.specs.World.{world}
use Rattle.zk_world.proofs.Joining.{sound-of-players}
use Rattle.zk_kernel.specs.declared.caller.Caller.{Caller}
use Rattle.zk_base.specs.declared.seen.Seen.{Seen}
use Rattle.zk_poll.specs.Seen.{signal_history}
use Rattle.zk_scenario.proofs.Valid.{length-players}
use Rattle.zk_services.specs.Objects.{histories_of}
use Rattle.zk_cells.specs.declared.cells.Cells.{Cells}
use Rattle.zk_cells.specs.declared.notes.Note.{Note}
use Rattle.zk_cells.specs.declared.passes.Passes.{Passes}
use Rattle.zk_kernel.specs.Callers.{IsAtDesk, IsCaller, place_of, shown_by, shown_to}
use Rattle.zk_cells.specs.Desks.{desk_shown}
use Rattle.zk_cells.specs.Lasting.{Closes}
use Rattle.zk_cells.specs.Notes.{Write, entries_of, writes_at}
use Rattle.zk_cells.specs.Kernels.{Shared, AreWhole, IsMadeFor}
use Rattle.zk_cells.specs.Closed.{AreBy, AllBy, AreInStep, ArePlayed, ended}
use Rattle.zk_cells.specs.Joined.{whos, numbers_of, left_at, HaveShared, AreFor}
use Rattle.zk_kernel.specs.Gathered.{players_of, all_noted, all_found, IsAmong, AreGathered, AreInOrder}
use Rattle.zk_kernel.proofs.Ended.{all-in-step, noted-from, note-by, caller-at}
use Rattle.zk_cells.proofs.Lasting.{closes-sound}
use Rattle.zk_kernel.proofs.LeftBehind.{closes-caller}
use Rattle.zk_cells.proofs.PlayedSignals.{Played}

-- one of the players has this number
has-there : (players : List PlayerPlace) (n : ℕ) → has (whos players) n ≡ true → (p : ℕ) × (at : PlayerPlace) × (slice_get players p ≡ Some at) × (at.who.number ≡ n)
has-there [] n is = absurd (cc)
has-there (at ∷ players) n is = by (eqb at.who.number n) refl is (has-there players n)
  where
    by : (b : Bool) → eqb at.who.number n ≡ b → (b || has (whos players) n) ≡ true →
        (has (whos players) n ≡ true → (p : ℕ) × (a : PlayerPlace) × (slice_get players p ≡ Some a) × (a.who.number ≡ n)) →
        (p : ℕ) × (a : PlayerPlace) × (slice_get (at ∷ players) p ≡ Some a) × (a.who.number ≡ n)
    by true here either later = (0, at, refl, eqb-true at.who.number n here)
    by false here either later = let there = later either in (suc there.0, there.1, there.2, there.3)

module _ {O R : Type 0} (ws : List Who) where
  -- whose step an entry is, where all entries are of these players
  entry-by : (o : Option (Entry O R)) (number step : ℕ) → ((e : Entry O R) → o ≡ Some e → is_by ws e ≡ true) → option_map step_of o ≡ Some (number, step) → has ws number ≡ true
  entry-by None number step each is = absurd (cc)
  entry-by (Some e) number step each is =
      let same : e.who.number ≡ number = ap (λ (x : ℕ × ℕ). x.0) (same_Some (step_of e) (number, step) is) in
      subst (λ (n : ℕ). has ws n ≡ true) same (each e refl)

  one-by : (h : List (Entry O R)) (place number step : ℕ) → AreBy ws h → option_map step_of (slice_get h place) ≡ Some (number, step) → has ws number ≡ true
  one-by h place number step all is = entry-by (slice_get h place) number step (λ e there. All-at (λ (e : Entry O R). is_by ws e ≡ true) h place e all there) is

  many-by : (hs : List (List (Entry O R))) (object place number step : ℕ) → All (AreBy ws) hs → option_map step_of (entry_at hs object place) ≡ Some (number, step) → has ws number ≡ true
  many-by hs object place number step all is = by (slice_get hs object) refl is
    where
      by : (o : Option (List (Entry O R))) → slice_get hs object ≡ o → option_map step_of (option_and_then (λ h. slice_get h place) o) ≡ Some (number, step) → has ws number ≡ true
      by None there is = absurd (cc)
      by (Some h) there is = one-by h place number step (All-at (AreBy ws) hs object h all there) is

-- each entry that is shown is of one of these players
by-one : (ws : List Who) (shown : Shown) (spot : Spot) (number step : ℕ) → AllBy ws shown → shown_at shown spot ≡ Some (number, step) → has ws number ≡ true
by-one ws shown (spots.Work place) number step all is = one-by ws shown.work place number step all.work is
by-one ws shown (spots.Clock place) number step all is = one-by ws shown.clock place number step all.clock is
by-one ws shown (spots.Table place) number step all is = one-by ws shown.table place number step all.table is
by-one ws shown (spots.Sem object place) number step all is = many-by ws shown.sems object place number step all.sems is
by-one ws shown (spots.Msgq object place) number step all is = many-by ws shown.msgqs object place number step all.msgqs is
by-one ws shown (spots.Signal object place) number step all is = many-by ws shown.signals object place number step all.signals is
by-one ws shown (spots.Chan object place) number step all is = many-by ws shown.chans object place number step all.chans is
by-one ws shown (spots.Obs object place) number step all is = many-by ws shown.observers object place number step all.observers is
by-one ws shown (spots.LookItem object flags at) number step all is = absurd (cc)
by-one ws shown (spots.LookSignal object seen) number step all is = absurd (cc)

-- what a kernel leaves is sound
pub left-sound : (s : Content) (shown : Shown) (players : List PlayerPlace) → IsValid s → length players ≡ length (scenario.players s.decls) →
    ((p : ℕ) (at : PlayerPlace) → slice_get players p ≡ Some at → at.who.number ≡ p) → All (IsSoundPlayer s shown) players →
    IsLegalShown (machines_of s) shown → AllBy (whos players) shown → shown.looks ≡ None → shown.looked ≡ None → AreWithin shown (room_of_a_pass * length players) →
    IsSound s (world shown players)
left-sound s shown players valid many numbers kept legal by whole unlooked short =
    sound-of-players s shown players valid many numbers kept legal known whole unlooked short
  where
    known : AreKnown (world shown players)
    known spot number step is =
        let there = has-there players number (by-one (whos players) shown spot number step by is) in
        let same : there.0 ≡ number = sym (numbers there.0 there.1 there.2) ∙ there.3 in
        omega (arith, same, slice_get_within players there.0 there.1 there.2)

-- there are as many players as the scenario has
pub many-players : (k : Shared) (callers : List Caller) (players : List PlayerPlace) → AreInOrder k callers → players ≡ map place_of callers → length players ≡ length (scenario.players k.scenario.decls)
many-players k callers players all is = ap (λ (l : List PlayerPlace). length l) is ∙ length-map callers place_of ∙ all.all

-- and each stands at its number
pub numbered : (k : Shared) (callers : List Caller) (players : List PlayerPlace) → AreInOrder k callers → players ≡ map place_of callers →
    (p : ℕ) (at : PlayerPlace) → slice_get players p ≡ Some at → at.who.number ≡ p
numbered k callers players all is p at there =
    let found = there-mapped place_of callers p at (sym (ap (λ (l : List PlayerPlace). slice_get l p) is) ∙ there) in
    sym (ap (λ (a : PlayerPlace). a.who.number) found.2) ∙ all.numbers p found.0 found.1

-- who the callers' players are
long-players : (callers : List Caller) → length (players_of callers) ≡ length callers
long-players callers = length-map (map place_of callers) (λ (a : PlayerPlace). a.who) ∙ length-map callers place_of

-- the passes of all callers stand for all players at the cells
pub for-all : (k : Shared) (cs : Cells) (callers : List Caller) (all : Passes) → cs ≡ k.cells → AreGathered k.cells callers all → AreFor cs (players_of callers) all
for-all k cs callers all same gathered = subst (λ (c : Cells). AreFor c (players_of callers) all) (sym same) gathered.stand

-- and at the signals
pub shared-all : (k : Shared) (cs : Cells) (callers : List Caller) (all : Passes) → cs ≡ k.cells → AreGathered k.cells callers all →
    HaveShared (numbers_of (players_of callers)) (left_at all.notes.items) (all_found callers) cs.signals.items all.signals.items
shared-all k cs callers all same gathered =
    let numbers = numbers_of (players_of callers) in
    let shared = subst (λ (ns : List Note). HaveShared numbers (left_at ns) (all_found callers) k.cells.signals.items all.signals.items) (sym gathered.notes) gathered.signals in
    subst (λ (c : Cells). HaveShared numbers (left_at all.notes.items) (all_found callers) c.signals.items all.signals.items) (sym same) shared

-- those are all players that the services were made for
pub whole-all : (k : Shared) (cs : Cells) (callers : List Caller) → cs ≡ k.cells → IsMadeFor k.cells k.scenario → AreInOrder k callers → AreWhole cs (length (players_of callers))
whole-all k cs callers same made callers-all =
    let long : length (players_of callers) ≡ length (scenario.players k.scenario.decls) = long-players callers ∙ callers-all.all in
    subst (λ (c : Cells). AreWhole c (length (players_of callers))) (sym same) (subst (AreWhole k.cells) (sym long) made.whole)

-- and there are few of them
pub stands-all : (k : Shared) (cs : Cells) (callers : List Caller) (all : Passes) → cs ≡ k.cells → IsMadeFor k.cells k.scenario → AreInOrder k callers → AreGathered k.cells callers all →
    (ws : List Who) × (found : ℕ → List Seen) × AreFor cs ws all × HaveShared (numbers_of ws) (left_at all.notes.items) found cs.signals.items all.signals.items × AreWhole cs (length ws) × (length ws ≤ 256)
stands-all k cs callers all same made callers-all gathered =
    let ws = players_of callers in
    let long : length ws ≡ length (scenario.players k.scenario.decls) = long-players callers ∙ callers-all.all in
    let known = length-players k.scenario.decls in
    let most = made.valid.players in
    let few : length ws ≤ 256 = omega arith in
    (ws, all_found callers, for-all k cs callers all same gathered, shared-all k cs callers all same gathered, whole-all k cs callers same made callers-all, few)

-- their notes are in step
pub steps-all : (k : Shared) (callers : List Caller) (all : Passes) → AreInOrder k callers → AreGathered k.cells callers all → AreInStep all.notes.items
steps-all k callers all callers-all gathered = subst AreInStep (sym gathered.notes) (all-in-step k callers callers-all)

-- and of their players
pub noted-by : (k : Shared) (callers : List Caller) (all : Passes) → AreInOrder k callers → AreGathered k.cells callers all → AreBy (players_of callers) (entries_of all.notes.items)
noted-by k callers all callers-all gathered =
    let ws = players_of callers in
    let Q : Write → Type 0 = λ e. is_by ws e ≡ true in
    let N : Note → Type 0 = λ n. Q n.entry in
    let A : Caller → Type 0 = IsAmong ws all in
    let each : (n : Note) → Contains (all_noted callers) n → N n = λ n there.
    let from = noted-from callers n there in
    let among = All-at A callers from.0 from.1 gathered.kept from.2 in
    let player = note-by k from.1 n (caller-at k callers from.0 from.1 callers-all from.2) from.3 in
    ap (λ (w : Who). has ws w.number) player ∙ among.among in
    subst (λ (ns : List Note). AreBy ws (entries_of ns)) (sym gathered.notes)
    (All-map Q (λ (n : Note). n.entry) (all_noted callers) (λ i d within. each (get_or (all_noted callers) i d) (Contains-get_or (all_noted callers) i d within)))

-- what was shown to each caller goes on to what is shown in the end
pub all-close : (k : Shared) (callers : List Caller) (all : Passes) (xs : List (Option Played)) → AreInOrder k callers → AreGathered k.cells callers all →
    ArePlayed (writes_at (all_noted callers)) (all_found callers) k.cells.signals.items xs →
    All (λ c. Closes (place_of c).who.number (shown_to c) (ended (desk_shown all) (histories_of signal_history xs))) callers
all-close k callers all xs callers-all gathered played = λ i d within.
    closes-caller k callers xs (desk_shown all) i (get_or callers i d) callers-all played (slice_get-get_or callers i d within) (gathered.kept i d within).seen

-- a caller's player and its log are sound by what was shown to it
sound-of : (k : Shared) (c : Caller) → IsCaller k c → IsSoundPlayer k.scenario (shown_to c) (place_of c)
sound-of k c is = from c.passes is.1
  where
    from : (o : Option Passes) → IsAtDesk k.cells k.scenario c.player o → IsSoundPlayer k.scenario (shown_by o) c.player
    from None is = absurd is
    from (Some p) is = is.sound

-- and by what is shown in the end
pub all-sound : (k : Shared) (callers : List Caller) (players : List PlayerPlace) (final : Shown) → AreInOrder k callers → players ≡ map place_of callers →
    All (λ c. Closes (place_of c).who.number (shown_to c) final) callers → All (IsSoundPlayer k.scenario final) players
all-sound k callers players final callers-all is closes =
    let P : PlayerPlace → Type 0 = IsSoundPlayer k.scenario final in
    subst (All P) (sym is) (All-map P place_of callers (λ i d within.
    let c = get_or callers i d in
    closes-sound k.scenario (place_of c) (shown_to c) final (sound-of k c (callers-all.own i d within)) (closes i d within)))
