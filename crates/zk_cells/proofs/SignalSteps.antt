-- A write at a signal, as an attempt.
use Rattle.std.proofs.Common.{◌≡◌, ◌≢◌, inl, inr, ⊎_elim, ℕ, suc, ◌+◌, ◌-◌, ◌^◌, ◌<◌, ◌≤◌, false, Option, Some, List, [], ◌∷◌, ◌++◌, length, map, set, get_or, All, refl, sym, ap, subst, ◌∙◌, arith}
use Rattle.std.specs.List.{slice_get, AllZip}
use native.Mathlib.Decide.{ℕ_discrete}
use Rattle.std.specs.Option.{option_map, option_map_or}
use Rattle.std.proofs.lemmas.Bool.{cases_lt}
use Rattle.std.proofs.lemmas.List.{length-map, map-append, map-set, set-set}
use Rattle.std.proofs.lemmas.List.Elements.{All-map, All-push, All-weaker}
use Rattle.zk_base.specs.Causes.{Rose, counted}
use Rattle.zk_base.specs.History.{entry}
use Rattle.zk_base.specs.declared.ids.Who.{Who}
use Rattle.zk_base.specs.declared.seen.Seen.{Seen}
use Rattle.zk_model_wait.specs.declared.signal.SignalOp.{SignalOp}
use Rattle.zk_model_wait.specs.Signal.{Signal}
use Rattle.zk_model_wait.specs.declared.signal.SignalReply.{SignalReply}
use Rattle.zk_model_wait.specs.declared.signal.SignalReply.TheVariants.{Stamp}
use Rattle.zk_signal.specs.Counts.{Rises}
use Rattle.zk_signal.specs.declared.pass.SigPass.{SigPass}
use Rattle.zk_signal.specs.declared.signal.SharedSignal.{SharedSignal}
use Rattle.zk_signal.specs.Passes.{pass_top, pass_looks}
use Rattle.zk_worker.specs.declared.steps.Step.TheVariants as steps
use Rattle.zk_worker.specs.declared.steps.StepReply.TheVariants as step_replies
use Rattle.zk_worker.specs.declared.steps.Spot.TheVariants as spots
use Rattle.zk_worker.specs.Attempt.{reply_in, IsMade, KeepsElsewhere}
use Rattle.zk_worker.specs.Families.{Family, with_entry, entry_at, answer_at, EachGrew}
use Rattle.zk_worker.specs.Looks.{Longer}
use Rattle.zk_worker.specs.Machines.{Machines}
use Rattle.zk_worker.specs.Shown.{Shown, IsLater, AllGrew}
use Rattle.zk_worker.specs.Single.{step_of}
use Rattle.zk_worker.proofs.Between.{grew-none, grew-none_each, longer-none_each}
use Rattle.zk_worker.proofs.Families.{with-longer, with-here}
use Rattle.zk_worker.proofs.Lists.{set-there}
use Rattle.zk_cells.specs.declared.notes.Note.{Note}
use Rattle.zk_cells.specs.Notes.{Write, stamp_of, step_noted, writes_at, writes_to}
use Rattle.zk_cells.specs.Signals.{signal_family, signals_by, looks_by, all_looks, looks_in, IsOwnAt, HaveOwn, AreNoted, IsShownIn, HasWritten}
use Rattle.zk_cells.specs.Desks.{capped}
use Rattle.zk_cells.proofs.Noted.{writes-here, writes-else, long-to, to-new, others-up, rises-push, few-rising}
use Rattle.zk_cells.proofs.Shares.{answer-signal, own-in, own-set, shown-there, shown-set, with-set, there-set, else-set, grew-set, entry-still, looks-there, looks-number, written-stamp, own-written}

-- what is shown of the signals, and of the looks at them, beside all else
abbrev pub shows : Shown → List (List Write) → List (List Seen) → Shown
shows base hs looks = record base { signals = hs; looks = Some looks }

-- only signals went on, by others' entries, and looks came
pub grows-shown : (number : ℕ) (base : Shown) (hs hs' : List (List Write)) (looks looks' : List (List Seen)) → EachGrew number hs hs' → AllZip Longer looks looks' →
    AllGrew number (shows base hs looks) (shows base hs' looks')
grows-shown number base hs hs' looks looks' grew longer = record {
  work = grew-none number base.work;
  clock = grew-none number base.clock;
  table = grew-none number base.table;
  sems = grew-none_each number base.sems;
  msgqs = grew-none_each number base.msgqs;
  signals = grew;
  chans = grew-none_each number base.chans;
  observers = grew-none_each number base.observers;
  looks = longer;
  looked = refl;
}

longer-all : (looks : List (List Seen)) → AllZip Longer looks looks
longer-all looks = longer-none_each looks

-- the steps that are noted are below the next one
pub noted-below : (who : Who) (number : ℕ) (shown : Shown) (notes : List Note) → IsLater shown who.number number → AreNoted who notes shown.signals → All (λ n. step_noted n < number) notes
noted-below who number shown notes later noted = λ k d within.
    let n = get_or notes k d in
    later.entries n.entry.step (spots.Signal n.signal (stamp_of n.entry - 1))
    (ap (option_map step_of) (noted.shown k d within) ∙ ap (λ (w : Who). Some (w.number, n.entry.step)) (noted.own k d within))

-- so there is room for one more
pub few-noted : (who : Who) (number : ℕ) (shown : Shown) (notes : List Note) → IsLater shown who.number number → AreNoted who notes shown.signals → length notes ≤ number
few-noted who number shown notes later noted =
    let P : ℕ → Type 0 = λ n. n < number in
    let few = few-rising (map step_noted notes) number noted.rise (All-map P step_noted notes (noted-below who number shown notes later noted)) in
    let long = length-map notes step_noted in
    omega arith

-- a write
module _ (m : Machines) (who : Who) (number object : ℕ) (op : SignalOp) (stamp : ℕ) (base : Shown) (signals : List (Option SharedSignal)) (passes : List (Option SigPass)) (notes : List Note)
    (family : m.signals ≡ signal_family signals) (few : who.number < 2 ^ 32) (have : HaveOwn who (writes_at notes) signals passes)
    (s : SharedSignal) (p p' : SigPass) (there : slice_get signals object ≡ Some (Some s)) (was : slice_get passes object ≡ Some (Some p)) (wrote : HasWritten s p op stamp p') where
  abbrev own : List Write
  own = writes_at notes object

  abbrev e : Write
  e = entry who number op (Stamp stamp)

  abbrev notes' : List Note
  notes' = notes ++ record { signal = object; entry = e } ∷ []

  abbrev passes' : List (Option SigPass)
  passes' = set passes object (Some p')

  abbrev before : ℕ
  before = stamp - 1

  abbrev hs : List (List Write)
  hs = signals_by (writes_at notes) passes

  own-at : IsOwnAt s who own p
  own-at = own-in who (writes_at notes) signals passes object (Some s) (Some p) have there was

  positive : stamp ≡ suc before
  positive = let above = wrote.above in omega arith

  top : pass_top p' ≡ stamp
  top = wrote.wrote.top ∙ written-stamp stamp op

  below : All (λ x. stamp_of x ≤ before) own
  below =
      let P : Write → Type 0 = λ x. stamp_of x ≤ pass_top p in
      let Q : Write → Type 0 = λ x. stamp_of x ≤ before in
      let above = wrote.above in
      let lower : (x : Write) → P x → Q x = λ x le. omega arith in
      All-weaker P Q lower own own-at.below

  here : writes_at notes' object ≡ own ++ e ∷ []
  here = writes-here notes (record { signal = object; entry = e }) object refl

  elsewhere : (k : ℕ) → k ≢ object → writes_at notes' k ≡ writes_at notes k
  elsewhere k differ = writes-else notes (record { signal = object; entry = e }) k (λ same. differ (sym same))

  -- what others had done when it was made
  abbrev found-hs : List (List Write)
  found-hs = set hs object (writes_to own before)

  grew : EachGrew who.number hs found-hs
  grew = grew-set who.number hs object (writes_to own (pass_top p)) (writes_to own before) (shown-there (writes_at notes) passes object (Some p) was)
      (others-up who.number own (pass_top p) before few own-at.below (let above = wrote.above in omega arith))

  found-there : slice_get found-hs object ≡ Some (writes_to own before)
  found-there = there-set hs object (writes_to own (pass_top p)) (writes_to own before) (shown-there (writes_at notes) passes object (Some p) was)

  -- and then
  new-hs : signals_by (writes_at notes') passes' ≡ with_entry found-hs object e
  new-hs =
      shown-set (writes_at notes) (writes_at notes') passes object (Some p') elsewhere
      ∙ ap (λ (w : List Write). set hs object (writes_to w (pass_top p'))) here
      ∙ ap (λ (n : ℕ). set hs object (writes_to (own ++ e ∷ []) n)) (top ∙ positive)
      ∙ ap (set hs object) (to-new own e before positive below)
      ∙ with-set hs object (writes_to own before) e

  new-looks : all_looks passes' ≡ all_looks passes
  new-looks =
      map-set looks_by passes object (Some p')
      ∙ ap (set (all_looks passes) object) wrote.wrote.looks
      ∙ set-there (all_looks passes) object (pass_looks p) (looks-there passes object (Some p) was)

  others-same : set (signals_by (writes_at notes') passes') object [] ≡ set hs object []
  others-same =
      ap (λ (hs : List (List Write)). set hs object []) (shown-set (writes_at notes) (writes_at notes') passes object (Some p') elsewhere)
      ∙ set-set hs object (writes_to (writes_at notes' object) (pass_top p')) []

  replied : reply_in m (shows base found-hs (all_looks passes)) who (steps.Signal object op) ≡ Some (step_replies.Signal object (Stamp stamp) before)
  replied =
      let long = long-to own before in
      ap (λ (f : Family Signal SignalOp SignalReply).
      answer_at f found-hs step_replies.Signal who object op) family
      ∙ answer-signal signals found-hs object s (writes_to own before) who op there found-there
      ∙ ap (λ (n : ℕ). Some (step_replies.Signal object (Stamp (n + 1)) n)) long
      ∙ ap (λ (n : ℕ). Some (step_replies.Signal object (Stamp n) before)) (omega (arith, positive))

  pub made-write : IsMade false m who number (steps.Signal object op) (step_replies.Signal object (Stamp stamp) before)
      (shows base hs (all_looks passes)) (shows base (signals_by (writes_at notes') passes') (all_looks passes'))
  made-write = record {
    found = shows base found-hs (all_looks passes);
    since = grows-shown who.number base hs found-hs (all_looks passes) (all_looks passes) grew (longer-all (all_looks passes));
    replied = replied;
    read_at = tt;
    shown = λ i. shows base (new-hs i) (new-looks i);
  }

  pub elsewhere-write : KeepsElsewhere (steps.Signal object op) (shows base hs (all_looks passes)) (shows base (signals_by (writes_at notes') passes') (all_looks passes'))
  elsewhere-write = λ i. shows base (others-same i) (new-looks i)

  -- the passes are its player's own still
  pub have-write : HaveOwn who (writes_at notes') signals passes'
  have-write =
      own-set who (writes_at notes) (writes_at notes') signals passes object s p' have there
      (subst (λ (w : List Write). IsOwnAt s who w p') (sym here) (own-written s who own p p' number stamp op own-at wrote)) elsewhere

  -- and what it has noted is shown
  pub noted-write : IsLater (shows base hs (all_looks passes)) who.number number → AreNoted who notes hs → AreNoted who notes' (signals_by (writes_at notes') passes')
  noted-write later noted =
      let n : Note = record { signal = object; entry = e } in
      let W : Note → Type 0 = λ n. n.entry.who ≡ who in
      let P : ℕ → Type 0 = λ k. k < number in
      let O : Note → Type 0 = IsShownIn hs in
      let Q : Note → Type 0 = IsShownIn (with_entry found-hs object e) in
      let on : (x : Note) → O x → Q x = λ x is. with-longer found-hs object e x.signal (stamp_of x.entry - 1) x.entry (entry-still who.number hs found-hs x.signal (stamp_of x.entry - 1) x.entry grew is) in
      let last : entry_at (with_entry found-hs object e) object before ≡ Some e =
      ap (entry_at (with_entry found-hs object e) object) (sym (long-to own before))
      ∙ with-here found-hs object e (writes_to own before) found-there in
      record {
        own = All-push W notes n noted.own refl;
        rise = subst Rises (sym (map-append step_noted notes (n ∷ [])))
            (rises-push (map step_noted notes) number noted.rise (All-map P step_noted notes (noted-below who number (shows base hs (all_looks passes)) notes later noted)));
        shown = subst (λ (l : List (List Write)). All (IsShownIn l) notes') (sym new-hs) (All-push Q notes n (All-weaker O Q on notes noted.shown) last);
      }

  -- no more looks
  pub looks-write : (k : ℕ) → looks_in passes' k ≡ looks_in passes k
  looks-write k = by (ℕ_discrete k object)
    where
      by : Dec (k ≡ object) → looks_in passes' k ≡ looks_in passes k
      by (yes same) =
          ap (λ (j : ℕ). looks_in passes' j) same
          ∙ ap length (looks-number passes' object (Some p') (there-set passes object (Some p) (Some p') was) ∙ wrote.wrote.looks ∙ sym (looks-number passes object (Some p) was))
          ∙ ap (λ (j : ℕ). looks_in passes j) (sym same)
      by (no differ) = ap (λ (o : Option (Option SigPass)). length (option_map_or looks_by o [])) (else-set passes object k (Some p') differ)

-- a count, as far as 64 bits hold it
pub capped-up : (n k : ℕ) → n ≤ k → (capped n ≤ capped k) × (capped k ≤ 2 ^ 64 - 1)
capped-up n k le = (omega arith, omega arith)

pub capped-rose : (n : ℕ) → Rose (capped n) (capped (n + 1))
capped-rose n = ⊎_elim (λ lt. inl (omega arith)) (λ le. inr (omega arith)) (cases_lt n (2 ^ 64 - 1))

-- a turn more is counted once
pub capped-once : (n k : ℕ) → k ≡ n + 1 → capped k ≡ counted (capped n)
capped-once n k is = ⊎_elim (λ lt. omega arith) (λ le. omega arith) (cases_lt n (2 ^ 64 - 1))
