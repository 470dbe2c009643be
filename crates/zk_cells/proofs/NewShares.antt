-- New passes of signals, dealt one after another from the end of each list.
use Rattle.std.proofs.Common.{◌≡◌, ℕ, zero, suc, ◌≤◌, is_some, Option, Some, None, List, [], ◌∷◌, ◌++◌, length, map, option_map, refl, sym, ap, subst, ◌∙◌, arith}
use Rattle.std.specs.Prelude.{Vec}
use Rattle.std.specs.declared.alloc.Global.{Global}
use Rattle.std.proofs.lemmas.List.{length-append, map-append}
use Rattle.std.proofs.lemmas.List.Elements.{All-nil}
use Rattle.std.proofs.lemmas.Slice.Zip.{all_zipped_more}
use Rattle.zk_base.specs.declared.ids.Who.{Who}
use Rattle.zk_base.specs.declared.seen.Seen.{Seen}
use Rattle.zk_base.specs.RecordedView.{RecordedView}
use Rattle.zk_model_wait.specs.Signal.{Signal, new_signal}
use Rattle.zk_model_wait.specs.declared.signal.SignalOp.{SignalOp}
use Rattle.zk_model_wait.specs.declared.signal.SignalReply.{SignalReply}
use Rattle.zk_poll.specs.Seen.{signal_start}
use Rattle.zk_signal.specs.declared.pass.SigPass.{SigPass}
use Rattle.zk_signal.specs.declared.signal.SharedSignal.{SharedSignal}
use Rattle.zk_signal.specs.Passes.{IsNewPass, AreNewPasses, pass_top}
use Rattle.zk_cells.specs.Dealt.{IsBegun, AreSigLeft, AllSigLeft, IsTaken, AllTaken, IsNewSigIn, AllNewSigs}
use Rattle.zk_cells.specs.Notes.{Write, stamp_of, writes_to}
use Rattle.zk_cells.specs.Signals.{signal_family, signals_by, all_looks, looks_in, IsOwnAt, HaveOwn}

-- passes are as many as their players
none-new : (s : SharedSignal) (ps : List SigPass) (p : SigPass) → AreNewPasses s [] (ps ++ p ∷ []) → ⊥
none-new s [] p all = all
none-new s (q ∷ ps) p all = all

some-new : (s : SharedSignal) (ns : List ℕ) (n : ℕ) → AreNewPasses s (ns ++ n ∷ []) [] → ⊥
some-new s [] n all = all
some-new s (m ∷ ns) n all = all

-- the last one less
last-new : (s : SharedSignal) (ns : List ℕ) (ps : List SigPass) (n : ℕ) (p : SigPass) → AreNewPasses s (ns ++ n ∷ []) (ps ++ p ∷ []) → AreNewPasses s ns ps × IsNewPass s n p
last-new s [] [] n p all = (tt, all.0)
last-new s [] (q ∷ ps) n p all = absurd (none-new s ps p all.1)
last-new s (m ∷ ns) [] n p all = absurd (some-new s ns n all.1)
last-new s (m ∷ ns) (q ∷ ps) n p all = let rest = last-new s ns ps n p all.1 in ((all.0, rest.0), rest.1)

numbers-push : (ws : List Who) (w : Who) → map (λ (w : Who). w.number) (ws ++ w ∷ []) ≡ map (λ (w : Who). w.number) ws ++ w.number ∷ []
numbers-push ws w = map-append (λ (w : Who). w.number) ws (w ∷ [])

-- the last of the new passes is the last player's
sig-left-taken : (ws : List Who) (w : Who) (s : Option SharedSignal) (old : Vec SigPass Global) (p : Option SigPass) (new : Vec SigPass Global) → AreSigLeft (ws ++ w ∷ []) s old.items → IsTaken old p new →
    AreSigLeft ws s new.items × IsNewSigIn w s p
sig-left-taken ws w None old None new left taken = (taken.1, tt)
sig-left-taken ws w None old (Some p) new left taken =
    let none : new.items ++ p ∷ [] ≡ [] = sym taken ∙ left in
    let long = ap (λ (l : List SigPass). length l) none in
    absurd (omega (arith, length-append new.items (p ∷ [])))
sig-left-taken ws w (Some s) old None new left taken =
    absurd (some-new s (map (λ (w : Who). w.number) ws) w.number
    (subst (λ (l : List SigPass). AreNewPasses s (map (λ (w : Who). w.number) ws ++ w.number ∷ []) l) taken.0
    (subst (λ (ns : List ℕ). AreNewPasses s ns old.items) (numbers-push ws w) left)))
sig-left-taken ws w (Some s) old (Some p) new left taken =
    last-new s (map (λ (w : Who). w.number) ws) new.items w.number p
    (subst (λ (l : List SigPass). AreNewPasses s (map (λ (w : Who). w.number) ws ++ w.number ∷ []) l) taken
    (subst (λ (ns : List ℕ). AreNewPasses s ns old.items) (numbers-push ws w) left))

-- of each signal
pub all-sig-left-taken : (ws : List Who) (w : Who) (ss : List (Option SharedSignal)) (olds : List (Vec SigPass Global)) (ps : List (Option SigPass)) (news : List (Vec SigPass Global)) →
    AllSigLeft (ws ++ w ∷ []) ss olds → AllTaken olds ps news → AllSigLeft ws ss news × AllNewSigs w ss ps
all-sig-left-taken ws w [] [] [] [] left taken = (tt, tt)
all-sig-left-taken ws w [] [] [] (x ∷ news) left taken = absurd taken
all-sig-left-taken ws w [] [] (p ∷ ps) news left taken = absurd taken
all-sig-left-taken ws w [] (o ∷ olds) ps news left taken = absurd left
all-sig-left-taken ws w (s ∷ ss) [] ps news left taken = absurd left
all-sig-left-taken ws w (s ∷ ss) (o ∷ olds) [] news left taken = absurd taken
all-sig-left-taken ws w (s ∷ ss) (o ∷ olds) (p ∷ ps) [] left taken = absurd taken
all-sig-left-taken ws w (s ∷ ss) (o ∷ olds) (p ∷ ps) (x ∷ news) left taken =
    let one = sig-left-taken ws w s o p x left.0 taken.0 in
    let rest = all-sig-left-taken ws w ss olds ps news left.1 taken.1 in
    ((one.0, rest.0), (one.1, rest.1))

-- a new pass is its player's own, of which nothing is noted
new-own : (w : Who) (s : SharedSignal) (p : SigPass) → IsNewPass s w.number p → IsOwnAt s w [] p
new-own w s p new =
    let P : Write → Type 0 = λ e. stamp_of e ≤ pass_top p in
    let room = new.room in
    record {
      of_signal = new.of_signal;
      player = new.players;
      room = omega (arith, room);
      writes = new.writes;
      rise = tt;
      below = All-nil P;
    }

pub own-new : (w : Who) (ss : List (Option SharedSignal)) (ps : List (Option SigPass)) → AllNewSigs w ss ps → HaveOwn w (λ k. []) ss ps
own-new w [] [] new = tt
own-new w [] (p ∷ ps) new = absurd new
own-new w (s ∷ ss) [] new = absurd new
own-new w (None ∷ ss) (None ∷ ps) new = (tt, own-new w ss ps new.1)
own-new w (None ∷ ss) (Some p ∷ ps) new = absurd new.0
own-new w (Some s ∷ ss) (None ∷ ps) new = absurd new.0
own-new w (Some s ∷ ss) (Some p ∷ ps) new = (new-own w s p new.0, own-new w ss ps new.1)

-- it shows nothing, and has not looked
pub shown-none : (w : Who) (ss : List (Option SharedSignal)) (ps : List (Option SigPass)) → AllNewSigs w ss ps → signals_by (λ k. []) ps ≡ map (λ s. []) ss
shown-none w [] [] new = refl
shown-none w [] (p ∷ ps) new = absurd new
shown-none w (s ∷ ss) [] new = absurd new
shown-none w (None ∷ ss) (None ∷ ps) new = ap (λ (l : List (List Write)). [] ∷ l) (shown-none w ss ps new.1)
shown-none w (None ∷ ss) (Some p ∷ ps) new = absurd new.0
shown-none w (Some s ∷ ss) (None ∷ ps) new = absurd new.0
shown-none w (Some s ∷ ss) (Some p ∷ ps) new =
    ap (λ (n : ℕ). writes_to [] n ∷ signals_by (λ k. []) ps) new.0.top
    ∙ ap (λ (l : List (List Write)). [] ∷ l) (shown-none w ss ps new.1)

pub looks-none : (w : Who) (ss : List (Option SharedSignal)) (ps : List (Option SigPass)) → AllNewSigs w ss ps → all_looks ps ≡ map (λ s. []) ss
looks-none w [] [] new = refl
looks-none w [] (p ∷ ps) new = absurd new
looks-none w (s ∷ ss) [] new = absurd new
looks-none w (None ∷ ss) (None ∷ ps) new = ap (λ (l : List (List Seen)). [] ∷ l) (looks-none w ss ps new.1)
looks-none w (None ∷ ss) (Some p ∷ ps) new = absurd new.0
looks-none w (Some s ∷ ss) (None ∷ ps) new = absurd new.0
looks-none w (Some s ∷ ss) (Some p ∷ ps) new =
    ap (λ (l : List Seen). l ∷ all_looks ps) new.0.looks
    ∙ ap (λ (l : List (List Seen)). [] ∷ l) (looks-none w ss ps new.1)

pub idle-none : (w : Who) (ss : List (Option SharedSignal)) (ps : List (Option SigPass)) (object : ℕ) → AllNewSigs w ss ps → looks_in ps object ≡ 0
idle-none w [] [] object new = refl
idle-none w [] (p ∷ ps) object new = absurd new
idle-none w (s ∷ ss) [] object new = absurd new
idle-none w (None ∷ ss) (None ∷ ps) zero new = refl
idle-none w (None ∷ ss) (Some p ∷ ps) zero new = absurd new.0
idle-none w (Some s ∷ ss) (None ∷ ps) zero new = absurd new.0
idle-none w (Some s ∷ ss) (Some p ∷ ps) zero new = ap (λ (l : List Seen). length l) new.0.looks
idle-none w (s ∷ ss) (p ∷ ps) (suc object) new = idle-none w ss ps object new.1

-- one more signal
start-same : (s : Option SharedSignal) (x : Option (RecordedView Signal SignalOp SignalReply)) → is_some s ≡ is_some x → IsBegun x → option_map (λ (s : SharedSignal). new_signal) s ≡ option_map signal_start x
start-same None None same begun = refl
start-same None (Some x) same begun = absurd (cc)
start-same (Some s) None same begun = absurd (cc)
start-same (Some s) (Some x) same begun = ap (λ (m : Signal). Some m) (sym begun)

pub one-sig-started : (ss : List (Option SharedSignal)) (xs : List (Option (RecordedView Signal SignalOp SignalReply))) (s : Option SharedSignal) (x : Option (RecordedView Signal SignalOp SignalReply)) →
    (signal_family ss).starts ≡ map (option_map signal_start) xs → is_some s ≡ is_some x → IsBegun x → (signal_family (ss ++ s ∷ [])).starts ≡ map (option_map signal_start) (xs ++ x ∷ [])
one-sig-started ss xs s x all same begun =
    let f : Option SharedSignal → Option Signal = option_map (λ (s : SharedSignal). new_signal) in
    map-append f ss (s ∷ []) ∙ ap (λ (l : List (Option Signal)). l ++ f s ∷ []) all
    ∙ ap (λ (o : Option Signal). map (option_map signal_start) xs ++ o ∷ []) (start-same s x same begun)
    ∙ sym (map-append (option_map signal_start) xs (x ∷ []))

pub one-sig-left : (ws : List Who) (ss : List (Option SharedSignal)) (lists : List (Vec SigPass Global)) (s : Option SharedSignal) (l : Vec SigPass Global) → AllSigLeft ws ss lists → AreSigLeft ws s l.items →
    AllSigLeft ws (ss ++ s ∷ []) (lists ++ l ∷ [])
one-sig-left ws ss lists s l all one =
    all_zipped_more (λ (k : Option SharedSignal) (v : Vec SigPass Global). AreSigLeft ws k v.items) ss lists s l all one
