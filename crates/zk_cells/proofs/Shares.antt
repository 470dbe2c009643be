-- A caller's passes of the signals, by object number, one of which is used.
use Rattle.std.proofs.Common.{◌≡◌, ◌≢◌, ℕ, zero, suc, ◌+◌, ◌<◌, ◌≤◌, true, false, is_some, Option, Some, None, List, [], ◌∷◌, ◌++◌, length, map, set, get_or, All, refl, sym, ap, subst, ◌∙◌, arith}
use Rattle.std.specs.List.{slice_get, AllZip}
use Rattle.std.specs.Option.{option_map, option_map_or, option_and_then}
use Rattle.std.proofs.lemmas.List.{length-append, map-append}
use Rattle.std.proofs.lemmas.List.Elements.{All-map, All-push, All-weaker}
use Rattle.std.proofs.lemmas.Option.{same_Some, slice_get-map, slice_get_within, get_or_from_slice_get}
use Rattle.zk_base.specs.Legal.{state_after}
use Rattle.zk_base.specs.declared.ids.Who.{Who}
use Rattle.zk_base.specs.declared.seen.Seen.{Seen}
use Rattle.zk_base.specs.History.{entry}
use Rattle.zk_model_wait.specs.Signal.{Signal, new_signal, signal_machine, signal_next, written}
use Rattle.zk_model_wait.specs.declared.signal.SignalOp.{SignalOp}
use Rattle.zk_model_wait.specs.declared.signal.SignalOp.TheVariants as ops
use Rattle.zk_model_wait.specs.declared.signal.SignalReply.TheVariants.{Stamp}
use Rattle.zk_poll.specs.Seen.{left_by}
use Rattle.zk_signal.specs.declared.pass.SigPass.{SigPass}
use Rattle.zk_signal.specs.declared.signal.SharedSignal.{SharedSignal}
use Rattle.zk_signal.specs.Counts.{Rises}
use Rattle.zk_signal.specs.Passes.{pass_top}
use Rattle.zk_worker.specs.declared.steps.StepReply.TheVariants as step_replies
use Rattle.zk_worker.specs.Single.{answer_in, OthersGrew}
use Rattle.zk_worker.specs.Families.{start_of, takes_at, answer_at, with_entry, entry_at, EachGrew}
use Rattle.zk_worker.specs.Looks.{Longer, last_of}
use Rattle.zk_worker.proofs.Between.{grew-none, grew-none_each, longer-none, longer-none_each}
use Rattle.zk_worker.proofs.Lists.{there-longer}
use Rattle.zk_cells.specs.declared.notes.Note.{Note}
use Rattle.zk_cells.specs.Notes.{Write, stamp_of, writes_at, writes_to}
use Rattle.zk_cells.specs.Signals.{signal_family, top_by, signals_by, looks_by, all_looks, looks_at_number, IsOwnAt, HasOwnIn, HaveOwn, HasWritten, HasFound, NowIs, IsUsedAt, WroteAmong, FoundAmong}
use Rattle.zk_cells.proofs.Noted.{rises-push}

-- an object that is a signal has one
pub some-there : (signals : List (Option SharedSignal)) (object : ℕ) → is_some (start_of (signal_family signals) object) ≡ true →
    (s : SharedSignal) × (slice_get signals object ≡ Some (Some s))
some-there [] object is = absurd (cc)
some-there (None ∷ signals) zero is = absurd (cc)
some-there (Some s ∷ signals) zero is = (s, refl)
some-there (x ∷ signals) (suc object) is = some-there signals object is

pub taken-some : (signals : List (Option SharedSignal)) (object : ℕ) (op : SignalOp) → takes_at (signal_family signals) object op ≡ true →
    is_some (start_of (signal_family signals) object) ≡ true
taken-some signals object op is = by (start_of (signal_family signals) object) is
  where
    by : (o : Option Signal) → option_map_or (λ start. signal_machine.in_range start op) o false ≡ true → is_some o ≡ true
    by None is = absurd (cc)
    by (Some x) is = refl

-- and starts before its first write
pub start-there : (signals : List (Option SharedSignal)) (object : ℕ) (s : SharedSignal) → slice_get signals object ≡ Some (Some s) →
    start_of (signal_family signals) object ≡ Some new_signal
start-there [] object s is = absurd (cc)
start-there (x ∷ signals) zero s is = ap (option_map (λ (s : SharedSignal). new_signal)) (same_Some x (Some s) is)
start-there (x ∷ signals) (suc object) s is = start-there signals object s is

-- the state has as many writes as the history
state-long : (start : Signal) (h : List Write) → length (state_after signal_machine start h).writes ≡ length start.writes + length h
state-long start [] = omega arith
state-long start (e ∷ es) =
    let rest : length (state_after signal_machine start (e ∷ es)).writes ≡ length (start.writes ++ e.op ∷ []) + length es = state-long (signal_next start e.who e.op) es in
    let more = length-append start.writes (e.op ∷ []) in
    omega arith

pub writes-long : (start : Signal) (h : List Write) → start ≡ new_signal → length (state_after signal_machine start h).writes ≡ length h
writes-long start h new =
    let long = state-long start h in
    let none : length start.writes ≡ 0 = ap (λ (s : Signal). length s.writes) new in
    omega arith

-- what is answered to a write
pub answer-signal : (signals : List (Option SharedSignal)) (hs : List (List Write)) (object : ℕ) (s : SharedSignal) (h : List Write) (who : Who) (op : SignalOp) →
    slice_get signals object ≡ Some (Some s) → slice_get hs object ≡ Some h →
    answer_at (signal_family signals) hs step_replies.Signal who object op ≡ Some (step_replies.Signal object (Stamp (length h + 1)) (length h))
answer-signal signals hs object s h who op there found =
    ap (λ (o : Option Signal). option_and_then (λ start. option_and_then (λ h. answer_in signal_machine start h (step_replies.Signal object) who op) (slice_get hs object)) o)
    (start-there signals object s there)
    ∙ ap (λ (o : Option (List Write)). option_and_then (λ h. answer_in signal_machine new_signal h (step_replies.Signal object) who op) o) found
    ∙ ap (λ (n : ℕ). Some (step_replies.Signal object (Stamp (n + 1)) (length h))) (state-long new_signal h ∙ nothing)
  where
    nothing : length new_signal.writes + length h ≡ length h
    nothing = omega arith

-- there is a pass of each signal
pub as-many : (who : Who) (own : ℕ → List Write) (signals : List (Option SharedSignal)) (passes : List (Option SigPass)) → HaveOwn who own signals passes → length passes ≡ length signals
as-many who own [] [] have = refl
as-many who own [] (p ∷ passes) have = absurd have
as-many who own (s ∷ signals) [] have = absurd have
as-many who own (s ∷ signals) (p ∷ passes) have = ap suc (as-many who (λ object. own (suc object)) signals passes have.1)

pub own-there : (who : Who) (own : ℕ → List Write) (signals : List (Option SharedSignal)) (passes : List (Option SigPass)) (object : ℕ) (s : SharedSignal) →
    HaveOwn who own signals passes → slice_get signals object ≡ Some (Some s) → (p : SigPass) × (slice_get passes object ≡ Some (Some p)) × IsOwnAt s who (own object) p
own-there who own [] passes object s have is = absurd (cc)
own-there who own (x ∷ signals) [] object s have is = absurd have
own-there who own (None ∷ signals) (p ∷ passes) zero s have is = absurd (cc)
own-there who own (Some x ∷ signals) (None ∷ passes) zero s have is = absurd have.0
own-there who own (Some x ∷ signals) (Some p ∷ passes) zero s have is =
    let same : x ≡ s = same_Some x s (same_Some (Some x) (Some s) is) in
    (p, refl, subst (λ (y : SharedSignal). IsOwnAt y who (own 0) p) same have.0)
own-there who own (x ∷ signals) (p ∷ passes) (suc object) s have is = own-there who (λ k. own (suc k)) signals passes object s have.1 is

-- what holds of the one at a number
pub own-in : (who : Who) (own : ℕ → List Write) (signals : List (Option SharedSignal)) (passes : List (Option SigPass)) (object : ℕ) (s : Option SharedSignal) (p : Option SigPass) →
    HaveOwn who own signals passes → slice_get signals object ≡ Some s → slice_get passes object ≡ Some p → HasOwnIn who (own object) s p
own-in who own [] passes object s p have is at = absurd (cc)
own-in who own (x ∷ signals) [] object s p have is at = absurd have
own-in who own (x ∷ signals) (q ∷ passes) zero s p have is at =
    subst (λ (o : Option SigPass). HasOwnIn who (own 0) s o) (same_Some q p at)
    (subst (λ (o : Option SharedSignal). HasOwnIn who (own 0) o q) (same_Some x s is) have.0)
own-in who own (x ∷ signals) (q ∷ passes) (suc object) s p have is at = own-in who (λ k. own (suc k)) signals passes object s p have.1 is at

-- that of a used one
pub own-used : (who : Who) (own : ℕ → List Write) (signals : List (Option SharedSignal)) (object : ℕ) (old new : List (Option SigPass)) (used : IsUsedAt signals object old new) →
    HaveOwn who own signals old → IsOwnAt used.signal who (own object) used.before
own-used who own signals object old new used have = own-in who own signals old object (Some used.signal) (Some used.before) have used.there used.was

-- what was noted elsewhere doesn't matter
own-same : (who : Who) (own own' : ℕ → List Write) (signals : List (Option SharedSignal)) (passes : List (Option SigPass)) → HaveOwn who own signals passes →
    ((k : ℕ) → own' k ≡ own k) → HaveOwn who own' signals passes
own-same who own own' [] [] have same = tt
own-same who own own' [] (p ∷ passes) have same = absurd have
own-same who own own' (s ∷ signals) [] have same = absurd have
own-same who own own' (s ∷ signals) (p ∷ passes) have same = (
  subst (λ (w : List Write). HasOwnIn who w s p) (sym (same 0)) have.0,
  own-same who (λ k. own (suc k)) (λ k. own' (suc k)) signals passes have.1 (λ k. same (suc k)),
)

pub own-set : (who : Who) (own own' : ℕ → List Write) (signals : List (Option SharedSignal)) (passes : List (Option SigPass)) (object : ℕ) (s : SharedSignal) (p' : SigPass) →
    HaveOwn who own signals passes → slice_get signals object ≡ Some (Some s) → IsOwnAt s who (own' object) p' → ((k : ℕ) → k ≢ object → own' k ≡ own k) →
    HaveOwn who own' signals (set passes object (Some p'))
own-set who own own' [] passes object s p' have is new else = absurd (cc)
own-set who own own' (x ∷ signals) [] object s p' have is new else = absurd have
own-set who own own' (x ∷ signals) (p ∷ passes) zero s p' have is new else = (
  subst (λ (o : Option SharedSignal). HasOwnIn who (own' 0) o (Some p')) (sym (same_Some x (Some s) is)) new,
  own-same who (λ k. own (suc k)) (λ k. own' (suc k)) signals passes have.1 (λ k. else (suc k) (λ same. omega arith)),
)
own-set who own own' (x ∷ signals) (p ∷ passes) (suc object) s p' have is new else = (
  subst (λ (w : List Write). HasOwnIn who w x p) (sym (else 0 (λ same. omega arith))) have.0,
  own-set who (λ k. own (suc k)) (λ k. own' (suc k)) signals passes object s p' have.1 is new (λ k differ. else (suc k) (λ same. differ (omega arith))),
)

-- what is shown at a number
pub shown-there : (own : ℕ → List Write) (passes : List (Option SigPass)) (object : ℕ) (p : Option SigPass) → slice_get passes object ≡ Some p →
    slice_get (signals_by own passes) object ≡ Some (writes_to (own object) (top_by p))
shown-there own [] object p is = absurd (cc)
shown-there own (x ∷ passes) zero p is = ap (λ (o : Option SigPass). Some (writes_to (own 0) (top_by o))) (same_Some x p is)
shown-there own (x ∷ passes) (suc object) p is = shown-there (λ k. own (suc k)) passes object p is

pub shown-at : (own : ℕ → List Write) (passes : List (Option SigPass)) (object : ℕ) (h : List Write) → slice_get (signals_by own passes) object ≡ Some h →
    (p : Option SigPass) × (slice_get passes object ≡ Some p) × (h ≡ writes_to (own object) (top_by p))
shown-at own [] object h is = absurd (cc)
shown-at own (x ∷ passes) zero h is = (x, refl, sym (same_Some (writes_to (own 0) (top_by x)) h is))
shown-at own (x ∷ passes) (suc object) h is = shown-at (λ k. own (suc k)) passes object h is

pub shown-long : (own : ℕ → List Write) (passes : List (Option SigPass)) → length (signals_by own passes) ≡ length passes
shown-long own [] = refl
shown-long own (p ∷ passes) = ap suc (shown-long (λ k. own (suc k)) passes)

shown-same : (own own' : ℕ → List Write) (passes : List (Option SigPass)) → ((k : ℕ) → own' k ≡ own k) → signals_by own' passes ≡ signals_by own passes
shown-same own own' [] same = refl
shown-same own own' (p ∷ passes) same =
    ap (λ (w : List Write). writes_to w (top_by p) ∷ signals_by (λ k. own' (suc k)) passes) (same 0)
    ∙ ap (λ (hs : List (List Write)). writes_to (own 0) (top_by p) ∷ hs) (shown-same (λ k. own (suc k)) (λ k. own' (suc k)) passes (λ k. same (suc k)))

pub shown-set : (own own' : ℕ → List Write) (passes : List (Option SigPass)) (object : ℕ) (p' : Option SigPass) → ((k : ℕ) → k ≢ object → own' k ≡ own k) →
    signals_by own' (set passes object p') ≡ set (signals_by own passes) object (writes_to (own' object) (top_by p'))
shown-set own own' [] object p' else = refl
shown-set own own' (p ∷ passes) zero p' else =
    ap (λ (hs : List (List Write)). writes_to (own' 0) (top_by p') ∷ hs)
    (shown-same (λ k. own (suc k)) (λ k. own' (suc k)) passes (λ k. else (suc k) (λ same. omega arith)))
shown-set own own' (p ∷ passes) (suc object) p' else =
    ap (λ (w : List Write). writes_to w (top_by p) ∷ signals_by (λ k. own' (suc k)) (set passes object p')) (else 0 (λ same. omega arith))
    ∙ ap (λ (hs : List (List Write)). writes_to (own 0) (top_by p) ∷ hs)
    (shown-set (λ k. own (suc k)) (λ k. own' (suc k)) passes object p' (λ k differ. else (suc k) (λ same. differ (omega arith))))

-- the histories, with another one at a number
pub with-set : (hs : List (List Write)) (object : ℕ) (h : List Write) (e : Write) → set hs object (h ++ e ∷ []) ≡ with_entry (set hs object h) object e
with-set [] object h e = refl
with-set (g ∷ gs) zero h e = refl
with-set (g ∷ gs) (suc object) h e = ap (λ (hs : List (List Write)). g ∷ hs) (with-set gs object h e)

pub there-set : {A : Type 0} (xs : List A) (i : ℕ) (x y : A) → slice_get xs i ≡ Some x → slice_get (set xs i y) i ≡ Some y
there-set [] i x y is = absurd (cc)
there-set (z ∷ xs) zero x y is = refl
there-set (z ∷ xs) (suc i) x y is = there-set xs i x y is

pub else-set : {A : Type 0} (xs : List A) (i j : ℕ) (y : A) → j ≢ i → slice_get (set xs i y) j ≡ slice_get xs j
else-set [] i j y differ = refl
else-set (z ∷ xs) zero zero y differ = absurd (differ refl)
else-set (z ∷ xs) zero (suc j) y differ = refl
else-set (z ∷ xs) (suc i) zero y differ = refl
else-set (z ∷ xs) (suc i) (suc j) y differ = else-set xs i j y (λ e. differ (ap suc e))

pub grew-set : (number : ℕ) (hs : List (List Write)) (object : ℕ) (h h' : List Write) → slice_get hs object ≡ Some h → OthersGrew number h h' → EachGrew number hs (set hs object h')
grew-set number [] object h h' is grew = absurd (cc)
grew-set number (g ∷ gs) zero h h' is grew =
    (subst (λ (k : List Write). OthersGrew number k h') (sym (same_Some g h is)) grew, grew-none_each number gs)
grew-set number (g ∷ gs) (suc object) h h' is grew = (grew-none number g, grew-set number gs object h h' is grew)

pub longer-set : (xss : List (List Seen)) (i : ℕ) (xs ys : List Seen) → slice_get xss i ≡ Some xs → Longer xs ys → AllZip Longer xss (set xss i ys)
longer-set [] i xs ys is longer = absurd (cc)
longer-set (z ∷ zs) zero xs ys is longer =
    (subst (λ (k : List Seen). Longer k ys) (sym (same_Some z xs is)) longer, longer-none_each zs)
longer-set (z ∷ zs) (suc i) xs ys is longer = (longer-none z, longer-set zs i xs ys is longer)

-- an entry stays where it is as others' come
pub entry-still : (number : ℕ) (old new : List (List Write)) (object place : ℕ) (e : Write) → EachGrew number old new → entry_at old object place ≡ Some e → entry_at new object place ≡ Some e
entry-still number [] new object place e grew is = absurd (cc)
entry-still number (o ∷ os) [] object place e grew is = absurd grew
entry-still number (o ∷ os) (h ∷ hs) zero place e grew is =
    ap (λ (l : List Write). slice_get l place) grew.0.longer ∙ there-longer o grew.0.more place e is
entry-still number (o ∷ os) (h ∷ hs) (suc object) place e grew is = entry-still number os hs object place e grew.1 is

-- the last look
pub last-push : (xs : List Seen) (x : Seen) → last_of (xs ++ x ∷ []) ≡ Some x
last-push [] x = refl
last-push (y ∷ []) x = refl
last-push (y ∷ z ∷ more) x = last-push (z ∷ more) x

-- the looks at a number
pub looks-there : (passes : List (Option SigPass)) (object : ℕ) (p : Option SigPass) → slice_get passes object ≡ Some p → slice_get (all_looks passes) object ≡ Some (looks_by p)
looks-there passes object p is = slice_get-map looks_by passes object ∙ ap (option_map looks_by) is

pub looks-number : (passes : List (Option SigPass)) (object : ℕ) (p : Option SigPass) → slice_get passes object ≡ Some p → looks_at_number passes object ≡ looks_by p
looks-number passes object p is = ap (λ (o : Option (Option SigPass)). option_map_or looks_by o []) is

-- what a write leaves has its stamp
pub written-stamp : (stamp : ℕ) (op : SignalOp) → (written stamp op).stamp ≡ stamp
written-stamp stamp (ops.Raise value) = refl
written-stamp stamp ops.Clear = refl

-- a pass that has written is its player's own still, with this write noted
pub own-written : (s : SharedSignal) (who : Who) (own : List Write) (p p' : SigPass) (step stamp : ℕ) (op : SignalOp) → IsOwnAt s who own p → HasWritten s p op stamp p' →
    IsOwnAt s who (own ++ entry who step op (Stamp stamp) ∷ []) p'
own-written s who own p p' step stamp op own-at wrote =
    let e : Write = entry who step op (Stamp stamp) in
    let long = length-append own (e ∷ []) in
    let room = own-at.room in
    let less = wrote.wrote.room in
    let top : pass_top p' ≡ stamp = wrote.wrote.top ∙ written-stamp stamp op in
    let above = wrote.above in
    let P : Write → Type 0 = λ x. stamp_of x ≤ pass_top p in
    let Q : Write → Type 0 = λ x. stamp_of x ≤ pass_top p' in
    let up : (x : Write) → P x → Q x = λ x le. omega (arith, top, above) in
    let L : ℕ → Type 0 = λ n. n < stamp in
    let lower : (x : Write) → P x → stamp_of x < stamp = λ x le. omega (arith, above) in
    let below : All L (map stamp_of own) = All-mapped own (All-weaker P (λ x. stamp_of x < stamp) lower own own-at.below) in
    record {
      of_signal = wrote.of_signal;
      player = wrote.wrote.players ∙ own-at.player;
      room = omega (arith, long, room, less);
      writes = wrote.wrote.writes ∙ ap (λ (l : List Seen). l ++ written stamp op ∷ []) own-at.writes ∙ sym (map-append left_by own (e ∷ []));
      rise = subst Rises (sym (map-append stamp_of own (e ∷ []))) (rises-push (map stamp_of own) stamp own-at.rise below);
      below = All-push Q own e (All-weaker P Q up own own-at.below) (omega (arith, top));
    }
  where
    All-mapped : (own : List Write) → All (λ x. stamp_of x < stamp) own → All (λ n. n < stamp) (map stamp_of own)
    All-mapped own all = All-map (λ n. n < stamp) stamp_of own all

-- and one that has looked
pub own-found : (s : SharedSignal) (who : Who) (own : List Write) (p p' : SigPass) (seen : Seen) → IsOwnAt s who own p → HasFound s p seen p' → IsOwnAt s who own p'
own-found s who own p p' seen own-at found =
    let P : Write → Type 0 = λ x. stamp_of x ≤ pass_top p in
    let Q : Write → Type 0 = λ x. stamp_of x ≤ pass_top p' in
    let top = found.looked.top in
    let not_older = found.not_older in
    let up : (x : Write) → P x → Q x = λ x le. omega (arith, top, not_older) in
    let room = own-at.room in
    let same = found.looked.room in
    record {
      of_signal = found.of_signal;
      player = found.looked.players ∙ own-at.player;
      room = omega (arith, room, same);
      writes = found.looked.writes ∙ own-at.writes;
      rise = own-at.rise;
      below = All-weaker P Q up own own-at.below;
    }

-- the signal at an object number, as it is read there
pub read-signal : (signals : List (Option SharedSignal)) (object : ℕ) (s d : Option SharedSignal) → is_some (start_of (signal_family signals) object) ≡ true → s ≡ get_or signals object d →
    (x : SharedSignal) × (s ≡ Some x) × (slice_get signals object ≡ Some (Some x)) × (object < length signals)
read-signal signals object s d is read =
    let at = some-there signals object is in
    (at.0, read ∙ get_or_from_slice_get signals object (Some at.0) d at.1, at.1, slice_get_within signals object (Some at.0) at.1)

-- its pass is the player's own
pub own-read : (who : Who) (own : ℕ → List Write) (signals : List (Option SharedSignal)) (passes : List (Option SigPass)) (object : ℕ) (s d : Option SharedSignal) (p e : Option SigPass) →
    HaveOwn who own signals passes → is_some (start_of (signal_family signals) object) ≡ true → s ≡ get_or signals object d → p ≡ get_or passes object e → HasOwnIn who (own object) s p
own-read who own signals passes object s d p e have is read read' =
    let x = read-signal signals object s d is read in
    let q = own-there who own signals passes object x.0 have x.2 in
    own-in who own signals passes object s p have (x.2 ∙ ap (λ (o : Option SharedSignal). Some o) (sym x.1))
    (q.1 ∙ ap (λ (o : Option SigPass). Some o) (sym (read' ∙ get_or_from_slice_get passes object (Some q.0) e q.1)))

-- what became of a pass that is there
now-there : (P : SigPass → Type 0) (o : Option SigPass) → NowIs P o → (r : SigPass) × (o ≡ Some r) × P r
now-there P None is = absurd is
now-there P (Some r) is = (r, refl, is)

-- a write among all
pub wrote-among : (who : Who) (signals : List (Option SharedSignal)) (passes : List (Option SigPass)) (before : List Note) (object step stamp : ℕ) (op : SignalOp) (s d : Option SharedSignal) (p e p' : Option SigPass) (passes' : List (Option SigPass)) (after : List Note) →
    HaveOwn who (writes_at before) signals passes → is_some (start_of (signal_family signals) object) ≡ true → s ≡ get_or signals object d → p ≡ get_or passes object e →
    ((x : SharedSignal) (q : SigPass) → s ≡ Some x → p ≡ Some q → NowIs (HasWritten x q op stamp) p') → passes' ≡ set passes object p' →
    after ≡ before ++ record { signal = object; entry = entry who step op (Stamp stamp) } ∷ [] → WroteAmong signals object who step op stamp passes passes' before after
wrote-among who signals passes before object step stamp op s d p e p' passes' after have is read read' made moved noted =
    let x = read-signal signals object s d is read in
    let q = own-there who (writes_at before) signals passes object x.0 have x.2 in
    let was : p ≡ Some q.0 = read' ∙ get_or_from_slice_get passes object (Some q.0) e q.1 in
    let r = now-there (HasWritten x.0 q.0 op stamp) p' (made x.0 q.0 x.1 was) in
    record {
      used = record { signal = x.0; before = q.0; after = r.0; there = x.2; was = q.1; is = moved ∙ ap (set passes object) r.1 };
      made = r.2;
      noted = noted;
    }

-- and a look
pub found-among : (who : Who) (own : ℕ → List Write) (signals : List (Option SharedSignal)) (passes : List (Option SigPass)) (object : ℕ) (seen : Seen) (s d : Option SharedSignal) (p e p' : Option SigPass) (passes' : List (Option SigPass)) →
    HaveOwn who own signals passes → is_some (start_of (signal_family signals) object) ≡ true → s ≡ get_or signals object d → p ≡ get_or passes object e →
    ((x : SharedSignal) (q : SigPass) → s ≡ Some x → p ≡ Some q → NowIs (HasFound x q seen) p') → passes' ≡ set passes object p' → FoundAmong signals object seen passes passes'
found-among who own signals passes object seen s d p e p' passes' have is read read' made moved =
    let x = read-signal signals object s d is read in
    let q = own-there who own signals passes object x.0 have x.2 in
    let was : p ≡ Some q.0 = read' ∙ get_or_from_slice_get passes object (Some q.0) e q.1 in
    let r = now-there (HasFound x.0 q.0 seen) p' (made x.0 q.0 x.1 was) in
    record {
      used = record { signal = x.0; before = q.0; after = r.0; there = x.2; was = q.1; is = moved ∙ ap (set passes object) r.1 };
      made = r.2;
    }
