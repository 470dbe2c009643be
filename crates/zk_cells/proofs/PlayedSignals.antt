-- The signals of a kernel, closed and played one after another.
use Rattle.std.proofs.Common.{◌≡◌, ℕ, zero, suc, ◌+◌, ◌<◌, Option, List, [], ◌∷◌, ◌++◌, length, map, get_or, set, All, refl, sym, ap, subst, ◌∙◌, arith}
use Rattle.std.proofs.lemmas.List.Elements.{All-head, All-tail}
use Rattle.zk_base.specs.RecordedView.{RecordedView}
use Rattle.zk_base.specs.declared.seen.Seen.{Seen}
use Rattle.zk_model_wait.specs.Signal.{Signal}
use Rattle.zk_model_wait.specs.declared.signal.SignalOp.{SignalOp}
use Rattle.zk_model_wait.specs.declared.signal.SignalReply.{SignalReply}
use Rattle.zk_poll.specs.Seen.{left_by}
use Rattle.zk_signal.specs.declared.pass.SigPass.{SigPass}
use Rattle.zk_signal.specs.declared.signal.SharedSignal.{SharedSignal}
use Rattle.zk_cells.specs.Closed.{IsPlayedIn, ArePlayed}
use Rattle.zk_cells.specs.Joined.{HasSharedIn, HaveShared}
use Rattle.zk_cells.specs.Kernels.{IsSharedBy}
use Rattle.zk_cells.specs.Notes.{Write}
use Rattle.zk_cells.proofs.Rejoining.{drop_first}

-- a signal as a contract sees it
abbrev pub Played : Type 0
Played = RecordedView Signal SignalOp SignalReply

-- what became of a signal and its pass, whatever the pass stands for
abbrev pub IsPlayedOut : (ℕ → List Write) → ℕ → Option SharedSignal → Option SigPass → Option Played → Type 0
IsPlayedOut own object s p x = (ns : List ℕ) (found : List Seen) → HasSharedIn ns (map left_by (own object)) found s p → IsPlayedIn (own object) found s x

-- so many were, from the first, and the others stand as they stood
abbrev pub PlayedSoFar : (ℕ → List Write) → ℕ → List (Option SharedSignal) → List (Option SigPass) → List (Option SharedSignal) → List (Option SigPass) → List (Option Played) → Type 0
PlayedSoFar own zero ss0 ps0 ss ps xs = (ss ≡ ss0) × (ps ≡ ps0) × (xs ≡ [])
PlayedSoFar own (suc n) (s0 ∷ ss0) (p0 ∷ ps0) (s ∷ ss) (p ∷ ps) (x ∷ xs) = IsPlayedOut own 0 s0 p0 x × PlayedSoFar (λ k. own (suc k)) n ss0 ps0 ss ps xs
PlayedSoFar own (suc n) ss0 ps0 ss ps xs = ⊥

pub so-long : (own : ℕ → List Write) (n : ℕ) (ss0 : List (Option SharedSignal)) (ps0 : List (Option SigPass)) (ss : List (Option SharedSignal)) (ps : List (Option SigPass)) (xs : List (Option Played)) → PlayedSoFar own n ss0 ps0 ss ps xs →
    (length ss ≡ length ss0) × (length ps ≡ length ps0)
so-long own zero ss0 ps0 ss ps xs so = (ap length so.0, ap length so.1)
so-long own (suc n) [] ps0 ss ps xs so = absurd so
so-long own (suc n) (s0 ∷ ss0) [] ss ps xs so = absurd so
so-long own (suc n) (s0 ∷ ss0) (p0 ∷ ps0) [] ps xs so = absurd so
so-long own (suc n) (s0 ∷ ss0) (p0 ∷ ps0) (s ∷ ss) [] xs so = absurd so
so-long own (suc n) (s0 ∷ ss0) (p0 ∷ ps0) (s ∷ ss) (p ∷ ps) [] so = absurd so
so-long own (suc n) (s0 ∷ ss0) (p0 ∷ ps0) (s ∷ ss) (p ∷ ps) (x ∷ xs) so =
    let rest = so-long (λ k. own (suc k)) n ss0 ps0 ss ps xs so.1 in (ap suc rest.0, ap suc rest.1)

-- what stands at the next place
pub next-played : (own : ℕ → List Write) (n many : ℕ) (ns : List ℕ) (left found : ℕ → List Seen) (ss0 : List (Option SharedSignal)) (ps0 : List (Option SigPass)) (ss : List (Option SharedSignal)) (ps : List (Option SigPass)) (xs : List (Option Played)) (s : Option SharedSignal) (p : Option SigPass) →
    PlayedSoFar own n ss0 ps0 ss ps xs → HaveShared ns left found ss0 ps0 → All (IsSharedBy many) ss0 → n < length ss0 → s ≡ get_or ss n s → p ≡ get_or ps n p → HasSharedIn ns (left n) (found n) s p × IsSharedBy many s
next-played own n many ns left found [] ps0 ss ps xs s p so a w within s-is p-is = absurd (omega arith)
next-played own n many ns left found (s0 ∷ ss0) [] ss ps xs s p so a w within s-is p-is = absurd a
next-played own zero many ns left found (s0 ∷ ss0) (p0 ∷ ps0) ss ps xs s p so a w within s-is p-is =
    let W : Option SharedSignal → Type 0 = IsSharedBy many in
    let s-now : s ≡ s0 = s-is ∙ ap (λ (l : List (Option SharedSignal)). get_or l 0 s) so.0 in
    let p-now : p ≡ p0 = p-is ∙ ap (λ (l : List (Option SigPass)). get_or l 0 p) so.1 in
    (subst (λ (k : Option SharedSignal). HasSharedIn ns (left 0) (found 0) k p) (sym s-now) (subst (λ (q : Option SigPass). HasSharedIn ns (left 0) (found 0) s0 q) (sym p-now) a.0), subst W (sym s-now) (All-head W s0 ss0 w))
next-played own (suc n) many ns left found (s0 ∷ ss0) (p0 ∷ ps0) [] ps xs s p so a w within s-is p-is = absurd so
next-played own (suc n) many ns left found (s0 ∷ ss0) (p0 ∷ ps0) (d ∷ ss) [] xs s p so a w within s-is p-is = absurd so
next-played own (suc n) many ns left found (s0 ∷ ss0) (p0 ∷ ps0) (d ∷ ss) (q ∷ ps) [] s p so a w within s-is p-is = absurd so
next-played own (suc n) many ns left found (s0 ∷ ss0) (p0 ∷ ps0) (d ∷ ss) (q ∷ ps) (x ∷ xs) s p so a w within s-is p-is =
    let W : Option SharedSignal → Type 0 = IsSharedBy many in
    next-played (λ k. own (suc k)) n many ns (λ k. left (suc k)) (λ k. found (suc k)) ss0 ps0 ss ps xs s p so.1 a.1 (All-tail W s0 ss0 w) (omega arith) s-is p-is

-- one more
pub one-played : (own : ℕ → List Write) (n : ℕ) (ss0 : List (Option SharedSignal)) (ps0 : List (Option SigPass)) (ss : List (Option SharedSignal)) (ps : List (Option SigPass)) (xs : List (Option Played)) (s s' : Option SharedSignal) (p p' : Option SigPass) (x : Option Played) →
    PlayedSoFar own n ss0 ps0 ss ps xs → length ps0 ≡ length ss0 → n < length ss0 → s ≡ get_or ss n s → p ≡ get_or ps n p → IsPlayedOut own n s p x → PlayedSoFar own (n + 1) ss0 ps0 (set ss n s') (set ps n p') (xs ++ x ∷ [])
one-played own n ss0 ps0 ss ps xs s s' p p' x so pl within s-is p-is played =
    let next : suc n ≡ n + 1 = omega arith in
    subst (λ (k : ℕ). PlayedSoFar own k ss0 ps0 (set ss n s') (set ps n p') (xs ++ x ∷ [])) next (from own n ss0 ps0 ss ps xs so pl within s-is p-is played)
  where
    from : (own : ℕ → List Write) (n : ℕ) (ss0 : List (Option SharedSignal)) (ps0 : List (Option SigPass)) (ss : List (Option SharedSignal)) (ps : List (Option SigPass)) (xs : List (Option Played)) →
        PlayedSoFar own n ss0 ps0 ss ps xs → length ps0 ≡ length ss0 → n < length ss0 → s ≡ get_or ss n s → p ≡ get_or ps n p → IsPlayedOut own n s p x → PlayedSoFar own (suc n) ss0 ps0 (set ss n s') (set ps n p') (xs ++ x ∷ [])
    from own n [] ps0 ss ps xs so pl within s-is p-is played = absurd (omega arith)
    from own n (s0 ∷ ss0) [] ss ps xs so pl within s-is p-is played = absurd (omega arith)
    from own zero (s0 ∷ ss0) (p0 ∷ ps0) [] ps xs so pl within s-is p-is played = let l = ap length so.0 in absurd (omega arith)
    from own zero (s0 ∷ ss0) (p0 ∷ ps0) (d ∷ ss) [] xs so pl within s-is p-is played = let l = ap length so.1 in absurd (omega arith)
    from own zero (s0 ∷ ss0) (p0 ∷ ps0) (d ∷ ss) (q ∷ ps) (y ∷ xs) so pl within s-is p-is played = let l = ap length so.2 in absurd (omega arith)
    from own zero (s0 ∷ ss0) (p0 ∷ ps0) (d ∷ ss) (q ∷ ps) [] so pl within s-is p-is played =
        let s-now : s ≡ s0 = s-is ∙ ap (λ (l : List (Option SharedSignal)). get_or l 0 s) so.0 in
        let p-now : p ≡ p0 = p-is ∙ ap (λ (l : List (Option SigPass)). get_or l 0 p) so.1 in (
          subst (λ (k : Option SharedSignal). IsPlayedOut own 0 k p0 x) s-now (subst (λ (r : Option SigPass). IsPlayedOut own 0 s r x) p-now played),
          (ap (drop_first {A = Option SharedSignal}) so.0, ap (drop_first {A = Option SigPass}) so.1, refl),
        )
    from own (suc n) (s0 ∷ ss0) (p0 ∷ ps0) [] ps xs so pl within s-is p-is played = absurd so
    from own (suc n) (s0 ∷ ss0) (p0 ∷ ps0) (d ∷ ss) [] xs so pl within s-is p-is played = absurd so
    from own (suc n) (s0 ∷ ss0) (p0 ∷ ps0) (d ∷ ss) (q ∷ ps) [] so pl within s-is p-is played = absurd so
    from own (suc n) (s0 ∷ ss0) (p0 ∷ ps0) (d ∷ ss) (q ∷ ps) (y ∷ xs) so pl within s-is p-is played =
        (so.0, from (λ k. own (suc k)) n ss0 ps0 ss ps xs so.1 (omega arith) (omega arith) s-is p-is played)

-- all
pub all-played : (own : ℕ → List Write) (n : ℕ) (ns : List ℕ) (found : ℕ → List Seen) (ss0 : List (Option SharedSignal)) (ps0 : List (Option SigPass)) (ss : List (Option SharedSignal)) (ps : List (Option SigPass)) (xs : List (Option Played)) →
    PlayedSoFar own n ss0 ps0 ss ps xs → n ≡ length ss0 → HaveShared ns (λ k. map left_by (own k)) found ss0 ps0 → ArePlayed own found ss0 xs
all-played own zero ns found [] [] ss ps xs so is a = subst (λ (l : List (Option Played)). ArePlayed own found [] l) (sym so.2) tt
all-played own zero ns found [] (p ∷ ps0) ss ps xs so is a = absurd a
all-played own zero ns found (s ∷ ss0) ps0 ss ps xs so is a = absurd (omega arith)
all-played own (suc n) ns found [] ps0 ss ps xs so is a = absurd so
all-played own (suc n) ns found (s0 ∷ ss0) [] ss ps xs so is a = absurd so
all-played own (suc n) ns found (s0 ∷ ss0) (p0 ∷ ps0) [] ps xs so is a = absurd so
all-played own (suc n) ns found (s0 ∷ ss0) (p0 ∷ ps0) (d ∷ ss) [] xs so is a = absurd so
all-played own (suc n) ns found (s0 ∷ ss0) (p0 ∷ ps0) (d ∷ ss) (q ∷ ps) [] so is a = absurd so
all-played own (suc n) ns found (s0 ∷ ss0) (p0 ∷ ps0) (d ∷ ss) (q ∷ ps) (x ∷ xs) so is a =
    (so.0 ns (found 0) a.0, all-played (λ k. own (suc k)) n ns (λ k. found (suc k)) ss0 ps0 ss ps xs so.1 (omega arith) a.1)
