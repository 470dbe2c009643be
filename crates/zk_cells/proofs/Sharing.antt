-- The passes of the signals, put together one after another.
use Rattle.std.proofs.Common.{◌≡◌, ℕ, zero, suc, ◌+◌, ◌<◌, Some, None, Option, List, [], ◌∷◌, ◌++◌, length, map, get_or, set, refl, sym, ap, subst, ◌∙◌, arith}
use Rattle.zk_base.specs.declared.ids.Who.{Who}
use Rattle.zk_base.specs.declared.seen.Seen.{Seen}
use Rattle.zk_poll.specs.Seen.{left_by}
use Rattle.zk_signal.specs.declared.pass.SigPass.{SigPass}
use Rattle.zk_signal.specs.declared.signal.SharedSignal.{SharedSignal}
use Rattle.zk_signal.specs.Passes as shared
use Rattle.zk_cells.specs.Joined.{HasSharedIn, HaveShared}
use Rattle.zk_cells.specs.Notes.{Write}
use Rattle.zk_cells.specs.Signals.{looks_by, looks_at_number, HasOwnIn, HaveOwn}
use Rattle.zk_cells.proofs.Rejoining.{drop_first}

-- one pass was joined into another
abbrev pub IsSigJoined : Option SharedSignal → Option SigPass → Option SigPass → Option SigPass → Type 0
IsSigJoined s into other now = (ns ms : List ℕ) (xs ys fs gs : List Seen) → HasSharedIn ns xs fs s into → HasSharedIn ms ys gs s other → HasSharedIn (ns ++ ms) (xs ++ ys) (fs ++ gs) s now

-- so many were, from the first, and the others stand as they stood
abbrev pub AreSigJoined : ℕ → List (Option SharedSignal) → List (Option SigPass) → List (Option SigPass) → List (Option SigPass) → List (Option SigPass) → Type 0
AreSigJoined zero ss is0 os0 is os = (is ≡ is0) × (os ≡ os0)
AreSigJoined (suc n) (s ∷ ss) (i0 ∷ is0) (o0 ∷ os0) (i ∷ is) (o ∷ os) = IsSigJoined s i0 o0 i × AreSigJoined n ss is0 os0 is os
AreSigJoined (suc n) ss is0 os0 is os = ⊥

-- as many
pub long-shared : (ns : List ℕ) (xs fs : ℕ → List Seen) (ss : List (Option SharedSignal)) (ps : List (Option SigPass)) → HaveShared ns xs fs ss ps → length ps ≡ length ss
long-shared ns xs fs [] [] all = refl
long-shared ns xs fs [] (p ∷ ps) all = absurd all
long-shared ns xs fs (s ∷ ss) [] all = absurd all
long-shared ns xs fs (s ∷ ss) (p ∷ ps) all = ap suc (long-shared ns (λ k. xs (suc k)) (λ k. fs (suc k)) ss ps all.1)

pub still-shared : (n : ℕ) (ss : List (Option SharedSignal)) (is0 os0 is os : List (Option SigPass)) → AreSigJoined n ss is0 os0 is os → (length is ≡ length is0) × (length os ≡ length os0)
still-shared zero ss is0 os0 is os half = (ap length half.0, ap length half.1)
still-shared (suc n) [] is0 os0 is os half = absurd half
still-shared (suc n) (s ∷ ss) [] os0 is os half = absurd half
still-shared (suc n) (s ∷ ss) (i0 ∷ is0) [] is os half = absurd half
still-shared (suc n) (s ∷ ss) (i0 ∷ is0) (o0 ∷ os0) [] os half = absurd half
still-shared (suc n) (s ∷ ss) (i0 ∷ is0) (o0 ∷ os0) (i ∷ is) [] half = absurd half
still-shared (suc n) (s ∷ ss) (i0 ∷ is0) (o0 ∷ os0) (i ∷ is) (o ∷ os) half =
    let rest = still-shared n ss is0 os0 is os half.1 in (ap suc rest.0, ap suc rest.1)

-- what stands at the next place
pub next-shared : (n : ℕ) (ns ms : List ℕ) (xs ys fs gs : ℕ → List Seen) (ss : List (Option SharedSignal)) (is0 os0 is os : List (Option SigPass)) (s : Option SharedSignal) (i o : Option SigPass) → AreSigJoined n ss is0 os0 is os →
    HaveShared ns xs fs ss is0 → HaveShared ms ys gs ss os0 → n < length ss → s ≡ get_or ss n s → i ≡ get_or is n i → o ≡ get_or os n o → HasSharedIn ns (xs n) (fs n) s i × HasSharedIn ms (ys n) (gs n) s o
next-shared n ns ms xs ys fs gs [] is0 os0 is os s i o half a b within s-is i-is o-is = absurd (omega arith)
next-shared n ns ms xs ys fs gs (d ∷ ss) [] os0 is os s i o half a b within s-is i-is o-is = absurd a
next-shared n ns ms xs ys fs gs (d ∷ ss) (i0 ∷ is0) [] is os s i o half a b within s-is i-is o-is = absurd b
next-shared zero ns ms xs ys fs gs (d ∷ ss) (i0 ∷ is0) (o0 ∷ os0) is os s i o half a b within s-is i-is o-is =
    let i-now : i ≡ i0 = i-is ∙ ap (λ (l : List (Option SigPass)). get_or l 0 i) half.0 in
    let o-now : o ≡ o0 = o-is ∙ ap (λ (l : List (Option SigPass)). get_or l 0 o) half.1 in (
      subst (λ (k : Option SharedSignal). HasSharedIn ns (xs 0) (fs 0) k i) (sym s-is) (subst (λ (p : Option SigPass). HasSharedIn ns (xs 0) (fs 0) d p) (sym i-now) a.0),
      subst (λ (k : Option SharedSignal). HasSharedIn ms (ys 0) (gs 0) k o) (sym s-is) (subst (λ (p : Option SigPass). HasSharedIn ms (ys 0) (gs 0) d p) (sym o-now) b.0),
    )
next-shared (suc n) ns ms xs ys fs gs (d ∷ ss) (i0 ∷ is0) (o0 ∷ os0) [] os s i o half a b within s-is i-is o-is = absurd half
next-shared (suc n) ns ms xs ys fs gs (d ∷ ss) (i0 ∷ is0) (o0 ∷ os0) (j ∷ is) [] s i o half a b within s-is i-is o-is = absurd half
next-shared (suc n) ns ms xs ys fs gs (d ∷ ss) (i0 ∷ is0) (o0 ∷ os0) (j ∷ is) (p ∷ os) s i o half a b within s-is i-is o-is =
    next-shared n ns ms (λ k. xs (suc k)) (λ k. ys (suc k)) (λ k. fs (suc k)) (λ k. gs (suc k)) ss is0 os0 is os s i o half.1 a.1 b.1 (omega arith) s-is i-is o-is

-- one more
pub one-shared : (n : ℕ) (ss : List (Option SharedSignal)) (is0 os0 is os : List (Option SigPass)) (s : Option SharedSignal) (i o i' o' : Option SigPass) → AreSigJoined n ss is0 os0 is os → length is0 ≡ length ss →
    length os0 ≡ length ss → n < length ss → s ≡ get_or ss n s → i ≡ get_or is n i → o ≡ get_or os n o → IsSigJoined s i o i' → AreSigJoined (n + 1) ss is0 os0 (set is n i') (set os n o')
one-shared n ss is0 os0 is os s i o i' o' half il ol within s-is i-is o-is joined =
    let next : suc n ≡ n + 1 = omega arith in
    subst (λ (k : ℕ). AreSigJoined k ss is0 os0 (set is n i') (set os n o')) next (from n ss is0 os0 is os half il ol within s-is i-is o-is)
  where
    from : (n : ℕ) (ss : List (Option SharedSignal)) (is0 os0 is os : List (Option SigPass)) → AreSigJoined n ss is0 os0 is os → length is0 ≡ length ss → length os0 ≡ length ss → n < length ss →
        s ≡ get_or ss n s → i ≡ get_or is n i → o ≡ get_or os n o → AreSigJoined (suc n) ss is0 os0 (set is n i') (set os n o')
    from n [] is0 os0 is os half il ol within s-is i-is o-is = absurd (omega arith)
    from n (d ∷ ss) [] os0 is os half il ol within s-is i-is o-is = absurd (omega arith)
    from n (d ∷ ss) (i0 ∷ is0) [] is os half il ol within s-is i-is o-is = absurd (omega arith)
    from zero (d ∷ ss) (i0 ∷ is0) (o0 ∷ os0) [] os half il ol within s-is i-is o-is = let l = ap length half.0 in absurd (omega arith)
    from zero (d ∷ ss) (i0 ∷ is0) (o0 ∷ os0) (j ∷ is) [] half il ol within s-is i-is o-is = let l = ap length half.1 in absurd (omega arith)
    from zero (d ∷ ss) (i0 ∷ is0) (o0 ∷ os0) (j ∷ is) (p ∷ os) half il ol within s-is i-is o-is =
        let i-now : i ≡ i0 = i-is ∙ ap (λ (l : List (Option SigPass)). get_or l 0 i) half.0 in
        let o-now : o ≡ o0 = o-is ∙ ap (λ (l : List (Option SigPass)). get_or l 0 o) half.1 in (
          subst (λ (k : Option SharedSignal). IsSigJoined k i0 o0 i') s-is (subst (λ (q : Option SigPass). IsSigJoined s q o0 i') i-now (subst (λ (q : Option SigPass). IsSigJoined s i q i') o-now joined)),
          (ap (drop_first {A = Option SigPass}) half.0, ap (drop_first {A = Option SigPass}) half.1),
        )
    from (suc n) (d ∷ ss) (i0 ∷ is0) (o0 ∷ os0) [] os half il ol within s-is i-is o-is = absurd half
    from (suc n) (d ∷ ss) (i0 ∷ is0) (o0 ∷ os0) (j ∷ is) [] half il ol within s-is i-is o-is = absurd half
    from (suc n) (d ∷ ss) (i0 ∷ is0) (o0 ∷ os0) (j ∷ is) (p ∷ os) half il ol within s-is i-is o-is =
        (half.0, from n ss is0 os0 is os half.1 (omega arith) (omega arith) (omega arith) s-is i-is o-is)

-- all
pub all-shared : (n : ℕ) (ns ms : List ℕ) (xs ys fs gs : ℕ → List Seen) (ss : List (Option SharedSignal)) (is0 os0 is os : List (Option SigPass)) → AreSigJoined n ss is0 os0 is os → n ≡ length ss →
    HaveShared ns xs fs ss is0 → HaveShared ms ys gs ss os0 → HaveShared (ns ++ ms) (λ k. xs k ++ ys k) (λ k. fs k ++ gs k) ss is
all-shared zero ns ms xs ys fs gs [] [] [] is os half n-is a b =
    subst (λ (l : List (Option SigPass)). HaveShared (ns ++ ms) (λ k. xs k ++ ys k) (λ k. fs k ++ gs k) [] l) (sym half.0) tt
all-shared zero ns ms xs ys fs gs [] [] (o0 ∷ os0) is os half n-is a b = absurd b
all-shared zero ns ms xs ys fs gs [] (i0 ∷ is0) os0 is os half n-is a b = absurd a
all-shared zero ns ms xs ys fs gs (s ∷ ss) is0 os0 is os half n-is a b = absurd (omega arith)
all-shared (suc n) ns ms xs ys fs gs [] is0 os0 is os half n-is a b = absurd half
all-shared (suc n) ns ms xs ys fs gs (s ∷ ss) [] os0 is os half n-is a b = absurd half
all-shared (suc n) ns ms xs ys fs gs (s ∷ ss) (i0 ∷ is0) [] is os half n-is a b = absurd half
all-shared (suc n) ns ms xs ys fs gs (s ∷ ss) (i0 ∷ is0) (o0 ∷ os0) [] os half n-is a b = absurd half
all-shared (suc n) ns ms xs ys fs gs (s ∷ ss) (i0 ∷ is0) (o0 ∷ os0) (i ∷ is) [] half n-is a b = absurd half
all-shared (suc n) ns ms xs ys fs gs (s ∷ ss) (i0 ∷ is0) (o0 ∷ os0) (i ∷ is) (o ∷ os) half n-is a b = (
  half.0 ns ms (xs 0) (ys 0) (fs 0) (gs 0) a.0 b.0,
  all-shared n ns ms (λ k. xs (suc k)) (λ k. ys (suc k)) (λ k. fs (suc k)) (λ k. gs (suc k)) ss is0 os0 is os half.1 (omega arith) a.1 b.1,
)

-- the same, of what was written and found under other names
pub shared-same : (ns : List ℕ) (xs ys fs gs : ℕ → List Seen) (ss : List (Option SharedSignal)) (ps : List (Option SigPass)) → ((k : ℕ) → xs k ≡ ys k) → ((k : ℕ) → fs k ≡ gs k) →
    HaveShared ns xs fs ss ps → HaveShared ns ys gs ss ps
shared-same ns xs ys fs gs [] [] a f all = tt
shared-same ns xs ys fs gs [] (p ∷ ps) a f all = absurd all
shared-same ns xs ys fs gs (s ∷ ss) [] a f all = absurd all
shared-same ns xs ys fs gs (s ∷ ss) (p ∷ ps) a f all = (
  subst (λ (l : List Seen). HasSharedIn ns (ys 0) l s p) (f 0) (subst (λ (l : List Seen). HasSharedIn ns l (fs 0) s p) (a 0) all.0),
  shared-same ns (λ k. xs (suc k)) (λ k. ys (suc k)) (λ k. fs (suc k)) (λ k. gs (suc k)) ss ps (λ k. a (suc k)) (λ k. f (suc k)) all.1,
)

-- a caller's own passes are those of its player
own-shared-one : (who : Who) (own : List Write) (s : Option SharedSignal) (p : Option SigPass) → HasOwnIn who own s p → HasSharedIn (who.number ∷ []) (map left_by own) (looks_by p) s p
own-shared-one who own None None has = tt
own-shared-one who own None (Some p) has = absurd has
own-shared-one who own (Some s) None has = absurd has
own-shared-one who own (Some s) (Some p) has = record { of_signal = has.of_signal; players = has.player; writes = has.writes; looks = refl }

pub own-shared : (who : Who) (own : ℕ → List Write) (ss : List (Option SharedSignal)) (ps : List (Option SigPass)) → HaveOwn who own ss ps →
    HaveShared (who.number ∷ []) (λ k. map left_by (own k)) (looks_at_number ps) ss ps
own-shared who own [] [] have = tt
own-shared who own [] (p ∷ ps) have = absurd have
own-shared who own (s ∷ ss) [] have = absurd have
own-shared who own (s ∷ ss) (p ∷ ps) have = (own-shared-one who (own 0) s p have.0, own-shared who (λ k. own (suc k)) ss ps have.1)

-- where there is no signal there is no pass
pub none-joined : (into other : Option SigPass) → IsSigJoined None into other into
none-joined None other ns ms xs ys fs gs a b = tt
none-joined (Some p) other ns ms xs ys fs gs a b = absurd a

-- where there is one the pass stands for all that both stood for
pub some-joined : (s : SharedSignal) (p q r : SigPass) → shared.IsPassOf s r → shared.pass_players r ≡ shared.pass_players p ++ shared.pass_players q → shared.pass_writes r ≡ shared.pass_writes p ++ shared.pass_writes q →
    shared.pass_looks r ≡ shared.pass_looks p ++ shared.pass_looks q → IsSigJoined (Some s) (Some p) (Some q) (Some r)
some-joined s p q r of_signal players writes looks ns ms xs ys fs gs a b = record {
  of_signal = of_signal;
  players = players ∙ ap (λ (l : List ℕ). l ++ shared.pass_players q) a.players ∙ ap (λ (l : List ℕ). ns ++ l) b.players;
  writes = writes ∙ ap (λ (l : List Seen). l ++ shared.pass_writes q) a.writes ∙ ap (λ (l : List Seen). xs ++ l) b.writes;
  looks = looks ∙ ap (λ (l : List Seen). l ++ shared.pass_looks q) a.looks ∙ ap (λ (l : List Seen). fs ++ l) b.looks;
}
