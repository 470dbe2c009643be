-- The passes of one kind, put together one after another.
use Rattle.std.proofs.Common.{◌≡◌, ℕ, zero, suc, ◌+◌, ◌<◌, Option, List, [], ◌∷◌, ◌++◌, length, get_or, set, refl, sym, ap, subst, ◌∙◌, arith}
use Rattle.zk_base.specs.declared.ids.Who.{Who}
use Rattle.zk_base.specs.declared.ids.Entry.{Entry}
use Rattle.zk_turn.specs.declared.pass.Pass.{Pass}
use Rattle.zk_turn.specs.declared.cell.Cell.{Cell}
use Rattle.zk_turn.specs.Players.{GoesOn}
use Rattle.zk_visit.specs.Seats.{seen_at}
use Rattle.zk_cells.specs.Rows.{seen_all}
use Rattle.zk_cells.specs.Joined.{StandsIn, AllStand, EachGoesOn}

abbrev pub drop_first : {A : Type 0} → List A → List A
drop_first [] = []
drop_first (x ∷ xs) = xs

module _ {S O R T : Type 0} (legal : T → List (Entry O R) → Type 0) (start : S → T) where
  -- one pass was joined into another
  pub record IsJoined (c : Option (Cell S O R T)) (into other now : Option (Pass S O R T)) : Type 0 where
    pub players : (ws us : List Who) → StandsIn legal start ws c into → StandsIn legal start us c other → StandsIn legal start (ws ++ us) c now
    pub first : (ws : List Who) → StandsIn legal start ws c into → GoesOn ws (seen_at into) (seen_at now)
    pub second : (us : List Who) → StandsIn legal start us c other → GoesOn us (seen_at other) (seen_at now)

  -- so many were, from the first, and the others stand as they stood
  abbrev pub AreJoined : ℕ → List (Option (Cell S O R T)) → List (Option (Pass S O R T)) → List (Option (Pass S O R T)) → List (Option (Pass S O R T)) → List (Option (Pass S O R T)) → Type 0
  AreJoined zero cs is0 os0 is os = (is ≡ is0) × (os ≡ os0)
  AreJoined (suc n) (c ∷ cs) (i0 ∷ is0) (o0 ∷ os0) (i ∷ is) (o ∷ os) = IsJoined c i0 o0 i × AreJoined n cs is0 os0 is os
  AreJoined (suc n) cs is0 os0 is os = ⊥

  -- as many
  pub long : (ws : List Who) (cs : List (Option (Cell S O R T))) (ps : List (Option (Pass S O R T))) → AllStand legal start ws cs ps → length ps ≡ length cs
  long ws [] [] all = refl
  long ws [] (p ∷ ps) all = absurd all
  long ws (c ∷ cs) [] all = absurd all
  long ws (c ∷ cs) (p ∷ ps) all = ap suc (long ws cs ps all.1)

  pub still-long : (n : ℕ) (cs : List (Option (Cell S O R T))) (is0 os0 is os : List (Option (Pass S O R T))) → AreJoined n cs is0 os0 is os → (length is ≡ length is0) × (length os ≡ length os0)
  still-long zero cs is0 os0 is os half = (ap length half.0, ap length half.1)
  still-long (suc n) [] is0 os0 is os half = absurd half
  still-long (suc n) (c ∷ cs) [] os0 is os half = absurd half
  still-long (suc n) (c ∷ cs) (i0 ∷ is0) [] is os half = absurd half
  still-long (suc n) (c ∷ cs) (i0 ∷ is0) (o0 ∷ os0) [] os half = absurd half
  still-long (suc n) (c ∷ cs) (i0 ∷ is0) (o0 ∷ os0) (i ∷ is) [] half = absurd half
  still-long (suc n) (c ∷ cs) (i0 ∷ is0) (o0 ∷ os0) (i ∷ is) (o ∷ os) half = let rest = still-long n cs is0 os0 is os half.1 in (ap suc rest.0, ap suc rest.1)

  -- what stands at the next place
  pub stands-next : (n : ℕ) (ws us : List Who) (cs : List (Option (Cell S O R T))) (is0 os0 is os : List (Option (Pass S O R T))) (c : Option (Cell S O R T)) (i o : Option (Pass S O R T)) → AreJoined n cs is0 os0 is os →
      AllStand legal start ws cs is0 → AllStand legal start us cs os0 → n < length cs → c ≡ get_or cs n c → i ≡ get_or is n i → o ≡ get_or os n o → StandsIn legal start ws c i × StandsIn legal start us c o
  stands-next n ws us [] is0 os0 is os c i o half a b within c-is i-is o-is = absurd (omega arith)
  stands-next n ws us (d ∷ cs) [] os0 is os c i o half a b within c-is i-is o-is = absurd a
  stands-next n ws us (d ∷ cs) (i0 ∷ is0) [] is os c i o half a b within c-is i-is o-is = absurd b
  stands-next zero ws us (d ∷ cs) (i0 ∷ is0) (o0 ∷ os0) is os c i o half a b within c-is i-is o-is =
      let i-now : i ≡ i0 = i-is ∙ ap (λ (l : List (Option (Pass S O R T))). get_or l 0 i) half.0 in
      let o-now : o ≡ o0 = o-is ∙ ap (λ (l : List (Option (Pass S O R T))). get_or l 0 o) half.1 in (
        subst (λ (k : Option (Cell S O R T)). StandsIn legal start ws k i) (sym c-is) (subst (λ (p : Option (Pass S O R T)). StandsIn legal start ws d p) (sym i-now) a.0),
        subst (λ (k : Option (Cell S O R T)). StandsIn legal start us k o) (sym c-is) (subst (λ (p : Option (Pass S O R T)). StandsIn legal start us d p) (sym o-now) b.0),
      )
  stands-next (suc n) ws us (d ∷ cs) (i0 ∷ is0) (o0 ∷ os0) [] os c i o half a b within c-is i-is o-is = absurd half
  stands-next (suc n) ws us (d ∷ cs) (i0 ∷ is0) (o0 ∷ os0) (j ∷ is) [] c i o half a b within c-is i-is o-is = absurd half
  stands-next (suc n) ws us (d ∷ cs) (i0 ∷ is0) (o0 ∷ os0) (j ∷ is) (p ∷ os) c i o half a b within c-is i-is o-is =
      stands-next n ws us cs is0 os0 is os c i o half.1 a.1 b.1 (omega arith) c-is i-is o-is

  -- one more
  pub one-joined : (n : ℕ) (cs : List (Option (Cell S O R T))) (is0 os0 is os : List (Option (Pass S O R T))) (c : Option (Cell S O R T)) (i o i' o' : Option (Pass S O R T)) → AreJoined n cs is0 os0 is os →
      length is0 ≡ length cs → length os0 ≡ length cs → n < length cs → c ≡ get_or cs n c → i ≡ get_or is n i → o ≡ get_or os n o → IsJoined c i o i' → AreJoined (n + 1) cs is0 os0 (set is n i') (set os n o')
  one-joined n cs is0 os0 is os c i o i' o' half il ol within c-is i-is o-is joined =
      let next : suc n ≡ n + 1 = omega arith in
      subst (λ (k : ℕ). AreJoined k cs is0 os0 (set is n i') (set os n o')) next (from n cs is0 os0 is os half il ol within c-is i-is o-is)
    where
      from : (n : ℕ) (cs : List (Option (Cell S O R T))) (is0 os0 is os : List (Option (Pass S O R T))) → AreJoined n cs is0 os0 is os → length is0 ≡ length cs → length os0 ≡ length cs → n < length cs →
          c ≡ get_or cs n c → i ≡ get_or is n i → o ≡ get_or os n o → AreJoined (suc n) cs is0 os0 (set is n i') (set os n o')
      from n [] is0 os0 is os half il ol within c-is i-is o-is = absurd (omega arith)
      from n (d ∷ cs) [] os0 is os half il ol within c-is i-is o-is = absurd (omega arith)
      from n (d ∷ cs) (i0 ∷ is0) [] is os half il ol within c-is i-is o-is = absurd (omega arith)
      from zero (d ∷ cs) (i0 ∷ is0) (o0 ∷ os0) [] os half il ol within c-is i-is o-is = let l = ap length half.0 in absurd (omega arith)
      from zero (d ∷ cs) (i0 ∷ is0) (o0 ∷ os0) (j ∷ is) [] half il ol within c-is i-is o-is = let l = ap length half.1 in absurd (omega arith)
      from zero (d ∷ cs) (i0 ∷ is0) (o0 ∷ os0) (j ∷ is) (p ∷ os) half il ol within c-is i-is o-is =
          let i-now : i ≡ i0 = i-is ∙ ap (λ (l : List (Option (Pass S O R T))). get_or l 0 i) half.0 in
          let o-now : o ≡ o0 = o-is ∙ ap (λ (l : List (Option (Pass S O R T))). get_or l 0 o) half.1 in (
            subst (λ (k : Option (Cell S O R T)). IsJoined k i0 o0 i') c-is (subst (λ (q : Option (Pass S O R T)). IsJoined c q o0 i') i-now (subst (λ (q : Option (Pass S O R T)). IsJoined c i q i') o-now joined)),
            (ap (drop_first {A = Option (Pass S O R T)}) half.0, ap (drop_first {A = Option (Pass S O R T)}) half.1),
          )
      from (suc n) (d ∷ cs) (i0 ∷ is0) (o0 ∷ os0) [] os half il ol within c-is i-is o-is = absurd half
      from (suc n) (d ∷ cs) (i0 ∷ is0) (o0 ∷ os0) (j ∷ is) [] half il ol within c-is i-is o-is = absurd half
      from (suc n) (d ∷ cs) (i0 ∷ is0) (o0 ∷ os0) (j ∷ is) (p ∷ os) half il ol within c-is i-is o-is =
          (half.0, from n cs is0 os0 is os half.1 (omega arith) (omega arith) (omega arith) c-is i-is o-is)

  -- all
  pub all-stand : (n : ℕ) (ws us : List Who) (cs : List (Option (Cell S O R T))) (is0 os0 is os : List (Option (Pass S O R T))) → AreJoined n cs is0 os0 is os → n ≡ length cs → AllStand legal start ws cs is0 → AllStand legal start us cs os0 →
      AllStand legal start (ws ++ us) cs is × EachGoesOn ws (seen_all is0) (seen_all is) × EachGoesOn us (seen_all os0) (seen_all is)
  all-stand zero ws us [] [] [] is os half n-is a b = subst (λ (l : List (Option (Pass S O R T))). AllStand legal start (ws ++ us) [] l × EachGoesOn ws [] (seen_all l) × EachGoesOn us [] (seen_all l)) (sym half.0) (tt, tt, tt)
  all-stand zero ws us [] [] (o0 ∷ os0) is os half n-is a b = absurd b
  all-stand zero ws us [] (i0 ∷ is0) os0 is os half n-is a b = absurd a
  all-stand zero ws us (c ∷ cs) is0 os0 is os half n-is a b = absurd (omega arith)
  all-stand (suc n) ws us [] is0 os0 is os half n-is a b = absurd half
  all-stand (suc n) ws us (c ∷ cs) [] os0 is os half n-is a b = absurd half
  all-stand (suc n) ws us (c ∷ cs) (i0 ∷ is0) [] is os half n-is a b = absurd half
  all-stand (suc n) ws us (c ∷ cs) (i0 ∷ is0) (o0 ∷ os0) [] os half n-is a b = absurd half
  all-stand (suc n) ws us (c ∷ cs) (i0 ∷ is0) (o0 ∷ os0) (i ∷ is) [] half n-is a b = absurd half
  all-stand (suc n) ws us (c ∷ cs) (i0 ∷ is0) (o0 ∷ os0) (i ∷ is) (o ∷ os) half n-is a b =
      let rest = all-stand n ws us cs is0 os0 is os half.1 (omega arith) a.1 b.1 in
      ((half.0.players ws us a.0 b.0, rest.0), (half.0.first ws a.0, rest.1), (half.0.second us b.0, rest.2))
