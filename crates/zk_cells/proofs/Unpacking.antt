-- Services that come out of their cells one after another.
use Rattle.std.proofs.Common.{◌≡◌, ℕ, zero, suc, ◌+◌, ◌*◌, ◌<◌, ◌≤◌, true, Some, None, Option, List, [], ◌∷◌, ◌++◌, length, get_or, set, All, refl, sym, ap, subst, ◌∙◌, arith}
use Rattle.std.proofs.lemmas.List.Elements.{All-nil, All-cons, All-head, All-tail}
use Rattle.zk_base.specs.declared.ids.Who.{Who}
use Rattle.zk_base.specs.declared.ids.Entry.{Entry}
use Rattle.zk_turn.specs.declared.pass.Pass.{Pass}
use Rattle.zk_turn.specs.declared.cell.Cell.{Cell}
use Rattle.zk_cells.specs.Joined.{StandsFor, StandsIn, AllStand}
use Rattle.zk_services.specs.Objects.{starts_of, histories_of}
use Rattle.zk_base.specs.Legal.{Machine, IsLegal}
use Rattle.zk_turn.specs.Passes.{players_in}
use Rattle.zk_turn.specs.Players.{is_by, room_of_a_pass}
use Rattle.zk_world.specs.Legal.{EachLegal}
use Rattle.zk_cells.specs.Closed.{IsClosed, AreClosed, players_at, AreBy}
use Rattle.zk_cells.specs.Kernels.{HasWhole}
use Rattle.zk_visit.specs.Seats.{seen_at}
use Rattle.zk_cells.specs.Rows.{seen_all, starts_in, family}
use Rattle.zk_cells.proofs.Rejoining.{drop_first}

module _ {S O R T : Type 0} (legal : T → List (Entry O R) → Type 0) (start : S → T) (history : S → List (Entry O R)) where
  -- so many came out, from the first, and the others stand as they stood
  abbrev pub CameOutSoFar : ℕ → List (Option (Cell S O R T)) → List (Option (Pass S O R T)) → List (Option (Cell S O R T)) → List (Option (Pass S O R T)) → List (Option S) → Type 0
  CameOutSoFar zero cs0 ps0 cs ps xs = (cs ≡ cs0) × (ps ≡ ps0) × (xs ≡ [])
  CameOutSoFar (suc n) (c0 ∷ cs0) (p0 ∷ ps0) (c ∷ cs) (p ∷ ps) (x ∷ xs) = IsClosed legal start history c0 p0 x × CameOutSoFar n cs0 ps0 cs ps xs
  CameOutSoFar (suc n) cs0 ps0 cs ps xs = ⊥

  pub so-long : (n : ℕ) (cs0 : List (Option (Cell S O R T))) (ps0 : List (Option (Pass S O R T))) (cs : List (Option (Cell S O R T))) (ps : List (Option (Pass S O R T))) (xs : List (Option S)) → CameOutSoFar n cs0 ps0 cs ps xs →
      (length cs ≡ length cs0) × (length ps ≡ length ps0)
  so-long zero cs0 ps0 cs ps xs so = (ap length so.0, ap length so.1)
  so-long (suc n) [] ps0 cs ps xs so = absurd so
  so-long (suc n) (c0 ∷ cs0) [] cs ps xs so = absurd so
  so-long (suc n) (c0 ∷ cs0) (p0 ∷ ps0) [] ps xs so = absurd so
  so-long (suc n) (c0 ∷ cs0) (p0 ∷ ps0) (c ∷ cs) [] xs so = absurd so
  so-long (suc n) (c0 ∷ cs0) (p0 ∷ ps0) (c ∷ cs) (p ∷ ps) [] so = absurd so
  so-long (suc n) (c0 ∷ cs0) (p0 ∷ ps0) (c ∷ cs) (p ∷ ps) (x ∷ xs) so = let rest = so-long n cs0 ps0 cs ps xs so.1 in (ap suc rest.0, ap suc rest.1)

  pub long : (ws : List Who) (cs : List (Option (Cell S O R T))) (ps : List (Option (Pass S O R T))) → AllStand legal start ws cs ps → length ps ≡ length cs
  long ws [] [] all = refl
  long ws [] (p ∷ ps) all = absurd all
  long ws (c ∷ cs) [] all = absurd all
  long ws (c ∷ cs) (p ∷ ps) all = ap suc (long ws cs ps all.1)

  -- what stands at the next place
  pub next-stands : (n : ℕ) (ws : List Who) (cs0 : List (Option (Cell S O R T))) (ps0 : List (Option (Pass S O R T))) (cs : List (Option (Cell S O R T))) (ps : List (Option (Pass S O R T))) (xs : List (Option S)) (c : Option (Cell S O R T)) (p : Option (Pass S O R T)) →
      CameOutSoFar n cs0 ps0 cs ps xs → AllStand legal start ws cs0 ps0 → All (HasWhole (length ws)) cs0 → n < length cs0 → c ≡ get_or cs n c → p ≡ get_or ps n p → StandsIn legal start ws c p × HasWhole (length ws) c
  next-stands n ws [] ps0 cs ps xs c p so a w within c-is p-is = absurd (omega arith)
  next-stands n ws (c0 ∷ cs0) [] cs ps xs c p so a w within c-is p-is = absurd a
  next-stands zero ws (c0 ∷ cs0) (p0 ∷ ps0) cs ps xs c p so a w within c-is p-is =
      let W : Option (Cell S O R T) → Type 0 = HasWhole (length ws) in
      let c-now : c ≡ c0 = c-is ∙ ap (λ (l : List (Option (Cell S O R T))). get_or l 0 c) so.0 in
      let p-now : p ≡ p0 = p-is ∙ ap (λ (l : List (Option (Pass S O R T))). get_or l 0 p) so.1 in
      (subst (λ (k : Option (Cell S O R T)). StandsIn legal start ws k p) (sym c-now) (subst (λ (q : Option (Pass S O R T)). StandsIn legal start ws c0 q) (sym p-now) a.0), subst W (sym c-now) (All-head W c0 cs0 w))
  next-stands (suc n) ws (c0 ∷ cs0) (p0 ∷ ps0) [] ps xs c p so a w within c-is p-is = absurd so
  next-stands (suc n) ws (c0 ∷ cs0) (p0 ∷ ps0) (d ∷ cs) [] xs c p so a w within c-is p-is = absurd so
  next-stands (suc n) ws (c0 ∷ cs0) (p0 ∷ ps0) (d ∷ cs) (q ∷ ps) [] c p so a w within c-is p-is = absurd so
  next-stands (suc n) ws (c0 ∷ cs0) (p0 ∷ ps0) (d ∷ cs) (q ∷ ps) (x ∷ xs) c p so a w within c-is p-is =
      let W : Option (Cell S O R T) → Type 0 = HasWhole (length ws) in
      next-stands n ws cs0 ps0 cs ps xs c p so.1 a.1 (All-tail W c0 cs0 w) (omega arith) c-is p-is

  -- one more
  pub one-out : (n : ℕ) (cs0 : List (Option (Cell S O R T))) (ps0 : List (Option (Pass S O R T))) (cs : List (Option (Cell S O R T))) (ps : List (Option (Pass S O R T))) (xs : List (Option S)) (c c' : Option (Cell S O R T)) (p p' : Option (Pass S O R T)) (x : Option S) →
      CameOutSoFar n cs0 ps0 cs ps xs → length ps0 ≡ length cs0 → n < length cs0 → c ≡ get_or cs n c → p ≡ get_or ps n p → IsClosed legal start history c p x → CameOutSoFar (n + 1) cs0 ps0 (set cs n c') (set ps n p') (xs ++ x ∷ [])
  one-out n cs0 ps0 cs ps xs c c' p p' x so pl within c-is p-is closed =
      let next : suc n ≡ n + 1 = omega arith in
      subst (λ (k : ℕ). CameOutSoFar k cs0 ps0 (set cs n c') (set ps n p') (xs ++ x ∷ [])) next (from n cs0 ps0 cs ps xs so pl within c-is p-is)
    where
      from : (n : ℕ) (cs0 : List (Option (Cell S O R T))) (ps0 : List (Option (Pass S O R T))) (cs : List (Option (Cell S O R T))) (ps : List (Option (Pass S O R T))) (xs : List (Option S)) →
          CameOutSoFar n cs0 ps0 cs ps xs → length ps0 ≡ length cs0 → n < length cs0 → c ≡ get_or cs n c → p ≡ get_or ps n p → CameOutSoFar (suc n) cs0 ps0 (set cs n c') (set ps n p') (xs ++ x ∷ [])
      from n [] ps0 cs ps xs so pl within c-is p-is = absurd (omega arith)
      from n (c0 ∷ cs0) [] cs ps xs so pl within c-is p-is = absurd (omega arith)
      from zero (c0 ∷ cs0) (p0 ∷ ps0) [] ps xs so pl within c-is p-is = let l = ap length so.0 in absurd (omega arith)
      from zero (c0 ∷ cs0) (p0 ∷ ps0) (d ∷ cs) [] xs so pl within c-is p-is = let l = ap length so.1 in absurd (omega arith)
      from zero (c0 ∷ cs0) (p0 ∷ ps0) (d ∷ cs) (q ∷ ps) (y ∷ xs) so pl within c-is p-is = let l = ap length so.2 in absurd (omega arith)
      from zero (c0 ∷ cs0) (p0 ∷ ps0) (d ∷ cs) (q ∷ ps) [] so pl within c-is p-is =
          let c-now : c ≡ c0 = c-is ∙ ap (λ (l : List (Option (Cell S O R T))). get_or l 0 c) so.0 in
          let p-now : p ≡ p0 = p-is ∙ ap (λ (l : List (Option (Pass S O R T))). get_or l 0 p) so.1 in (
            subst (λ (k : Option (Cell S O R T)). IsClosed legal start history k p0 x) c-now (subst (λ (r : Option (Pass S O R T)). IsClosed legal start history c r x) p-now closed),
            (ap (drop_first {A = Option (Cell S O R T)}) so.0, ap (drop_first {A = Option (Pass S O R T)}) so.1, refl),
          )
      from (suc n) (c0 ∷ cs0) (p0 ∷ ps0) [] ps xs so pl within c-is p-is = absurd so
      from (suc n) (c0 ∷ cs0) (p0 ∷ ps0) (d ∷ cs) [] xs so pl within c-is p-is = absurd so
      from (suc n) (c0 ∷ cs0) (p0 ∷ ps0) (d ∷ cs) (q ∷ ps) [] so pl within c-is p-is = absurd so
      from (suc n) (c0 ∷ cs0) (p0 ∷ ps0) (d ∷ cs) (q ∷ ps) (y ∷ xs) so pl within c-is p-is = (so.0, from n cs0 ps0 cs ps xs so.1 (omega arith) (omega arith) c-is p-is)

  -- all
  pub all-out : (n : ℕ) (cs0 : List (Option (Cell S O R T))) (ps0 : List (Option (Pass S O R T))) (cs : List (Option (Cell S O R T))) (ps : List (Option (Pass S O R T))) (xs : List (Option S)) → CameOutSoFar n cs0 ps0 cs ps xs → n ≡ length cs0 → length ps0 ≡ length cs0 →
      AreClosed legal start history cs0 ps0 xs
  all-out zero [] [] cs ps xs so is pl = subst (λ (l : List (Option S)). AreClosed legal start history [] [] l) (sym so.2) tt
  all-out zero [] (p ∷ ps0) cs ps xs so is pl = absurd (omega arith)
  all-out zero (c ∷ cs0) ps0 cs ps xs so is pl = absurd (omega arith)
  all-out (suc n) [] ps0 cs ps xs so is pl = absurd so
  all-out (suc n) (c0 ∷ cs0) [] cs ps xs so is pl = absurd so
  all-out (suc n) (c0 ∷ cs0) (p0 ∷ ps0) [] ps xs so is pl = absurd so
  all-out (suc n) (c0 ∷ cs0) (p0 ∷ ps0) (d ∷ cs) [] xs so is pl = absurd so
  all-out (suc n) (c0 ∷ cs0) (p0 ∷ ps0) (d ∷ cs) (q ∷ ps) [] so is pl = absurd so
  all-out (suc n) (c0 ∷ cs0) (p0 ∷ ps0) (d ∷ cs) (q ∷ ps) (x ∷ xs) so is pl = (so.0, all-out n cs0 ps0 cs ps xs so.1 (omega arith) (omega arith))

  -- what came out, all together
  pub histories-out : (cs : List (Option (Cell S O R T))) (ps : List (Option (Pass S O R T))) (xs : List (Option S)) → AreClosed legal start history cs ps xs → histories_of history xs ≡ seen_all ps
  histories-out [] [] [] out = refl
  histories-out [] [] (x ∷ xs) out = absurd out
  histories-out [] (p ∷ ps) xs out = absurd out
  histories-out (c ∷ cs) [] xs out = absurd out
  histories-out (c ∷ cs) (p ∷ ps) [] out = absurd out
  histories-out (None ∷ cs) (p ∷ ps) (None ∷ xs) out = λ i. sym out.0 i ∷ histories-out cs ps xs out.1 i
  histories-out (None ∷ cs) (p ∷ ps) (Some x ∷ xs) out = absurd out.0
  histories-out (Some c ∷ cs) (p ∷ ps) (None ∷ xs) out = absurd out.0
  histories-out (Some c ∷ cs) (p ∷ ps) (Some x ∷ xs) out = λ i. out.0.whole i ∷ histories-out cs ps xs out.1 i

  pub starts-out : (cs : List (Option (Cell S O R T))) (ps : List (Option (Pass S O R T))) (xs : List (Option S)) → AreClosed legal start history cs ps xs → starts_of start xs ≡ starts_in start cs
  starts-out [] [] [] out = refl
  starts-out [] [] (x ∷ xs) out = absurd out
  starts-out [] (p ∷ ps) xs out = absurd out
  starts-out (c ∷ cs) [] xs out = absurd out
  starts-out (c ∷ cs) (p ∷ ps) [] out = absurd out
  starts-out (None ∷ cs) (p ∷ ps) (None ∷ xs) out = λ i. None ∷ starts-out cs ps xs out.1 i
  starts-out (None ∷ cs) (p ∷ ps) (Some x ∷ xs) out = absurd out.0
  starts-out (Some c ∷ cs) (p ∷ ps) (None ∷ xs) out = absurd out.0
  starts-out (Some c ∷ cs) (p ∷ ps) (Some x ∷ xs) out = λ i. Some (out.0.same i) ∷ starts-out cs ps xs out.1 i

  -- no history is longer than what the players of its cell may make
  pub within-out : (many : ℕ) (cs : List (Option (Cell S O R T))) (ps : List (Option (Pass S O R T))) (xs : List (Option S)) → AreClosed legal start history cs ps xs → All (HasWhole many) cs →
      All (λ h. length h ≤ room_of_a_pass * many) (seen_all ps)
  within-out many [] [] [] out whole = let P : List (Entry O R) → Type 0 = λ h. length h ≤ room_of_a_pass * many in All-nil P
  within-out many [] [] (x ∷ xs) out whole = absurd out
  within-out many [] (p ∷ ps) xs out whole = absurd out
  within-out many (c ∷ cs) [] xs out whole = absurd out
  within-out many (c ∷ cs) (p ∷ ps) [] out whole = absurd out
  within-out many (None ∷ cs) (p ∷ ps) (None ∷ xs) out whole =
      let P : List (Entry O R) → Type 0 = λ h. length h ≤ room_of_a_pass * many in
      let W : Option (Cell S O R T) → Type 0 = HasWhole many in
      let none : length (seen_at p) ≡ 0 = ap (λ (l : List (Entry O R)). length l) out.0 in
      All-cons P (seen_at p) (seen_all ps) (omega (arith, none)) (within-out many cs ps xs out.1 (All-tail W None cs whole))
  within-out many (None ∷ cs) (p ∷ ps) (Some x ∷ xs) out whole = absurd out.0
  within-out many (Some c ∷ cs) (p ∷ ps) (None ∷ xs) out whole = absurd out.0
  within-out many (Some c ∷ cs) (p ∷ ps) (Some x ∷ xs) out whole =
      let P : List (Entry O R) → Type 0 = λ h. length h ≤ room_of_a_pass * many in
      let W : Option (Cell S O R T) → Type 0 = HasWhole many in
      let long : length (seen_at p) ≤ room_of_a_pass * length (players_in c) = subst (λ (l : List (Entry O R)). length l ≤ room_of_a_pass * length (players_in c)) out.0.whole out.0.short in
      let here : length (seen_at p) ≤ room_of_a_pass * many = subst (λ (n : ℕ). length (seen_at p) ≤ room_of_a_pass * n) (sym (All-head W (Some c) cs whole)) long in
      All-cons P (seen_at p) (seen_all ps) here (within-out many cs ps xs out.1 (All-tail W (Some c) cs whole))

  -- all entries are of the players that the passes stand for
  pub by-out : (ws : List Who) (c : Cell S O R T) (p : Option (Pass S O R T)) → StandsFor legal start ws c p → players_at p ≡ ws
  by-out ws c None stands = absurd stands
  by-out ws c (Some p) stands = stands.players

  pub mine-out : (ws : List Who) (cs : List (Option (Cell S O R T))) (ps : List (Option (Pass S O R T))) (xs : List (Option S)) → AreClosed legal start history cs ps xs → AllStand legal start ws cs ps → All (AreBy ws) (seen_all ps)
  mine-out ws [] [] [] out stand = let P : List (Entry O R) → Type 0 = AreBy ws in All-nil P
  mine-out ws [] [] (x ∷ xs) out stand = absurd out
  mine-out ws [] (p ∷ ps) xs out stand = absurd out
  mine-out ws (c ∷ cs) [] xs out stand = absurd out
  mine-out ws (c ∷ cs) (p ∷ ps) [] out stand = absurd out
  mine-out ws (None ∷ cs) (p ∷ ps) (None ∷ xs) out stand =
      let P : List (Entry O R) → Type 0 = AreBy ws in
      let Q : Entry O R → Type 0 = λ e. is_by ws e ≡ true in
      All-cons P (seen_at p) (seen_all ps) (subst (AreBy ws) (sym out.0) (All-nil Q)) (mine-out ws cs ps xs out.1 stand.1)
  mine-out ws (None ∷ cs) (p ∷ ps) (Some x ∷ xs) out stand = absurd out.0
  mine-out ws (Some c ∷ cs) (p ∷ ps) (None ∷ xs) out stand = absurd out.0
  mine-out ws (Some c ∷ cs) (p ∷ ps) (Some x ∷ xs) out stand =
      let P : List (Entry O R) → Type 0 = AreBy ws in
      let here : AreBy ws (history x) = subst (λ (l : List Who). AreBy l (history x)) (by-out ws c p stand.0) out.0.mine in
      All-cons P (seen_at p) (seen_all ps) (subst (AreBy ws) out.0.whole here) (mine-out ws cs ps xs out.1 stand.1)

-- the histories that came out are legal for the machine of the kind
module _ {S O R T : Type 0} (m : Machine T O R) (start : S → T) (history : S → List (Entry O R)) where
  pub legal-out : (cs : List (Option (Cell S O R T))) (ps : List (Option (Pass S O R T))) (xs : List (Option S)) → AreClosed (IsLegal m) start history cs ps xs → EachLegal (family m start cs) (seen_all ps)
  legal-out [] [] [] out = tt
  legal-out [] [] (x ∷ xs) out = absurd out
  legal-out [] (p ∷ ps) xs out = absurd out
  legal-out (c ∷ cs) [] xs out = absurd out
  legal-out (c ∷ cs) (p ∷ ps) [] out = absurd out
  legal-out (None ∷ cs) (p ∷ ps) (None ∷ xs) out = (out.0, legal-out cs ps xs out.1)
  legal-out (None ∷ cs) (p ∷ ps) (Some x ∷ xs) out = absurd out.0
  legal-out (Some c ∷ cs) (p ∷ ps) (None ∷ xs) out = absurd out.0
  legal-out (Some c ∷ cs) (p ∷ ps) (Some x ∷ xs) out =
      (subst (λ (t : T). IsLegal m t (seen_at p)) out.0.same (subst (λ (l : List (Entry O R)). IsLegal m (start x) l) out.0.whole out.0.lawful), legal-out cs ps xs out.1)

-- a legal history is legal under other names of its start and of itself
pub legal-moved : {O R T : Type 0} (m : Machine T O R) (s s' : T) (h h' : List (Entry O R)) → s ≡ s' → h ≡ h' → IsLegal m s h → IsLegal m s' h'
legal-moved {O} {R} {T} m s s' h h' start history legal = subst (λ (t : T). IsLegal m t h') start (subst (λ (l : List (Entry O R)). IsLegal m s l) history legal)

-- and it is as long
pub short-moved : {O R : Type 0} (h h' : List (Entry O R)) (many many' : ℕ) → h ≡ h' → many ≡ many' → length h ≤ room_of_a_pass * many' → length h' ≤ room_of_a_pass * many
short-moved {O} {R} h h' many many' history whole short = subst (λ (n : ℕ). length h' ≤ room_of_a_pass * n) (sym whole) (subst (λ (l : List (Entry O R)). length l ≤ room_of_a_pass * many') history short)
