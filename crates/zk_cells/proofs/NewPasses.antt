-- New passes, dealt one after another from the end of each list.
use Rattle.std.proofs.Common.{◌≡◌, ℕ, zero, suc, ◌+◌, ◌-◌, ◌<◌, Option, Some, None, List, [], ◌∷◌, ◌++◌, length, take, map, option_map, get_or, set, refl, sym, ap, subst, ◌∙◌, arith}
use Rattle.std.specs.Prelude.{Vec, vec_len, MatchOption, option_to_list}
use Rattle.std.specs.declared.alloc.Global.{Global}
use Rattle.std.proofs.lemmas.List.{length-append, map-append}
use Rattle.std.proofs.lemmas.Slice.Zip.{all_zipped_more}
use Rattle.zk_base.specs.declared.ids.Who.{Who}
use Rattle.zk_base.specs.declared.ids.Entry.{Entry}
use Rattle.zk_turn.specs.declared.pass.Pass.{Pass}
use Rattle.zk_turn.specs.declared.cell.Cell.{Cell}
use Rattle.zk_turn.specs.Passes.{given_to, IsNewPass, AreNewPasses}
use Rattle.zk_turn.proofs.Dealing.{AreNewPasses-some, AreNewPasses-pop}
use Rattle.zk_visit.specs.Seats.{IsOwn, IsAt, seen_at, holds_at}
use Rattle.zk_cells.specs.Rows.{starts_in, AreSeats, seen_all, holds_in}
use Rattle.zk_cells.specs.Dealt.{AreLeft, AllLeft, IsTaken, AllTaken, IsNewAt, IsNewIn, AllNew}

module _ {P : Type 0} where
  -- what a list's last pass is, and what is left of the list
  pub taken-popped : (old new : Vec P Global) (p : Option P) →
      old.items ≡ new.items ++ option_to_list p → new.items ≡ take (vec_len old - 1) old.items →
      MatchOption p ((vec_len old ≡ 0) × (vec_len new ≡ 0)) (λ x. vec_len new + 1 ≡ vec_len old) → IsTaken old p new
  taken-popped old new None items rest cases =
      let none : new.items ≡ [] = rest ∙ ap (λ (n : ℕ). take (n - 1) old.items) cases.0 in
      (items ∙ ap (λ (l : List P). l ++ []) none, none)
  taken-popped old new (Some p) items rest cases = items

  -- out of so many lists, from the first, the last pass was taken, and the others are as they were
  abbrev pub TakenSoFar : ℕ → List (Vec P Global) → List (Option P) →
      List (Vec P Global) → Type 0
  TakenSoFar zero olds ps news = (ps ≡ []) × (news ≡ olds)
  TakenSoFar (suc n) (o ∷ olds) (p ∷ ps) (x ∷ news) = IsTaken o p x × TakenSoFar n olds ps news
  TakenSoFar (suc n) olds ps news = ⊥

  -- as many
  pub so-long : (n : ℕ) (olds : List (Vec P Global)) (ps : List (Option P))
      (news : List (Vec P Global)) → TakenSoFar n olds ps news → length news ≡ length olds
  so-long zero olds ps news half = ap (λ (l : List (Vec P Global)). length l) half.1
  so-long (suc n) [] ps news half = absurd half
  so-long (suc n) (o ∷ olds) [] news half = absurd half
  so-long (suc n) (o ∷ olds) (p ∷ ps) [] half = absurd half
  so-long (suc n) (o ∷ olds) (p ∷ ps) (x ∷ news) half = ap suc (so-long n olds ps news half.1)

  abbrev but_first_list : List (Vec P Global) → List (Vec P Global)
  but_first_list [] = []
  but_first_list (x ∷ xs) = xs

  -- out of one more
  pub one-taken : (n : ℕ) (olds : List (Vec P Global)) (ps : List (Option P))
      (news : List (Vec P Global)) (o : Vec P Global) (p : Option P)
      (x : Vec P Global) → TakenSoFar n olds ps news → n < length olds → o ≡ get_or news n o →
      IsTaken o p x → TakenSoFar (n + 1) olds (ps ++ p ∷ []) (set news n x)
  one-taken n olds ps news o p x half within is taken =
      let next : suc n ≡ n + 1 = omega arith in
      subst (λ (k : ℕ). TakenSoFar k olds (ps ++ p ∷ []) (set news n x)) next (from n olds ps news half within is)
    where
      from : (n : ℕ) (olds : List (Vec P Global)) (ps : List (Option P))
          (news : List (Vec P Global)) → TakenSoFar n olds ps news → n < length olds →
          o ≡ get_or news n o → TakenSoFar (suc n) olds (ps ++ p ∷ []) (set news n x)
      from n [] ps news half within is = absurd (omega arith)
      from zero (d ∷ olds) [] [] half within is =
          let l = ap (λ (l : List (Vec P Global)). length l) half.1 in absurd (omega arith)
      from zero (d ∷ olds) [] (y ∷ news) half within is =
          let same : o ≡ d = is ∙ ap (λ (l : List (Vec P Global)). get_or l 0 o) half.1 in
          (subst (λ (k : Vec P Global). IsTaken k p x) same taken, (refl, ap but_first_list half.1))
      from zero (d ∷ olds) (q ∷ ps) news half within is =
          let l = ap (λ (l : List (Option P)). length l) half.0 in absurd (omega arith)
      from (suc n) (d ∷ olds) [] news half within is = absurd half
      from (suc n) (d ∷ olds) (q ∷ ps) [] half within is = absurd half
      from (suc n) (d ∷ olds) (q ∷ ps) (y ∷ news) half within is =
          (half.0, from n olds ps news half.1 (omega arith) is)

  -- out of all
  pub all-taken : (n : ℕ) (olds : List (Vec P Global)) (ps : List (Option P))
      (news : List (Vec P Global)) → TakenSoFar n olds ps news → n ≡ length olds → AllTaken olds ps news
  all-taken zero [] ps news half many =
      subst (λ (l : List (Vec P Global)). AllTaken [] ps l) (sym half.1)
      (subst (λ (l : List (Option P)). AllTaken [] l []) (sym half.0) tt)
  all-taken zero (o ∷ olds) ps news half many = absurd (omega arith)
  all-taken (suc n) [] ps news half many = absurd half
  all-taken (suc n) (o ∷ olds) [] news half many = absurd half
  all-taken (suc n) (o ∷ olds) (p ∷ ps) [] half many = absurd half
  all-taken (suc n) (o ∷ olds) (p ∷ ps) (x ∷ news) half many = (half.0, all-taken n olds ps news half.1 (omega arith))

module _ {S O R T : Type 0} (legal : T → List (Entry O R) → Type 0) (start : S → T) where
  -- one more cell
  pub one-started : (cs : List (Option (Cell S O R T))) (xs : List (Option S)) (c : Option (Cell S O R T)) (x : Option S) →
      starts_in start cs ≡ map (option_map start) xs →
      option_map (λ (k : Cell S O R T). start (given_to k)) c ≡ option_map start x →
      starts_in start (cs ++ c ∷ []) ≡ map (option_map start) (xs ++ x ∷ [])
  one-started cs xs c x all one =
      let f : Option (Cell S O R T) → Option T = option_map (λ (k : Cell S O R T). start (given_to k)) in
      map-append f cs (c ∷ []) ∙ ap (λ (l : List (Option T)). l ++ f c ∷ []) all
      ∙ ap (λ (o : Option T). map (option_map start) xs ++ o ∷ []) one ∙ sym (map-append (option_map start) xs (x ∷ []))

  pub one-left : (ws : List Who) (cs : List (Option (Cell S O R T))) (lists : List (Vec (Pass S O R T) Global))
      (c : Option (Cell S O R T)) (l : Vec (Pass S O R T) Global) → AllLeft legal start ws cs lists →
      AreLeft legal start ws c l.items → AllLeft legal start ws (cs ++ c ∷ []) (lists ++ l ∷ [])
  one-left ws cs lists c l all one =
      all_zipped_more (λ (k : Option (Cell S O R T)) (v : Vec (Pass S O R T) Global). AreLeft legal start ws k v.items)
      cs lists c l all one

  -- the last of the new passes is the last player's
  pub left-taken : (ws : List Who) (w : Who) (c : Option (Cell S O R T)) (old : Vec (Pass S O R T) Global)
      (p : Option (Pass S O R T)) (new : Vec (Pass S O R T) Global) → AreLeft legal start (ws ++ w ∷ []) c old.items →
      IsTaken old p new → AreLeft legal start ws c new.items × IsNewIn legal start w c p
  left-taken ws w None old None new left taken = (taken.1, tt)
  left-taken ws w None old (Some p) new left taken =
      let none : new.items ++ p ∷ [] ≡ [] = sym taken ∙ left in
      let long = ap (λ (l : List (Pass S O R T)). length l) none in
      absurd (omega (arith, length-append new.items (p ∷ [])))
  left-taken ws w (Some c) old None new left taken =
      absurd (AreNewPasses-some legal start c ws w
      (subst (λ (l : List (Pass S O R T)). AreNewPasses legal start c (ws ++ w ∷ []) l) taken.0 left))
  left-taken ws w (Some c) old (Some p) new left taken =
      AreNewPasses-pop legal start c ws new.items w p
      (subst (λ (l : List (Pass S O R T)). AreNewPasses legal start c (ws ++ w ∷ []) l) taken left)

  -- of each cell of a kind
  pub all-left-taken : (ws : List Who) (w : Who) (cs : List (Option (Cell S O R T)))
      (olds : List (Vec (Pass S O R T) Global)) (ps : List (Option (Pass S O R T)))
      (news : List (Vec (Pass S O R T) Global)) → AllLeft legal start (ws ++ w ∷ []) cs olds →
      AllTaken olds ps news → AllLeft legal start ws cs news × AllNew legal start w cs ps
  all-left-taken ws w [] [] [] [] left taken = (tt, tt)
  all-left-taken ws w [] [] [] (x ∷ news) left taken = absurd taken
  all-left-taken ws w [] [] (p ∷ ps) news left taken = absurd taken
  all-left-taken ws w [] (o ∷ olds) ps news left taken = absurd left
  all-left-taken ws w (c ∷ cs) [] ps news left taken = absurd left
  all-left-taken ws w (c ∷ cs) (o ∷ olds) [] news left taken = absurd taken
  all-left-taken ws w (c ∷ cs) (o ∷ olds) (p ∷ ps) [] left taken = absurd taken
  all-left-taken ws w (c ∷ cs) (o ∷ olds) (p ∷ ps) (x ∷ news) left taken =
      let one = left-taken ws w c o p x left.0 taken.0 in
      let rest = all-left-taken ws w cs olds ps news left.1 taken.1 in
      ((one.0, rest.0), (one.1, rest.1))

  -- a new pass is its player's own, and has room for every step, below whatever number its looks are
  pub own-new : (w : Who) (c : Cell S O R T) (looked : ℕ) (p : Pass S O R T) → IsNewPass legal start c w p →
      IsOwn legal start c w looked p
  own-new w c looked p new = record {
    of_cell = new.of_cell;
    player = new.who;
    only = new.players;
    room = λ next above later. (let room = new.room in omega arith);
  }

  pub at-new : (w : Who) (c : Cell S O R T) (looked : ℕ) (p : Option (Pass S O R T)) → IsNewAt legal start w c p →
      IsAt legal start c w looked p
  at-new w c looked None new = absurd new
  at-new w c looked (Some p) new = own-new w c looked p new

  pub seats-new : (w : Who) (cs : List (Option (Cell S O R T))) (ps : List (Option (Pass S O R T))) →
      AllNew legal start w cs ps → AreSeats legal start w cs ps
  seats-new w [] [] new = tt
  seats-new w [] (p ∷ ps) new = absurd new
  seats-new w (c ∷ cs) [] new = absurd new
  seats-new w (None ∷ cs) (None ∷ ps) new = (tt, seats-new w cs ps new.1)
  seats-new w (None ∷ cs) (Some p ∷ ps) new = absurd new.0
  seats-new w (Some c ∷ cs) (p ∷ ps) new = (at-new w c 0 p new.0, seats-new w cs ps new.1)

  -- it has seen nothing, and had no turn
  pub seen-new : (w : Who) (c : Cell S O R T) (p : Option (Pass S O R T)) → IsNewAt legal start w c p → seen_at p ≡ []
  seen-new w c None new = absurd new
  seen-new w c (Some p) new = new.seen

  pub idle-new : (w : Who) (c : Cell S O R T) (p : Option (Pass S O R T)) → IsNewAt legal start w c p → holds_at p ≡ 0
  idle-new w c None new = absurd new
  idle-new w c (Some p) new = new.holds

  pub all-seen-new : (w : Who) (cs : List (Option (Cell S O R T))) (ps : List (Option (Pass S O R T))) →
      AllNew legal start w cs ps → seen_all ps ≡ map (λ c. []) cs
  all-seen-new w [] [] new = refl
  all-seen-new w [] (p ∷ ps) new = absurd new
  all-seen-new w (c ∷ cs) [] new = absurd new
  all-seen-new w (None ∷ cs) (None ∷ ps) new =
      ap (λ (l : List (List (Entry O R))). [] ∷ l) (all-seen-new w cs ps new.1)
  all-seen-new w (None ∷ cs) (Some p ∷ ps) new = absurd new.0
  all-seen-new w (Some c ∷ cs) (p ∷ ps) new =
      ap (λ (l : List (List (Entry O R))). seen_at p ∷ l) (all-seen-new w cs ps new.1)
      ∙ ap (λ (h : List (Entry O R)). h ∷ map (λ c. []) cs) (seen-new w c p new.0)

  pub all-idle-new : (w : Who) (cs : List (Option (Cell S O R T))) (ps : List (Option (Pass S O R T))) (object : ℕ) →
      AllNew legal start w cs ps → holds_in ps object ≡ 0
  all-idle-new w [] [] object new = refl
  all-idle-new w [] (p ∷ ps) object new = absurd new
  all-idle-new w (c ∷ cs) [] object new = absurd new
  all-idle-new w (None ∷ cs) (None ∷ ps) zero new = refl
  all-idle-new w (None ∷ cs) (Some p ∷ ps) zero new = absurd new.0
  all-idle-new w (Some c ∷ cs) (p ∷ ps) zero new = idle-new w c p new.0
  all-idle-new w (c ∷ cs) (p ∷ ps) (suc object) new = all-idle-new w cs ps object new.1
