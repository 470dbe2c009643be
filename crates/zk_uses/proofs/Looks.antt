-- Looks at a shared service, as the history that they are of grows.
use Rattle.std.proofs.Common.{◌≡◌, ℕ, List, [], ◌∷◌, ◌++◌, length, All, sym, ap, subst, ◌∙◌, arith}
use Rattle.std.proofs.lemmas.List.{length-append, take_all, take-append-le}
use Rattle.std.proofs.lemmas.List.Elements.{All-nil, All-cons, All-append, All-weaker}
use Rattle.zk_base.specs.declared.ids.Who.{Who}
use Rattle.zk_base.specs.declared.ids.Entry.{Entry}
use Rattle.zk_base.specs.Legal.{Machine, state_after}
use Rattle.zk_turn.specs.declared.cell.Cell.{Cell}
use Rattle.zk_turn.specs.declared.word.Look.{Look}
use Rattle.zk_turn.specs.Players.{GoesOn}
use Rattle.zk_turn.specs.Passes.{given_to}
use Rattle.zk_uses.specs.declared.looking.Looker.{Looker}
use Rattle.zk_uses.specs.Looks.{IsLookAt, HasLooked}

module _ {S O R T : Type 0} (m : Machine T O R) (start_of : S → T) (word : T → ℕ → ℕ) (cell : Cell S O R T) (index : ℕ) where
  -- what a look has found stays so in a history that goes on
  IsLookAt-longer : (seen later : List (Entry O R)) (look : Look) → IsLookAt m start_of word cell index seen look →
      IsLookAt m start_of word cell index (seen ++ later) look
  IsLookAt-longer seen later look l =
      let within = l.within in
      let long = length-append seen later in
      record {
        within = omega arith;
        found = l.found ∙ ap (λ h. word (state_after m (start_of (given_to cell)) h) index) (sym (take-append-le look.at seen later within));
      }

  -- and so with all looks
  pub looks-go_on : {players : List Who} (seen history : List (Entry O R)) (looks : List Look) → GoesOn players seen history →
      All (IsLookAt m start_of word cell index seen) looks → All (IsLookAt m start_of word cell index history) looks
  looks-go_on seen history looks goes all =
      subst (λ h. All (IsLookAt m start_of word cell index h) looks) (sym goes.longer)
      (All-weaker (IsLookAt m start_of word cell index seen) (IsLookAt m start_of word cell index (seen ++ goes.later))
      (λ look. IsLookAt-longer seen goes.later look) looks all)

  -- a look that shows the state after all of a history
  pub IsLookAt-whole : (history : List (Entry O R)) (look : Look) → look.at ≡ length history →
      look.word ≡ word (state_after m (start_of (given_to cell)) history) index → IsLookAt m start_of word cell index history look
  IsLookAt-whole history look at found = record {
    within = omega arith;
    found = found ∙ ap (λ h. word (state_after m (start_of (given_to cell)) h) index) (sym (take_all look.at history (omega arith)));
  }

  -- and one look more
  pub looks-push : (history : List (Entry O R)) (looks : List Look) (look : Look) → All (IsLookAt m start_of word cell index history) looks →
      IsLookAt m start_of word cell index history look → All (IsLookAt m start_of word cell index history) (looks ++ look ∷ [])
  looks-push history looks look all l =
      let P = IsLookAt m start_of word cell index history in
      All-append P looks (look ∷ []) all (All-cons P look [] l (All-nil P))

  -- the looker of a player is that of its own number too
  pub HasLooked-own : (who : Who) (looker : Looker S O R T) → HasLooked m start_of word cell index who looker →
      HasLooked m start_of word cell index looker.who looker
  HasLooked-own who looker h = subst (λ w. HasLooked m start_of word cell index w looker) (sym h.player) h
