-- How many declarations there may be, with one more where its kind isn't full.
use Rattle.std.proofs.Common.{◌≡◌, ◌<◌, ◌≤◌, ℕ, Bool, true, false, cond, nat_le, ◌&&◌, ◌||◌, List, [], ◌∷◌, ◌++◌, count_by, refl, sym, ap, ◌∙◌, arith, inl, inr}
use Rattle.std.proofs.lemmas.Bool.{leb-false, or_cases}
use Rattle.zk_base.specs.Limits.{most_players}
use Rattle.zk_base.specs.declared.kinds.Kind.{Kind}
use Rattle.zk_base.specs.declared.kinds.Kind.TheVariants as kind
use Rattle.zk_base.specs.Kinds.{same_kind}
use Rattle.zk_words.specs.Kinds.{makes_player}
use Rattle.zk_line.specs.declared.types.Decl.{Decl}
use Rattle.zk_line.specs.Objects.{kind_of, counts_with, is_thread, is_queue, is_item, is_sem, is_msgq, is_signal, is_chan, is_observer, player_count}
use Rattle.zk_line.proofs.Lists.{count_by-push}
use Rattle.zk_scenario.specs.declared.limits.TheConstants.{MOST_QUEUES, MOST_ITEMS, MOST_SEMS, MOST_MSGQS, MOST_SIGNALS, MOST_OBSERVERS, MOST_CHANS}
use Rattle.zk_scenario.specs.Verdict.{most, is_full}

-- there are no more declarations of a kind than there may be
pub record HasRoom (decls : List Decl) : Type 0 where
  pub players : player_count decls ≤ most_players
  pub queues : count_by is_queue decls ≤ MOST_QUEUES
  pub items : count_by is_item decls ≤ MOST_ITEMS
  pub sems : count_by is_sem decls ≤ MOST_SEMS
  pub msgqs : count_by is_msgq decls ≤ MOST_MSGQS
  pub signals : count_by is_signal decls ≤ MOST_SIGNALS
  pub chans : count_by is_chan decls ≤ MOST_CHANS
  pub observers : count_by is_observer decls ≤ MOST_OBSERVERS

pub or_none : (a b : Bool) → (a || b) ≡ false → (a ≡ false) × (b ≡ false)
or_none true b e = absurd (cc)
or_none false b e = (refl, e)

-- the count of what passes a test stays within a limit, where it is below that or one more doesn't pass
within-push : (test : Decl → Bool) (limit : ℕ) (decls : List Decl) (d : Decl) → count_by test decls ≤ limit → (test d ≡ true → count_by test decls < limit) → count_by test (decls ++ d ∷ []) ≤ limit
within-push test limit decls d within free = by_test (test d) refl where
  by_test : (b : Bool) → test d ≡ b → count_by test (decls ++ d ∷ []) ≤ limit
  by_test true passes = omega (arith, free passes, count_by-push test decls d, ap {B = ℕ} (λ b. cond b 1 0) passes)
  by_test false fails = omega (arith, within, count_by-push test decls d, ap {B = ℕ} (λ b. cond b 1 0) fails)

same_kind-is : (a b : Kind) → same_kind a b ≡ true → a ≡ b
same_kind-is kind.Thread kind.Thread e = refl
same_kind-is kind.Sem kind.Sem e = refl
same_kind-is kind.Msgq kind.Msgq e = refl
same_kind-is kind.Signal kind.Signal e = refl
same_kind-is kind.Queue kind.Queue e = refl
same_kind-is kind.Item kind.Item e = refl
same_kind-is kind.Chan kind.Chan e = refl
same_kind-is kind.Sub kind.Sub e = refl
same_kind-is kind.Listener kind.Listener e = refl
same_kind-is a b e = absurd (cc)

-- a player's kind is that of a thread or of a queue, and no kind is both
plays : (k : Kind) → makes_player k ≡ (same_kind k kind.Thread || same_kind k kind.Queue)
plays kind.Thread = refl
plays k = refl

plays_one : (k : Kind) → (same_kind k kind.Thread && same_kind k kind.Queue) ≡ false
plays_one kind.Thread = refl
plays_one k = refl

-- one declaration more, of a kind that isn't full
module _ (decls : List Decl) (d : Decl) (free : is_full decls (kind_of d) ≡ false) where
  -- there are fewer of its kind than there may be
  below : (k : Kind) → same_kind (kind_of d) k ≡ true → count_by (counts_with k) decls < most k
  below k same =
      let full = or_none (nat_le (most k) (count_by (counts_with k) decls)) (makes_player k && nat_le most_players (player_count decls)) (ap (is_full decls) (sym (same_kind-is (kind_of d) k same)) ∙ free) in
      leb-false (most k) (count_by (counts_with k) decls) full.0

  observers_below : is_observer d ≡ true → count_by is_observer decls < MOST_OBSERVERS
  observers_below passes = elim (or_cases (same_kind (kind_of d) kind.Sub) (same_kind (kind_of d) kind.Listener) passes) [ inl sub ↦ below kind.Sub sub | inr listener ↦ below kind.Listener listener ]

  players_below : makes_player (kind_of d) ≡ true → player_count decls < most_players
  players_below makes =
      let full = or_none (nat_le (most (kind_of d)) (count_by (counts_with (kind_of d)) decls)) (makes_player (kind_of d) && nat_le most_players (player_count decls)) free in
      leb-false most_players (player_count decls) (sym (ap (λ b. b && nat_le most_players (player_count decls)) makes) ∙ full.1)

  players-push : player_count decls ≤ most_players → player_count (decls ++ d ∷ []) ≤ most_players
  players-push within = by_tests (is_thread d) (is_queue d) refl refl (sym (plays (kind_of d))) (plays_one (kind_of d)) where
    by_tests : (thread queue : Bool) → is_thread d ≡ thread → is_queue d ≡ queue → (thread || queue) ≡ makes_player (kind_of d) → (thread && queue) ≡ false → player_count (decls ++ d ∷ []) ≤ most_players
    by_tests true true one other makes both = absurd (cc)
    by_tests true false one other makes both =
        omega (arith, players_below (sym makes), count_by-push is_thread decls d, count_by-push is_queue decls d, ap {B = ℕ} (λ b. cond b 1 0) one, ap {B = ℕ} (λ b. cond b 1 0) other)
    by_tests false true one other makes both =
        omega (arith, players_below (sym makes), count_by-push is_thread decls d, count_by-push is_queue decls d, ap {B = ℕ} (λ b. cond b 1 0) one, ap {B = ℕ} (λ b. cond b 1 0) other)
    by_tests false false one other makes both =
        omega (arith, within, count_by-push is_thread decls d, count_by-push is_queue decls d, ap {B = ℕ} (λ b. cond b 1 0) one, ap {B = ℕ} (λ b. cond b 1 0) other)

  pub room-push : HasRoom decls → HasRoom (decls ++ d ∷ [])
  room-push room = record {
    players = players-push room.players;
    queues = within-push is_queue MOST_QUEUES decls d room.queues (below kind.Queue);
    items = within-push is_item MOST_ITEMS decls d room.items (below kind.Item);
    sems = within-push is_sem MOST_SEMS decls d room.sems (below kind.Sem);
    msgqs = within-push is_msgq MOST_MSGQS decls d room.msgqs (below kind.Msgq);
    signals = within-push is_signal MOST_SIGNALS decls d room.signals (below kind.Signal);
    chans = within-push is_chan MOST_CHANS decls d room.chans (below kind.Chan);
    observers = within-push is_observer MOST_OBSERVERS decls d room.observers observers_below;
  }
