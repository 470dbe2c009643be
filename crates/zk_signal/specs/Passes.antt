-- Inner: no contract of a top call is made of this file.
-- What a contract sees of a shared signal and of a pass.
use Rattle.std.specs.Prelude.{◌≡◌, ℕ, ◌+◌, ◌*◌, ◌≤◌, List, [], ◌∷◌, ◌++◌, length, map}
use Rattle.zk_base.specs.declared.seen.Seen.{Seen}
use Rattle.zk_signal.specs.declared.pass.SigPass.{SigPass}
use Rattle.zk_signal.specs.declared.signal.SharedSignal.{SharedSignal}
use Rattle.zk_signal.specs.Limits.{most_writes}
use Rattle.zk_signal.specs.Views.{top_of}
use Rattle.zk_signal.specs.Words.{seen_in, stamp_of}

-- the players that the signal was made for
abbrev pub players_in : SharedSignal → List ℕ
players_in s = s.table.shared.key.players.items

-- the players that a pass stands for
abbrev pub pass_players : SigPass → List ℕ
pass_players p = p.seat.me.0.players

-- its writes, each as what it left, and their stamps
abbrev pub pass_writes : SigPass → List Seen
pass_writes p = map seen_in p.seat.me.0.writes

abbrev pub pass_stamps : SigPass → List ℕ
pass_stamps p = map stamp_of (pass_writes p)

-- what its looks found
abbrev pub pass_looks : SigPass → List Seen
pass_looks p = map seen_in p.seat.me.0.looks

-- the greatest stamp that it has written or read
abbrev pub pass_top : SigPass → ℕ
pass_top p = top_of p.seat.me.0

-- how many writes it may still make
abbrev pub pass_room : SigPass → ℕ
pass_room p = p.room

-- it is a pass of this signal
pub record IsPassOf (s : SharedSignal) (p : SigPass) : Type 0 where
  pub table : p.seat.table_id ≡ s.table.shared.table_id
  pub idle : p.seat.me.0.drawn ≡ []
  pub slots : p.seat.me.1 ≡ []
  pub room : p.room + length p.seat.me.0.writes ≤ most_writes * length p.seat.me.0.players

-- a pass has one write more, which left this
pub record Wrote (old new : SigPass) (seen : Seen) : Type 0 where
  pub writes : pass_writes new ≡ pass_writes old ++ seen ∷ []
  pub top : pass_top new ≡ seen.stamp
  pub room : new.room + 1 ≡ old.room
  pub players : pass_players new ≡ pass_players old
  pub looks : pass_looks new ≡ pass_looks old

-- a pass has one look more, which found this
pub record Looked (old new : SigPass) (seen : Seen) : Type 0 where
  pub looks : pass_looks new ≡ pass_looks old ++ seen ∷ []
  pub top : pass_top new ≡ seen.stamp
  pub room : new.room ≡ old.room
  pub players : pass_players new ≡ pass_players old
  pub writes : pass_writes new ≡ pass_writes old

-- a new pass of this player
pub record IsNewPass (s : SharedSignal) (player : ℕ) (p : SigPass) : Type 0 where
  pub of_signal : IsPassOf s p
  pub players : pass_players p ≡ player ∷ []
  pub writes : pass_writes p ≡ []
  pub looks : pass_looks p ≡ []
  pub top : pass_top p ≡ 0
  pub room : p.room ≡ most_writes

-- one new pass for each player, in order
abbrev pub AreNewPasses : SharedSignal → List ℕ → List SigPass → Type 0
AreNewPasses s [] [] = Unit {0}
AreNewPasses s [] (p ∷ passes) = ⊥
AreNewPasses s (player ∷ players) [] = ⊥
AreNewPasses s (player ∷ players) (p ∷ passes) = IsNewPass s player p × AreNewPasses s players passes
