-- Inner: no contract of a top call is made of this file.
use Rattle.std.specs.Prelude.{◌≡◌, ℕ, ◌+◌, ◌-◌, ◌^◌, min, List}
use Rattle.zk_show_chart.specs.declared.lines.Rest.{Rest}
use Rattle.zk_show_chart.specs.Lines.{Place, behind_feed, behind_lines, line_of, number_from}

-- a text behind so many lines, in the section of a place
pub record IsBehind (whole : List ℕ) (first passed : ℕ) (place : Place) (rest : Rest) : Type 0 where
  pub number : rest.number ≡ number_from first passed
  pub text : rest.text.now ≡ behind_lines passed whole
  pub head : rest.head.now ≡ line_of place.head whole
  pub service : rest.service ≡ place.service

-- the next line is passed
pub record Passes (old new : Rest) : Type 0 where
  pub number : new.number ≡ min (old.number + 1) (2 ^ 32 - 1)
  pub text : new.text.now ≡ behind_feed old.text.now
  pub head : new.head.now ≡ old.head.now
  pub service : new.service ≡ old.service
