-- Inner: no contract of a top call is made of this file.
use Rattle.std.specs.Prelude.{◌≡◌, ℕ}
use Rattle.zk_scenario.specs.Content.{Content}
use Rattle.zk_trace.specs.declared.trace.Trace.{Trace}
use Rattle.zk_check.specs.declared.verdict.Checked.{Checked}
use Rattle.zk_check.specs.declared.verdict.Checked.TheVariants.{Lawful, Not}
use Rattle.zk_failures.specs.declared.site.Fail.{Fail}
use Rattle.zk_failures.specs.declared.site.Site.{Site}
use Rattle.zk_failures.specs.Failure.{IsFailure}
use Rattle.zk_failures.specs.Lines.{line_at}

-- this holds of the line and the reason, where the trace isn't lawful
abbrev pub IfNot : Checked → (ℕ → Fail → Type 0) → Type 0
IfNot Lawful Named = Unit {0}
IfNot (Not line fail) Named = Named line fail

-- a line is that of the first failure for a reason, the reasons before which don't apply
pub record IsNamed (s : Content) (t : Trace) (line : ℕ) (fail : Fail) : Type 0 where
  pub site : Site
  pub failure : IsFailure s t fail site
  pub at : line ≡ line_at s t site
