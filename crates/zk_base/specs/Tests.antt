-- Inner: no contract of a top call is made of this file.

use Rattle.std.specs.Prelude.{◌≡◌}
use Rattle.std.specs.Fn.{FnReturnsAt}
use denote.Param.Members.{Shared}
use denote.Ref.{Bor}

-- each answer that a test may give is what this function says
abbrev pub Computes : {F X R : Type 0} → Shared F (Bor X × Unit {0}) R → (X → R) → F → Type 0
Computes {F} {X} {R} g says test = (x : X) (answer : R) → FnReturnsAt g test x answer → answer ≡ says x
