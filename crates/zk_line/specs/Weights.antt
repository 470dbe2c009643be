-- Inner: no contract of a top call is made of this file.
use Rattle.std.specs.Prelude.{◌≡◌, Bool, true, false, Option, None, Some, Result, Ok, Err}
use Rattle.zk_line.specs.declared.weights.Wrong.{Wrong}
use Rattle.zk_line.specs.declared.weights.Wrong.TheVariants.{OutOfRange, Misnamed}

-- an answer says whether numbers are in range, else whether names may stand where they do, else what is said
abbrev pub Weighs : {A : Type 0} → Bool → Bool → Option A → Result A Wrong → Type 0
Weighs in_range named said (Err OutOfRange) = in_range ≡ false
Weighs in_range named said (Err Misnamed) = (in_range ≡ true) × (named ≡ false)
Weighs in_range named said (Ok what) = (in_range ≡ true) × (named ≡ true) × (said ≡ Some what)

-- what is said, or what speaks against it where something does
abbrev pub or_wrong : {A E : Type 0} → Option E → A → Result A E
or_wrong None what = Ok what
or_wrong (Some wrong) what = Err wrong
