use Rattle.std.proofs.Common.{◌≡◌, ◌∙◌, ap, sym, Some, slice_get, get_or, List, ℕ, Option}
use Rattle.std.specs.Option.{option_flatten}
use Rattle.zk_scenario.specs.Scripts.{script_of}
use Rattle.zk_scenario.proofs.ScriptTables.{calls_of-none, calls_of-some}
use Rattle.zk_scenario.proofs.scripts.Scripts.calls.Goals as goal

pub returns-in-Some : goal.returns-in-Some
returns-in-Some c =
    let table = ap (λ (l : List (Option ℕ)). option_flatten (slice_get l c.args.owner)) c.deref.ensures.value in
    let found : script_of c.args.self.now c.args.owner ≡ Some c.in-Some.place =
    ap (λ ss. script_of ss c.args.owner) (sym c.self.view_is) ∙ sym (c.self.invariant c.args.owner) ∙ sym table ∙ sym c.place_under.ensures ∙ c.in-Some.is in
    c.items.ensures ∙ ap (λ s. s.calls) (c.index-script.ensures ∙ ap (λ ss. get_or ss c.in-Some.place c.index-script.result.now) c.self.view_is)
    ∙ sym (calls_of-some c.args.self.now c.args.owner c.in-Some.place c.index-script.result.now found)

pub returns-in-None : goal.returns-in-None
returns-in-None c =
    let table = ap (λ (l : List (Option ℕ)). option_flatten (slice_get l c.args.owner)) c.deref.ensures.value in
    sym (calls_of-none c.args.self.now c.args.owner (ap (λ ss. script_of ss c.args.owner) (sym c.self.view_is) ∙ sym (c.self.invariant c.args.owner) ∙ sym table ∙ sym c.place_under.ensures ∙ c.in-None.is))
