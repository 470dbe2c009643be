use Rattle.std.proofs.Common.{◌≡◌, ℕ, ◌+◌, List, [], ◌∷◌, ◌++◌, length, sym, ap, ◌∙◌, arith, length-append}
use Rattle.std.proofs.lemmas.List.FromFn.{map-range_with_len_more}
use Rattle.zk_trace.specs.declared.looks.SignalLook.{SignalLook}
use Rattle.zk_gathering.specs.Looks.{by_number}
use Rattle.zk_gathering.proofs.looks.no_looks.Goals as goal

pub loop-alloc-preserved : goal.loop-alloc-preserved
loop-alloc-preserved c =
    let all : List (List SignalLook) = c.loop-alloc.all.items in
    let new : List (List SignalLook) = c.push.new.self.items in
    let grown : new ≡ all ++ [] ∷ [] = c.in_ok-push.ensures.items ∙ ap (λ (l : List SignalLook). all ++ l ∷ []) c.new.ensures in
    let long : length new ≡ length all + 1 = ap (λ (l : List (List SignalLook)). length l) grown ∙ length-append all ([] ∷ []) in
    record {
      all = grown
          ∙ ap (λ (l : List (List SignalLook)). l ++ [] ∷ []) c.loop-alloc.invariant.all
          ∙ sym (map-range_with_len_more (λ (object : ℕ). []) 0 (length all) (length all) (omega arith))
          ∙ ap (λ (n : ℕ). by_number (λ object. []) n) (sym long);
      most = omega (arith, long, c.loop-alloc-test.true);
    }
