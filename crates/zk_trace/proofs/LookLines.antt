-- All looks as one list, signal by signal.
use Rattle.std.proofs.Common.{◌≡◌, ℕ, zero, suc, ◌+◌, ◌<◌, ◌≤◌, List, [], ◌∷◌, ◌++◌, length, map, drop, get_or, refl, sym, ap, ◌∙◌, arith}
use Rattle.std.proofs.lemmas.List.{append_assoc, append-nil, drop_more}
use Rattle.zk_trace.specs.declared.looks.SignalLook.{SignalLook}
use Rattle.zk_trace.specs.declared.look_lines.LookLine.{LookLine}
use Rattle.zk_trace.specs.LookLines.{signal_line, signal_lines}

-- those of one signal more
pub lines-next : (lines : List LookLine) (n : ℕ) (all : List (List SignalLook)) (d : List SignalLook) → n < length all →
    (lines ++ map (signal_line n) (get_or all n d)) ++ signal_lines (n + 1) (drop (n + 1) all) ≡ lines ++ signal_lines n (drop n all)
lines-next lines n all d below =
    append_assoc lines (map (signal_line n) (get_or all n d)) (signal_lines (n + 1) (drop (n + 1) all))
    ∙ ap (λ (l : List (List SignalLook)). lines ++ signal_lines n l) (sym (drop_more all n d below))

none-left : {X : Type 0} (xs : List X) (n : ℕ) → length xs ≤ n → drop n xs ≡ []
none-left [] zero past = refl
none-left [] (suc n) past = refl
none-left (x ∷ xs) zero past = absurd (omega arith)
none-left (x ∷ xs) (suc n) past = none-left xs n (omega arith)

-- those of all
pub lines-all : (lines : List LookLine) (n : ℕ) (all : List (List SignalLook)) → length all ≤ n →
    lines ++ signal_lines n (drop n all) ≡ lines
lines-all lines n all past =
    ap (λ (l : List (List SignalLook)). lines ++ signal_lines n l) (none-left all n past) ∙ append-nil lines
