-- Each call that is drawn is taken.
use Rattle.std.proofs.Common.{◌≡◌, ℕ, zero, suc, ◌/◌, ◌%◌, ◌+◌, ◌<◌, Bool, true, false, cond, eqb, nat_lt, [], ◌∷◌, length, arith, refl, ap}
use Rattle.std.proofs.Math.Nat.{mod-lt}
use Rattle.zk_soak.specs.Objects.{soak_decls}
use Rattle.zk_soak.specs.Drawn.{next, drawn, four_digits, two_digits, Chosen, chosen, call_drawn, calls_drawn}
use Rattle.zk_soak.proofs.CallsRead.{IsTaken, AreTaken}
use Rattle.zk_soak.proofs.CallsTaken.{submit_taken, cancel_taken, cancelsync_taken, flush_taken, schedule_taken, reschedule_taken, tick_taken, take_taken, give_taken, put_taken, get_taken, raise_taken, publish_taken}
use Rattle.zk_soak.proofs.SlotsSaid.{AreBytes}
use Rattle.zk_soak.proofs.SoakObjects.{queue_there, item_there, sem_there, msgq_there, signal_there, channel_there, msgq_size, channel_size, delay_there, ticks_there, result_there}

below : (x m : ℕ) → 0 < m → drawn x m < m
below x m some = mod-lt (next x / 8589934592) some

either : (b : Bool) (c d : Chosen) → IsTaken soak_decls c.call → IsTaken soak_decls d.call → IsTaken soak_decls (cond b c d).call
either true c d first second = first
either false c d first second = second

bytes_of_four : (h : ℕ) → h < 65536 → AreBytes (h / 256 ∷ h % 256 ∷ [])
bytes_of_four h small = (omega arith, (omega arith, tt))

-- whatever is drawn
chosen_taken : (draw x : ℕ) → IsTaken soak_decls (chosen draw x).call
chosen_taken draw x =
    let second = next x in
    let third = next second in
    let w = drawn x 16 in
    let q = drawn second 2 in
    let item = item_there w (below x 16 (omega arith)) in
    let queue = queue_there q (below second 2 (omega arith)) in
    let sem = sem_there (drawn x 4) (below x 4 (omega arith)) in
    let m = drawn x 2 in
    let two = below x 2 (omega arith) in
    let h = drawn second 65536 in
    let delay = drawn third 20 in
    let later = below third 20 (omega arith) in
    let thousand = below second 1000 (omega arith) in
    either (nat_lt draw 4) _ _ (submit_taken soak_decls (14 + w) (12 + q) item queue)
    (either (eqb draw 4) _ _ (cancel_taken soak_decls (14 + w) item)
    (either (eqb draw 5) _ _ (cancelsync_taken soak_decls (14 + w) item)
    (either (eqb draw 6) _ _ (flush_taken soak_decls (14 + w) item)
    (either (eqb draw 7) _ _ (schedule_taken soak_decls (14 + w) (12 + q) (1 + delay) item queue (delay_there (1 + delay) (omega (arith, later))))
    (either (eqb draw 8) _ _ (reschedule_taken soak_decls (14 + w) (12 + q) delay item queue (delay_there delay (omega (arith, later))))
    (either (eqb draw 9) _ _ (tick_taken soak_decls (1 + drawn x 5) (ticks_there (drawn x 5) (below x 5 (omega arith))))
    (either (eqb draw 10) _ _ (take_taken soak_decls (30 + drawn x 4) sem)
    (either (eqb draw 11) _ _ (give_taken soak_decls (30 + drawn x 4) sem)
    (either (eqb draw 12) _ _ (put_taken soak_decls (34 + m) (four_digits second) (msgq_there m two) (msgq_size m two) (bytes_of_four h (below second 65536 (omega arith))) (omega arith) (omega arith))
    (either (eqb draw 13) _ _ (get_taken soak_decls (34 + m) (msgq_there m two))
    (either (eqb draw 14) _ _ (raise_taken soak_decls (36 + m) (drawn second 1000) (signal_there m two) (result_there (drawn second 1000) thousand) (omega (arith, thousand)))
    (publish_taken soak_decls 39 (two_digits x) channel_there channel_size (below x 256 (omega arith), tt) (omega arith) (omega arith)))))))))))))

-- so are calls that are drawn one behind the other
pub drawn_taken : (n x : ℕ) → AreTaken soak_decls (calls_drawn n x)
drawn_taken zero x = tt
drawn_taken (suc n) x = (chosen_taken (drawn x 16) (next x), drawn_taken n (call_drawn x).x)

-- and they are as many as are asked for
pub length-calls_drawn : (n x : ℕ) → length (calls_drawn n x) ≡ n
length-calls_drawn zero x = refl
length-calls_drawn (suc n) x = ap suc (length-calls_drawn n (call_drawn x).x)
