use Rattle.std.specs.Prelude.{ℕ, zero, suc, ◌+◌, ◌*◌, ◌/◌, ◌%◌, ◌^◌, ◌==◌, nat_lt, Some, List, [], ◌∷◌, if◌then◌else◌}
use Rattle.zk_words.specs.declared.timeout.Timeout.TheVariants.{No, Forever}
use Rattle.zk_line.specs.declared.types.Call.{Call}
use Rattle.zk_line.specs.declared.types.Call.TheVariants.{Submit, Cancel, CancelSync, Flush, Schedule, Reschedule, Tick, Take, Give, Put, Get, Raise, Publish}
use Rattle.zk_line.specs.declared.types.Ref.{Ref}
use Rattle.zk_line.specs.declared.types.Ref.TheVariants.{Known}

-- what x is set to by a draw
abbrev pub next : ℕ → ℕ
next x = (6364136223846793005 * x + 1442695040888963407) % 2 ^ 64

-- what a draw below m gives, at x
abbrev pub drawn : ℕ → ℕ → ℕ
drawn x m = next x / 8589934592 % m

-- the queue of a draw, q0 or q1: objects 12 and 13
abbrev pub queue_drawn : ℕ → Ref
queue_drawn x = Known (12 + drawn x 2)

-- the item of a draw, w0 to w15: objects 14 to 29
abbrev pub item_drawn : ℕ → Ref
item_drawn x = Known (14 + drawn x 16)

-- the semaphore of a draw, s0 to s3: objects 30 to 33
abbrev pub sem_drawn : ℕ → Ref
sem_drawn x = Known (30 + drawn x 4)

-- the message queue of a draw, m0 or m1: objects 34 and 35
abbrev pub msgq_drawn : ℕ → Ref
msgq_drawn x = Known (34 + drawn x 2)

-- the signal of a draw, g0 or g1: objects 36 and 37
abbrev pub signal_drawn : ℕ → Ref
signal_drawn x = Known (36 + drawn x 2)

-- the channel c0: object 39
abbrev pub channel : Ref
channel = Known 39

-- the message of a draw, in four digits
abbrev pub four_digits : ℕ → List ℕ
four_digits x = let h = drawn x 65536 in h / 256 ∷ h % 256 ∷ []

-- the message of a draw, in two digits
abbrev pub two_digits : ℕ → List ℕ
two_digits x = drawn x 256 ∷ []

-- a call that was drawn, and x behind its draws
pub record Chosen : Type 0 where
  pub call : Call
  pub x : ℕ

-- a call whose arguments took one draw
abbrev pub by_one : ℕ → Call → Chosen
by_one x call = record { call = call; x = next x }

-- a call whose arguments took two draws
abbrev pub by_two : ℕ → Call → Chosen
by_two x call = record { call = call; x = next (next x) }

-- a call whose arguments took three draws
abbrev pub by_three : ℕ → Call → Chosen
by_three x call = record { call = call; x = next (next (next x)) }

-- the call of a draw below 16, its arguments drawn from x on, from left to right
abbrev pub chosen : ℕ → ℕ → Chosen
chosen draw x =
    let second = next x in
    let third = next second in
    if nat_lt draw 4 then by_two x (Submit (item_drawn x) (Some (queue_drawn second))) else
    if draw == 4 then by_one x (Cancel (item_drawn x)) else
    if draw == 5 then by_one x (CancelSync (item_drawn x)) else
    if draw == 6 then by_one x (Flush (item_drawn x)) else
    if draw == 7 then by_three x (Schedule (item_drawn x) (queue_drawn second) (1 + drawn third 20)) else
    if draw == 8 then by_three x (Reschedule (item_drawn x) (queue_drawn second) (drawn third 20)) else
    if draw == 9 then by_one x (Tick (1 + drawn x 5)) else
    if draw == 10 then by_one x (Take (sem_drawn x) No) else
    if draw == 11 then by_one x (Give (sem_drawn x)) else
    if draw == 12 then by_two x (Put (msgq_drawn x) (four_digits second) No) else
    if draw == 13 then by_one x (Get (msgq_drawn x) No) else
    if draw == 14 then by_two x (Raise (signal_drawn x) (drawn second 1000)) else
    by_one x (Publish channel (two_digits x) Forever)

-- the call that is drawn from x on
abbrev pub call_drawn : ℕ → Chosen
call_drawn x = chosen (drawn x 16) (next x)

-- so many calls, drawn one behind the other
abbrev pub calls_drawn : ℕ → ℕ → List Call
calls_drawn zero x = []
calls_drawn (suc n) x = (call_drawn x).call ∷ calls_drawn n (call_drawn x).x

-- x behind so many calls
abbrev pub x_behind : ℕ → ℕ → ℕ
x_behind zero x = x
x_behind (suc n) x = x_behind n (call_drawn x).x
