use Rattle.std.specs.Prelude.{ℕ, pos, ◌%◌, true, false, List, [], ◌∷◌, ◌++◌, map, codes}
use Rattle.std.specs.Fmt.{decimal}
use Rattle.std.specs.List.{range_with_len}
use Rattle.zk_base.specs.declared.validator.Valid.TheVariants.{Any}
use Rattle.zk_line.specs.declared.types.Decl.{Decl}
use Rattle.zk_line.specs.declared.types.Decl.TheVariants.{Thread, Queue, Item, Sem, Msgq, Signal, Sub, Chan}

-- a letter and a number
abbrev pub numbered : List ℕ → ℕ → List ℕ
numbered letter n = letter ++ decimal n

-- `thread tK K' super`, K' being K modulo 4
abbrev pub thread_of : ℕ → Decl
thread_of k = Thread (numbered (codes "t") k) (pos (k % 4)) false

-- `queue qK 0 on`
abbrev pub queue_of : ℕ → Decl
queue_of k = Queue (numbered (codes "q") k) (pos 0) true

-- `item wK`
abbrev pub item_of : ℕ → Decl
item_of k = Item (numbered (codes "w") k)

-- `sem sK 1 4`
abbrev pub sem_of : ℕ → Decl
sem_of k = Sem (numbered (codes "s") k) 1 4 false

-- `msgq mK 2 4`
abbrev pub msgq_of : ℕ → Decl
msgq_of k = Msgq (numbered (codes "m") k) 2 4 false

-- `signal gK`
abbrev pub signal_of : ℕ → Decl
signal_of k = Signal (numbered (codes "g") k) false

-- what stands for the numbers from 0 on, so many of them
abbrev pub each_of : (ℕ → Decl) → ℕ → List Decl
each_of f n = map f (range_with_len 0 n)

-- the declarations, in order; b0, the channel's one observer, is object 38
abbrev pub soak_decls : List Decl
soak_decls =
    each_of thread_of 12 ++ each_of queue_of 2 ++ each_of item_of 16 ++ each_of sem_of 4 ++ each_of msgq_of 2
    ++ each_of signal_of 2 ++ Sub (codes "b0") 8 ∷ Chan (codes "c0") (0 ∷ []) Any (38 ∷ []) ∷ []
