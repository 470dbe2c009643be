-- The declared objects of the scenario: each is found by its name, and is of the kind that is asked for.
use Rattle.std.proofs.Common.{◌≡◌, ℕ, ◌+◌, ◌<◌, true, not, nat_le, Some, length, arith, refl}
use Rattle.std.specs.Fmt.{digits}
use Rattle.std.specs.List.{list_all}
use Rattle.std.proofs.lemmas.Bool.{agree_below_at, leb-true, not-true}
use Rattle.zk_base.specs.Names.{is_spelled}
use Rattle.zk_base.specs.declared.kinds.Need.TheVariants as need
use Rattle.zk_words.specs.Table.{item, queue, sem, msgq, signal, channel, delay, ticks, result}
use Rattle.zk_line.specs.declared.types.Arg.TheVariants.{Object, Number}
use Rattle.zk_line.specs.declared.types.Ref.TheVariants.{Known}
use Rattle.zk_line.specs.Objects.{object_of, name_at, is_at, is_met, is_user, plays_script, size_at}
use Rattle.zk_soak.specs.Objects.{soak_decls}
use Rattle.zk_soak.proofs.Pieces.{is_plain}
use Rattle.zk_soak.proofs.SlotsSaid.{IsKnown, is_just, just, object_said, owner_said, is_numbered, number_said}
use Rattle.zk_soak.proofs.CallsTaken.{IsSaidAlways}
use Rattle.zk_soak.proofs.ScriptsRead.{IsOwner}

known : (k : ℕ) → k < 40 → IsKnown soak_decls k
unfolding digits
known k within = record {
  plain = agree_below_at (λ n. list_all is_plain (name_at soak_decls n)) (λ n. true) 40 k refl within;
  short = leb-true (length (name_at soak_decls k)) 8 (agree_below_at (λ n. nat_le (length (name_at soak_decls n)) 8) (λ n. true) 40 k refl within);
  spelled = agree_below_at (λ n. is_spelled (name_at soak_decls n)) (λ n. true) 40 k refl within;
  found = just k (object_of soak_decls (name_at soak_decls k)) (agree_below_at (λ n. is_just n (object_of soak_decls (name_at soak_decls n))) (λ n. true) 40 k refl within);
}

pub queue_there : (q : ℕ) → q < 2 → IsSaidAlways soak_decls queue (Object (Known (12 + q)))
queue_there q small size = object_said soak_decls size need.Queue (12 + q) (known (12 + q) (omega arith)) (agree_below_at (λ n. is_at (is_met need.Queue) soak_decls (12 + n)) (λ n. true) 2 q refl small)

pub item_there : (w : ℕ) → w < 16 → IsSaidAlways soak_decls item (Object (Known (14 + w)))
item_there w small size = object_said soak_decls size need.Item (14 + w) (known (14 + w) (omega arith)) (agree_below_at (λ n. is_at (is_met need.Item) soak_decls (14 + n)) (λ n. true) 16 w refl small)

pub sem_there : (s : ℕ) → s < 4 → IsSaidAlways soak_decls sem (Object (Known (30 + s)))
sem_there s small size = object_said soak_decls size need.Sem (30 + s) (known (30 + s) (omega arith)) (agree_below_at (λ n. is_at (is_met need.Sem) soak_decls (30 + n)) (λ n. true) 4 s refl small)

pub msgq_there : (m : ℕ) → m < 2 → IsSaidAlways soak_decls msgq (Object (Known (34 + m)))
msgq_there m small size = object_said soak_decls size need.Msgq (34 + m) (known (34 + m) (omega arith)) (agree_below_at (λ n. is_at (is_met need.Msgq) soak_decls (34 + n)) (λ n. true) 2 m refl small)

pub signal_there : (g : ℕ) → g < 2 → IsSaidAlways soak_decls signal (Object (Known (36 + g)))
signal_there g small size = object_said soak_decls size need.Signal (36 + g) (known (36 + g) (omega arith)) (agree_below_at (λ n. is_at (is_met need.Signal) soak_decls (36 + n)) (λ n. true) 2 g refl small)

pub channel_there : IsSaidAlways soak_decls channel (Object (Known 39))
channel_there size = object_said soak_decls size need.Chan 39 (known 39 (omega arith)) refl

-- how many bytes a message has
pub msgq_size : (m : ℕ) → m < 2 → size_at soak_decls (34 + m) ≡ Some 2
msgq_size m small = just 2 (size_at soak_decls (34 + m)) (agree_below_at (λ n. is_just 2 (size_at soak_decls (34 + n))) (λ n. true) 2 m refl small)

pub channel_size : size_at soak_decls 39 ≡ Some 1
channel_size = refl

-- the numbers of the calls
pub delay_there : (d : ℕ) → d < 21 → IsSaidAlways soak_decls delay (Number d)
unfolding digits
delay_there d small size = number_said soak_decls size _ _ d (agree_below_at (is_numbered 0 1000000) (λ n. true) 21 d refl small)

pub ticks_there : (n : ℕ) → n < 5 → IsSaidAlways soak_decls ticks (Number (1 + n))
unfolding digits
ticks_there n small size = number_said soak_decls size _ _ (1 + n) (agree_below_at (λ m. is_numbered 1 1000000 (1 + m)) (λ m. true) 5 n refl small)

pub result_there : (r : ℕ) → r < 1000 → IsSaidAlways soak_decls result (Number r)
unfolding digits
result_there r small size = number_said soak_decls size _ _ r (agree_below_at (is_numbered 0 65535) (λ n. true) 1000 r refl small)

owner_by : (k : ℕ) → k < 40 → is_at plays_script soak_decls k ≡ true → not (is_at is_user soak_decls k) ≡ true → IsOwner soak_decls k
owner_by k within plays super = record {
  found = (known k within).found;
  said = λ size. owner_said soak_decls size k (known k within) plays;
  super = not-true (is_at is_user soak_decls k) super;
}

-- the threads and the items play scripts
pub thread_owner : (k : ℕ) → k < 12 → IsOwner soak_decls k
thread_owner k small =
    owner_by k (omega arith) (agree_below_at (is_at plays_script soak_decls) (λ n. true) 12 k refl small) (agree_below_at (λ n. not (is_at is_user soak_decls n)) (λ n. true) 12 k refl small)

pub item_owner : (k : ℕ) → k < 16 → IsOwner soak_decls (14 + k)
item_owner k small =
    owner_by (14 + k) (omega arith) (agree_below_at (λ n. is_at plays_script soak_decls (14 + n)) (λ n. true) 16 k refl small) (agree_below_at (λ n. not (is_at is_user soak_decls (14 + n))) (λ n. true) 16 k refl small)
