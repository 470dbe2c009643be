-- The words of the engine are those of each state that it stands for.
use Rattle.std.proofs.Common.{◌≡◌, ℕ, ◌<◌, cond, length, sym, ap, ◌∙◌, arith}
use Rattle.std.proofs.lemmas.Bool.{lt-ltb}
use Rattle.zk_model_work.specs.Machine as machine
use Rattle.zk_model_work.specs.State.{State}
use Rattle.zk_work.specs.EngineState.{EngineState, StandsFor}
use Rattle.zk_work.specs.Engine.{flags_of}
use Rattle.zk_work.specs.Words.{work_word}
use Rattle.zk_work.proofs.Awaiting.{flags-same}

module _ (k : EngineState) (s : State) (st : StandsFor k s) (index : ℕ) where
  -- that of an item
  pub word-flags : index < length k.last → flags_of k index ≡ work_word s index
  word-flags within =
      let items = st.whole.items in
      let known = st.admissions.items in
      flags-same k s st index ∙ sym (ap (λ b. cond b (machine.flags_of s index) 0) (lt-ltb index s.items (omega arith)))
