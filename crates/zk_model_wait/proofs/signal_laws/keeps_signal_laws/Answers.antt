use Rattle.zk_model_wait.proofs.signal_laws.keeps_signal_laws.Goals as goal

pub returns : goal.returns
returns c = λ h legal. record {
  stamps = c.stamps_tell_writes.ensures.stamps h legal;
  looks = c.stamps_tell_writes.ensures.looks h legal;
  first = c.stamps_tell_writes.ensures.first h legal;
  last = c.stamps_tell_writes.ensures.last h legal;
  always = c.stamps_tell_writes.ensures.always h legal;
}
