-- A trace in form has few objects: their numbers have 32 bits.
use Rattle.std.proofs.Common.{◌<◌, ◌^◌, [], length, arith}
use Rattle.std.specs.List.{AllByRecursion}
use Rattle.zk_blocks.specs.Blocks.{FitsGiven}
use Rattle.zk_blocks.proofs.Each.{each_fits-length}
use Rattle.zk_line.specs.Objects.{is_sem, is_msgq, is_signal, is_chan, is_observer}
use Rattle.zk_scenario.specs.Content.{Content}
use Rattle.zk_scenario.specs.Valid.{IsValid}
use Rattle.zk_scenario.proofs.Valid.{length-decls}
use Rattle.zk_trace.specs.declared.trace.Trace.{Trace}
use Rattle.zk_trace.specs.EntryKinds.{IsSem, IsMsgq, IsSignal, IsChan, IsObs}
use Rattle.zk_trace.specs.Form.{IsInForm}
use Rattle.zk_trace.specs.Stood.{AreFew}

-- there is a list for each declaration, of which there are few
pub form-few : (s : Content) (t : Trace) → IsInForm s t → IsValid s → AreFew t
form-few s t form valid =
    let decls = s.decls in
    let most = length-decls s valid in
    let few : length decls < 2 ^ 32 = omega (arith, most) in
    record {
      sems = omega (arith, few, each_fits-length (λ d. FitsGiven (is_sem d) [] (AllByRecursion (IsSem decls))) decls t.sems form.sems);
      msgqs = omega (arith, few, each_fits-length (λ d. FitsGiven (is_msgq d) [] (AllByRecursion (IsMsgq decls))) decls t.msgqs form.msgqs);
      signals = omega (arith, few, each_fits-length (λ d. FitsGiven (is_signal d) [] (AllByRecursion (IsSignal decls))) decls t.signals form.signals);
      chans = omega (arith, few, each_fits-length (λ d. FitsGiven (is_chan d) [] (AllByRecursion (IsChan decls))) decls t.chans form.chans);
      observers = omega (arith, few, each_fits-length (λ d. FitsGiven (is_observer d) [] (AllByRecursion (IsObs decls))) decls t.observers form.observers);
    }
