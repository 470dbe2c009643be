use Rattle.std.proofs.lemmas.Result.{on_err_weaker}
use Rattle.zk_base.proofs.Fronts.{front_before}
use Rattle.zk_line.proofs.print.put_channel.Goals as goal

pub returns-in_ok-put_validator-in-Some-clause-kept : goal.returns-in_ok-put_validator-in-Some-clause-kept
returns-in_ok-put_validator-in-Some-clause-kept c =
    on_err_weaker c.put_objects.result
    (λ last. front_before _ _ _ _ c.in_ok-push-in-Some.ensures.items
    (front_before _ _ _ _ c.in_ok-put_decimal-in-Some.ensures.ok
    (front_before _ _ _ _ c.in_ok-push-in-Some-2.ensures.items
    (front_before _ _ _ _ c.in_ok-put_hex-in-Some.ensures.text
    (front_before _ _ _ _ c.in_ok-push-in-Some-3.ensures.items
    (front_before _ _ _ _ c.in_ok-put_validator-in-Some.ensures.text last))))))
    c.put_objects.ensures.kept
