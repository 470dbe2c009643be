use Rattle.zk_worker.proofs.protocol.frame_goes_on.Goals as goal

pub returns-in-Worker-clause-done : goal.returns-in-Worker-clause-done
returns-in-Worker-clause-done c = rw c.in-Worker.is (c.worker_goes_on.ensures c.args.step c.args.answers.now.items)
