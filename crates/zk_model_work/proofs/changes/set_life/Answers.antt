use Rattle.zk_model_work.proofs.Writes.{set-life, set_life-past}
use Rattle.zk_model_work.proofs.changes.set_life.Goals as goal

pub returns-then-number-admissions : goal.returns-then-number-admissions
returns-then-number-admissions c = set-life c.args.admissions.now c.args.number _ c.args.life c.if-number-admissions.true

pub returns-else-number-admissions : goal.returns-else-number-admissions
returns-else-number-admissions c = set_life-past c.args.admissions.now c.args.number c.args.life c.if-number-admissions.false
