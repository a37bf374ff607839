use native.Mathlib.Omega.{arith}
use Rattle.csv_log.proofs.Entries.{write_good}
use Rattle.csv_log.proofs.write.Goals as goal

pub overflow_cast-result : goal.overflow_cast-result
overflow_cast-result c = omega (arith, (write_good _ _ _ _ c.if-buffer-ne-BUFFER.false c.in_ok-check.ensures c.put_log.ensures).2)

pub returns-clause-length : goal.returns-clause-length
returns-clause-length c = (write_good _ _ _ _ c.if-buffer-ne-BUFFER.false c.in_ok-check.ensures c.put_log.ensures).0

pub returns-clause-bytes : goal.returns-clause-bytes
returns-clause-bytes c = (write_good _ _ _ _ c.if-buffer-ne-BUFFER.false c.in_ok-check.ensures c.put_log.ensures).1
