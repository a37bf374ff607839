-- THE DESK GETS WHAT THE POST LOGGED, proved: `desk`, of specs/Desk.antt. Assumes nothing.
use Rattle.csv_log.proofs.Short.{log_short}
use Rattle.files.proofs.Theorem.{exactly}
use Rattle.desk.specs.Desk.{Desk}
use Rattle.desk.proofs.YardLogs.{desk_by}

pub desk : Desk
desk = desk_by exactly log_short
