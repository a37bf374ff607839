use native.Mathlib.Omega.{arith}
use Rattle.scan.proofs.TextLaws.{stands_past}
use Rattle.scan.proofs.Here.{starts_stand}
use Rattle.scan.proofs.stands_at.Goals as goal

pub returns-in-Some : goal.returns-in-Some
returns-in-Some c =
    let r = c.in-Some.ensures.lookup.0 in
    starts_stand _ _ _ _ _ r.2 r.0 c.starts_with.ensures.value c.starts_with.ensures.bound

pub returns-in-None : goal.returns-in-None
returns-in-None c = let h = c.in-None.ensures.lookup.0 in stands_past _ _ _ (omega arith)
