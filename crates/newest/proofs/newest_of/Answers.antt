use Rattle.std.proofs.Common.{refl, ap, sym, arith}
use Rattle.newest.proofs.NewestLaws.{newest_none, newest_found}
use Rattle.newest.proofs.newest_of.Goals as goal

pub last_under-requires : goal.last_under-requires
last_under-requires c = (c.requires, omega arith, sym (rw c.requires at (ap (λ s. s.0) c.greatest-stamp.ensures)))

pub returns-then-stamp-eq0 : goal.returns-then-stamp-eq0
returns-then-stamp-eq0 c = newest_none _ 0 0 _ _ refl (rw c.requires at (ap (λ s. s.0) c.greatest-stamp.ensures)) (omega arith) refl

pub returns : goal.returns
returns c = newest_found _ 0 0 _ _ refl (rw c.requires at (ap (λ s. s.0) c.greatest-stamp.ensures)) (omega arith) (ap (λ s. s.0) c.last_under.ensures)
