use Rattle.std.proofs.Common.{◌≡◌, ◌+◌, ◌%◌, ap, ◌∙◌, arith}
use Rattle.newest.proofs.NewestLaws.{serial_is, greatest_bound, flag_of, flag_last, last_one, last_more_lem, last_bound}
use Rattle.newest.proofs.last_under.Goals as goal

pub loop-serial-init : goal.loop-serial-init
loop-serial-init c = (omega arith, ap flag_of (last_one _ _ _))

pub flagged-found-requires : goal.flagged-found-requires
flagged-found-requires c =
    let e : 0 + c.loop-serial.serial ≡ c.loop-serial.serial = omega arith in
    (omega (arith, rw e at (greatest_bound c.args.stamps.now 0 17 c.loop-serial.serial (omega arith))), omega arith, omega arith)

pub loop-serial-preserved : goal.loop-serial-preserved
loop-serial-preserved c = (omega arith, last_more_lem _ 0 _ _ _ _ _ _ (omega arith) (omega arith) c.loop-serial.invariant.1 c.flagged-found.ensures c.max-highest.ensures)

pub returns : goal.returns
returns c =
    let e : c.loop-serial.serial ≡ 17 = omega arith in
    serial_is _ _ (ap (λ n. n % 32) (rw e at c.loop-serial.invariant.1) ∙ flag_last _ (omega (arith, last_bound c.args.stamps.now 0 c.args.greatest.0 17)))
