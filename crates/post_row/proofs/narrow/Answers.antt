use Rattle.std.proofs.Common.{map, sym, ◌∙◌, arith}
use lib.ListN.{get_or-map, length-map}
use lib.Seq.{ext_get_or}
use Rattle.post_row.specs.Records.{byte_of}
use Rattle.post_row.proofs.narrow.Goals as goal

pub returns : goal.returns
returns c =
    let l = length-map c.args.from.now byte_of in
    ext_get_or 0 c.loop-i.to (map byte_of c.args.from.now) (omega arith) (λ k h. c.loop-i.invariant k (omega arith) ∙ sym (get_or-map byte_of c.args.from.now k 0))
