use Rattle.script.proofs.ScriptWays.{good_posts}
use Rattle.std.proofs.Common.{rules}
use Rattle.script.proofs.print_good.Goals as goal

pub returns : goal.returns
returns c =
    let both = good_posts _ _ _ _ _ _ _ c.requires c.run_good.array_long c.run_good.ensures.air_after (rw c.new-printed.ensures.held at c.run_good.ensures.printed.1) c.put_posts.ensures.1 in
    record { result_after = search (rules, both.0); bytes = both.1 }
