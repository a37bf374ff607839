use native.Mathlib.Omega.{arith}
use mathlib.Core.Path.{◌≡◌, refl, sym, ◌∙◌}
use lib.ListN.{length}
use Rattle.state.proofs.FreshWays.{fresh_no_posts, fresh_astray, fresh_short, fresh_made}
use Rattle.state.proofs.fresh.Goals as goal

pub returns-then-present-eq0 : goal.returns-then-present-eq0
returns-then-present-eq0 c = fresh_no_posts c.args.state.now c.args.present c.args.sources c.args.dests c.if-present-eq0.true

pub returns-then-role_astray : goal.returns-then-role_astray
returns-then-role_astray c = fresh_astray c.args.state.now c.args.present c.args.sources c.args.dests c.if-present-eq0.false (sym c.role_astray.ensures ∙ c.if-role_astray.true)

pub returns-in_default : goal.returns-in_default
returns-in_default c = fresh_short c.args.state.now c.args.present c.args.sources c.args.dests c.if-present-eq0.false c.in_default.ensures.cases

pub returns : goal.returns
returns c =
    let long : length c.args.state.now ≡ 4483 = c.in-Some.ensures.variant.0 refl in
    fresh_made c.args.state.now c.lay_front.new.state c.lay_rows.new.state c.args.present c.args.sources c.args.dests long c.if-present-eq0.false
    (sym c.role_astray.ensures ∙ c.if-role_astray.false) (omega arith) c.lay_front.ensures c.lay_rows.ensures.fresh_below c.lay_rows.ensures.front
