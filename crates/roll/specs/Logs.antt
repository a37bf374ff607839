-- Delivery logs as lists of orders, and orders by stamp and then lane: document 01, "The words of demand 3". Assumes nothing.
use Rattle.std.specs.Prelude.{ℕ, ◌+◌, ◌*◌, ◌/◌, ◌%◌, Bool, List, map, ltb, get_or, take}
use Rattle.post.specs.declared.Post.{Post}
use Rattle.deliver.specs.Delivery.{sort_by}
use Rattle.state.specs.Yards.{post_at}
use Rattle.yard.specs.Worlds.{World}
use Rattle.laws.specs.Lists.{RisingBy}
use Rattle.roll.specs.Runs.{Order}

-- the order that a post keeps at a place: 16 places for each lane, a place for each serial from 1 on
abbrev pub order_at : Post → ℕ → Order
order_at p place = record {
  lane = place / 16;
  serial = place % 16 + 1;
  stamp = get_or p.stamps place 0;
  word = get_or p.words place 0;
}

-- a post's log holds places, the first `logged` of them
abbrev pub orders_logged : Post → List Order
orders_logged p = map (order_at p) (take p.logged p.log)

-- the delivery log of a lane
abbrev pub log_at : World → ℕ → List Order
log_at w lane = orders_logged (post_at w.yard lane)

-- "by stamp and then lane": the number that puts orders in this order, lanes being below 8
abbrev pub rank : Order → ℕ
rank o = 8 * o.stamp + o.lane

abbrev pub ranks_lower : Order → Order → Bool
ranks_lower x y = ltb (rank x) (rank y)

-- a list of orders by stamp and then lane
unfoldable pub in_order : List Order → List Order
in_order l = sort_by ranks_lower l

-- "each once": each order ranks above the one before, by stamp, and at equal stamps by lane
abbrev pub Rising : List Order → Type 0
Rising l = RisingBy rank l
