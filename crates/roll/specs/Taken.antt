-- How many orders the posts of a yard have taken, and how many beacons they have sent. Assumes nothing.
use Rattle.std.specs.Prelude.{ℕ, zero, suc, ◌+◌}
use Rattle.post.specs.Record.{last_of}
use Rattle.state.specs.Yards.{post_at, beacons_at}
use Rattle.yard.specs.Worlds.{World}

-- f 0 + .. + f (k - 1)
unfoldable pub sum_below : ℕ → (ℕ → ℕ) → ℕ
sum_below zero f = 0
sum_below (suc k) f = f k + sum_below k f

-- how many orders the posts have taken, all posts and lanes together
unfoldable pub orders_taken : World → ℕ
orders_taken w = sum_below 8 (λ (p : ℕ). sum_below 8 (last_of (post_at w.yard p)))

-- how many beacons they have sent, all posts together
unfoldable pub beacons_of_all : World → ℕ
beacons_of_all w = sum_below 8 (beacons_at w.yard)
