-- Taking an order: document 01, "Order" and "Hear" part 3. Assumes nothing.
use Rattle.std.specs.Prelude.{ℕ, ◌+◌, max, cond, set}
use Rattle.frame.specs.declared.Frame.{Frame}
use Rattle.cells.specs.Tables.{with_stamp, order_place}
use Rattle.post.specs.declared.Post.{Post}
use Rattle.post.specs.Record.{is_source, with_clock, with_orders}
use Rattle.post.specs.Newest.{raised_below}

-- "the order is kept, last taken from q becomes n"
unfoldable pub kept : Post → ℕ → ℕ → ℕ → ℕ → Post
kept p q n stamp word = with_orders p (set p.last q n) (set p.stamps (order_place q n) stamp) (set p.words (order_place q n) word)

-- "its clock becomes .. and its entry (p, own serial) becomes the clock"
unfoldable pub ticked : Post → ℕ → ℕ → Post
ticked p serial clock = with_clock p clock serial (with_stamp p.table p.lane serial clock)

-- "Clock and own serial each rise by 1. The table entry (p, serial) becomes the clock. The post takes its own order"
unfoldable pub own_taken : Post → ℕ → Post
own_taken p word =
    let clock = p.clock.0 + 1 in
    let serial = p.serial.0 + 1 in
    kept (ticked p serial clock) p.lane serial clock word

-- hear, part 1
unfoldable pub raised_post : Post → Frame → Post
raised_post p f = with_clock p p.clock.0 p.serial.0 (raised_below p.table f.entries 8)

-- hear, parts 1 and 3, of an order that is taken: "if p is a source its clock becomes max(clock, stamp) + 1"
unfoldable pub taken : Post → Frame → Post
taken p f =
    let q = kept (raised_post p f) f.lane f.serial.0 f.stamp.0 f.word in
    cond (is_source p p.lane) (ticked q p.serial.0 (max p.clock.0 f.stamp.0 + 1)) q
