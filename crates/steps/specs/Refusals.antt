-- Refusals 21 to 24, 26 and 28 to 30, each as document 01 words it, and which of them wins. Assumes nothing.
use Rattle.std.specs.Prelude.{ℕ, ◌+◌, max, Bool, cond, not, ◌&&◌, ◌||◌, ltb, leb, eqb}
use Rattle.frame.specs.Lanes.{any_below}
use Rattle.frame.specs.Layout.{entry_of}
use Rattle.frame.specs.declared.Entry.{Entry}
use Rattle.frame.specs.declared.Frame.{Frame}
use Rattle.cells.specs.Sets.{has_lane}
use Rattle.cells.specs.Tables.{order_place}
use Rattle.post.specs.declared.Post.{Post}
use Rattle.post.specs.Record.{is_post, is_source, last_of}
use Rattle.deliver.specs.Delivery.{stamp_at}

-- 21. "Post not in the yard."
abbrev pub not_in_yard : ℕ → ℕ → Bool
not_in_yard posts lane = not (has_lane posts lane)

-- 22. "Order at a post that is no source."
abbrev pub no_source : ℕ → ℕ → Bool
no_source sources lane = not (has_lane sources lane)

-- 23. "That lane has sent 16."
abbrev pub serials_spent : ℕ → Bool
serials_spent serial = leb 16 serial

-- 24. "Clock would pass 65,535": by an order
abbrev pub clock_spent : ℕ → Bool
clock_spent clock = leb 65535 clock

-- the refusal of an order, or 0
unfoldable pub order_refusal : Post → ℕ
order_refusal p =
    cond (not_in_yard p.posts p.lane) 21
    (cond (no_source p.sources p.lane) 22
    (cond (serials_spent p.serial.0) 23
    (cond (clock_spent p.clock.0) 24
    0)))

-- "For an order frame of lane q with serial n: n equal to last taken + 1 is *taken*"
abbrev pub is_order : Frame → Bool
is_order f = eqb f.kind 1

abbrev pub is_next : Frame → ℕ → Bool
is_next f last = is_order f && eqb f.serial.0 (last + 1)

-- 24. "Clock would pass 65,535": by the taking of an order at a source
abbrev pub clock_passes : Post → Frame → Bool
clock_passes p f = is_next f (last_of p f.lane) && is_source p p.lane && leb 65535 (max p.clock.0 f.stamp.0)

-- 26. "The post's own broadcast."
abbrev pub own_broadcast : Post → Frame → Bool
own_broadcast p f = eqb f.sender p.lane

-- an entry that has a stamp
abbrev pub has_stamp : Entry → Bool
has_stamp e = not (eqb e.stamp.0 0)

-- "an entry belongs to a lane that is no source"
unfoldable pub strange_entries : ℕ → Frame → Bool
strange_entries sources f = any_below (λ (i : ℕ). has_stamp (entry_of f i) && not (has_lane sources i)) 8

-- 28. "Sender not in the yard, or the order or an entry belongs to a lane that is no source."
abbrev pub strange : Post → Frame → Bool
strange p f = not (is_post p f.sender) || (is_order f && not (is_source p f.lane)) || strange_entries p.sources f

-- the stamp of the last order taken from the frame's lane
abbrev pub last_stamp : Post → Frame → ℕ
last_stamp p f = stamp_at p (order_place f.lane (last_of p f.lane))

-- 29. "An order to be taken whose stamp is not above that lane's last taken one"
abbrev pub not_above : Post → Frame → Bool
not_above p f = is_next f (last_of p f.lane) && ltb 0 (last_of p f.lane) && leb f.stamp.0 (last_stamp p f)

-- 30. "An entry, or an order of the hearing post's lane, has a serial above its own, or such an entry has a stamp above its clock."
abbrev pub beyond_own : Post → Frame → Bool
beyond_own p f =
    let own = entry_of f p.lane in
    (is_order f && eqb f.lane p.lane && ltb p.serial.0 f.serial.0)
    || (has_stamp own && (ltb p.serial.0 own.serial.0 || ltb p.clock.0 own.stamp.0))

-- the refusal of a hearing, or 0
unfoldable pub hear_refusal : Post → Frame → ℕ
hear_refusal p f =
    cond (not_in_yard p.posts p.lane) 21
    (cond (clock_passes p f) 24
    (cond (own_broadcast p f) 26
    (cond (strange p f) 28
    (cond (not_above p f) 29
    (cond (beyond_own p f) 30
    0)))))

-- the refusal of a beacon, or 0
abbrev pub beacon_refusal : Post → ℕ
beacon_refusal p = cond (not_in_yard p.posts p.lane) 21 0
