-- The judgement of a post's record, refusal 12, as document 01 words it. Assumes nothing.
-- The clock, the stamps, the words and the table hold 16 bits, and each of those numbers is in its range.
use Rattle.std.specs.Prelude.{ℕ, Bool, cond, not, ◌&&◌, ◌||◌, ltb, leb, eqb, get_or}
use Rattle.frame.specs.Lanes.{any_below}
use Rattle.cells.specs.Sets.{role_astray}
use Rattle.post.specs.declared.Post.{Post}
use Rattle.post.specs.Record.{last_of}
use Rattle.deliver.specs.Delivery.{is_taken, stamp_at}

-- the word of the order at a place, and the place that stands k-th in the log
abbrev pub word_at : Post → ℕ → ℕ
word_at p place = get_or p.words place 0

abbrev pub logged_at : Post → ℕ → ℕ
logged_at p k = get_or p.log k 0

-- "a number outside its range": lanes are 0 to 7, serials up to 16, and a log has at most 128 orders
abbrev pub bad_number : Post → Bool
bad_number p = ltb 7 p.lane || ltb 16 p.serial.0 || ltb 128 p.logged || any_below (λ (i : ℕ). ltb 16 (last_of p i)) 8

-- "a role at a lane without a post"
abbrev pub bad_role : Post → Bool
bad_role p = role_astray p.posts p.sources p.dests

-- "an own serial other than the last taken from its own lane"
abbrev pub bad_own_serial : Post → Bool
bad_own_serial p = not (eqb p.serial.0 (last_of p p.lane))

-- "an order missing up to the last serial taken"
abbrev pub is_missing : Post → ℕ → Bool
is_missing p place = is_taken p place && eqb (stamp_at p place) 0

-- "or kept beyond it": a place beyond is all zero
abbrev pub kept_beyond : Post → ℕ → Bool
kept_beyond p place = not (is_taken p place) && (not (eqb (stamp_at p place) 0) || not (eqb (word_at p place) 0))

unfoldable pub bad_orders : Post → Bool
bad_orders p = any_below (λ (place : ℕ). is_missing p place || kept_beyond p place) 128

-- "a log that repeats an order": the k-th is one of those before it
abbrev pub repeats : Post → ℕ → Bool
repeats p k = any_below (λ (j : ℕ). eqb (logged_at p j) (logged_at p k)) k

-- "or has one not taken"; a place over 127 is no order's
abbrev pub not_taken : Post → ℕ → Bool
not_taken p k = ltb 127 (logged_at p k) || not (is_taken p (logged_at p k))

-- the k-th place of the log is bad; past the log's end it is 0
abbrev pub bad_logged : Post → ℕ → Bool
bad_logged p k = (ltb k p.logged && (repeats p k || not_taken p k)) || (leb p.logged k && not (eqb (logged_at p k) 0))

unfoldable pub bad_log : Post → Bool
bad_log p = any_below (bad_logged p) 128

-- 12
unfoldable pub bad_record : Post → Bool
bad_record p = bad_number p || bad_role p || bad_own_serial p || bad_orders p || bad_log p

-- the refusal of a record, or 0
abbrev pub record_refusal : Post → ℕ
record_refusal p = cond (bad_record p) 12 0
