-- The record of a row, part by part; where its numbers fit their bytes it is the row's post. Assumes nothing.
use mathlib.Core.Path.{◌≡◌, ◌∙◌}
use mathlib.Core.List.{List, map}
use Prim.Native.Nat.{ℕ, ◌<◌, ◌≤◌}
use native.Mathlib.Nat.{mod-eq_of_lt}
use borrow.Author.Tests.{le-leb, lt-leb}
use lib.ListN.{length, get_or, take, drop, length-map, get_or-map}
use lib.Seq.{ext_get_or}
use Rattle.post.specs.declared.Post.{Post}
use Rattle.post.specs.Record.{fresh_post}
use Rattle.row.specs.Rows.{part, post_in}
use Rattle.post_row.specs.Records.{byte_of, as_record, record_in, Fits}

-- the numbers of a record, and its arrays
pub stores : (l : List ℕ) (lane posts sources dests serial logged : ℕ) (last table stamps words log : List ℕ) → 543 ≤ length l
    → lane ≡ byte_of (get_or l 0 0) → posts ≡ byte_of (get_or l 542 0) → sources ≡ byte_of (get_or l 1 0) → dests ≡ byte_of (get_or l 2 0)
    → serial ≡ byte_of (get_or l 4 0) → logged ≡ byte_of (get_or l 5 0)
    → last ≡ map byte_of (take 8 (drop 6 l)) → table ≡ take 136 (drop 22 l) → stamps ≡ take 128 (drop 158 l)
    → words ≡ take 128 (drop 286 l) → log ≡ map byte_of (take 128 (drop 414 l))
    → ◌≡◌ {A = Post} (record { lane = lane; posts = posts; sources = sources; dests = dests; clock = record { 0 = get_or l 3 0 }; serial = record { 0 = serial }; logged = logged; last = last; table = table; stamps = stamps; words = words; log = log })
    (record_in l)
unfolding record_in post_in part
stores l lane posts sources dests serial logged last table stamps words log h ea eb ec ed ee ef el et es ew eg =
    rw (le-leb 543 (length l) h, ea, eb, ec, ed, ee, ef, el, et, es, ew, eg)

pub stores_none : (l : List ℕ) (q : Post) → length l < 543 → q ≡ fresh_post 0 0 0 0 → q ≡ record_in l
unfolding record_in
stores_none l q h e = rw (lt-leb 543 (length l) h) e

-- ---- where the numbers fit

fit_bytes : (l : List ℕ) → ((i : ℕ) → get_or l i 0 < 256) → map byte_of l ≡ l
fit_bytes l h = ext_get_or 0 (map byte_of l) l (length-map l byte_of) (λ i k. get_or-map byte_of l i 0 ∙ mod-eq_of_lt (h i))

pub record_whole : (p : Post) → Fits p → as_record p ≡ p
record_whole p f =
    rw (
      mod-eq_of_lt f.lane,
      mod-eq_of_lt f.posts,
      mod-eq_of_lt f.sources,
      mod-eq_of_lt f.dests,
      mod-eq_of_lt f.serial,
      mod-eq_of_lt f.logged,
      fit_bytes p.last f.last,
      fit_bytes p.log f.log,
    )

pub stored_whole : (l : List ℕ) → 543 ≤ length l → Fits (post_in l) → record_in l ≡ post_in l
unfolding record_in
stored_whole l h f = rw (le-leb 543 (length l) h) (record_whole (post_in l) f)
