-- A post's record in one row of 543 cells of 16 bits. Assumes nothing.
-- Any row is some record: a cell past its end is 0, and a part past its end is shorter.
use Rattle.std.specs.Prelude.{ℕ, ◌+◌, cond, List, ltb, get_or, set, take, drop}
use Rattle.cells.specs.Tables.{entry_place}
use Rattle.post.specs.declared.Post.{Post}
use Rattle.row.specs.declared.Numbers.{Numbers}

-- the n cells from `first` on
unfoldable pub part : List ℕ → ℕ → ℕ → List ℕ
part row first n = take n (drop first row)

-- the row with cell i of those n set; outside them nothing changes
unfoldable pub put_in : List ℕ → ℕ → ℕ → ℕ → ℕ → List ℕ
put_in row first n i v = cond (ltb i n) (set row (first + i) v) row

-- the record: numbers, then arrays, and the set of posts at the very end, so that a row that is cut short has no posts (21)
unfoldable pub post_in : List ℕ → Post
post_in row = record {
  lane = get_or row 0 0;
  sources = get_or row 1 0;
  dests = get_or row 2 0;
  clock = record { 0 = get_or row 3 0 };
  serial = record { 0 = get_or row 4 0 };
  logged = get_or row 5 0;
  last = part row 6 8;
  table = part row 22 136;
  stamps = part row 158 128;
  words = part row 286 128;
  log = part row 414 128;
  posts = get_or row 542 0;
}

-- its numbers alone
abbrev pub numbers_of : Post → Numbers
numbers_of p = record {
  lane = p.lane;
  posts = p.posts;
  sources = p.sources;
  dests = p.dests;
  clock = p.clock;
  serial = record { 0 = p.serial.0 };
  logged = p.logged;
}

-- no part of the record: the serial up to which each lane's orders are known to be logged
unfoldable pub known_in : List ℕ → List ℕ
known_in row = part row 14 8

-- the cells past the record, which no step touches: with the record and what is known they are the whole row (`row_told`)
unfoldable pub past_in : List ℕ → List ℕ
past_in row = drop 543 row

-- the row with another own serial and clock, and with the clock as the post's own entry of the table
abbrev pub ticked_row : List ℕ → ℕ → ℕ → List ℕ
ticked_row row serial clock = put_in (set (set row 3 clock) 4 serial) 22 136 (entry_place (post_in row).lane serial) clock

-- p with another newest-stamp table
abbrev pub with_table : Post → List ℕ → Post
with_table p table = record {
  lane = p.lane;
  posts = p.posts;
  sources = p.sources;
  dests = p.dests;
  clock = p.clock;
  serial = p.serial;
  last = p.last;
  table = table;
  stamps = p.stamps;
  words = p.words;
  log = p.log;
  logged = p.logged;
}
