-- A post's record: document 01, "Posts, stamps, serials". Assumes nothing.
use Rattle.std.specs.Prelude.{ℕ, Bool, List, get_or, replicate}
use Rattle.cells.specs.Sets.{has_lane}
use Rattle.post.specs.declared.Post.{Post}

-- the roles of lane i
abbrev pub is_post : Post → ℕ → Bool
is_post p i = has_lane p.posts i

abbrev pub is_source : Post → ℕ → Bool
is_source p i = has_lane p.sources i

abbrev pub is_dest : Post → ℕ → Bool
is_dest p i = has_lane p.dests i

-- "the last serial taken from each lane"
abbrev pub last_of : Post → ℕ → ℕ
last_of p lane = get_or p.last lane 0

-- "A fresh post has clock 0, serial 0 and empty tables."
abbrev pub fresh_post : ℕ → ℕ → ℕ → ℕ → Post
fresh_post lane posts sources dests = record {
  lane = lane;
  posts = posts;
  sources = sources;
  dests = dests;
  clock = record { 0 = 0 };
  serial = record { 0 = 0 };
  last = replicate 8 0;
  table = replicate 136 0;
  stamps = replicate 128 0;
  words = replicate 128 0;
  log = replicate 128 0;
  logged = 0;
}

-- p with another clock, own serial and newest-stamp table
abbrev pub with_clock : Post → ℕ → ℕ → List ℕ → Post
with_clock p clock serial table = record {
  lane = p.lane;
  posts = p.posts;
  sources = p.sources;
  dests = p.dests;
  clock = record { 0 = clock };
  serial = record { 0 = serial };
  last = p.last;
  table = table;
  stamps = p.stamps;
  words = p.words;
  log = p.log;
  logged = p.logged;
}

-- p with other orders taken
abbrev pub with_orders : Post → List ℕ → List ℕ → List ℕ → Post
with_orders p last stamps words = record {
  lane = p.lane;
  posts = p.posts;
  sources = p.sources;
  dests = p.dests;
  clock = p.clock;
  serial = p.serial;
  last = last;
  table = p.table;
  stamps = stamps;
  words = words;
  log = p.log;
  logged = p.logged;
}

-- p with another log
abbrev pub with_log : Post → List ℕ → ℕ → Post
with_log p log logged = record {
  lane = p.lane;
  posts = p.posts;
  sources = p.sources;
  dests = p.dests;
  clock = p.clock;
  serial = p.serial;
  last = p.last;
  table = p.table;
  stamps = p.stamps;
  words = p.words;
  log = log;
  logged = logged;
}
