-- A record put into a row, and the record of a row, which keeps some cells as bytes. Assumes nothing.
use Rattle.std.specs.Prelude.{cond, List, map, ℕ, ◌%◌, ◌<◌, leb, length, get_or}
use Rattle.post.specs.declared.Post.{Post}
use Rattle.post.specs.Record.{fresh_post}
use Rattle.row.specs.Rows.{post_in}

-- the post of a row that p is put into; a row that is cut short keeps its own
abbrev pub loaded_in : List ℕ → Post → Post
loaded_in row p = cond (leb 543 (length row)) p (post_in row)

-- a cell as a byte: its eight lowest bits
abbrev pub byte_of : ℕ → ℕ
byte_of n = n % 256

-- a post as its record keeps it: lane, sets, serials and log in bytes
abbrev pub as_record : Post → Post
as_record p = record {
  lane = byte_of p.lane;
  posts = byte_of p.posts;
  sources = byte_of p.sources;
  dests = byte_of p.dests;
  clock = p.clock;
  serial = record { 0 = byte_of p.serial.0 };
  logged = byte_of p.logged;
  last = map byte_of p.last;
  table = p.table;
  stamps = p.stamps;
  words = p.words;
  log = map byte_of p.log;
}

-- the record of a row; a row that is cut short has one of zeros
unfoldable pub record_in : List ℕ → Post
record_in row = cond (leb 543 (length row)) (as_record (post_in row)) (fresh_post 0 0 0 0)

-- the numbers of p, which its record keeps in bytes, fit there: then the record keeps p (`record_whole`)
pub record Fits (p : Post) : Type 0 where
  pub lane : p.lane < 256
  pub posts : p.posts < 256
  pub sources : p.sources < 256
  pub dests : p.dests < 256
  pub serial : p.serial.0 < 256
  pub logged : p.logged < 256
  pub last : (i : ℕ) → get_or p.last i 0 < 256
  pub log : (i : ℕ) → get_or p.log i 0 < 256
