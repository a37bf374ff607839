-- The yard, and a fresh one: document 01, "Posts, stamps, serials" and "The words of demand 3". Assumes nothing.
use Rattle.std.specs.Prelude.{ℕ, Bool, cond, List, [], map, leb, eqb, get_or, replicate}
use Rattle.std.specs.Int.Count.{ones}
use Rattle.frame.specs.Lanes.{lanes}
use Rattle.cells.specs.Sets.{role_astray}
use Rattle.post.specs.declared.Post.{Post}
use Rattle.post.specs.Record.{fresh_post}

-- the lanes that have a post, the sources among them, a record for each lane, how many frames were sent, how many beacons by the post
-- of each lane, and for each order the number of its first frame, at the order's place
pub record Yard : Type 0 where
  pub present : ℕ
  pub sources : ℕ
  pub posts : List Post
  pub frames : ℕ
  pub beacons : List ℕ
  pub first : List ℕ

-- what a list of posts gives past its end
abbrev pub no_post : Post
no_post = record {
  lane = 0;
  posts = 0;
  sources = 0;
  dests = 0;
  clock = record { 0 = 0 };
  serial = record { 0 = 0 };
  last = [];
  table = [];
  stamps = [];
  words = [];
  log = [];
  logged = 0;
}

-- the record of a lane; a lane without a post has one too, which is not in the yard (21)
abbrev pub post_at : Yard → ℕ → Post
post_at y lane = get_or y.posts lane no_post

-- how many beacons the post of a lane has sent
abbrev pub beacons_at : Yard → ℕ → ℕ
beacons_at y lane = get_or y.beacons lane 0

-- K2, "Each post gets 128 of its own": a post that has sent so many has none left
abbrev pub spent : ℕ → Bool
spent beacons = leb 128 beacons

-- "A fresh yard is any yard before its first step: each post fresh, no frame on the air yet, no beacon sent."
unfoldable pub fresh_yard : ℕ → ℕ → ℕ → Yard
fresh_yard present sources dests = record {
  present = present;
  sources = sources;
  posts = map (λ (lane : ℕ). fresh_post lane present sources dests) lanes;
  frames = 0;
  beacons = replicate 8 0;
  first = replicate 128 0;
}

-- 3, "no posts": N, the count of ones, is 0; 12, "a role at a lane without a post": then each record would be turned down, and only then
unfoldable pub yard_refusal : ℕ → ℕ → ℕ → ℕ
yard_refusal present sources dests =
    cond (eqb (ones present) 0) 3
    (cond (role_astray present sources dests) 12
    0)

-- a fresh yard and 0, or a refusal
pub record FreshYard : Type 0 where
  pub refusal : ℕ
  pub yard : Yard

-- the fresh yard of three sets of lanes, or the refusal beside a yard without posts
unfoldable pub yard_made : ℕ → ℕ → ℕ → FreshYard
yard_made present sources dests =
    cond (eqb (yard_refusal present sources dests) 0) (record { refusal = 0; yard = fresh_yard present sources dests })
    (record { refusal = yard_refusal present sources dests; yard = fresh_yard 0 0 0 })
