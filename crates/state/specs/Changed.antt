-- A yard with something changed, for the definitions of its steps. Assumes nothing.
use Rattle.std.specs.Prelude.{ℕ, List, set}
use Rattle.post.specs.declared.Post.{Post}
use Rattle.state.specs.Yards.{Yard}

-- y with another record of a lane, and so many frames on the air
abbrev pub with_post : Yard → ℕ → Post → ℕ → Yard
with_post y lane p frames = record {
  present = y.present;
  sources = y.sources;
  posts = set y.posts lane p;
  frames = frames;
  beacons = y.beacons;
  first = y.first;
}

-- y with so many frames on the air, and so many beacons sent by each lane
abbrev pub with_beacons : Yard → ℕ → List ℕ → Yard
with_beacons y frames beacons = record {
  present = y.present;
  sources = y.sources;
  posts = y.posts;
  frames = frames;
  beacons = beacons;
  first = y.first;
}
