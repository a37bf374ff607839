-- A script's lines as they are written: document 01, "Script and printout". Assumes nothing.
use Rattle.std.specs.Prelude.{ℕ, zero, suc, ◌<◌, ◌≡◌, true, cond, List, [], ◌++◌}
use Rattle.text.specs.Bytes.{bytes}
use Rattle.text.specs.Decimal.{decimal}
use Rattle.cells.specs.Sets.{has_lane}
use Rattle.lines.specs.Line.{Line, Yard, Order, Hear, Beacon, Roll, Refused}

-- "A post is source, dest, both or relay (neither)."
unfoldable pub role_text : ℕ → ℕ → ℕ → List ℕ
role_text sources dests lane =
    cond (has_lane sources lane)
    (cond (has_lane dests lane) (bytes "both") (bytes "source"))
    (cond (has_lane dests lane) (bytes "dest") (bytes "relay"))

-- ` (LANE ROLE)` for each post below lane k, lanes rising
unfoldable pub post_texts : ℕ → ℕ → ℕ → ℕ → List ℕ
post_texts posts sources dests zero = []
post_texts posts sources dests (suc lane) =
    post_texts posts sources dests lane
    ++ cond (has_lane posts lane) (bytes " (" ++ decimal lane ++ bytes " " ++ role_text sources dests lane ++ bytes ")") []

-- a line with its line feed
unfoldable pub line_text : Line → List ℕ
line_text (Yard posts sources dests next) = bytes "(yard" ++ post_texts posts sources dests 8 ++ bytes ")\n"
line_text (Order lane word next) = bytes "(order " ++ decimal lane ++ bytes " " ++ decimal word ++ bytes ")\n"
line_text (Hear lane frame next) = bytes "(hear " ++ decimal lane ++ bytes " " ++ decimal frame ++ bytes ")\n"
line_text (Beacon lane next) = bytes "(beacon " ++ decimal lane ++ bytes ")\n"
line_text (Roll next) = bytes "(roll)\n"
line_text (Refused number) = []

-- no role at a lane without a post
abbrev pub Roles : ℕ → ℕ → Type 0
Roles posts roles = (lane : ℕ) → has_lane roles lane ≡ true → has_lane posts lane ≡ true

-- a line that may stand at a place: the yard on line 1, with a post at least; a step on a later line, its numbers in range
abbrev pub Right : ℕ → Line → Type 0
Right at (Yard posts sources dests next) =
    (at ≡ 0) × (0 < posts) × (posts < 256) × (sources < 256) × (dests < 256) × Roles posts sources × Roles posts dests
Right at (Order lane word next) = (0 < at) × (lane < 8) × (word < 65536)
Right at (Hear lane frame next) = (0 < at) × (lane < 8) × (frame < 100000)
Right at (Beacon lane next) = (0 < at) × (lane < 8)
Right at (Roll next) = 0 < at
Right at (Refused number) = ⊥
