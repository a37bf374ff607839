-- The yard bench of document 01 as scripts: what each prints, byte for byte, and what P1 leaves on the air. Assumes nothing.
use Rattle.std.specs.Prelude.{ℕ, ◌≡◌, List, ◌++◌, replicate}
use Rattle.text.specs.Bytes.{bytes}
use Rattle.air.specs.Air.{stretch_at}
use Rattle.meaning.specs.Script.{printout, air_after}
use Rattle.table.specs.Cases.{frame4_bytes}

-- ---- what is compared

-- an air of this many bytes, before the first broadcast
abbrev pub quiet : ℕ → List ℕ
quiet size = replicate size 0

-- what a script prints over an air of this many bytes, and over a whole one
abbrev pub PrintsOver : ℕ → List ℕ → List ℕ → Type 0
PrintsOver size script text = printout script (quiet size) ≡ text

abbrev pub Prints : List ℕ → List ℕ → Type 0
Prints script text = PrintsOver 65536 script text

-- ---- the scripts

-- line 1 of document 01's script, a yard of one post, and one of two sources that log nothing
abbrev pub three : List ℕ
three = bytes "(yard (0 both) (1 source) (2 dest))\n"

abbrev pub alone : List ℕ
alone = bytes "(yard (0 both))\n"

abbrev pub two_sources : List ℕ
two_sources = bytes "(yard (0 source) (1 source) (2 dest))\n"

-- "its first four lines", "its first six lines", and all seven
abbrev pub lines4 : List ℕ
lines4 = three ++ bytes "(order 0 417)\n(hear 1 0)\n(order 1 90)\n"

abbrev pub lines6 : List ℕ
lines6 = lines4 ++ bytes "(hear 2 1)\n(hear 0 2)\n"

abbrev pub lines7 : List ℕ
lines7 = lines6 ++ bytes "(hear 2 9)\n"

-- orders of one post, a script of sixteen and what it prints
abbrev pub orders4 : List ℕ
orders4 = bytes "(order 0 1)\n(order 0 2)\n(order 0 3)\n(order 0 4)\n"

abbrev pub orders8 : List ℕ
orders8 = orders4 ++ bytes "(order 0 5)\n(order 0 6)\n(order 0 7)\n(order 0 8)\n"

abbrev pub orders12 : List ℕ
orders12 = orders8 ++ bytes "(order 0 9)\n(order 0 10)\n(order 0 11)\n(order 0 12)\n"

abbrev pub orders16 : List ℕ
orders16 = alone ++ orders12 ++ bytes "(order 0 13)\n(order 0 14)\n(order 0 15)\n(order 0 16)\n"

abbrev pub logged16 : List ℕ
logged16 =
    bytes "(post 0 (clock 16) (sent 16) (log (1 0 1) (2 0 2) (3 0 3) (4 0 4) (5 0 5) (6 0 6) (7 0 7) (8 0 8)"
    ++ bytes " (9 0 9) (10 0 10) (11 0 11) (12 0 12) (13 0 13) (14 0 14) (15 0 15) (16 0 16)))\n"

-- a step of each kind
abbrev pub each_step : List ℕ
each_step = alone ++ bytes "(order 0 1)\n(hear 0 0)\n(beacon 0)\n(roll)\n"

-- ---- P1 to P8

pub record ScriptBench : Type 0 where
  -- P1: "the printout above"
  pub P1 : Prints lines7
      (bytes "(refused 7 25)\n"
      ++ bytes "(post 0 (clock 4) (sent 1) (log (1 0 417) (3 1 90)))\n"
      ++ bytes "(post 1 (clock 3) (sent 1) (log))\n"
      ++ bytes "(post 2 (clock 0) (sent 0) (log (1 0 417)))\n")
  -- P2: "frame 4 of it", on the air that the script leaves
  pub P2 : stretch_at (air_after lines7 (quiet 65536)) 4 ≡ frame4_bytes
  -- P3: "its first four lines, then `(hear 2 2)`: log of 2 empty; then `(hear 2 0)`: (1 0 417) only"
  pub P3-empty : Prints (lines4 ++ bytes "(hear 2 2)\n")
      (bytes "(post 0 (clock 1) (sent 1) (log))\n"
      ++ bytes "(post 1 (clock 3) (sent 1) (log))\n"
      ++ bytes "(post 2 (clock 0) (sent 0) (log))\n")
  pub P3-only : Prints (lines4 ++ bytes "(hear 2 2)\n(hear 2 0)\n")
      (bytes "(post 0 (clock 1) (sent 1) (log))\n"
      ++ bytes "(post 1 (clock 3) (sent 1) (log))\n"
      ++ bytes "(post 2 (clock 0) (sent 0) (log (1 0 417)))\n")
  -- P4: "its first six lines, then `(roll)`: .. posts 0 and 2 log both orders"
  pub P4 : Prints (lines6 ++ bytes "(roll)\n")
      (bytes "(post 0 (clock 4) (sent 1) (log (1 0 417) (3 1 90)))\n"
      ++ bytes "(post 1 (clock 3) (sent 1) (log))\n"
      ++ bytes "(post 2 (clock 0) (sent 0) (log (1 0 417) (3 1 90)))\n")
  -- P5: "one post, both: `(order 0 5)` logs (1 0 5)", and a roll call changes nothing
  pub P5 : Prints (alone ++ bytes "(order 0 5)\n")
      (bytes "(post 0 (clock 1) (sent 1) (log (1 0 5)))\n")
  pub P5-roll : Prints (alone ++ bytes "(order 0 5)\n(roll)\n")
      (bytes "(post 0 (clock 1) (sent 1) (log (1 0 5)))\n")
  -- P6: "posts 0 and 1 both, orders 7 and 8, roll: .. logs (1 0 7) (1 1 8)"
  pub P6 : Prints (bytes "(yard (0 both) (1 both))\n(order 0 7)\n(order 1 8)\n(roll)\n")
      (bytes "(post 0 (clock 2) (sent 1) (log (1 0 7) (1 1 8)))\n"
      ++ bytes "(post 1 (clock 2) (sent 1) (log (1 0 7) (1 1 8)))\n")
  -- P7: "a frame heard twice: again, clock unchanged"
  pub P7-once : Prints (three ++ bytes "(order 0 417)\n(hear 1 0)\n")
      (bytes "(post 0 (clock 1) (sent 1) (log))\n"
      ++ bytes "(post 1 (clock 2) (sent 0) (log))\n"
      ++ bytes "(post 2 (clock 0) (sent 0) (log))\n")
  pub P7-twice : Prints (three ++ bytes "(order 0 417)\n(hear 1 0)\n(hear 1 0)\n")
      (bytes "(post 0 (clock 1) (sent 1) (log))\n"
      ++ bytes "(post 1 (clock 2) (sent 0) (log))\n"
      ++ bytes "(post 2 (clock 0) (sent 0) (log))\n")
  -- P8: "serial 2 heard before serial 1: early, then serial 1 is taken"
  pub P8-early : Prints (three ++ bytes "(order 0 417)\n(order 0 418)\n(hear 1 1)\n")
      (bytes "(post 0 (clock 2) (sent 2) (log))\n"
      ++ bytes "(post 1 (clock 0) (sent 0) (log))\n"
      ++ bytes "(post 2 (clock 0) (sent 0) (log))\n")
  pub P8-taken : Prints (three ++ bytes "(order 0 417)\n(order 0 418)\n(hear 1 1)\n(hear 1 0)\n")
      (bytes "(post 0 (clock 2) (sent 2) (log))\n"
      ++ bytes "(post 1 (clock 2) (sent 0) (log))\n"
      ++ bytes "(post 2 (clock 0) (sent 0) (log))\n")

-- ---- the limits, lost frames and beacons, refused steps, other airs and other yards

pub record MoreScriptBench : Type 0 where
  -- "Sixteenth order passes, seventeenth: 23."
  pub order_16 : Prints orders16 logged16
  pub order_17 : Prints (orders16 ++ bytes "(order 0 17)\n")
      (bytes "(refused 18 23)\n"
      ++ logged16)
  -- a frame that nobody hears is lost: serial 1 of lane 1, without which its serial 2 is early and the order of lane 0 waits
  pub lost : Prints (two_sources ++ bytes "(order 0 11)\n(order 1 21)\n(order 1 22)\n(hear 2 0)\n(hear 2 2)\n")
      (bytes "(post 0 (clock 1) (sent 1) (log))\n"
      ++ bytes "(post 1 (clock 2) (sent 2) (log))\n"
      ++ bytes "(post 2 (clock 0) (sent 0) (log))\n")
  -- a beacon after which an order that waited is ready
  pub beacon : Prints (two_sources ++ bytes "(order 0 417)\n(hear 2 0)\n(hear 1 0)\n(beacon 1)\n")
      (bytes "(post 0 (clock 1) (sent 1) (log))\n"
      ++ bytes "(post 1 (clock 2) (sent 0) (log))\n"
      ++ bytes "(post 2 (clock 0) (sent 0) (log))\n")
  pub beacon_heard : Prints (two_sources ++ bytes "(order 0 417)\n(hear 2 0)\n(hear 1 0)\n(beacon 1)\n(hear 2 3)\n")
      (bytes "(post 0 (clock 1) (sent 1) (log))\n"
      ++ bytes "(post 1 (clock 2) (sent 0) (log))\n"
      ++ bytes "(post 2 (clock 0) (sent 0) (log (1 0 417)))\n")
  -- steps refused because of the state: 21, 22, 25 and 26, in script order and before the posts
  pub refused : Prints (three ++ bytes "(order 3 1)\n(order 2 1)\n(hear 0 99999)\n(order 0 65535)\n(hear 0 0)\n(beacon 7)\n")
      (bytes "(refused 2 21)\n"
      ++ bytes "(refused 3 22)\n"
      ++ bytes "(refused 4 25)\n"
      ++ bytes "(refused 6 26)\n"
      ++ bytes "(refused 7 21)\n"
      ++ bytes "(post 0 (clock 1) (sent 1) (log))\n"
      ++ bytes "(post 1 (clock 0) (sent 0) (log))\n"
      ++ bytes "(post 2 (clock 0) (sent 0) (log))\n")
  -- "Air not 65,536 bytes": 13 for each step
  pub short_air : PrintsOver 65535 each_step
      (bytes "(refused 2 13)\n"
      ++ bytes "(refused 3 13)\n"
      ++ bytes "(refused 4 13)\n"
      ++ bytes "(refused 5 13)\n"
      ++ bytes "(post 0 (clock 0) (sent 0) (log))\n")
  pub long_air : PrintsOver 65537 each_step
      (bytes "(refused 2 13)\n"
      ++ bytes "(refused 3 13)\n"
      ++ bytes "(refused 4 13)\n"
      ++ bytes "(refused 5 13)\n"
      ++ bytes "(post 0 (clock 0) (sent 0) (log))\n")
  pub no_air : PrintsOver 0 each_step
      (bytes "(refused 2 13)\n"
      ++ bytes "(refused 3 13)\n"
      ++ bytes "(refused 4 13)\n"
      ++ bytes "(refused 5 13)\n"
      ++ bytes "(post 0 (clock 0) (sent 0) (log))\n")
  -- a script of the yard line alone prints its posts; lanes 0 to 7, or some of them, of any role
  pub yard_alone : Prints (bytes "(yard (1 relay) (7 dest))\n")
      (bytes "(post 1 (clock 0) (sent 0) (log))\n"
      ++ bytes "(post 7 (clock 0) (sent 0) (log))\n")
  pub yard_of_eight : Prints (bytes "(yard (0 both) (1 source) (2 dest) (3 relay) (4 both) (5 both) (6 both) (7 both))\n")
      (bytes "(post 0 (clock 0) (sent 0) (log))\n"
      ++ bytes "(post 1 (clock 0) (sent 0) (log))\n"
      ++ bytes "(post 2 (clock 0) (sent 0) (log))\n"
      ++ bytes "(post 3 (clock 0) (sent 0) (log))\n"
      ++ bytes "(post 4 (clock 0) (sent 0) (log))\n"
      ++ bytes "(post 5 (clock 0) (sent 0) (log))\n"
      ++ bytes "(post 6 (clock 0) (sent 0) (log))\n"
      ++ bytes "(post 7 (clock 0) (sent 0) (log))\n")
  -- the largest lane and word of a step, and the largest frame
  pub largest : Prints (alone ++ bytes "(order 7 65535)\n(order 0 65535)\n(hear 0 99999)\n")
      (bytes "(refused 2 21)\n"
      ++ bytes "(refused 4 25)\n"
      ++ bytes "(post 0 (clock 1) (sent 1) (log (1 0 65535)))\n")
