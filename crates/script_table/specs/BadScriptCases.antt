-- The refusals 1 to 5 as scripts: which line is bad, and by which number. Assumes nothing.
use Rattle.std.specs.Prelude.{ℕ, ◌<◌, ◌≡◌, List, [], ◌∷◌, ◌++◌, length, replicate}
use Rattle.text.specs.Bytes.{bytes}
use Rattle.meaning.specs.Script.{printout, air_after}
use Rattle.script_table.specs.ScriptCases.{alone}

-- a script prints only this, over any air, and leaves it as it was
abbrev pub Bad : List ℕ → List ℕ → Type 0
Bad script text = (air : List ℕ) → (printout script air ≡ text) × (air_after script air ≡ air)

pub record BadScriptBench : Type 0 where
  -- 1: "Script over 48,000 bytes", "line 0 for refusal 1"; one of 48,000 bytes is read
  pub over_48000 : (script : List ℕ) → 48000 < length script → Bad script (bytes "(bad 0 1)\n")
  pub exactly_48000 : Bad (replicate 48000 40) (bytes "(bad 1 2)\n")
  -- "empty text gives line 1, number 3"
  pub empty : Bad (bytes "") (bytes "(bad 1 3)\n")
  -- 2: "A line not of the form below", on line 1
  pub blank_line_1 : Bad (bytes "\n") (bytes "(bad 1 2)\n")
  pub no_form : Bad (bytes "yard\n") (bytes "(bad 1 2)\n")
  pub yard_space : Bad (bytes "(yard )\n") (bytes "(bad 1 2)\n")
  pub yard_end_space : Bad (bytes "(yard (0 both) )\n") (bytes "(bad 1 2)\n")
  pub yard_role : Bad (bytes "(yard (0 boss))\n") (bytes "(bad 1 2)\n")
  pub yard_capitals : Bad (bytes "(yard (0 Both))\n") (bytes "(bad 1 2)\n")
  pub yard_zeros : Bad (bytes "(yard (00 both))\n") (bytes "(bad 1 2)\n")
  pub yard_six_digits : Bad (bytes "(yard (100000 both))\n") (bytes "(bad 1 2)\n")
  pub yard_joined : Bad (bytes "(yard(0 both))\n") (bytes "(bad 1 2)\n")
  pub yard_no_line_feed : Bad (bytes "(yard)") (bytes "(bad 1 2)\n")
  -- 3: "Line 1 not the yard form .. no posts, a lane over 7 in it, or its lanes not rising"
  pub order_first : Bad (bytes "(order 9 99999)\n") (bytes "(bad 1 3)\n")
  pub hear_first : Bad (bytes "(hear 0 0)\n") (bytes "(bad 1 3)\n")
  pub beacon_first : Bad (bytes "(beacon 0)\n") (bytes "(bad 1 3)\n")
  pub roll_first : Bad (bytes "(roll)\n") (bytes "(bad 1 3)\n")
  pub no_posts : Bad (bytes "(yard)\n") (bytes "(bad 1 3)\n")
  pub lane_8 : Bad (bytes "(yard (0 both) (8 both))\n") (bytes "(bad 1 3)\n")
  pub lane_99999 : Bad (bytes "(yard (99999 both))\n") (bytes "(bad 1 3)\n")
  pub equal_lanes : Bad (bytes "(yard (3 both) (3 both))\n") (bytes "(bad 1 3)\n")
  pub falling_lanes : Bad (bytes "(yard (1 both) (0 both))\n") (bytes "(bad 1 3)\n")
  -- 3: "a yard form on a later line"; malformed it is 2
  pub yard_again : Bad (alone ++ alone) (bytes "(bad 2 3)\n")
  pub yard_again_no_posts : Bad (alone ++ bytes "(yard)\n") (bytes "(bad 2 3)\n")
  pub yard_again_malformed : Bad (alone ++ bytes "(yard )\n") (bytes "(bad 2 2)\n")
  -- 2: "a number other than 0 that starts with 0, a number over five digits"
  pub zeros : Bad (alone ++ bytes "(hear 0 00)\n") (bytes "(bad 2 2)\n")
  pub zero_one : Bad (alone ++ bytes "(order 0 01)\n") (bytes "(bad 2 2)\n")
  pub lane_zero_one : Bad (alone ++ bytes "(beacon 00)\n") (bytes "(bad 2 2)\n")
  pub six_digits : Bad (alone ++ bytes "(order 0 100000)\n") (bytes "(bad 2 2)\n")
  pub frame_six_digits : Bad (alone ++ bytes "(hear 0 100000)\n") (bytes "(bad 2 2)\n")
  pub lane_six_digits : Bad (alone ++ bytes "(beacon 123456)\n") (bytes "(bad 2 2)\n")
  -- 4: "A step's lane over 7." 5: "A word over 65,535." The lower number wins.
  pub order_lane : Bad (alone ++ bytes "(order 8 65536)\n") (bytes "(bad 2 4)\n")
  pub hear_lane : Bad (alone ++ bytes "(hear 8 0)\n") (bytes "(bad 2 4)\n")
  pub beacon_lane : Bad (alone ++ bytes "(beacon 8)\n") (bytes "(bad 2 4)\n")
  pub word : Bad (alone ++ bytes "(order 0 65536)\n") (bytes "(bad 2 5)\n")
  -- 2: "One form a line, one space between items", and no other byte
  pub carriage_return : Bad (alone ++ bytes "(roll)\r\n") (bytes "(bad 2 2)\n")
  pub tab : Bad (alone ++ bytes "(order\t0 1)\n") (bytes "(bad 2 2)\n")
  pub blank_line : Bad (alone ++ bytes "\n(roll)\n") (bytes "(bad 2 2)\n")
  pub two_spaces : Bad (alone ++ bytes "(order 0  1)\n") (bytes "(bad 2 2)\n")
  pub space_before : Bad (alone ++ bytes " (roll)\n") (bytes "(bad 2 2)\n")
  pub space_after : Bad (alone ++ bytes "(roll) \n") (bytes "(bad 2 2)\n")
  pub capitals : Bad (alone ++ bytes "(ROLL)\n") (bytes "(bad 2 2)\n")
  pub two_forms : Bad (alone ++ bytes "(roll)(roll)\n") (bytes "(bad 2 2)\n")
  pub item_missing : Bad (alone ++ bytes "(order 0)\n") (bytes "(bad 2 2)\n")
  pub item_more : Bad (alone ++ bytes "(roll 1)\n") (bytes "(bad 2 2)\n")
  pub nul : Bad (alone ++ bytes "(roll" ++ (0 ∷ []) ++ bytes ")\n") (bytes "(bad 2 2)\n")
  pub byte_200 : Bad (alone ++ bytes "(roll)" ++ (200 ∷ []) ++ bytes "\n") (bytes "(bad 2 2)\n")
  -- 2: "no line feed at the end", for the last line; an earlier bad line comes first
  pub no_line_feed : Bad (alone ++ bytes "(roll)\n(order 0 1)") (bytes "(bad 3 2)\n")
  pub earlier_first : Bad (alone ++ bytes "(beacon 8)\n(order 0 1)") (bytes "(bad 2 4)\n")
  pub later_after : Bad (alone ++ bytes "(order 0 65536)\n(beacon 8)\n") (bytes "(bad 2 5)\n")
