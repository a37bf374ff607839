-- The logs of the cases, as the numbers that are handed in, and the texts that they are written as. Assumes nothing.
use Rattle.std.specs.Prelude.{ℕ, List, [], ◌∷◌, ◌++◌}
use Rattle.text.specs.Bytes.{bytes}

abbrev pub header_line : List ℕ
header_line = bytes "stamp,lane,word\r\n"

-- the log of post 0 in document 01's example
abbrev pub printed_log : List ℕ
printed_log = 1 ∷ 0 ∷ 417 ∷ 3 ∷ 1 ∷ 90 ∷ []

abbrev pub printed_text : List ℕ
printed_text = header_line ++ bytes "1,0,417\r\n3,1,90\r\n"

-- bench case P6: equal stamps, rising by lane
abbrev pub rising_log : List ℕ
rising_log = 1 ∷ 0 ∷ 7 ∷ 1 ∷ 1 ∷ 8 ∷ []

abbrev pub rising_text : List ℕ
rising_text = header_line ++ bytes "1,0,7\r\n1,1,8\r\n"

-- texts of 31 and 32 bytes, lengths that are refusals too
abbrev pub log31 : List ℕ
log31 = 1 ∷ 0 ∷ 0 ∷ 2 ∷ 0 ∷ 0 ∷ []

abbrev pub text31 : List ℕ
text31 = header_line ++ bytes "1,0,0\r\n2,0,0\r\n"

abbrev pub log32 : List ℕ
log32 = 65535 ∷ 7 ∷ 65535 ∷ []

abbrev pub text32 : List ℕ
text32 = header_line ++ bytes "65535,7,65535\r\n"

-- an order of each lane, with one stamp and one word
abbrev pub each_lane : ℕ → ℕ → List ℕ
each_lane stamp word =
    stamp ∷ 0 ∷ word ∷ stamp ∷ 1 ∷ word ∷ stamp ∷ 2 ∷ word ∷ stamp ∷ 3 ∷ word ∷ stamp ∷ 4 ∷ word ∷ stamp ∷ 5 ∷ word ∷ stamp ∷ 6 ∷ word ∷ stamp ∷ 7 ∷ word ∷ []

-- 128 orders, 16 of each lane
abbrev pub full_log : List ℕ
full_log =
    each_lane 1 0 ++ each_lane 2 0 ++ each_lane 3 0 ++ each_lane 4 0 ++ each_lane 5 0 ++ each_lane 6 0 ++ each_lane 7 0 ++ each_lane 8 0 ++
    each_lane 9 0 ++ each_lane 10 0 ++ each_lane 11 0 ++ each_lane 12 0 ++ each_lane 13 0 ++ each_lane 14 0 ++ each_lane 15 0 ++ each_lane 16 0

abbrev pub full_text : List ℕ
full_text =
    header_line ++
    bytes "1,0,0\r\n1,1,0\r\n1,2,0\r\n1,3,0\r\n1,4,0\r\n1,5,0\r\n1,6,0\r\n1,7,0\r\n2,0,0\r\n2,1,0\r\n2,2,0\r\n2,3,0\r\n2,4,0\r\n2,5,0\r\n2,6,0\r\n2,7,0\r\n" ++
    bytes "3,0,0\r\n3,1,0\r\n3,2,0\r\n3,3,0\r\n3,4,0\r\n3,5,0\r\n3,6,0\r\n3,7,0\r\n4,0,0\r\n4,1,0\r\n4,2,0\r\n4,3,0\r\n4,4,0\r\n4,5,0\r\n4,6,0\r\n4,7,0\r\n" ++
    bytes "5,0,0\r\n5,1,0\r\n5,2,0\r\n5,3,0\r\n5,4,0\r\n5,5,0\r\n5,6,0\r\n5,7,0\r\n6,0,0\r\n6,1,0\r\n6,2,0\r\n6,3,0\r\n6,4,0\r\n6,5,0\r\n6,6,0\r\n6,7,0\r\n" ++
    bytes "7,0,0\r\n7,1,0\r\n7,2,0\r\n7,3,0\r\n7,4,0\r\n7,5,0\r\n7,6,0\r\n7,7,0\r\n8,0,0\r\n8,1,0\r\n8,2,0\r\n8,3,0\r\n8,4,0\r\n8,5,0\r\n8,6,0\r\n8,7,0\r\n" ++
    bytes "9,0,0\r\n9,1,0\r\n9,2,0\r\n9,3,0\r\n9,4,0\r\n9,5,0\r\n9,6,0\r\n9,7,0\r\n10,0,0\r\n10,1,0\r\n10,2,0\r\n10,3,0\r\n10,4,0\r\n10,5,0\r\n10,6,0\r\n10,7,0\r\n" ++
    bytes "11,0,0\r\n11,1,0\r\n11,2,0\r\n11,3,0\r\n11,4,0\r\n11,5,0\r\n11,6,0\r\n11,7,0\r\n12,0,0\r\n12,1,0\r\n12,2,0\r\n12,3,0\r\n12,4,0\r\n12,5,0\r\n12,6,0\r\n12,7,0\r\n" ++
    bytes "13,0,0\r\n13,1,0\r\n13,2,0\r\n13,3,0\r\n13,4,0\r\n13,5,0\r\n13,6,0\r\n13,7,0\r\n14,0,0\r\n14,1,0\r\n14,2,0\r\n14,3,0\r\n14,4,0\r\n14,5,0\r\n14,6,0\r\n14,7,0\r\n" ++
    bytes "15,0,0\r\n15,1,0\r\n15,2,0\r\n15,3,0\r\n15,4,0\r\n15,5,0\r\n15,6,0\r\n15,7,0\r\n16,0,0\r\n16,1,0\r\n16,2,0\r\n16,3,0\r\n16,4,0\r\n16,5,0\r\n16,6,0\r\n16,7,0\r\n"

-- 128 orders with the longest numbers
abbrev pub longest_log : List ℕ
longest_log =
    each_lane 10000 65535 ++ each_lane 10001 65535 ++ each_lane 10002 65535 ++ each_lane 10003 65535 ++
    each_lane 10004 65535 ++ each_lane 10005 65535 ++ each_lane 10006 65535 ++ each_lane 10007 65535 ++
    each_lane 10008 65535 ++ each_lane 10009 65535 ++ each_lane 10010 65535 ++ each_lane 10011 65535 ++
    each_lane 10012 65535 ++ each_lane 10013 65535 ++ each_lane 10014 65535 ++ each_lane 10015 65535

abbrev pub longest_text : List ℕ
longest_text =
    header_line ++
    bytes "10000,0,65535\r\n10000,1,65535\r\n10000,2,65535\r\n10000,3,65535\r\n10000,4,65535\r\n10000,5,65535\r\n10000,6,65535\r\n10000,7,65535\r\n" ++
    bytes "10001,0,65535\r\n10001,1,65535\r\n10001,2,65535\r\n10001,3,65535\r\n10001,4,65535\r\n10001,5,65535\r\n10001,6,65535\r\n10001,7,65535\r\n" ++
    bytes "10002,0,65535\r\n10002,1,65535\r\n10002,2,65535\r\n10002,3,65535\r\n10002,4,65535\r\n10002,5,65535\r\n10002,6,65535\r\n10002,7,65535\r\n" ++
    bytes "10003,0,65535\r\n10003,1,65535\r\n10003,2,65535\r\n10003,3,65535\r\n10003,4,65535\r\n10003,5,65535\r\n10003,6,65535\r\n10003,7,65535\r\n" ++
    bytes "10004,0,65535\r\n10004,1,65535\r\n10004,2,65535\r\n10004,3,65535\r\n10004,4,65535\r\n10004,5,65535\r\n10004,6,65535\r\n10004,7,65535\r\n" ++
    bytes "10005,0,65535\r\n10005,1,65535\r\n10005,2,65535\r\n10005,3,65535\r\n10005,4,65535\r\n10005,5,65535\r\n10005,6,65535\r\n10005,7,65535\r\n" ++
    bytes "10006,0,65535\r\n10006,1,65535\r\n10006,2,65535\r\n10006,3,65535\r\n10006,4,65535\r\n10006,5,65535\r\n10006,6,65535\r\n10006,7,65535\r\n" ++
    bytes "10007,0,65535\r\n10007,1,65535\r\n10007,2,65535\r\n10007,3,65535\r\n10007,4,65535\r\n10007,5,65535\r\n10007,6,65535\r\n10007,7,65535\r\n" ++
    bytes "10008,0,65535\r\n10008,1,65535\r\n10008,2,65535\r\n10008,3,65535\r\n10008,4,65535\r\n10008,5,65535\r\n10008,6,65535\r\n10008,7,65535\r\n" ++
    bytes "10009,0,65535\r\n10009,1,65535\r\n10009,2,65535\r\n10009,3,65535\r\n10009,4,65535\r\n10009,5,65535\r\n10009,6,65535\r\n10009,7,65535\r\n" ++
    bytes "10010,0,65535\r\n10010,1,65535\r\n10010,2,65535\r\n10010,3,65535\r\n10010,4,65535\r\n10010,5,65535\r\n10010,6,65535\r\n10010,7,65535\r\n" ++
    bytes "10011,0,65535\r\n10011,1,65535\r\n10011,2,65535\r\n10011,3,65535\r\n10011,4,65535\r\n10011,5,65535\r\n10011,6,65535\r\n10011,7,65535\r\n" ++
    bytes "10012,0,65535\r\n10012,1,65535\r\n10012,2,65535\r\n10012,3,65535\r\n10012,4,65535\r\n10012,5,65535\r\n10012,6,65535\r\n10012,7,65535\r\n" ++
    bytes "10013,0,65535\r\n10013,1,65535\r\n10013,2,65535\r\n10013,3,65535\r\n10013,4,65535\r\n10013,5,65535\r\n10013,6,65535\r\n10013,7,65535\r\n" ++
    bytes "10014,0,65535\r\n10014,1,65535\r\n10014,2,65535\r\n10014,3,65535\r\n10014,4,65535\r\n10014,5,65535\r\n10014,6,65535\r\n10014,7,65535\r\n" ++
    bytes "10015,0,65535\r\n10015,1,65535\r\n10015,2,65535\r\n10015,3,65535\r\n10015,4,65535\r\n10015,5,65535\r\n10015,6,65535\r\n10015,7,65535\r\n"

-- 17 orders of lane 3
abbrev pub log17 : List ℕ
log17 =
    1 ∷ 3 ∷ 0 ∷ 2 ∷ 3 ∷ 0 ∷ 3 ∷ 3 ∷ 0 ∷ 4 ∷ 3 ∷ 0 ∷ 5 ∷ 3 ∷ 0 ∷ 6 ∷ 3 ∷ 0 ∷ 7 ∷ 3 ∷ 0 ∷ 8 ∷ 3 ∷ 0 ∷ 9 ∷ 3 ∷ 0 ∷ 10 ∷ 3 ∷ 0 ∷ 11 ∷ 3 ∷ 0 ∷ 12 ∷ 3 ∷ 0 ∷ 13 ∷ 3 ∷ 0 ∷ 14 ∷ 3 ∷ 0 ∷ 15 ∷ 3 ∷ 0 ∷ 16 ∷ 3 ∷ 0 ∷ 17 ∷ 3 ∷ 0 ∷ []

abbrev pub text17 : List ℕ
text17 = header_line ++ bytes "1,3,0\r\n2,3,0\r\n3,3,0\r\n4,3,0\r\n5,3,0\r\n6,3,0\r\n7,3,0\r\n8,3,0\r\n9,3,0\r\n" ++
    bytes "10,3,0\r\n11,3,0\r\n12,3,0\r\n13,3,0\r\n14,3,0\r\n15,3,0\r\n16,3,0\r\n17,3,0\r\n"
