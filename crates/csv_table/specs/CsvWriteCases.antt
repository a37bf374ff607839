-- Document 02, K1, as cases: logs written, what each answers and leaves in the buffer. Assumes nothing.
use Rattle.std.specs.Prelude.{ℕ, ◌*◌, ◌≡◌, List, [], ◌∷◌, ◌++◌, length, drop}
use Rattle.csv_log.specs.Writing.{csv_write_answer, buffer_after}
use Rattle.csv_table.specs.CsvLogs.{header_line, printed_log, printed_text, rising_log, rising_text, log31, text31, log32, text32, full_log, longest_log, longest_text, log17}

-- written into any buffer of 2,048 bytes: "with its length as the answer; the rest stays"
abbrev pub Composed : List ℕ → ℕ → List ℕ → Type 0
Composed numbers size text = (buffer : List ℕ) → length buffer ≡ 2048 →
    (csv_write_answer numbers buffer ≡ 256 * size) × (buffer_after numbers buffer ≡ text ++ drop size buffer)

-- refused with any buffer of so many bytes, and of 2,048, which stays as it was
abbrev pub UncomposedIn : ℕ → List ℕ → ℕ → Type 0
UncomposedIn size numbers number = (buffer : List ℕ) → length buffer ≡ size →
    (csv_write_answer numbers buffer ≡ number) × (buffer_after numbers buffer ≡ buffer)

abbrev pub Uncomposed : List ℕ → ℕ → Type 0
Uncomposed numbers number = UncomposedIn 2048 numbers number

pub record CsvWriteBench : Type 0 where
  -- "the header `stamp,lane,word`, one record an order and CR LF after each"
  pub no_order : Composed [] 17 header_line
  pub printed : Composed printed_log 34 printed_text
  pub lanes_rise : Composed rising_log 31 rising_text
  -- a length is no refusal: 31 and 32 bytes
  pub length_31 : Composed log31 31 text31
  pub length_32 : Composed log32 32 text32
  -- the longest text: 16 orders of each lane
  pub longest : Composed longest_log 1937 longest_text
  -- 31: "a record that is not three decimal fields .. within document 01's ranges"
  pub stamp_0 : Uncomposed (0 ∷ 0 ∷ 417 ∷ []) 31
  pub lane_8 : Uncomposed (1 ∷ 8 ∷ 417 ∷ []) 31
  pub one_number : Uncomposed (1 ∷ []) 31
  pub two_numbers : Uncomposed (1 ∷ 0 ∷ []) 31
  pub four_numbers : Uncomposed (1 ∷ 0 ∷ 417 ∷ 3 ∷ []) 31
  -- 32: "records that do not rise by stamp and then lane, a 129th record, or a lane's 17th"
  pub equal_orders : Uncomposed (1 ∷ 0 ∷ 417 ∷ 1 ∷ 0 ∷ 417 ∷ []) 32
  pub falling_stamp : Uncomposed (3 ∷ 0 ∷ 417 ∷ 1 ∷ 1 ∷ 90 ∷ []) 32
  pub falling_lane : Uncomposed (1 ∷ 1 ∷ 8 ∷ 1 ∷ 0 ∷ 7 ∷ []) 32
  pub lane_17 : Uncomposed log17 32
  pub order_129 : Uncomposed (full_log ++ (17 ∷ 0 ∷ 0 ∷ [])) 32
  -- "31 before 32 within it"
  pub order_129_31 : Uncomposed (full_log ++ (17 ∷ 8 ∷ 0 ∷ [])) 31
  pub number_129 : Uncomposed (full_log ++ (17 ∷ [])) 31
  pub both_in_one : Uncomposed (3 ∷ 0 ∷ 417 ∷ 1 ∷ 8 ∷ 90 ∷ []) 31
  -- "the first bad record decides"
  pub first_32 : Uncomposed (3 ∷ 0 ∷ 417 ∷ 1 ∷ 1 ∷ 90 ∷ 0 ∷ 0 ∷ 0 ∷ []) 32
  pub first_31 : Uncomposed (3 ∷ 0 ∷ 417 ∷ 4 ∷ 8 ∷ 90 ∷ 1 ∷ 1 ∷ 0 ∷ []) 31
  -- "a lent buffer of 2,048 bytes, any other length being refusal 6", then the records
  pub bytes_2047 : UncomposedIn 2047 printed_log 6
  pub bytes_2049 : UncomposedIn 2049 printed_log 6
  pub bytes_2047_31 : UncomposedIn 2047 (0 ∷ 0 ∷ 417 ∷ []) 6
  pub bytes_2049_31 : UncomposedIn 2049 (0 ∷ 0 ∷ 417 ∷ []) 6
