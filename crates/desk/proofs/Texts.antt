-- A log's numbers are its records, and a log that begins another begins it as text too. Assumes nothing.
use mathlib.Core.Path.{◌≡◌, refl, sym}
use mathlib.Core.List.{List, [], ◌∷◌, ◌++◌, map, map-append, append_assoc}
use Prim.Native.Nat.{ℕ}
use lib.ListN.{length}
use Rattle.laws.specs.Lists.{Begins}
use Rattle.csv_log.specs.declared.LogItem.{LogItem}
use Rattle.csv_log.specs.Log.{item_numbers, GoodLog}
use Rattle.csv_log.specs.Text.{header_text, record_text, records_text, log_text, in_turn}
use Rattle.csv_log.specs.Writing.{csv_write_refusal}
use Rattle.csv_log.proofs.Numbers.{numbers_records, write_passes}

-- ---- writing

-- a good log is written, into a buffer of 2,048 bytes
pub good_written : (l : List LogItem) → GoodLog l → (buffer : List ℕ) → length buffer ≡ 2048 → csv_write_refusal (item_numbers l) buffer ≡ 0
good_written l g buffer e = write_passes (item_numbers l) buffer e (rw (numbers_records l) g)

-- ---- beginnings

-- lists made from lists
pub begins_made : {A B : Type 0} (f : A → B) (s l : List A) → Begins s l → Begins (map f s) (map f l)
begins_made f s l b = (map f b.0, rw b.1 (map-append f s b.0))

-- a common start
begins_after : {A : Type 0} (h s l : List A) → Begins s l → Begins (h ++ s) (h ++ l)
begins_after h s l b = (b.0, rw b.1 (sym (append_assoc h s b.0)))

-- the text of a list and then another
records_append : (l m : List LogItem) → records_text (l ++ m) ≡ records_text l ++ records_text m
unfolding in_turn
records_append [] m = refl
records_append (x ∷ l) m = rw (records_append l m) (sym (append_assoc (record_text x) (records_text l) (records_text m)))

-- the records, without the header
pub begins_records : (s l : List LogItem) → Begins s l → Begins (records_text s) (records_text l)
begins_records s l b = (records_text b.0, rw b.1 (records_append s b.0))

-- the file
pub begins_text : (s l : List LogItem) → Begins s l → Begins (log_text s) (log_text l)
unfolding log_text
begins_text s l b = begins_after header_text (records_text s) (records_text l) (begins_records s l b)
