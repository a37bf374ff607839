-- A log as text: document 02, K1, and RFC 4180. Assumes nothing.
use Rattle.std.specs.Prelude.{ℕ, List, [], ◌∷◌, ◌++◌}
use Rattle.text.specs.Bytes.{bytes}
use Rattle.text.specs.Decimal.{decimal}
use Rattle.fields.specs.Fields.{comma, crlf}
use Rattle.csv_log.specs.declared.LogItem.{LogItem}

-- "the header `stamp,lane,word`"
abbrev pub header_text : List ℕ
header_text = bytes "stamp,lane,word\r\n"

-- "one record an order and CR LF after each"
unfoldable pub record_text : LogItem → List ℕ
record_text x = decimal x.stamp ++ comma ++ decimal x.lane ++ comma ++ decimal x.word ++ crlf

-- the orders of a log in turn, each as a text
unfoldable pub in_turn : (LogItem → List ℕ) → List LogItem → List ℕ
in_turn text [] = []
in_turn text (x ∷ l) = text x ++ in_turn text l

abbrev pub records_text : List LogItem → List ℕ
records_text l = in_turn record_text l

-- "Write a log as RFC 4180 text"
unfoldable pub log_text : List LogItem → List ℕ
log_text l = header_text ++ records_text l
