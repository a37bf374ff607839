-- The files that say a log: RFC 4180, with any choice of quotes, with or without the last CR LF. Assumes nothing.
use Rattle.std.specs.Prelude.{ℕ, Bool, false, cond, List, [], ◌∷◌, ◌++◌}
use Rattle.text.specs.Bytes.{bytes}
use Rattle.text.specs.Decimal.{decimal}
use Rattle.fields.specs.Fields.{comma, crlf, quote}
use Rattle.csv_log.specs.declared.LogItem.{LogItem}

-- which of a record's three fields stand in quotes
pub record Quotes : Type 0 where
  pub first : Bool
  pub second : Bool
  pub third : Bool

abbrev pub no_quotes : Quotes
no_quotes = record { first = false; second = false; third = false }

-- a field, in quotes or not
abbrev pub field : Bool → List ℕ → List ℕ
field quoted t = cond quoted (quote ++ t ++ quote) t

-- "record = field *(COMMA field)": three of them
unfoldable pub three_fields : Quotes → List ℕ → List ℕ → List ℕ → List ℕ
three_fields q a b c = field q.first a ++ comma ++ field q.second b ++ comma ++ field q.third c

abbrev pub header_fields : Quotes → List ℕ
header_fields q = three_fields q (bytes "stamp") (bytes "lane") (bytes "word")

abbrev pub record_fields : Quotes → LogItem → List ℕ
record_fields q x = three_fields q (decimal x.stamp) (decimal x.lane) (decimal x.word)

-- "*(CRLF record)": an order each, with its quotes; no quotes where no choice is left
unfoldable pub records_after : List Quotes → List LogItem → List ℕ
records_after quotes [] = []
records_after [] (x ∷ l) = crlf ++ record_fields no_quotes x ++ records_after [] l
records_after (q ∷ quotes) (x ∷ l) = crlf ++ record_fields q x ++ records_after quotes l

-- "file = [header CRLF] record *(CRLF record) [CRLF]", here with the header always and then any number of records
unfoldable pub file_text : Quotes → List Quotes → Bool → List LogItem → List ℕ
file_text header quotes last l = header_fields header ++ records_after quotes l ++ cond last crlf []
