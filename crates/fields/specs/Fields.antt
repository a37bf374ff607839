-- The fields of a record and its end, and the header: document 02, K1, and RFC 4180. Assumes nothing.
use Rattle.std.specs.Prelude.{ℕ, cond, List, eqb, length}
use Rattle.text.specs.Bytes.{bytes}
use Rattle.scan.specs.declared.Scan.{Scan}
use Rattle.scan.specs.Scan.{stands, start_at, read_text, read_number}

abbrev pub comma : List ℕ
comma = bytes ","

abbrev pub crlf : List ℕ
crlf = bytes "\r\n"

-- ---- fields: "Quoted fields, the header's too, are accepted on reading"

abbrev pub quote : List ℕ
quote = bytes "\""

-- a decimal field, "written as script numbers are"
unfoldable pub read_field : List ℕ → Scan → Scan
read_field s c =
    cond (stands s c.at quote)
    (read_text s quote (read_number s (read_text s quote c)))
    (read_number s c)

-- a field of the header
unfoldable pub read_name : List ℕ → List ℕ → Scan → Scan
read_name s name c =
    cond (stands s c.at quote)
    (read_text s quote (read_text s name (read_text s quote c)))
    (read_text s name c)

-- ---- records: "CR LF after each", "the last CR LF may be missing on reading"

unfoldable pub read_end : List ℕ → Scan → Scan
read_end s c = cond (eqb c.at (length s)) c (read_text s crlf c)

unfoldable pub read_header : List ℕ → Scan
read_header s =
    read_end s
    (read_name s (bytes "word")
    (read_text s comma
    (read_name s (bytes "lane")
    (read_text s comma
    (read_name s (bytes "stamp") (start_at 0))))))

-- the stamp of the record that begins at a place, then its lane, its word and its end
unfoldable pub read_stamp : List ℕ → ℕ → Scan
read_stamp s at = read_field s (start_at at)

unfoldable pub read_rest : List ℕ → Scan → Scan
read_rest s c = read_end s (read_field s (read_text s comma (read_field s (read_text s comma c))))
