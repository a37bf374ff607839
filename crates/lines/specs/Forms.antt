-- The forms of a script's lines: document 01, "Script and printout". Assumes nothing.
use Rattle.std.specs.Prelude.{ℕ, zero, suc, ◌^◌, true, cond, ◌&&◌, ◌||◌, List, [], ◌∷◌, ltb, eqb, length}
use Rattle.std.specs.Int.Bits.{bit_or}
use Rattle.text.specs.Bytes.{bytes}
use Rattle.scan.specs.declared.Scan.{Scan}
use Rattle.lines.specs.declared.YardScan.{YardScan}
use Rattle.scan.specs.Scan.{stands, start_at, failed, read_text, read_number}

-- ---- the steps

-- a form: texts that stand as they are, and numbers
pub data Item : Type 0 where
  text : List ℕ → Item
  number : Item

-- `(order LANE WORD)` and a line feed
abbrev pub order_form : List Item
order_form = text (bytes "(order ") ∷ number ∷ text (bytes " ") ∷ number ∷ text (bytes ")\n") ∷ []

-- `(hear LANE FRAME)` and a line feed
abbrev pub hear_form : List Item
hear_form = text (bytes "(hear ") ∷ number ∷ text (bytes " ") ∷ number ∷ text (bytes ")\n") ∷ []

-- `(beacon LANE)` and a line feed
abbrev pub beacon_form : List Item
beacon_form = text (bytes "(beacon ") ∷ number ∷ text (bytes ")\n") ∷ []

-- `(roll)` and a line feed
abbrev pub roll_form : List Item
roll_form = text (bytes "(roll)\n") ∷ []

-- the items of a form, one after the other
abbrev pub read_item : List ℕ → Item → Scan → Scan
read_item s (text t) c = read_text s t c
read_item s number c = read_number s c

abbrev pub read_items : List ℕ → List Item → Scan → Scan
read_items s [] c = c
read_items s (i ∷ is) c = read_items s is (read_item s i c)

abbrev pub read_form : List ℕ → List Item → ℕ → Scan
read_form s form at = read_items s form (start_at at)

-- ---- the yard: `(yard (0 both) (2 relay))` and a line feed, with any number of posts

-- a role is read as a number: 0 relay, 1 source, 2 dest, 3 both
abbrev pub as_role : Scan → ℕ → Scan → Scan
as_role c role r = record { ok = true; at = r.at; earlier = c.latest; latest = role }

-- the role of this name, or else what another name gave
unfoldable pub or_role : List ℕ → List ℕ → ℕ → Scan → Scan → Scan
or_role s name role c other = cond (read_text s name c).ok (as_role c role (read_text s name c)) other

unfoldable pub read_role : List ℕ → Scan → Scan
read_role s c =
    or_role s (bytes "source") 1 c
    (or_role s (bytes "dest") 2 c
    (or_role s (bytes "both") 3 c
    (or_role s (bytes "relay") 0 c
    (failed c))))

-- ` (LANE ROLE)`
unfoldable pub read_post : List ℕ → ℕ → Scan
read_post s at = read_text s (bytes ")") (read_role s (read_text s (bytes " ") (read_number s (read_text s (bytes " (") (start_at at)))))

-- a lane's bit in a set of eight; none for a lane over 7
abbrev pub bit_of : ℕ → ℕ
bit_of lane = cond (ltb lane 8) (2 ^ lane) 0

-- a post more: its lane is at most 7 and above those before it just when its bit is above their set
unfoldable pub post_added : YardScan → Scan → YardScan
post_added y c = record {
  ok = c.ok;
  at = c.at;
  posts = bit_or y.posts (bit_of c.earlier);
  sources = bit_or y.sources (cond (eqb c.latest 1 || eqb c.latest 3) (bit_of c.earlier) 0);
  dests = bit_or y.dests (cond (eqb c.latest 2 || eqb c.latest 3) (bit_of c.earlier) 0);
  rising = y.rising && ltb y.posts (bit_of c.earlier);
}

-- the posts from there on, as long as one begins; n is above their number
unfoldable pub posts_read : List ℕ → YardScan → ℕ → YardScan
posts_read s y zero = y
posts_read s y (suc n) = cond (y.ok && stands s y.at (bytes " (")) (posts_read s (post_added y (read_post s y.at)) n) y

-- before the first post, after `(yard`
abbrev pub no_posts : Scan → YardScan
no_posts c = record { ok = c.ok; at = c.at; posts = 0; sources = 0; dests = 0; rising = true }

abbrev pub scan_of : YardScan → Scan
scan_of y = record { ok = y.ok; at = y.at; earlier = 0; latest = 0 }

-- after the last, with `)` and a line feed
abbrev pub ended : YardScan → Scan → YardScan
ended y c = record { ok = c.ok; at = c.at; posts = y.posts; sources = y.sources; dests = y.dests; rising = y.rising }

abbrev pub yard_posts : List ℕ → ℕ → YardScan
yard_posts s at = posts_read s (no_posts (read_text s (bytes "(yard") (start_at at))) (length s)

unfoldable pub read_yard : List ℕ → ℕ → YardScan
read_yard s at = ended (yard_posts s at) (read_text s (bytes ")\n") (scan_of (yard_posts s at)))
