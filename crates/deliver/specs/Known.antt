-- Delivery by one who knows some orders to be logged: these are passed over. Assumes nothing.
use Rattle.std.specs.Prelude.{◌≡◌, ℕ, zero, suc, ◌+◌, ◌-◌, ◌*◌, ◌/◌, ◌%◌, ◌<◌, min, Bool, true, cond, not, ◌&&◌, List, [], ◌∷◌, ltb, eqb, length, get_or, set}
use Rattle.std.proofs.lemmas.List.Edits.{sets}
use Rattle.post.specs.declared.Post.{Post}
use Rattle.post.specs.Record.{is_dest, with_log}
use Rattle.deliver.specs.Delivery.{NewLog, is_logged, is_due, comes_before, sort_by}

-- `known` has for each lane the serial up to which its orders are known to be logged: all that it says is so
pub record Known (known : List ℕ) (p : Post) : Type 0 where
  pub logged : (i k : ℕ) → i < 8 → k < get_or known i 0 → is_logged p (i * 16 + k) ≡ true

-- a due order that is not among those known to be logged
unfoldable pub is_due_from : List ℕ → Post → ℕ → Bool
is_due_from known p place = is_due p place && not (ltb (place % 16) (get_or known (place / 16) 0))

-- their places below n
unfoldable pub due_below_from : List ℕ → Post → ℕ → List ℕ
due_below_from known p zero = []
due_below_from known p (suc place) = cond (is_due_from known p place) (place ∷ due_below_from known p place) (due_below_from known p place)

-- in the order of delivery
unfoldable pub due_places_from : List ℕ → Post → List ℕ
due_places_from known p = sort_by (comes_before p) (due_below_from known p 128)

-- they follow the log, and are counted
unfoldable pub due_log_from : List ℕ → Post → NewLog
due_log_from known p = record {
  log = sets p.log p.logged (due_places_from known p);
  logged = min (p.logged + length (due_places_from known p)) 128;
  count = length (due_places_from known p);
}

-- "destinations only; elsewhere the count is 0"
unfoldable pub joined_from : List ℕ → Post → NewLog
joined_from known p = cond (is_dest p p.lane) (due_log_from known p) (record { log = p.log; logged = p.logged; count = 0 })

-- the order at a place is logged: where it is the next of its lane, one more is known
unfoldable pub advanced : List ℕ → ℕ → List ℕ
advanced known place = cond (eqb (get_or known (place / 16) 0) (place % 16)) (set known (place / 16) (place % 16 + 1)) known

-- after the n places of the log from `from` on
unfoldable pub known_below : List ℕ → List ℕ → ℕ → ℕ → List ℕ
known_below known log from zero = known
known_below known log from (suc n) = advanced (known_below known log from n) (get_or log (from + n) 0)

-- after a delivery, by the places that joined the log
unfoldable pub known_after : List ℕ → Post → List ℕ
known_after known p = known_below known (joined_from known p).log p.logged ((joined_from known p).logged - p.logged)

-- the whole delivery: the post with its new log, what is known then, and how many orders joined
pub record KnownDelivery : Type 0 where
  pub post : Post
  pub known : List ℕ
  pub count : ℕ

unfoldable pub delivered_from : List ℕ → Post → KnownDelivery
delivered_from known p = record {
  post = with_log p (joined_from known p).log (joined_from known p).logged;
  known = known_after known p;
  count = (joined_from known p).count;
}
