-- A record of the type `Post`, and one that refusal 12 does not turn down: document 01, 12. Assumes nothing.
use Rattle.std.specs.Prelude.{◌≡◌, ◌≢◌, true, false, ℕ, ◌<◌, ◌≤◌, length, get_or}
use Rattle.post.specs.declared.Post.{Post}
use Rattle.post.specs.Record.{is_post, is_source, is_dest, last_of}
use Rattle.deliver.specs.Delivery.{is_taken, stamp_at}
use Rattle.judge.specs.Judgement.{word_at, logged_at}

-- what every value of the type `Post` has
pub record Shaped (p : Post) : Type 0 where
  pub last : length p.last ≡ 8
  pub table : length p.table ≡ 136
  pub stamps : length p.stamps ≡ 128
  pub words : length p.words ≡ 128
  pub log : length p.log ≡ 128
  pub table_values : (i : ℕ) → get_or p.table i 0 < 65536
  pub stamp_values : (i : ℕ) → get_or p.stamps i 0 < 65536
  pub word_values : (i : ℕ) → get_or p.words i 0 < 65536
  pub clock : p.clock.0 < 65536
  pub posts : p.posts < 256
  pub sources : p.sources < 256
  pub dests : p.dests < 256

-- what refusal 12 asks of a record, by index; `valid_judged` and `judged_valid` (proofs/Valid.antt) say that 12 turns down just the others
pub record Valid (p : Post) : Type 0 where
  pub lane : p.lane < 8
  pub serial : p.serial.0 ≤ 16
  pub logged : p.logged ≤ 128
  pub last : (i : ℕ) → i < 8 → last_of p i ≤ 16
  pub sources : (i : ℕ) → i < 8 → is_source p i ≡ true → is_post p i ≡ true
  pub dests : (i : ℕ) → i < 8 → is_dest p i ≡ true → is_post p i ≡ true
  pub own : p.serial.0 ≡ last_of p p.lane
  pub present : (place : ℕ) → place < 128 → is_taken p place ≡ true → 0 < stamp_at p place
  pub beyond : (place : ℕ) → place < 128 → is_taken p place ≡ false → (stamp_at p place ≡ 0) × (word_at p place ≡ 0)
  pub once : (j k : ℕ) → j < k → k < p.logged → logged_at p j ≢ logged_at p k
  pub places : (k : ℕ) → k < p.logged → logged_at p k < 128
  pub taken : (k : ℕ) → k < p.logged → is_taken p (logged_at p k) ≡ true
  pub rest : (k : ℕ) → p.logged ≤ k → k < 128 → logged_at p k ≡ 0
