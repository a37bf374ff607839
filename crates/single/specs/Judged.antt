-- A row that a good record stands in, for the contract of a private function; nobody has to believe it. Assumes nothing.
use Rattle.std.specs.Prelude.{ℕ, ◌≡◌, List, length, false}
use Rattle.post.specs.declared.Post.{Post}
use Rattle.row.specs.Rows.{post_in, known_in}
use Rattle.deliver.specs.Known.{Known}
use Rattle.judge.specs.Judgement.{bad_record}
use Rattle.laws.specs.Records.{Shaped}

-- it has the record, which 12 does not turn down, and knows of its log only what is so
pub record Judged (p : Post) (row : List ℕ) : Type 0 where
  pub whole : length row ≡ 543
  pub post : post_in row ≡ p
  pub known : Known (known_in row) p
  pub shaped : Shaped p
  pub good : bad_record p ≡ false
