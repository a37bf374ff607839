-- A post run singly from its fresh record on, through any list of steps, for `never_12`. Assumes nothing.
use Rattle.std.specs.Prelude.{ℕ, ◌<◌, List, [], ◌∷◌}
use Rattle.frame.specs.Types.{AreBytes}
use Rattle.post.specs.declared.Post.{Post}
use Rattle.single.specs.Single.{order_singly, hear_singly}

-- what a post is made to do, with what the types of the arguments say: to order a word, to hear a frame's bytes, to send a beacon; each is lent
-- a buffer
pub data SinglyStep : Type 0 where
  to_order : (word : ℕ) → word < 65536 → List ℕ → SinglyStep
  to_hear : (bytes : List ℕ) → AreBytes bytes → List ℕ → SinglyStep
  to_beacon : List ℕ → SinglyStep

-- the post that a step leaves, refused or not; a beacon leaves it as it was
unfoldable pub left_singly : Post → SinglyStep → Post
left_singly p (to_order word w buffer) = (order_singly p word buffer).post
left_singly p (to_hear bytes h buffer) = (hear_singly p bytes buffer).post
left_singly p (to_beacon buffer) = p

-- the post that a list of them leaves
unfoldable pub run_singly : Post → List SinglyStep → Post
run_singly p [] = p
run_singly p (s ∷ steps) = run_singly (left_singly p s) steps
