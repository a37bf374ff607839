-- Members and beginnings of lists, and lists that rise: document 01, "The words of demand 3". Assumes nothing.
use Rattle.std.specs.Prelude.{◌≡◌, List, [], ◌∷◌, ◌++◌, ◌⊎◌, ℕ, ◌<◌}

module _ {A : Type 0} where
  -- x stands in a list
  abbrev pub Mem : A → List A → Type 0
  Mem x [] = ⊥
  Mem x (y ∷ l) = (x ≡ y) ⊎ Mem x l

  -- "A list begins another when the other's first entries, as many as it has, are its own in turn": the other is s and then some list
  abbrev pub Begins : List A → List A → Type 0
  Begins s l = (r : List A) × (l ≡ s ++ r)

  -- a key rises strictly along a list
  abbrev pub RisingBy : (A → ℕ) → List A → Type 0
  RisingBy key [] = Unit {0}
  RisingBy key (x ∷ l) = ((y : A) → Mem y l → key x < key y) × RisingBy key l
