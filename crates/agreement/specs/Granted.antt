-- K2, the statement; `granted` in proofs/Granted.antt proves it. Words in quotes are the customer's. Assumes nothing.
-- "lists of steps without a roll call" are lists of single steps, with any arguments, refused ones included; `map one` makes steps of them.
use Rattle.std.specs.Prelude.{◌≡◌, true, cond, List, [], ◌∷◌, ◌++◌, map, ℕ, ◌+◌, ltb, eqb, length}
use Rattle.cells.specs.Sets.{has_lane}
use Rattle.steps.specs.BeaconAnswer as beaconing
use Rattle.yard.specs.Worlds.{World, Single, order, hear, beacon}
use Rattle.roll.specs.Runs.{Answer, beaconed, one, answer, step, run}
use Rattle.agreement.specs.Demand3.{fresh_world}

-- how many beacon steps of lane q a list has
unfoldable pub beacon_steps : ℕ → List Single → ℕ
beacon_steps q [] = 0
beacon_steps q (order lane word ∷ l) = beacon_steps q l
beacon_steps q (hear lane k ∷ l) = beacon_steps q l
beacon_steps q (beacon lane ∷ l) = cond (eqb lane q) 1 0 + beacon_steps q l

-- the list without the beacons of all lanes but q
unfoldable pub without_others : ℕ → List Single → List Single
without_others q [] = []
without_others q (order lane word ∷ l) = order lane word ∷ without_others q l
without_others q (hear lane k ∷ l) = hear lane k ∷ without_others q l
without_others q (beacon lane ∷ l) = cond (eqb lane q) (beacon lane ∷ []) [] ++ without_others q l

-- "which beacons another is granted": the answers to the beacon steps of lane q, in their order
unfoldable pub beacon_answers : ℕ → World → List Single → List Answer
beacon_answers q w [] = []
beacon_answers q w (order lane word ∷ l) = beacon_answers q (step w (one (order lane word))) l
beacon_answers q w (hear lane k ∷ l) = beacon_answers q (step w (one (hear lane k))) l
beacon_answers q w (beacon lane ∷ l) =
    cond (eqb lane q) (answer w (one (beacon lane)) ∷ []) [] ++ beacon_answers q (step w (one (beacon lane))) l

-- ---- of a fresh yard of three sets of lanes, and any air, of any bytes and any length

pub record Granted (present sources dests : ℕ) (air : List ℕ) : Type 0 where
  -- after two lists with equally many beacon steps of lane q a further one gets the same answer
  pub further : (q : ℕ) (l m : List Single) → beacon_steps q l ≡ beacon_steps q m
      → answer (run (fresh_world present sources dests air) (map one l)) (one (beacon q))
      ≡ answer (run (fresh_world present sources dests air) (map one m)) (one (beacon q))
  -- "Beacons of one post no longer alter which beacons another is granted": left out or added anywhere, they change none of its answers
  pub others : (q : ℕ) (l m : List Single) → without_others q l ≡ without_others q m
      → beacon_answers q (fresh_world present sources dests air) l ≡ beacon_answers q (fresh_world present sources dests air) m
  -- "Each post gets 128 of its own": whatever else is done, its first 128 are sent, and each further one is refused by 27
  pub own : (q : ℕ) (l : List Single) → has_lane present q ≡ true → length air ≡ 65536
      → answer (run (fresh_world present sources dests air) (map one l)) (one (beacon q))
      ≡ beaconed (cond (ltb (beacon_steps q l) 128) beaconing.Sent (beaconing.Refused 27))

abbrev pub BeaconsGranted : Type 0
BeaconsGranted = (present sources dests : ℕ) (air : List ℕ) → Granted present sources dests air
