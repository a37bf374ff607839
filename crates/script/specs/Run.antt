-- What running a script answers and leaves in the buffers lent to it. Assumes nothing.
use Rattle.std.specs.Prelude.{ℕ, Bool, cond, List, ◌++◌, eqb, length, drop}
use Rattle.meaning.specs.Script.{printout, air_after}

-- an output has 131,072 bytes, which hold every printout; one of another length is refused
abbrev pub good_output : List ℕ → Bool
good_output output = eqb (length output) 131072

-- the answer is the number of bytes printed; 0, which no printout has, where the output is refused
unfoldable pub bytes_printed : List ℕ → List ℕ → List ℕ → ℕ
bytes_printed s air output = cond (good_output output) (length (printout s air)) 0

-- the output begins with the printout, and keeps the rest
unfoldable pub output_after : List ℕ → List ℕ → List ℕ → List ℕ
output_after s air output = cond (good_output output) (printout s air ++ drop (length (printout s air)) output) output

-- the air that the steps leave
unfoldable pub air_left : List ℕ → List ℕ → List ℕ → List ℕ
air_left s air output = cond (good_output output) (air_after s air) air
