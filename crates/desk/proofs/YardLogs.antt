-- Every log of a yard is good for the desk, and the desk gets it: specs/Desk.antt, by what `files` proves. Assumes nothing.
use mathlib.Core.Path.{◌≡◌, refl, ap, ◌∙◌}
use mathlib.Core.Bool.{true}
use mathlib.Core.List.{List, [], ◌++◌, map}
use mathlib.Core.Logic.{◌⊎◌, inl, inr, ◌≢◌}
use Prim.Native.Nat.{ℕ, ◌<◌, ◌≤◌}
use native.Mathlib.Omega.{arith}
use lib.ListN.{length, get_or-eq_default}
use Rattle.post.specs.declared.Post.{Post}
use Rattle.state.specs.Yards.{no_post, post_at, yard_refusal}
use Rattle.yard.specs.Worlds.{World}
use Rattle.roll.specs.Runs.{Step, run, Order}
use Rattle.roll.specs.Logs.{orders_logged, log_at}
use Rattle.laws.specs.Lists.{Begins}
use Rattle.laws.proofs.TestLaws.{same_or_not, below_or_not}
use Rattle.agreement.specs.Demand3.{fresh_world, LogsAgree}
use Rattle.agreement.proofs.FreshYards.{fresh_log}
use Rattle.agreement.proofs.Sound.{InYard, Sound}
use Rattle.agreement.proofs.WrongAir.{never_runs}
use Rattle.agreement.proofs.Theorem.{reached, good, agreement}
use Rattle.csv_log.specs.declared.LogItem.{LogItem}
use Rattle.csv_log.specs.Log.{first_bad, GoodLog}
use Rattle.csv_log.specs.Text.{records_text, log_text}
use Rattle.files.specs.Files.{no_quotes}
use Rattle.files.specs.Exactly.{FileSays, Exactly}
use Rattle.desk.specs.Desk.{item_of, desk_log, DeskGets, Desk}
use Rattle.desk.proofs.PostLogs.{post_good}
use Rattle.desk.proofs.Texts.{good_written, begins_made, begins_records, begins_text}

-- a log with nothing in it is good
nothing_good : (o : List Order) → o ≡ [] → GoodLog (map item_of o)
unfolding first_bad
nothing_good o e = rw e refl

-- of two lists of orders of which one begins the other, so does what the desk makes of them
desk_begins : (made : List LogItem → List ℕ) → ((s l : List LogItem) → Begins s l → Begins (made s) (made l)) → (s l : List Order)
    → Begins s l ⊎ Begins l s → Begins (made (map item_of s)) (made (map item_of l)) ⊎ Begins (made (map item_of l)) (made (map item_of s))
desk_begins made h s l (inl b) = inl (h (map item_of s) (map item_of l) (begins_made item_of s l b))
desk_begins made h s l (inr b) = inr (h (map item_of l) (map item_of s) (begins_made item_of l s b))

module _ (present sources dests : ℕ) (air : List ℕ) (small : present < 256) (smallSources : sources < 256) (smallDests : dests < 256)
    (z : yard_refusal present sources dests ≡ 0) where
  abbrev w : World
  w = fresh_world present sources dests air

  -- ---- an air of the right length

  module _ (whole : length air ≡ 65536) where
    -- a post of the yard
    lane_good : (steps : List Step) (lane : ℕ) → lane < 8 → GoodLog (desk_log (run w steps) lane)
    lane_good steps lane l =
        post_good p i.shaped i.valid ((good present sources dests air small smallSources smallDests z whole steps).yard_ok.posts_ok lane).log_ok.log_rises
      where
        p : Post
        p = post_at (run w steps).yard lane

        i : InYard present sources dests lane p
        i = (reached present sources dests air small smallSources smallDests z whole steps).sound.post lane l

    -- past the eight lanes there is no log
    past_log : (steps : List Step) (lane : ℕ) → 8 ≤ lane → log_at (run w steps) lane ≡ []
    past_log steps lane l =
        ap orders_logged (get_or-eq_default (run w steps).yard.posts no_post {n = lane} (omega (arith, so.eight)))
      where
        so : Sound present sources dests (run w steps)
        so = (reached present sources dests air small smallSources smallDests z whole steps).sound

    right_good : (steps : List Step) (lane : ℕ) → GoodLog (desk_log (run w steps) lane)
    right_good steps lane = go (below_or_not lane 8)
      where
        go : (lane < 8) ⊎ (8 ≤ lane) → GoodLog (desk_log (run w steps) lane)
        go (inl l) = lane_good steps lane l
        go (inr l) = nothing_good (log_at (run w steps) lane) (past_log steps lane l)

  -- ---- an air of another length

  wrong_good : length air ≢ 65536 → (steps : List Step) (lane : ℕ) → GoodLog (desk_log (run w steps) lane)
  wrong_good bad steps lane =
      nothing_good (log_at (run w steps) lane)
      (ap (λ (x : World). log_at x lane) (never_runs w bad steps) ∙ fresh_log present sources dests air lane)

  -- ---- any air

  -- every log of a yard is good for the desk
  pub logs_good : (steps : List Step) (lane : ℕ) → GoodLog (desk_log (run w steps) lane)
  logs_good = go (same_or_not (length air) 65536)
    where
      go : (length air ≡ 65536) ⊎ (length air ≢ 65536) → (steps : List Step) (lane : ℕ) → GoodLog (desk_log (run w steps) lane)
      go (inl whole) = right_good whole
      go (inr bad) = wrong_good bad

  logs_agree : LogsAgree w
  logs_agree = (agreement present sources dests air small smallSources smallDests z).agree

  gets : Exactly → ((l : List LogItem) → GoodLog l → length (log_text l) ≤ 1937) → DeskGets w
  gets exactly log_short = record {
    written = λ steps lane. good_written (desk_log (run w steps) lane) (logs_good steps lane);
    short = λ steps lane. log_short (desk_log (run w steps) lane) (logs_good steps lane);
    reads = λ steps lane. read_back (desk_log (run w steps) lane) (logs_good steps lane);
    agree = λ steps more a b.
        desk_begins log_text begins_text (log_at (run w steps) a) (log_at (run w (steps ++ more)) b) (logs_agree steps more a b);
    records = λ steps more a b.
        desk_begins records_text begins_records (log_at (run w steps) a) (log_at (run w (steps ++ more)) b) (logs_agree steps more a b);
  }
    where
      -- what is written of a good log reads back
      read_back : (l : List LogItem) → GoodLog l → FileSays (log_text l) l
      read_back l g = rw (exactly.plainly l) (exactly.reads no_quotes [] true l g)

-- for every fresh yard and every air, by what is proved of files
pub desk_by : Exactly → ((l : List LogItem) → GoodLog l → length (log_text l) ≤ 1937) → Desk
desk_by exactly log_short present sources dests air a b c z = gets present sources dests air a b c z exactly log_short
