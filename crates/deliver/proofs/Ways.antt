-- The ways through `join` and `deliver`. Assumes nothing.
use mathlib.Core.Path.{◌≡◌, sym, ap, ◌∙◌}
use mathlib.Core.List.{List, map}
use mathlib.Core.Bool.{Bool, true, false}
use Prim.Native.Nat.{ℕ, ◌%◌, ◌≤◌, min}
use native.Mathlib.Omega.{arith}
use lib.ListN.{length, length-take, length-map}
use lib.Seq.{sets}
use Rattle.frame.specs.Lanes.{any_below}
use Rattle.post.specs.declared.Post.{Post}
use Rattle.post.specs.Record.{is_dest}
use Rattle.std.specs.Prelude.{Option}
use Rattle.frame.specs.declared.Stamp.{Stamp}
use Rattle.deliver.specs.declared.sorting.Gathered.{Gathered}
use Rattle.deliver.specs.Delivery.{NewLog, all_below, comes_before, sort_by}
use Rattle.deliver.specs.Known.{due_below_from, due_places_from, due_log_from, joined_from}
use Rattle.deliver.specs.Loops.{same_at, ready_in, least_below, appended_below, log_by}
use Rattle.deliver.specs.Keys.{key_at}
use Rattle.deliver.proofs.Keys.{places_of}
use Rattle.deliver.proofs.Gathering.{gathered_of_all, sorts, appended_is}
use Rattle.deliver.proofs.Waiting.{none_waits, none_ready}

-- what the gathered ones leave is what the definition says
pub log_is : (known : List ℕ) (p : Post) → log_by known p.last p.stamps (least_below p.sources p.last p.table 8) p.log p.logged ≡ due_log_from known p
unfolding log_by due_log_from due_places_from
log_is known p =
    let s = sorts known p in
    let g : Gathered = gathered_of_all known p in
    let n : ℕ = g.count in
    let few : n ≤ length g.keys = omega (arith, s.few, s.long) in
    let ln : n ≡ length (due_places_from known p)
    = sym (sym (length-map (sort_by (comes_before p) (due_below_from known p 128)) (key_at p)) ∙ ap length (sym s.is) ∙ length-take n g.keys ∙ omega arith)
    in
    let lg : appended_below p.log p.logged g.keys n ≡ sets p.log p.logged (due_places_from known p)
    = appended_is p.log p.logged g.keys n few
    ∙ ap (λ (x : List ℕ). sets p.log p.logged (map (λ (key : ℕ). key % 128) x)) s.is
    ∙ ap (sets p.log p.logged) (places_of p (sort_by (comes_before p) (due_below_from known p 128)) s.sorted)
    in
    rw (lg, ← ln)

-- the log where none joins it
abbrev pub none_joined : Post → NewLog
none_joined p = record { log = p.log; logged = min p.logged 128; count = 0 }

-- the ways through `join`
pub join_ready : (known : List ℕ) (p : Post) (least : Option Stamp) (new : NewLog) → least ≡ least_below p.sources p.last p.table 8
    → new ≡ log_by known p.last p.stamps least p.log p.logged
    → new ≡ due_log_from known p
join_ready known p least new el e = rw (← log_is known p, ← el) e

pub join_unready : (known : List ℕ) (p : Post) (least : Option Stamp) (b : Bool) → least ≡ least_below p.sources p.last p.table 8
    → b ≡ any_below (ready_in known p.last p.stamps least) 8 → b ≡ false → none_joined p ≡ due_log_from known p
join_unready known p least b el e f = none_ready known p (rw el at (sym e ∙ f))

pub join_unwaiting : (known : List ℕ) (p : Post) (b : Bool) → b ≡ all_below (same_at known p.last) 8 → b ≡ true → none_joined p ≡ due_log_from known p
join_unwaiting known p b e f = none_waits known p (sym e ∙ f)

-- the ways through `deliver`
pub in_joins : (known : List ℕ) (p : Post) (b : Bool) (new : NewLog) → b ≡ is_dest p p.lane → b ≡ true → new ≡ due_log_from known p → new ≡ joined_from known p
unfolding joined_from
in_joins known p b new e s h = rw (sym e ∙ s) h

pub in_passes : (known : List ℕ) (p : Post) (b : Bool) → b ≡ is_dest p p.lane → b ≡ false
    → ◌≡◌ {A = NewLog} (record { log = p.log; logged = p.logged; count = 0 }) (joined_from known p)
unfolding joined_from
in_passes known p b e s = rw (sym e ∙ s)
