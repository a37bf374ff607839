-- Proves `BeaconsGranted` of specs/Granted.antt: a beacon's answer depends on its own post's count alone, and that on its own beacon steps.
-- Assumes nothing.
use mathlib.Core.Path.{◌≡◌, refl, sym, ap, ap₂, ◌∙◌}
use mathlib.Core.Logic.{◌⊎◌, inl, inr, ◌≢◌}
use mathlib.Core.Bool.{Bool, true, false, cond}
use mathlib.Core.List.{List, [], ◌∷◌, ◌++◌, map}
use Prim.Native.Nat.{ℕ, zero, suc, ◌+◌, ◌<◌, ◌≤◌, min}
use native.Mathlib.Omega.{arith}
use lib.Dec.{ltb, leb, eqb}
use lib.ListN.{length, get_or, set, length-set, length-replicate, get_or-eq_default}
use lib.Seq.{get_or-set_same, get_or-set_other}
use borrow.Author.Tests.{lt-ltb, le-ltb, le-leb, lt-leb, eq-eqb, ne_eqb}
use Rattle.air.proofs.Stretches.{length_stays}
use Rattle.cells.specs.Sets.{has_lane}
use Rattle.post.specs.declared.Post.{Post}
use Rattle.steps.specs.Steps.{order_step, hear_step, beacon_step}
use Rattle.steps.specs.BeaconAnswer as beaconing
use Rattle.state.specs.Yards.{no_post, post_at, beacons_at, fresh_yard}
use Rattle.yard.specs.Singles.{PostOrdered, YardOrdered, stops_order, post_orders, post_orders_air, yard_orders, yard_orders_air}
use Rattle.yard.specs.Singles.{PostHeard, YardHeard, stops_hearing, frame_at, post_hears, post_hears_air, yard_hears, yard_hears_air}
use Rattle.yard.specs.Singles.{YardBeaconed, stops_beacon, post_beacons_air, yard_beacons, yard_beacons_air}
use Rattle.yard.specs.Worlds.{World, Single, order, hear, beacon, single, singles}
use Rattle.roll.specs.Runs.{Answer, beaconed, one, answer, step, run}
use Rattle.laws.proofs.TestLaws.{same_or_not, below_or_not, by_test}
use Rattle.agreement.specs.Demand3.{fresh_world}
use Rattle.agreement.specs.Granted.{beacon_steps, without_others, beacon_answers, BeaconsGranted}
use Rattle.agreement.proofs.Sound.{SameRoles, same_roles, then_roles, order_roles, hear_roles}
use Rattle.agreement.proofs.FreshYards.{fresh_at, fresh_beacons, below_eight}
use Rattle.agreement.proofs.BeaconCounts.{stops_at, answers_to, beacon_answer, beacon_counts, order_counts, hear_counts, other_count, own_count}

-- ---- what no single step changes

-- the roles of lane q's record, the air's length and how many counts there are
record Kept (q : ℕ) (w v : World) : Type 0 where
  pub roles : SameRoles (post_at w.yard q) (post_at v.yard q)
  pub bytes : length v.air ≡ length w.air
  pub counts : length v.yard.beacons ≡ length w.yard.beacons

kept_on : (q : ℕ) (w v u : World) → Kept q w v → Kept q v u → Kept q w u
kept_on q w v u a b = record { roles = then_roles _ _ _ a.roles b.roles; bytes = b.bytes ∙ a.bytes; counts = b.counts ∙ a.counts }

-- one record is changed, which keeps its roles
set_roles : (posts : List Post) (lane : ℕ) (r : Post) (q : ℕ) → SameRoles (get_or posts lane no_post) r
    → SameRoles (get_or posts q no_post) (get_or (set posts lane r) q no_post)
set_roles posts lane r q h = go (same_or_not q lane) (below_or_not lane (length posts))
  where
    go : (q ≡ lane) ⊎ (q ≢ lane) → (lane < length posts) ⊎ (length posts ≤ lane) → SameRoles (get_or posts q no_post) (get_or (set posts lane r) q no_post)
    go (inr n) l = rw (get_or-set_other posts lane q r no_post n) (same_roles (get_or posts q no_post))
    go (inl e) (inl l) = rw (e, get_or-set_same posts lane r no_post l) h
    go (inl e) (inr l) =
        rw (e, get_or-eq_default (set posts lane r) no_post {n = lane} (omega (arith, length-set posts lane r)), get_or-eq_default posts no_post {n = lane} l)
        (same_roles no_post)

-- two lists of one length
abbrev SameLength : List ℕ → List ℕ → Type 0
SameLength l m = length m ≡ length l

-- each single step, whether 4 refuses it, something else stops it, or nothing
module _ (q : ℕ) (w : World) where
  order_kept : (lane word : ℕ) → Kept q w (single w (order lane word))
  unfolding single yard_orders yard_orders_air post_orders post_orders_air
  order_kept lane word =
      let p = post_at w.yard lane in
      let n = w.yard.frames in
      let stops = eqb (stops_order w.air word) 0 in
      record {
        roles = by_test (λ (s : YardOrdered). SameRoles (post_at w.yard q) (post_at s.yard q)) (ltb lane 8) _ _
            (set_roles w.yard.posts lane _ q (by_test (λ (s : PostOrdered). SameRoles p s.post) stops _ _ (order_roles p word) (same_roles p)))
            (same_roles (post_at w.yard q));
        bytes = by_test (SameLength w.air) (ltb lane 8) _ _
            (by_test (SameLength w.air) stops _ _ (length_stays w.air n (order_step p word).frame) refl) refl;
        counts = ap (λ (l : List ℕ). length l) (order_counts w lane word);
      }

  hear_kept : (lane k : ℕ) → Kept q w (single w (hear lane k))
  unfolding single yard_hears yard_hears_air post_hears post_hears_air
  hear_kept lane k =
      let p = post_at w.yard lane in
      let n = w.yard.frames in
      let stops = eqb (stops_hearing w.air p n k) 0 in
      record {
        roles = by_test (λ (s : YardHeard). SameRoles (post_at w.yard q) (post_at s.yard q)) (ltb lane 8) _ _
            (set_roles w.yard.posts lane _ q (by_test (λ (s : PostHeard). SameRoles p s.post) stops _ _ (hear_roles p (frame_at w.air k)) (same_roles p)))
            (same_roles (post_at w.yard q));
        bytes = by_test (SameLength w.air) (ltb lane 8) _ _
            (by_test (SameLength w.air) stops _ _ (length_stays w.air n (hear_step p (frame_at w.air k)).frame) refl) refl;
        counts = ap (λ (l : List ℕ). length l) (hear_counts w lane k);
      }

  beacon_kept : (lane : ℕ) → Kept q w (single w (beacon lane))
  unfolding single yard_beacons yard_beacons_air post_beacons_air
  beacon_kept lane =
      let p = post_at w.yard lane in
      let c = beacons_at w.yard lane in
      record {
        roles = by_test (λ (s : YardBeaconed). SameRoles (post_at w.yard q) (post_at s.yard q)) (ltb lane 8) _ _
            (same_roles (post_at w.yard q)) (same_roles (post_at w.yard q));
        bytes = by_test (SameLength w.air) (ltb lane 8) _ _
            (by_test (SameLength w.air) (eqb (stops_beacon w.air p c) 0) _ _ (length_stays w.air w.yard.frames (beacon_step p).frame) refl) refl;
        counts = rw (beacon_counts w lane)
            (by_test (SameLength w.yard.beacons) (eqb (stops_at w lane c) 0) _ _ (length-set w.yard.beacons lane (c + 1)) refl);
      }

-- ---- lane q's beacon steps, from the world w on

module _ (q : ℕ) (w : World) (eight : length w.yard.beacons ≡ 8) where
  -- its count after one more, and after n more
  abbrev next : ℕ → ℕ
  next c = cond (eqb (stops_at w q c) 0) (c + 1) c

  unfoldable count_after : ℕ → ℕ → ℕ
  count_after zero c = c
  count_after (suc n) c = count_after n (next c)

  -- the answers to n more
  unfoldable answers_after : ℕ → ℕ → List Answer
  answers_after zero c = []
  answers_after (suc n) c = beaconed (answers_to (stops_at w q c)) ∷ answers_after n (next c)

  module _ (v : World) (k : Kept q w v) where
    abbrev c : ℕ
    c = beacons_at v.yard q

    -- what stops it there is what stops it in w at that count
    same_stop : stops_at v q c ≡ stops_at w q c
    same_stop = rw (k.bytes, k.roles.lane, k.roles.posts)

    same_answer : answer v (one (beacon q)) ≡ beaconed (answers_to (stops_at w q c))
    unfolding answer
    same_answer = ap beaconed (beacon_answer v q ∙ ap answers_to same_stop)

    same_count : beacons_at (single v (beacon q)).yard q ≡ next c
    same_count = own_count v q (k.counts ∙ eight) ∙ rw same_stop

  -- what a list of steps grants lane q: its count after it, and the answers
  record Granting (v : World) (l : List Single) : Type 0 where
    pub keeps : Kept q w (singles v l)
    pub count : beacons_at (singles v l).yard q ≡ count_after (beacon_steps q l) (beacons_at v.yard q)
    pub told : beacon_answers q v l ≡ answers_after (beacon_steps q l) (beacons_at v.yard q)

  -- a step that leaves lane q's count, and then the list
  then_grants : (v u : World) (l : List Single) → beacons_at u.yard q ≡ beacons_at v.yard q → Granting u l
      → (beacons_at (singles u l).yard q ≡ count_after (beacon_steps q l) (beacons_at v.yard q)) × (beacon_answers q u l ≡ answers_after (beacon_steps q l) (beacons_at v.yard q))
  then_grants v u l e d = (d.count ∙ ap (count_after (beacon_steps q l)) e, d.told ∙ ap (answers_after (beacon_steps q l)) e)

  -- a beacon, and then the list
  beacon_grants : (v : World) → Kept q w v → (lane : ℕ) (l : List Single) → (lane ≡ q) ⊎ (lane ≢ q) → Granting (single v (beacon lane)) l → Granting v (beacon lane ∷ l)
  unfolding singles step beacon_steps beacon_answers count_after answers_after
  beacon_grants v k lane l (inr n) d =
      let same : 0 + beacon_steps q l ≡ beacon_steps q l = omega arith in
      let e = then_grants v (single v (beacon lane)) l (other_count v lane q n) d in
      record { keeps = d.keeps; count = rw (ne_eqb lane q n, same) e.0; told = rw (ne_eqb lane q n, same) e.1 }
  beacon_grants v k lane l (inl s) d =
      let more : 1 + beacon_steps q l ≡ suc (beacon_steps q l) = omega arith in
      let f : beacons_at (single v (beacon lane)).yard q ≡ next (beacons_at v.yard q) = rw s (same_count v k) in
      record {
        keeps = d.keeps;
        count = rw (eq-eqb lane q s, more) (d.count ∙ ap (count_after (beacon_steps q l)) f);
        told = rw (eq-eqb lane q s, more) (ap₂ ◌∷◌ (rw s (same_answer v k)) (d.told ∙ ap (answers_after (beacon_steps q l)) f));
      }

  list_grants : (v : World) → Kept q w v → (l : List Single) → Granting v l
  unfolding singles step beacon_steps beacon_answers count_after answers_after
  list_grants v k [] = record { keeps = k; count = refl; told = refl }
  list_grants v k (order lane word ∷ l) =
      let d = list_grants (single v (order lane word)) (kept_on q w v (single v (order lane word)) k (order_kept q v lane word)) l in
      let e = then_grants v (single v (order lane word)) l (ap (λ (x : List ℕ). get_or x q 0) (order_counts v lane word)) d in
      record { keeps = d.keeps; count = e.0; told = e.1 }
  list_grants v k (hear lane m ∷ l) =
      let d = list_grants (single v (hear lane m)) (kept_on q w v (single v (hear lane m)) k (hear_kept q v lane m)) l in
      let e = then_grants v (single v (hear lane m)) l (ap (λ (x : List ℕ). get_or x q 0) (hear_counts v lane m)) d in
      record { keeps = d.keeps; count = e.0; told = e.1 }
  list_grants v k (beacon lane ∷ l) =
      beacon_grants v k lane l (same_or_not lane q) (list_grants (single v (beacon lane)) (kept_on q w v (single v (beacon lane)) k (beacon_kept q v lane)) l)

  -- from w itself
  kept_itself : Kept q w w
  kept_itself = record { roles = same_roles (post_at w.yard q); bytes = refl; counts = refl }

  -- a list of single steps among steps
  run_singles : (v : World) (l : List Single) → run v (map one l) ≡ singles v l
  unfolding run step singles
  run_singles v [] = refl
  run_singles v (x ∷ l) = run_singles (single v x) l

  -- so the answer after a list is told by how many beacon steps of lane q it has
  answer_after : (l : List Single) → answer (run w (map one l)) (one (beacon q)) ≡ beaconed (answers_to (stops_at w q (count_after (beacon_steps q l) (beacons_at w.yard q))))
  answer_after l =
      let d = list_grants w kept_itself l in
      rw (run_singles w l) (same_answer (singles w l) d.keeps ∙ ap (λ (n : ℕ). beaconed (answers_to (stops_at w q n))) d.count)

  same_further : (l m : List Single) → beacon_steps q l ≡ beacon_steps q m
      → answer (run w (map one l)) (one (beacon q)) ≡ answer (run w (map one m)) (one (beacon q))
  same_further l m e =
      answer_after l ∙ ap (λ (n : ℕ). beaconed (answers_to (stops_at w q (count_after n (beacons_at w.yard q))))) e ∙ sym (answer_after m)

  same_answers : (l m : List Single) → beacon_steps q l ≡ beacon_steps q m → beacon_answers q w l ≡ beacon_answers q w m
  same_answers l m e =
      (list_grants w kept_itself l).told ∙ ap (λ (n : ℕ). answers_after n (beacons_at w.yard q)) e ∙ sym (list_grants w kept_itself m).told

-- ---- beacons of other lanes left out: as many of lane q

one_left : (q lane : ℕ) (b : Bool) (l : List Single) → eqb lane q ≡ b → beacon_steps q (cond b (beacon lane ∷ []) [] ++ l) ≡ cond b 1 0 + beacon_steps q l
unfolding beacon_steps
one_left q lane true l e = rw e
one_left q lane false l e = omega arith

left_out : (q : ℕ) (l : List Single) → beacon_steps q (without_others q l) ≡ beacon_steps q l
unfolding beacon_steps without_others
left_out q [] = refl
left_out q (order lane word ∷ l) = left_out q l
left_out q (hear lane k ∷ l) = left_out q l
left_out q (beacon lane ∷ l) = one_left q lane (eqb lane q) (without_others q l) refl ∙ ap (λ (n : ℕ). cond (eqb lane q) 1 0 + n) (left_out q l)

-- ---- a fresh yard

module _ (present sources dests : ℕ) (air : List ℕ) where
  abbrev w : World
  w = fresh_world present sources dests air

  counts_eight : length w.yard.beacons ≡ 8
  counts_eight = unfold fresh_yard in length-replicate {A = ℕ} 8 0

  -- a post of the yard, with an air of the right length, is stopped only where it has sent 128
  module _ (q : ℕ) (here : has_lane present q ≡ true) (whole : length air ≡ 65536) where
    stopped_by : (c : ℕ) → stops_at w q c ≡ cond (leb 128 c) 27 0
    stopped_by c =
        let small = below_eight present q here in
        rw (lt-ltb q 8 small, eq-eqb (length air) 65536 whole, fresh_at present sources dests q small, here)

    -- so its count is that of its beacon steps, up to 128
    counted : (n c : ℕ) → c ≤ 128 → count_after q w counts_eight n c ≡ min (n + c) 128
    unfolding count_after
    counted zero c l = omega arith
    counted (suc n) c l = go (below_or_not c 128) (counted n)
      where
        go : (c < 128) ⊎ (128 ≤ c) → ((d : ℕ) → d ≤ 128 → count_after q w counts_eight n d ≡ min (n + d) 128)
            → count_after q w counts_eight n (next q w counts_eight c) ≡ min (suc n + c) 128
        go (inl m) ih = rw (stopped_by c, lt-leb 128 c m) (ih (c + 1) (omega arith) ∙ omega arith)
        go (inr m) ih = rw (stopped_by c, le-leb 128 c m) (ih c l ∙ omega arith)

    its_own : (l : List Single) → answer (run w (map one l)) (one (beacon q))
        ≡ beaconed (cond (ltb (beacon_steps q l) 128) beaconing.Sent (beaconing.Refused 27))
    its_own l = answer_after q w counts_eight l ∙ ap beaconed (go (below_or_not n 128))
      where
        n : ℕ
        n = beacon_steps q l

        d : count_after q w counts_eight n (beacons_at w.yard q) ≡ min n 128
        d = ap (count_after q w counts_eight n) (ap (λ (f : ℕ → ℕ). f q) (fresh_beacons present sources dests)) ∙ counted n 0 (omega arith) ∙ omega arith

        go : (n < 128) ⊎ (128 ≤ n) → answers_to (stops_at w q (count_after q w counts_eight n (beacons_at w.yard q))) ≡ cond (ltb n 128) beaconing.Sent (beaconing.Refused 27)
        go (inl h) = rw (d, stopped_by (min n 128), lt-leb 128 (min n 128) (omega arith), lt-ltb n 128 h)
        go (inr h) = rw (d, stopped_by (min n 128), le-leb 128 (min n 128) (omega arith), le-ltb n 128 h)

pub granted : BeaconsGranted
granted present sources dests air = record {
  further = λ q. same_further q w' eight;
  others = λ q l m e. same_answers q w' eight l m (sym (left_out q l) ∙ ap (beacon_steps q) e ∙ left_out q m);
  own = λ q l here whole. its_own present sources dests air q here whole l;
}
  where
    w' : World
    w' = fresh_world present sources dests air

    eight : length w'.yard.beacons ≡ 8
    eight = counts_eight present sources dests air
