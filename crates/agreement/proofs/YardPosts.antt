-- The records of a yard as the model's posts: one is changed, one delivers. Assumes nothing.
use mathlib.Core.Path.{◌≡◌, sym, ap, ◌∙◌, fun_ext}
use mathlib.Core.List.{List}
use mathlib.Core.Logic.{◌⊎◌, inl, inr, ◌≢◌}
use Prim.Native.Nat.{ℕ, ◌<◌}
use native.Mathlib.Omega.{arith}
use lib.ListN.{length, get_or, set}
use lib.Seq.{get_or-set_same, get_or-set_other}
use Rattle.cells.specs.Sets.{has_lane}
use Rattle.post.specs.declared.Post as posts
use Rattle.deliver.specs.Delivery.{delivered}
use Rattle.state.specs.Yards.{no_post}
use Rattle.laws.proofs.TestLaws.{same_or_not}
use Rattle.model.proofs.Functions.{upd, upd_same, upd_other}
use Rattle.model.proofs.Model as model
use Rattle.model.proofs.Invariants.{YardOk}
use Rattle.model.proofs.Taken.{KeptRise}
use Rattle.model.proofs.Delivery.{known_rise}
use Rattle.agreement.proofs.Views.{roles_of, post_view}
use Rattle.agreement.proofs.DeliveryViews.{view_delivered}
use Rattle.agreement.proofs.Sound.{InYard}

-- one record of the yard is changed
pub posts_view : (l : List posts.Post) (lane : ℕ) (q : posts.Post) → length l ≡ 8 → lane < 8
    → ◌≡◌ {A = ℕ → model.Post} (λ i. post_view (get_or (set l lane q) i no_post)) (upd (λ i. post_view (get_or l i no_post)) lane (post_view q))
posts_view l lane q e h = fun_ext (λ i. go i (same_or_not i lane))
  where
    go : (i : ℕ) → (i ≡ lane) ⊎ (i ≢ lane)
        → post_view (get_or (set l lane q) i no_post) ≡ upd (λ (j : ℕ). post_view (get_or l j no_post)) lane (post_view q) i
    go i (inl s) = rw (s, upd_same) (ap post_view (get_or-set_same l lane q no_post (omega arith)))
    go i (inr n) = rw (upd_other (λ (j : ℕ). post_view (get_or l j no_post)) lane (post_view q) i n) (ap post_view (get_or-set_other l lane i q no_post n))

module _ (present sources dests : ℕ) where
  abbrev R : model.Roles
  R = roles_of present sources dests

  -- a record of the yard delivers as the model's post does
  pub delivers : (lane : ℕ) (q : posts.Post) → InYard present sources dests lane q → KeptRise (post_view q)
      → post_view (delivered q).post ≡ model.deliver R lane (post_view q)
  delivers lane q i c =
      view_delivered q i.shaped i.valid R
      (λ j l. ap (λ (x : ℕ). has_lane x j) (sym i.its_sources))
      (ap (λ (x : ℕ). has_lane x q.lane) (sym i.its_dests))
      c
      ∙ ap (λ (j : ℕ). model.deliver R j (post_view q)) i.its_lane

  -- stamps rise in a post that has delivered, so they rose before
  pub rose_before : (Y : model.Yard) (lane : ℕ) (Q : model.Post) → YardOk R Y → Y.posts lane ≡ model.deliver R lane Q → KeptRise Q
  rose_before Y lane Q y e =
      let c : KeptRise (model.deliver R lane Q) = rw e at (known_rise R Y.posts (Y.posts lane) (y.posts_ok lane).knows y.selves) in c
