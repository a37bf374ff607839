-- Lists of single steps, and the roll call's own list, do what the model's do, as long as the model keeps an invariant. Assumes nothing.
use mathlib.Core.Path.{◌≡◌, refl, sym, ap, ◌∙◌, subst}
use mathlib.Core.List.{List, [], ◌∷◌}
use Prim.Native.Nat.{ℕ}
use Rattle.yard.specs.Worlds.{World, Single, single, singles}
use Rattle.roll.specs.RollCall.{roll_steps}
use Rattle.model.proofs.Model as model
use Rattle.model.proofs.RollAccepted.{Accepted}
use Rattle.agreement.specs.Demand3.{AllAccepted}
use Rattle.agreement.proofs.Views.{roles_of, yard_view}
use Rattle.agreement.proofs.Sound.{Sound}
use Rattle.agreement.proofs.Simulates.{Fit, Simulates, single_numbers}
use Rattle.agreement.proofs.EachSingle.{single_simulates}
use Rattle.agreement.proofs.RollViews.{posts_same_lem, beacons_same, posts_heard_same}

module _ (present sources dests : ℕ) where
  abbrev R : model.Roles
  R = roles_of present sources dests

  -- what every step of the model keeps, and what the yard's steps need of it
  module _ (Keeps : model.Yard → Type 0) (fits : (Y : model.Yard) → Keeps Y → Fit present sources dests Y)
      (next : (Y : model.Yard) → Keeps Y → (s : Single) → Keeps (model.step R Y s)) where
    -- one step
    pub one_simulates : (w : World) → Sound present sources dests w → Keeps (yard_view w) → (s : Single) → Simulates present sources dests w s
    one_simulates w s g x = single_simulates present sources dests w s (fits (yard_view w) g) x (fits (model.step R (yard_view w) x) (next (yard_view w) g x))

    pub one_keeps : (w : World) → Sound present sources dests w → Keeps (yard_view w) → (s : Single) → Keeps (yard_view (single w s))
    one_keeps w s g x = subst Keeps (sym (one_simulates w s g x).view) (next (yard_view w) g x)

    -- a list of them
    pub record ListSimulates (w : World) (l : List Single) : Type 0 where
      pub view : yard_view (singles w l) ≡ model.run R (yard_view w) l
      pub sound : Sound present sources dests (singles w l)

    pub list_simulates : (w : World) → Sound present sources dests w → Keeps (yard_view w) → (l : List Single) → ListSimulates w l
    unfolding singles model.run
    list_simulates w s g [] = record { view = refl; sound = s }
    list_simulates w s g (x ∷ l) =
        let here = one_simulates w s g x in
        let r = list_simulates (single w x) here.sound (one_keeps w s g x) l in
        record { view = r.view ∙ ap (λ (Y : model.Yard). model.run R Y l) here.view; sound = r.sound }

    -- where the model accepts every step of a list, the yard does
    pub list_accepted : (w : World) → Sound present sources dests w → Keeps (yard_view w) → (l : List Single)
        → Accepted R (yard_view w) l → AllAccepted w l
    list_accepted w s g [] a = tt
    list_accepted w s g (x ∷ l) a =
        let here = one_simulates w s g x in (
          here.number ∙ sym (single_numbers present sources dests w s x) ∙ a.0,
          list_accepted (single w x) here.sound (one_keeps w s g x) l (subst (λ (Y : model.Yard). Accepted R Y l) (sym here.view) a.1),
        )

    -- the roll call's list
    pub roll_same : (w : World) → Sound present sources dests w → Keeps (yard_view w) → roll_steps w ≡ model.roll_steps R (yard_view w)
    unfolding roll_steps model.roll_steps
    roll_same w s g =
        rw (
          posts_same_lem present sources dests w 8 s.its_present,
          ap (λ (Y : model.Yard). Y.frames) (list_simulates w s g (model.posts_hear R (yard_view w) 8)).view,
          s.its_present,
          s.its_sources,
          beacons_same present sources dests 8,
          posts_heard_same present sources dests (model.run R (yard_view w) (model.posts_hear R (yard_view w) 8)).frames 8,
        )
