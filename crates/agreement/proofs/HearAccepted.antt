-- Where it is not refused, a hearing in a yard does what the model's hearing does. Assumes nothing.
use mathlib.Core.Path.{◌≡◌, sym, ap, ◌∙◌, subst}
use mathlib.Core.Bool.{true, false}
use Prim.Native.Nat.{ℕ, ◌<◌}
use native.Mathlib.Numerals.{add-one}
use lib.ListN.{length-set}
use Rattle.frame.specs.declared.Frame as frames
use Rattle.air.proofs.Stretches.{length_stays}
use Rattle.cells.specs.Sets.{has_lane}
use Rattle.post.specs.declared.Post as posts
use Rattle.post.specs.Record.{last_of}
use Rattle.post.specs.Taking.{taken}
use Rattle.steps.specs.Refusals.{is_next, hear_refusal}
use Rattle.steps.specs.Steps.{hear_step}
use Rattle.state.specs.Yards.{post_at, beacons_at}
use Rattle.yard.specs.Singles.{frame_at}
use Rattle.yard.specs.Worlds.{World, hear, single}
use Rattle.laws.proofs.ValidSteps.{heard_post, heard_taken, heard_other, heard_shaped, heard_valid, hear_post}
use Rattle.laws.proofs.Broadcasts.{Sendable, hear_frame, hear_sendable}
use Rattle.model.proofs.Functions.{upd, upd_same}
use Rattle.model.proofs.Model as model
use Rattle.model.proofs.Invariants.{YardOk}
use Rattle.model.proofs.Taken.{KeptRise}
use Rattle.agreement.proofs.Views.{roles_of, places_view, post_view, frame_view, air_view, yard_view}
use Rattle.agreement.proofs.PostViews.{view_raised, view_taken, view_takes}
use Rattle.agreement.proofs.FrameViews.{view_order_frame}
use Rattle.agreement.proofs.AirViews.{air_spoken}
use Rattle.agreement.proofs.Sound.{heard_roles, on_air_more, InYard, Sound, hear_in_yard, posts_in_yard}
use Rattle.agreement.proofs.HearWays.{Hearing, hear_silent, hear_spoken, hear_no_frame}
use Rattle.agreement.proofs.YardPosts.{posts_view, delivers, rose_before}

-- the model's hearing, by whether the order is taken
pub hearing_takes : (R : model.Roles) (Y : model.Yard) (p : ℕ) (F : model.Frame) → model.takes (model.raised (Y.posts p) F) F ≡ true
    → model.hear_done R Y p F
    ≡ model.spoken Y p (model.deliver R p (model.taken R p F.carried (model.raised (Y.posts p) F)))
    (model.entries_frame false p F.carried (model.taken R p F.carried (model.raised (Y.posts p) F)))
unfolding model.hear_done
hearing_takes R Y p F e = rw e

hearing_other : (R : model.Roles) (Y : model.Yard) (p : ℕ) (F : model.Frame) → model.takes (model.raised (Y.posts p) F) F ≡ false
    → model.hear_done R Y p F ≡ model.silent Y p (model.deliver R p (model.raised (Y.posts p) F))
unfolding model.hear_done
hearing_other R Y p F e = rw e

module _ (present sources dests : ℕ) where
  abbrev R : model.Roles
  R = roles_of present sources dests

  module _ (w : World) (s : Sound present sources dests w) (lane k : ℕ) (h : Hearing w lane k)
      (z : hear_refusal (post_at w.yard lane) (frame_at w.air k) ≡ 0)
      (after : YardOk R (model.hear_done R (yard_view w) lane (frame_view (frame_at w.air k)))) where
    abbrev p : posts.Post
    p = post_at w.yard lane

    abbrev f : frames.Frame
    f = frame_at w.air k

    abbrev F : model.Frame
    F = frame_view f

    in_yard : InYard present sources dests lane p
    in_yard = s.post lane h.here

    can_hear : Sendable f
    can_hear = (s.on_air k h.on_air).sendable

    q_in_yard : InYard present sources dests lane (heard_post p f)
    q_in_yard =
        let r = heard_roles p f in
        record {
          its_lane = r.lane ∙ in_yard.its_lane;
          its_posts = r.posts ∙ in_yard.its_posts;
          its_sources = r.sources ∙ in_yard.its_sources;
          its_dests = r.dests ∙ in_yard.its_dests;
          shaped = heard_shaped p f can_hear.fits z in_yard.shaped;
          valid = heard_valid p f can_hear.good z in_yard.shaped in_yard.valid;
        }

    -- the post after a hearing, where the model's post just before delivery is Q
    view_post : (Q : model.Post) → post_view (heard_post p f) ≡ Q → KeptRise Q → post_view (hear_step p f).post ≡ model.deliver R lane Q
    view_post Q e c =
        ap post_view (hear_post p f z) ∙ delivers present sources dests lane (heard_post p f) q_in_yard (subst KeptRise (sym e) c) ∙ ap (model.deliver R lane) e

    -- ---- nothing is taken

    module _ (n : is_next f (last_of p f.lane) ≡ false) where
      calm : model.hear_done R (yard_view w) lane F ≡ model.silent (yard_view w) lane (model.deliver R lane (model.raised (post_view p) F))
      calm = hearing_other R (yard_view w) lane F (view_takes p f ∙ n)

      view_calm : post_view (hear_step p f).post ≡ model.deliver R lane (model.raised (post_view p) F)
      view_calm =
          view_post (model.raised (post_view p) F)
          (ap post_view (heard_other p f n) ∙ view_raised p f in_yard.shaped can_hear.good can_hear.fits)
          (rose_before present sources dests
          (model.silent (yard_view w) lane (model.deliver R lane (model.raised (post_view p) F))) lane (model.raised (post_view p) F)
          (subst (YardOk R) calm after)
          (upd_same (yard_view w).posts lane (model.deliver R lane (model.raised (post_view p) F))))

      pub hear_silent_view : yard_view (single w (hear lane k)) ≡ model.hear_done R (yard_view w) lane F
      hear_silent_view =
          ap yard_view (hear_silent w lane k h (hear_no_frame p f z n))
          ∙ (λ t. record {
            posts = (posts_view w.yard.posts lane (hear_step p f).post s.eight h.here ∙ ap (upd (yard_view w).posts lane) view_calm) t;
            air = air_view w.air w.yard.frames;
            frames = w.yard.frames;
            beacons = beacons_at w.yard;
            first = places_view w.yard.first;
          })
          ∙ sym calm

      pub hear_silent_sound : Sound present sources dests (single w (hear lane k))
      hear_silent_sound = rw (hear_silent w lane k h (hear_no_frame p f z n)) (record {
        its_present = s.its_present;
        its_sources = s.its_sources;
        eight = length-set w.yard.posts lane (hear_step p f).post ∙ s.eight;
        counts = s.counts;
        places = s.places;
        whole = s.whole;
        post = posts_in_yard present sources dests w.yard.posts lane (hear_step p f).post s.eight h.here s.post
            (hear_in_yard present sources dests lane p f can_hear in_yard);
        on_air = s.on_air;
      })

    -- ---- the order is taken

    module _ (n : is_next f (last_of p f.lane) ≡ true) (room : w.yard.frames < 2048) where
      abbrev Q : model.Post
      Q = model.taken R lane F.carried (model.raised (post_view p) F)

      took : model.hear_done R (yard_view w) lane F
          ≡ model.spoken (yard_view w) lane (model.deliver R lane Q) (model.entries_frame false lane F.carried Q)
      took = hearing_takes R (yard_view w) lane F (view_takes p f ∙ n)

      can_send : Sendable (hear_step p f).frame
      can_send = hear_sendable p f can_hear.good can_hear.fits z n in_yard.shaped in_yard.valid

      view_q : post_view (taken p f) ≡ Q
      view_q =
          view_taken p f in_yard.shaped in_yard.valid can_hear.good can_hear.fits n R
          (ap (λ (x : ℕ). has_lane x p.lane) (sym in_yard.its_sources))
          ∙ ap (λ (i : ℕ). model.taken R i F.carried (model.raised (post_view p) F)) in_yard.its_lane

      view_took : post_view (hear_step p f).post ≡ model.deliver R lane Q
      view_took =
          view_post Q (ap post_view (heard_taken p f n) ∙ view_q)
          (rose_before present sources dests
          (model.spoken (yard_view w) lane (model.deliver R lane Q) (model.entries_frame false lane F.carried Q)) lane Q
          (subst (YardOk R) took after)
          (upd_same (yard_view w).posts lane (model.deliver R lane Q)))

      taken_in_yard : InYard present sources dests lane (taken p f)
      taken_in_yard = subst (InYard present sources dests lane) (heard_taken p f n) q_in_yard

      view_frame : frame_view (hear_step p f).frame ≡ model.entries_frame false lane F.carried Q
      view_frame =
          ap frame_view (hear_frame p f z n)
          ∙ view_order_frame (taken p f) f.lane f.serial.0 f.stamp.0 f.word taken_in_yard.shaped
          ∙ ap (λ (i : ℕ). model.entries_frame false i F.carried (post_view (taken p f))) taken_in_yard.its_lane
          ∙ ap (model.entries_frame false lane F.carried) view_q

      pub hear_spoken_view : yard_view (single w (hear lane k)) ≡ model.hear_done R (yard_view w) lane F
      hear_spoken_view =
          ap yard_view (hear_spoken w lane k h room can_send)
          ∙ (λ t. record {
            posts = (posts_view w.yard.posts lane (hear_step p f).post s.eight h.here ∙ ap (upd (yard_view w).posts lane) view_took) t;
            air = (air_spoken w.air w.yard.frames (hear_step p f).frame s.whole room can_send
                ∙ ap (upd (yard_view w).air w.yard.frames) view_frame) t;
            frames = add-one w.yard.frames t;
            beacons = beacons_at w.yard;
            first = places_view w.yard.first;
          })
          ∙ sym took

      pub hear_spoken_sound : Sound present sources dests (single w (hear lane k))
      hear_spoken_sound = rw (hear_spoken w lane k h room can_send) (record {
        its_present = s.its_present;
        its_sources = s.its_sources;
        eight = length-set w.yard.posts lane (hear_step p f).post ∙ s.eight;
        counts = s.counts;
        places = s.places;
        whole = length_stays w.air w.yard.frames (hear_step p f).frame ∙ s.whole;
        post = posts_in_yard present sources dests w.yard.posts lane (hear_step p f).post s.eight h.here s.post
            (hear_in_yard present sources dests lane p f can_hear in_yard);
        on_air = on_air_more w.air w.yard.frames (hear_step p f).frame s.whole room can_send s.on_air;
      })
