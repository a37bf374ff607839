-- Where it is sent, an order in a yard does what the model's order does. Assumes nothing.
use mathlib.Core.Path.{◌≡◌, sym, ap, ◌∙◌, subst}
use mathlib.Core.Bool.{false}
use Prim.Native.Nat.{ℕ, suc, ◌+◌, ◌<◌, ◌≤◌}
use native.Mathlib.Omega.{arith}
use native.Mathlib.Numerals.{add-one}
use lib.ListN.{length-set}
use Rattle.air.proofs.Stretches.{length_stays}
use Rattle.cells.specs.Tables.{order_place}
use Rattle.post.specs.declared.Post as posts
use Rattle.post.specs.Taking.{own_taken}
use Rattle.steps.specs.Refusals.{order_refusal}
use Rattle.steps.specs.Steps.{order_step}
use Rattle.state.specs.Yards.{post_at, beacons_at}
use Rattle.yard.specs.Worlds.{World, order, single}
use Rattle.roll.specs.Runs.{Order}
use Rattle.laws.proofs.Hearable.{orderable}
use Rattle.laws.proofs.ValidSteps.{ordered_shaped, ordered_valid, order_post}
use Rattle.laws.proofs.Broadcasts.{Sendable, order_frame_lem, order_sendable}
use Rattle.model.proofs.Functions.{upd, upd2, upd_same, upd2_same}
use Rattle.model.proofs.Model as model
use Rattle.model.proofs.Invariants.{YardOk}
use Rattle.model.proofs.Taken.{KeptRise}
use Rattle.agreement.proofs.Views.{roles_of, places_view, post_view, frame_view, yard_view}
use Rattle.agreement.proofs.ArrayViews.{places_set}
use Rattle.agreement.proofs.PostViews.{view_ordered}
use Rattle.agreement.proofs.FrameViews.{view_order_frame}
use Rattle.agreement.proofs.AirViews.{air_spoken}
use Rattle.agreement.proofs.Sound.{ordered_roles, on_air_more, InYard, Sound, order_in_yard, posts_in_yard}
use Rattle.agreement.proofs.YardPosts.{posts_view, delivers, rose_before}
use Rattle.agreement.proofs.OrderWays.{OrderDone, order_done_lem}

-- an order with this word
abbrev pub sent_order : ℕ → ℕ → ℕ → ℕ → Order
sent_order word lane serial stamp = record { lane = lane; serial = serial; stamp = stamp; word = word }

-- the order that an order step carries
order_carried : (P : model.Post) (lane word : ℕ)
    → ◌≡◌ {A = Order} (record { lane = lane; serial = suc P.own; stamp = suc P.clock; word = word })
    (model.order_of (model.own_taken lane word P) lane (suc P.own))
order_carried P lane word = rw (upd2_same P.stamps lane (suc P.own) (suc P.clock), upd2_same P.words lane (suc P.own) word)

module _ (present sources dests : ℕ) where
  abbrev R : model.Roles
  R = roles_of present sources dests

  module _ (w : World) (s : Sound present sources dests w) (lane word : ℕ) (here : lane < 8) (small : word ≤ 65535)
      (z : order_refusal (post_at w.yard lane) ≡ 0) (room : w.yard.frames < 2048)
      (after : YardOk R (model.order_done R (yard_view w) lane word)) where
    abbrev p : posts.Post
    p = post_at w.yard lane

    abbrev q : posts.Post
    q = own_taken p word

    in_yard : InYard present sources dests lane p
    in_yard = s.post lane here

    can_send : Sendable (order_step p word).frame
    can_send = order_sendable p word (omega arith) z in_yard.shaped in_yard.valid

    pub order_is_done : OrderDone w lane word
    order_is_done = order_done_lem w lane word here small s.whole room z can_send

    -- the post just before delivery
    view_q : post_view q ≡ model.own_taken lane word (post_view p)
    view_q =
        view_ordered p word in_yard.shaped in_yard.valid (orderable p z).serial
        ∙ ap (λ (i : ℕ). model.own_taken i word (post_view p)) in_yard.its_lane

    q_in_yard : InYard present sources dests lane q
    q_in_yard =
        let r = ordered_roles p word in
        record {
          its_lane = r.lane ∙ in_yard.its_lane;
          its_posts = r.posts ∙ in_yard.its_posts;
          its_sources = r.sources ∙ in_yard.its_sources;
          its_dests = r.dests ∙ in_yard.its_dests;
          shaped = ordered_shaped p word z (omega arith) in_yard.shaped;
          valid = ordered_valid p word z in_yard.shaped in_yard.valid;
        }

    rises : KeptRise (post_view q)
    rises =
        subst KeptRise (sym view_q)
        (rose_before present sources dests (model.order_done R (yard_view w) lane word) lane (model.own_taken lane word (post_view p)) after
        (upd_same (yard_view w).posts lane (model.deliver R lane (model.own_taken lane word (post_view p)))))

    -- the post after it
    view_post : post_view (order_step p word).post ≡ model.deliver R lane (model.own_taken lane word (post_view p))
    view_post = ap post_view (order_post p word z) ∙ delivers present sources dests lane q q_in_yard rises ∙ ap (model.deliver R lane) view_q

    -- the order that it carries
    carried : sent_order word p.lane (p.serial.0 + 1) (p.clock.0 + 1) ≡ sent_order word lane (suc p.serial.0) (suc p.clock.0)
    carried = λ t. record { lane = in_yard.its_lane t; serial = add-one p.serial.0 t; stamp = add-one p.clock.0 t; word = word }

    -- its broadcast
    view_frame : frame_view (order_step p word).frame
        ≡ model.entries_frame false lane (model.order_of (model.own_taken lane word (post_view p)) lane (suc (post_view p).own)) (model.own_taken lane word (post_view p))
    view_frame =
        ap frame_view (order_frame_lem p word z)
        ∙ view_order_frame q p.lane (p.serial.0 + 1) (p.clock.0 + 1) word q_in_yard.shaped
        ∙ ap (λ (i : ℕ). model.entries_frame false i (sent_order word p.lane (p.serial.0 + 1) (p.clock.0 + 1)) (post_view q)) q_in_yard.its_lane
        ∙ ap (λ (o : Order). model.entries_frame false lane o (post_view q)) (carried ∙ order_carried (post_view p) lane word)
        ∙ ap (model.entries_frame false lane (model.order_of (model.own_taken lane word (post_view p)) lane (suc (post_view p).own))) view_q

    -- the yard after it
    pub order_view : yard_view (single w (order lane word)) ≡ model.order_done R (yard_view w) lane word
    order_view = ap yard_view order_is_done.leaves ∙ λ t. record {
      posts = (posts_view w.yard.posts lane (order_step p word).post s.eight here ∙ ap (upd (yard_view w).posts lane) view_post) t;
      air = (air_spoken w.air w.yard.frames (order_step p word).frame s.whole room can_send
          ∙ ap (upd (yard_view w).air w.yard.frames) view_frame) t;
      frames = add-one w.yard.frames t;
      beacons = beacons_at w.yard;
      first = (places_set w.yard.first lane (p.serial.0 + 1) w.yard.frames s.places here (omega arith) (omega (arith, (orderable p z).serial))
          ∙ ap (λ (n : ℕ). upd2 (places_view w.yard.first) lane n w.yard.frames) (add-one p.serial.0)) t;
    }

    pub order_sound : Sound present sources dests (single w (order lane word))
    order_sound = rw order_is_done.leaves (record {
      its_present = s.its_present;
      its_sources = s.its_sources;
      eight = length-set w.yard.posts lane (order_step p word).post ∙ s.eight;
      counts = s.counts;
      places = length-set w.yard.first (order_place lane (p.serial.0 + 1)) w.yard.frames ∙ s.places;
      whole = length_stays w.air w.yard.frames (order_step p word).frame ∙ s.whole;
      post = posts_in_yard present sources dests w.yard.posts lane (order_step p word).post s.eight here s.post
          (order_in_yard present sources dests lane p word (omega arith) in_yard);
      on_air = on_air_more w.air w.yard.frames (order_step p word).frame s.whole room can_send s.on_air;
    })
