-- What the model's invariants promise of the yard by themselves: the list of the orders sent, serials, first frames, frames. Assumes nothing.
use mathlib.Core.Path.{◌≡◌, refl, sym, ap, ◌∙◌, subst}
use mathlib.Core.List.{List}
use mathlib.Core.Bool.{not}
use Prim.Native.Nat.{ℕ, ◌<◌}
use native.Mathlib.Omega.{arith}
use borrow.Author.Tests.{eqb-true, eq-eqb, not-false}
use Rattle.steps.specs.Refusals.{is_order}
use Rattle.yard.specs.Singles.{frame_at}
use Rattle.yard.specs.Worlds.{World}
use Rattle.roll.specs.Runs.{Step, run, Order, sent}
use Rattle.roll.specs.Taken.{sum_below, orders_taken, beacons_of_all}
use Rattle.laws.specs.Lists.{Mem}
use Rattle.model.proofs.Model as model
use Rattle.model.proofs.Invariants.{Sent, FrameOk, YardOk}
use Rattle.model.proofs.OrderLists.{Apart, mem_in_order, in_order_mem, in_order_rises}
use Rattle.model.proofs.SentOrders.{Lists}
use Rattle.model.proofs.Air.{total, First, IsOf}
use Rattle.agreement.specs.Demand3.{OneList}
use Rattle.agreement.specs.YardFacts.{Serials, FirstFrame}
use Rattle.agreement.proofs.Views.{frame_view, air_view, yard_view}
use Rattle.agreement.proofs.AirViews.{air_at}
use Rattle.agreement.proofs.Beginnings.{length_in_order}

-- the list of the orders sent, where no two have one stamp and lane
pub one_list : (w : World) (steps : List Step) → ((o : Order) → Mem o (sent w steps) → o.lane < 8) → Apart (sent w steps) → OneList w steps
one_list w steps l a = record {
  lanes = l;
  all = λ o m. mem_in_order o (sent w steps) m;
  only = λ o m. in_order_mem o (sent w steps) m;
  count = length_in_order (sent w steps);
  rising = in_order_rises (sent w steps) a;
}

-- the serials of the orders sent
pub serials : (R : model.Roles) (w : World) (steps : List Step) (lane : ℕ) → YardOk R (yard_view (run w steps))
    → Lists (yard_view (run w steps)).posts (sent w steps) → Serials w steps lane
serials R w steps lane y l = record {
  few = (y.selves lane).own_at_most;
  only = λ o m e. let s = l.listed_sent o m in (s.from_one, rw e at s.was_sent);
  every = λ n a b. (model.order_of ((yard_view (run w steps)).posts lane) lane n, l.all_listed lane n a b, refl, refl);
}

-- the model's first frame of an order is that of the air, and it carries the order as it was sent
pub first_frame : (R : model.Roles) (v : World) (o : Order) (k : ℕ) → YardOk R (yard_view v) → Sent (yard_view v).posts o
    → First (air_view v.air v.yard.frames) v.yard.frames o.lane o.serial k → FirstFrame v o k
first_frame R v o k y s f = record {
  on_air = f.on_air;
  kind = eqb-true (frame_at v.air k).kind 1 (not-false (is_order (frame_at v.air k)) here.0);
  of_lane = here.1;
  of_serial = here.2;
  of_stamp = carried_sent.stamp_is ∙ rw (here.1, here.2) (sym s.stamp_is);
  of_word = carried_sent.word_is ∙ rw (here.1, here.2) (sym s.word_is);
  sender = rw (air_at v k f.on_air) at f.from_its_lane;
  before = λ j l e i n. f.none_earlier j l (rw (air_at v j (omega (arith, f.on_air))) (ap not (eq-eqb (frame_at v.air j).kind 1 e), i, n));
}
  where
    here : IsOf (frame_view (frame_at v.air k)) o.lane o.serial
    here = rw (air_at v k f.on_air) at f.is_of

    carried_sent : Sent (yard_view v).posts (frame_view (frame_at v.air k)).carried
    carried_sent = (subst (FrameOk R (yard_view v).posts) (air_at v k f.on_air) (y.frames_ok k f.on_air)).order_sent here.0

-- the orders that the posts have taken are as many in the model
pub taken_total : (v : World) → total (yard_view v).posts ≡ orders_taken v
unfolding total orders_taken sum_below
taken_total v = refl

-- and the beacons that they have sent
pub beacons_total : (v : World) → sum_below 8 (yard_view v).beacons ≡ beacons_of_all v
unfolding beacons_of_all
beacons_total v = refl
