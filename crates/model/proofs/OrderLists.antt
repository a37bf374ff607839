-- Lists of orders by stamp and then lane: what `in_order` makes, and when one such list begins another or is it. Assumes nothing.
use mathlib.Core.Path.{◌≡◌, refl, sym, ap, ◌∙◌}
use mathlib.Core.List.{List, [], ◌∷◌, ◌++◌, append-nil}
use mathlib.Core.Logic.{◌⊎◌, inl, inr, ◌≢◌}
use Prim.Native.Nat.{◌≤◌, ◌<◌}
use native.Mathlib.Omega.{arith}
use Rattle.laws.proofs.ListLaws.{Mem, mem_right, mem_append, Begins}
use Rattle.laws.proofs.SortLaws.{mem_sort, sort_mem, ApartBy, sort_rises}
use Rattle.roll.specs.Runs.{Order}
use Rattle.roll.specs.Logs.{rank, ranks_lower, in_order, Rising}

-- no two orders of the list rank alike
abbrev pub Apart : List Order → Type 0
Apart l = ApartBy rank l

-- ---- what `in_order` makes

-- the members of a list are members of the list in order
pub mem_in_order : (z : Order) (l : List Order) → Mem z l → Mem z (in_order l)
unfolding in_order
mem_in_order z l m = mem_sort ranks_lower z l m

-- and nothing else is
pub in_order_mem : (z : Order) (l : List Order) → Mem z (in_order l) → Mem z l
unfolding in_order
in_order_mem z l m = sort_mem ranks_lower z l m

-- which rises where no two rank alike
pub in_order_rises : (l : List Order) → Apart l → Rising (in_order l)
unfolding in_order
in_order_rises l a = sort_rises ranks_lower rank l (λ x y m n. refl) a

-- ---- lists one after the other

-- rising lists, the second above the first
pub rising_append : (s t : List Order) → Rising s → Rising t → ((x y : Order) → Mem x s → Mem y t → rank x < rank y) → Rising (s ++ t)
rising_append [] t r q h = q
rising_append (x ∷ s) t r q h = (λ y m. go y (mem_append y s t m), rising_append s t r.1 q (λ a b m n. h a b (inr m) n))
  where
    go : (y : Order) → Mem y s ⊎ Mem y t → rank x < rank y
    go y (inl m) = r.0 y m
    go y (inr m) = h x y (inl refl) m

-- lists of orders that rank apart, also from each other's
pub apart_append : (s t : List Order) → Apart s → Apart t → ((x y : Order) → Mem x s → Mem y t → rank x ≢ rank y) → Apart (s ++ t)
apart_append [] t r q h = q
apart_append (x ∷ s) t r q h = (λ y m. go y (mem_append y s t m), apart_append s t r.1 q (λ a b m n. h a b (inr m) n))
  where
    go : (y : Order) → Mem y s ⊎ Mem y t → rank x ≢ rank y
    go y (inl m) = r.0 y m
    go y (inr m) = h x y (inl refl) m

-- ---- beginnings

-- a rising list begins another that has its members, where it has all of the other's that rank below one of its own
pub begins : (s l : List Order) → Rising s → Rising l
    → ((x : Order) → Mem x s → Mem x l)
    → ((x y : Order) → Mem x s → Mem y l → rank y < rank x → Mem y s)
    → Begins s l
begins [] l r q sub down = (l, refl)
begins (x ∷ s) [] r q sub down = absurd (sub x (inl refl))
begins (x ∷ s) (y ∷ l) r q sub down =
    cons (begins s l r.1 q.1 (λ z m. subs z m (sub z (inr m))) (λ z w m n h. downs w n (down z w (inr m) (inr n) h)))
  where
    -- the heads agree: else y stands below x, so it is in x ∷ s, above x
    not_lt : Mem y (x ∷ s) → rank x ≤ rank y
    not_lt (inl e) = rw e (omega arith)
    not_lt (inr m) = omega (arith, r.0 y m)

    same : Mem x (y ∷ l) → x ≡ y
    same (inl e) = e
    same (inr m) = let h : rank y < rank x = q.0 x m in absurd (omega (arith, not_lt (down x y (inl refl) (inl refl) h)))

    eq : x ≡ y
    eq = same (sub x (inl refl))

    subs : (z : Order) → Mem z s → Mem z (y ∷ l) → Mem z l
    subs z m (inl e) = absurd (omega (arith, r.0 z m, ap rank (e ∙ sym eq)))
    subs z m (inr n) = n

    downs : (w : Order) → Mem w l → Mem w (x ∷ s) → Mem w s
    downs w n (inl e) = absurd (omega (arith, q.0 w n, ap rank (e ∙ eq)))
    downs w n (inr m) = m

    cons : Begins s l → Begins (x ∷ s) (y ∷ l)
    cons b = (b.0, cc (eq, b.1))

-- of a rising list, what comes later ranks above
pub rising_split : (s t : List Order) (x y : Order) → Rising (s ++ t) → Mem x s → Mem y t → rank x < rank y
rising_split [] t x y r m n = absurd m
rising_split (z ∷ s) t x y r (inl e) n = rw e (r.0 y (mem_right y s t n))
rising_split (z ∷ s) t x y r (inr m) n = rising_split s t x y r.1 m n

-- two rising lists with the same members are one
pub unique : (s l : List Order) → Rising s → Rising l → ((x : Order) → Mem x s → Mem x l) → ((x : Order) → Mem x l → Mem x s) → s ≡ l
unique s l r q sub sup = go (begins s l r q sub (λ x y m n h. sup y n))
  where
    none : (t : List Order) → l ≡ s ++ t → s ≡ l
    none [] e = cc (append-nil s)
    none (z ∷ t) e =
        let m : Mem z l = rw e (mem_right z s (z ∷ t) (inl refl)) in
        absurd (omega (arith, rising_split s (z ∷ t) z z (rw e at q) (sup z m) (inl refl)))

    go : Begins s l → s ≡ l
    go b = none b.0 b.1
