-- A record put into a row, part by part. Assumes nothing.
use mathlib.Core.Path.{◌≡◌, refl, ◌∙◌}
use mathlib.Core.Bool.{true}
use mathlib.Core.List.{List, [], ◌∷◌, ◌++◌}
use Prim.Native.Nat.{ℕ, ◌+◌, ◌<◌, ◌≤◌}
use native.Mathlib.Omega.{arith}
use borrow.Author.Tests.{le-leb, lt-leb}
use lib.ListN.{length, length-set, set, take, drop}
use lib.Seq.{get_or-set_same}
use Rattle.post.specs.declared.Post.{Post}
use Rattle.row.specs.Rows.{put_in, post_in, known_in, past_in}
use Rattle.row.proofs.Laws.{apart, part_apart, cell_apart, same_known_cell, same_past_cell}
use Rattle.row.proofs.LentParts.{put_part, part_back, length_back, part_other, cell_other, past_other}
use Rattle.post_row.specs.Records.{loaded_in}

-- q with the numbers of p
abbrev pub with_numbers : Post → Post → Post
with_numbers q p = record {
  lane = p.lane;
  posts = p.posts;
  sources = p.sources;
  dests = p.dests;
  clock = p.clock;
  serial = p.serial;
  logged = p.logged;
  last = q.last;
  table = q.table;
  stamps = q.stamps;
  words = q.words;
  log = q.log;
}

-- a part that was lent and is now ys
pub lent : (l ys zs : List ℕ) (a n : ℕ) → zs ≡ ys → take a l ++ (zs ++ drop n (drop a l)) ≡ put_part l a n ys
unfolding put_part
lent l ys zs a n e = rw e

-- then the row is whole as before, and what is known and what is past the record stay
rest : (l m ys : List ℕ) (a n : ℕ) → 543 ≤ length l → length ys ≡ n → a + n ≤ 543 → apart a n 14 8 ≡ true → m ≡ put_part l a n ys
    → (543 ≤ length m) × (known_in m ≡ known_in l) × (past_in m ≡ past_in l)
unfolding known_in
rest l m ys a n h k w s e =
    let i : a + n ≤ length l = omega arith in
    rw e (rw (length_back l a n ys i k) h, part_other l a n ys i k 14 8 s, past_other l a n ys i k w)

-- ---- one array

module _ (l ys : List ℕ) (h : 543 ≤ length l) where
  pub load_last : length ys ≡ 8 → post_in (put_part l 6 8 ys) ≡ record { lane = (post_in l).lane; posts = (post_in l).posts; sources = (post_in l).sources; dests = (post_in l).dests; clock = (post_in l).clock; serial = (post_in l).serial; logged = (post_in l).logged; last = ys; table = (post_in l).table; stamps = (post_in l).stamps; words = (post_in l).words; log = (post_in l).log }
  unfolding post_in
  load_last e =
      let i : 6 + 8 ≤ length l = omega arith in
      let cell = cell_other l 6 8 ys i e in
      let other = part_other l 6 8 ys i e in
      rw (cell 0 refl, cell 542 refl, cell 1 refl, cell 2 refl, cell 3 refl, cell 4 refl, cell 5 refl, part_back l 6 8 ys i e, other 22 136 refl, other 158 128 refl, other 286 128 refl, other 414 128 refl)

  pub load_table : length ys ≡ 136 → post_in (put_part l 22 136 ys) ≡ record { lane = (post_in l).lane; posts = (post_in l).posts; sources = (post_in l).sources; dests = (post_in l).dests; clock = (post_in l).clock; serial = (post_in l).serial; logged = (post_in l).logged; last = (post_in l).last; table = ys; stamps = (post_in l).stamps; words = (post_in l).words; log = (post_in l).log }
  unfolding post_in
  load_table e =
      let i : 22 + 136 ≤ length l = omega arith in
      let cell = cell_other l 22 136 ys i e in
      let other = part_other l 22 136 ys i e in
      rw (cell 0 refl, cell 542 refl, cell 1 refl, cell 2 refl, cell 3 refl, cell 4 refl, cell 5 refl, other 6 8 refl, part_back l 22 136 ys i e, other 158 128 refl, other 286 128 refl, other 414 128 refl)

  pub load_stamps : length ys ≡ 128 → post_in (put_part l 158 128 ys) ≡ record { lane = (post_in l).lane; posts = (post_in l).posts; sources = (post_in l).sources; dests = (post_in l).dests; clock = (post_in l).clock; serial = (post_in l).serial; logged = (post_in l).logged; last = (post_in l).last; table = (post_in l).table; stamps = ys; words = (post_in l).words; log = (post_in l).log }
  unfolding post_in
  load_stamps e =
      let i : 158 + 128 ≤ length l = omega arith in
      let cell = cell_other l 158 128 ys i e in
      let other = part_other l 158 128 ys i e in
      rw (cell 0 refl, cell 542 refl, cell 1 refl, cell 2 refl, cell 3 refl, cell 4 refl, cell 5 refl, other 6 8 refl, other 22 136 refl, part_back l 158 128 ys i e, other 286 128 refl, other 414 128 refl)

  pub load_words : length ys ≡ 128 → post_in (put_part l 286 128 ys) ≡ record { lane = (post_in l).lane; posts = (post_in l).posts; sources = (post_in l).sources; dests = (post_in l).dests; clock = (post_in l).clock; serial = (post_in l).serial; logged = (post_in l).logged; last = (post_in l).last; table = (post_in l).table; stamps = (post_in l).stamps; words = ys; log = (post_in l).log }
  unfolding post_in
  load_words e =
      let i : 286 + 128 ≤ length l = omega arith in
      let cell = cell_other l 286 128 ys i e in
      let other = part_other l 286 128 ys i e in
      rw (cell 0 refl, cell 542 refl, cell 1 refl, cell 2 refl, cell 3 refl, cell 4 refl, cell 5 refl, other 6 8 refl, other 22 136 refl, other 158 128 refl, part_back l 286 128 ys i e, other 414 128 refl)

  pub load_log : length ys ≡ 128 → post_in (put_part l 414 128 ys) ≡ record { lane = (post_in l).lane; posts = (post_in l).posts; sources = (post_in l).sources; dests = (post_in l).dests; clock = (post_in l).clock; serial = (post_in l).serial; logged = (post_in l).logged; last = (post_in l).last; table = (post_in l).table; stamps = (post_in l).stamps; words = (post_in l).words; log = ys }
  unfolding post_in
  load_log e =
      let i : 414 + 128 ≤ length l = omega arith in
      let cell = cell_other l 414 128 ys i e in
      let other = part_other l 414 128 ys i e in
      rw (cell 0 refl, cell 542 refl, cell 1 refl, cell 2 refl, cell 3 refl, cell 4 refl, cell 5 refl, other 6 8 refl, other 22 136 refl, other 158 128 refl, other 286 128 refl, part_back l 414 128 ys i e)

-- ---- the numbers

put_posts : (l : List ℕ) (v : ℕ) → 543 ≤ length l
    → post_in (set l 542 v) ≡ record { lane = (post_in l).lane; posts = v; sources = (post_in l).sources; dests = (post_in l).dests; clock = (post_in l).clock; serial = (post_in l).serial; logged = (post_in l).logged; last = (post_in l).last; table = (post_in l).table; stamps = (post_in l).stamps; words = (post_in l).words; log = (post_in l).log }
unfolding post_in put_in
put_posts l v h =
    let cell = cell_apart l 542 1 0 v in
    let other = part_apart l 542 1 0 v in
    rw (cell 0 refl, cell 1 refl, cell 2 refl, cell 3 refl, cell 4 refl, cell 5 refl, get_or-set_same l 542 v 0 (omega arith), other 6 8 refl, other 22 136 refl, other 158 128 refl, other 286 128 refl, other 414 128 refl)

module _ (l : List ℕ) (a b c d e f : ℕ) (h : 543 ≤ length l) where
  abbrev six : List ℕ
  six = a ∷ b ∷ c ∷ d ∷ e ∷ f ∷ []

  put_six : post_in (put_part l 0 6 six) ≡ record { lane = a; posts = (post_in l).posts; sources = b; dests = c; clock = record { 0 = d }; serial = record { 0 = e }; logged = f; last = (post_in l).last; table = (post_in l).table; stamps = (post_in l).stamps; words = (post_in l).words; log = (post_in l).log }
  unfolding post_in put_part
  put_six =
      let i : 0 + 6 ≤ length l = omega arith in
      let other = part_other l 0 6 six i refl in
      rw (cell_other l 0 6 six i refl 542 refl, other 6 8 refl, other 22 136 refl, other 158 128 refl, other 286 128 refl, other 414 128 refl)

-- the numbers of p
pub numbers_load : (p : Post) (l m n : List ℕ) → 543 ≤ length l
    → m ≡ put_part l 0 6 (p.lane ∷ p.sources ∷ p.dests ∷ p.clock.0 ∷ p.serial.0 ∷ p.logged ∷ []) → n ≡ set m 542 p.posts
    → (post_in n ≡ with_numbers (post_in l) p) × ((known_in n ≡ known_in l) × (past_in n ≡ past_in l)) × (543 ≤ length n)
numbers_load p l m n h em en =
    let r = rest l m (p.lane ∷ p.sources ∷ p.dests ∷ p.clock.0 ∷ p.serial.0 ∷ p.logged ∷ []) 0 6 h refl (omega arith) refl em in (
      rw (en, put_posts m p.posts r.0, em, put_six l p.lane p.sources p.dests p.clock.0 p.serial.0 p.logged h),
      (same_known_cell m n 542 p.posts refl refl en ∙ r.1, same_past_cell m n 542 p.posts (omega arith) en ∙ r.2),
      rw en (simp length-set (omega arith)),
    )

-- ---- the whole record

abbrev Loaded : List ℕ → Post → List ℕ → Type 0
Loaded l p m = (post_in m ≡ loaded_in l p) × ((known_in m ≡ known_in l) × (past_in m ≡ past_in l))

pub loads : (p : Post) (l a b c d e m : List ℕ) → 543 ≤ length l → 543 ≤ length a → length p.last ≡ 8 → length p.table ≡ 136
    → length p.stamps ≡ 128 → length p.words ≡ 128 → length p.log ≡ 128
    → post_in a ≡ with_numbers (post_in l) p → known_in a ≡ known_in l → past_in a ≡ past_in l
    → b ≡ put_part a 6 8 p.last → c ≡ put_part b 22 136 p.table → d ≡ put_part c 158 128 p.stamps
    → e ≡ put_part d 286 128 p.words → m ≡ put_part e 414 128 p.log
    → Loaded l p m
loads p l a b c d e m hl h l1 l2 l3 l4 l5 ea ka pa eb ec ed ee em =
    let rb = rest a b p.last 6 8 h l1 (omega arith) refl eb in
    let rc = rest b c p.table 22 136 rb.0 l2 (omega arith) refl ec in
    let rd = rest c d p.stamps 158 128 rc.0 l3 (omega arith) refl ed in
    let re = rest d e p.words 286 128 rd.0 l4 (omega arith) refl ee in
    let rm = rest e m p.log 414 128 re.0 l5 (omega arith) refl em in (
      rw (
        le-leb 543 (length l) hl,
        em,
        load_log e p.log re.0 l5,
        ee,
        load_words d p.words rd.0 l4,
        ed,
        load_stamps c p.stamps rc.0 l3,
        ec,
        load_table b p.table rb.0 l2,
        eb,
        load_last a p.last h l1,
        ea,
      ),
      (rm.1 ∙ re.1 ∙ rd.1 ∙ rc.1 ∙ rb.1 ∙ ka, rm.2 ∙ re.2 ∙ rd.2 ∙ rc.2 ∙ rb.2 ∙ pa),
    )

pub too_short : (p : Post) (l : List ℕ) → length l < 543 → Loaded l p l
too_short p l h = (rw (lt-leb 543 (length l) h), (refl, refl))
