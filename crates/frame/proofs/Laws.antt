-- Laws that the proofs of functions cite. Assumes nothing.
use mathlib.Core.Path.{◌≡◌, refl, sym, ◌∙◌, ap, ap₂}
use mathlib.Core.Bool.{Bool, true, false, cond, ◌||◌}
use mathlib.Core.List.{List}
use Prim.Native.Nat.{ℕ, ◌+◌, ◌*◌, ◌<◌}
use native.Mathlib.Numerals.{add-one}
use native.Mathlib.Omega.{arith}
use borrow.Author.Tests.{eq-eqb, ne_eqb, eqb-true, not-false}
use lib.ListN.{length}
use lib.Dec.{eqb}
use Rattle.frame.specs.Lanes.{any_below}
use Rattle.frame.specs.Layout.{byte_at, pair_at, entry_at, frame_of, bytes_of}
use Rattle.frame.specs.Parts.{start_of, start_refusal}
use Rattle.frame.specs.Refusals.{bad_length, bad_kind, bad_beacon, bad_order, bad_sender, bad_entry, bad_entries, frame_refusal, read_refusal}
use Rattle.frame.specs.ReadWrite.{write_refusal, read_of, written}
use Rattle.frame.specs.declared.Entry.{Entry}
use Rattle.frame.specs.declared.Frame.{Frame}
use Rattle.frame.specs.FrameRead.{FrameRead, refused_read}

pub any_more : (test : ℕ → Bool) (n : ℕ) (b x : Bool) → b ≡ any_below test n → x ≡ test n → (b || x) ≡ any_below test (n + 1)
unfolding any_below
any_more test n b x p q = rw add-one (ap₂ ◌||◌ p q)

-- refusal 11 where the entries lie in the bytes
pub entries_in_lem : (bytes : List ℕ) → any_below (λ (i : ℕ). bad_entry (entry_at bytes (8 + 3 * i))) 8 ≡ bad_entries (frame_of bytes)
unfolding any_below bad_entries frame_of
entries_in_lem bytes = refl

-- frames are equal if their stamps, words and entries are, beside fields that are the same
pub same_frame : {kind sender lane serial m n v w : ℕ} {es fs : List Entry} → m ≡ n → v ≡ w → es ≡ fs
    → ◌≡◌ {A = Frame}
    (record { kind = kind; sender = sender; lane = lane; serial = record { 0 = serial }; stamp = record { 0 = m }; word = v; entries = es })
    (record { kind = kind; sender = sender; lane = lane; serial = record { 0 = serial }; stamp = record { 0 = n }; word = w; entries = fs })
same_frame p q e = rw (p, q, e)

-- refusal 6, for bytes to read and for a buffer
pub not_32 : (l : List ℕ) (r : ℕ) → (length l ≡ 32 → ⊥) → cond (bad_length l) 6 r ≡ 6
not_32 l r h = simp (ne_eqb (length l) 32 h)

pub is_32 : (l : List ℕ) (r : ℕ) → length l ≡ 32 → cond (bad_length l) 6 r ≡ r
is_32 l r h = simp (eq-eqb (length l) 32 h)

-- a refusal that comes to 0 has passed its first test
pub passed : (t : Bool) (k r : ℕ) → 0 < k → cond t k r ≡ 0 → (t ≡ false) × (r ≡ 0)
passed true k r h e = absurd (omega arith)
passed false k r h e = (refl, e)

-- what is not refused has 32 bytes, and fields without a refusal
accepted : (l : List ℕ) (r : ℕ) → cond (bad_length l) 6 r ≡ 0 → (length l ≡ 32) × (r ≡ 0)
accepted l r h =
    let p = passed (bad_length l) 6 r (omega arith) h in
    (eqb-true (length l) 32 (not-false _ p.0), p.1)

pub readable : (bytes : List ℕ) → read_refusal bytes ≡ 0 → (length bytes ≡ 32) × (frame_refusal (frame_of bytes) ≡ 0)
unfolding read_refusal
readable bytes h = accepted bytes (frame_refusal (frame_of bytes)) h

pub writable : (buffer : List ℕ) (f : Frame) → write_refusal buffer f ≡ 0 → (length buffer ≡ 32) × (frame_refusal f ≡ 0)
unfolding write_refusal
writable buffer f h = accepted buffer (frame_refusal f) h

-- the ways through `Frame::check` and `check_bytes`
start_first : (a b c d : Bool) (r : ℕ)
    → cond a 7 (cond b 8 (cond c 9 (cond d 10 r)))
    ≡ cond (eqb (cond a 7 (cond b 8 (cond c 9 (cond d 10 0)))) 0) r (cond a 7 (cond b 8 (cond c 9 (cond d 10 0))))
start_first true b c d r = refl
start_first false true c d r = refl
start_first false false true d r = refl
start_first false false false true r = refl
start_first false false false false r = refl

start_then_entries : (f : Frame) (n : ℕ) → n ≡ start_refusal f → frame_refusal f ≡ cond (eqb n 0) (cond (bad_entries f) 11 0) n
unfolding frame_refusal start_refusal
start_then_entries f n e = rw e (start_first (bad_kind f) (bad_beacon f) (bad_order f) (bad_sender f) (cond (bad_entries f) 11 0))

pub start_refused : (f : Frame) (n : ℕ) → n ≡ start_refusal f → (n ≡ 0 → ⊥) → n ≡ frame_refusal f
start_refused f n e h = rw (start_then_entries f n e, ne_eqb n 0 h)

pub entries_judged : (f : Frame) (n m : ℕ) (bad : Bool) → n ≡ start_refusal f → n ≡ 0 → bad ≡ bad_entries f → m ≡ cond bad 11 0 → m ≡ frame_refusal f
entries_judged f n m bad e z b q = rw (start_then_entries f n e, z, ← b) q

pub start_in : (bytes : List ℕ) (stamp word n : ℕ) → stamp ≡ pair_at bytes 4 → word ≡ pair_at bytes 6
    → n ≡ start_refusal (start_of (byte_at bytes 0) (byte_at bytes 1) (byte_at bytes 2) (byte_at bytes 3) stamp word)
    → n ≡ start_refusal (frame_of bytes)
unfolding start_refusal frame_of
start_in bytes stamp word n p q e = rw (p, q) at e

-- refusal 6 first, of bytes to read
pub read_long : (bytes : List ℕ) → (length bytes ≡ 32 → ⊥) → 6 ≡ read_refusal bytes
unfolding read_refusal
read_long bytes h = sym (not_32 bytes (frame_refusal (frame_of bytes)) h)

pub read_judges : (bytes : List ℕ) (n : ℕ) → length bytes ≡ 32 → n ≡ frame_refusal (frame_of bytes) → n ≡ read_refusal bytes
unfolding read_refusal
read_judges bytes n l e = e ∙ sym (is_32 bytes (frame_refusal (frame_of bytes)) l)

-- the ways through `read`
pub read_refused : (bytes : List ℕ) (n : ℕ) (r : FrameRead) → n ≡ read_refusal bytes → (n ≡ 0 → ⊥) → r ≡ refused_read n → r ≡ read_of bytes
unfolding read_of
read_refused bytes n r q h e = rw (← q, ne_eqb n 0 h) e

pub read_accepted : (bytes : List ℕ) (f : Frame) (n : ℕ) → n ≡ read_refusal bytes → n ≡ 0 → f ≡ frame_of bytes
    → ◌≡◌ {A = FrameRead} (record { refusal = 0; frame = f }) (read_of bytes)
unfolding read_of
read_accepted bytes f n q z p = rw (← q, z, p)

-- a reader's number is that of its bytes
pub read_number : (bytes : List ℕ) (r : FrameRead) → r ≡ read_of bytes → r.refusal ≡ read_refusal bytes
unfolding read_of
read_number bytes r e = ap (λ (s : FrameRead). s.refusal) e

-- a buffer of 32 bytes is refused as the frame is
pub write_judges : (buffer : List ℕ) (f : Frame) → length buffer ≡ 32 → write_refusal buffer f ≡ frame_refusal f
unfolding write_refusal
write_judges buffer f l = is_32 buffer (frame_refusal f) l

pub written_good : (buffer : List ℕ) (f : Frame) → write_refusal buffer f ≡ 0 → written buffer f ≡ bytes_of f
unfolding written
written_good buffer f z = rw z

pub written_bad : (buffer : List ℕ) (f : Frame) → (write_refusal buffer f ≡ 0 → ⊥) → written buffer f ≡ buffer
unfolding written
written_bad buffer f h = rw (ne_eqb (write_refusal buffer f) 0 h)

-- the ways through `write`
refused_keeps : (buffer : List ℕ) (f : Frame) (n : ℕ) → n ≡ write_refusal buffer f → (n ≡ 0 → ⊥)
    → (n ≡ write_refusal buffer f) × (buffer ≡ written buffer f)
refused_keeps buffer f n e h = (e, sym (written_bad buffer f (λ z. h (e ∙ z))))

pub write_short : (buffer : List ℕ) (f : Frame) → (length buffer ≡ 32 → ⊥) → (6 ≡ write_refusal buffer f) × (buffer ≡ written buffer f)
unfolding write_refusal
write_short buffer f h = refused_keeps buffer f 6 (sym (not_32 buffer (frame_refusal f) h)) (λ z. omega arith)

pub write_refused : (buffer : List ℕ) (f : Frame) (n : ℕ) → length buffer ≡ 32 → n ≡ frame_refusal f → (n ≡ 0 → ⊥)
    → (n ≡ write_refusal buffer f) × (buffer ≡ written buffer f)
write_refused buffer f n l e h = refused_keeps buffer f n (e ∙ sym (write_judges buffer f l)) h

pub write_accepted : (buffer exit : List ℕ) (f : Frame) (n : ℕ) → length buffer ≡ 32 → n ≡ frame_refusal f → n ≡ 0 → exit ≡ bytes_of f
    → (0 ≡ write_refusal buffer f) × (exit ≡ written buffer f)
write_accepted buffer exit f n l q z p =
    let none : write_refusal buffer f ≡ 0 = write_judges buffer f l ∙ sym q ∙ z in
    (sym none, p ∙ sym (written_good buffer f none))
