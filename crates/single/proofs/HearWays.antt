-- The ways through `hear`. Assumes nothing.
use mathlib.Core.Path.{◌≡◌, refl, sym, ap, ◌∙◌}
use mathlib.Core.Bool.{Bool, true, false, cond}
use mathlib.Core.List.{List}
use Prim.Native.Nat.{ℕ}
use native.Mathlib.Omega.{arith}
use lib.Dec.{eqb}
use lib.ListN.{length}
use borrow.Author.Tests.{ne_eqb}
use Rattle.std.specs.Prelude.{is_some, Result, Ok, Err, IsErrAnd, Option, Some, None}
use Rattle.refusal.specs.declared.Refusal.{Refusal}
use Rattle.refusal.specs.Numbers.{refusal_number, refused_with}
use Rattle.frame.specs.declared.Frame.{Frame}
use Rattle.frame.specs.FrameRead.{FrameRead, read_answer, refused_read}
use Rattle.frame.specs.Layout.{frame_of, bytes_of, no_frame}
use Rattle.frame.specs.Refusals.{bad_length, read_refusal, frame_refusal}
use Rattle.frame.specs.ReadWrite.{read_of}
use Rattle.frame.specs.Types.{AreBytes}
use Rattle.frame.proofs.Laws.{readable}
use Rattle.refusal.proofs.Refused.{never_0}
use Rattle.air.specs.Air.{frames_with}
use Rattle.air.proofs.Buffers.{buffer_filled, none_kept}
use Rattle.post.specs.declared.Post.{Post}
use Rattle.post.specs.Record.{last_of}
use Rattle.row.specs.Rows.{post_in, known_in}
use Rattle.post_row.specs.Records.{record_in}
use Rattle.judge.specs.Judgement.{bad_record, record_refusal}
use Rattle.steps.specs.declared.RowHeard as row
use Rattle.steps.specs.declared.Hearing as said
use Rattle.steps.specs.Refusals.{is_next, hear_refusal}
use Rattle.steps.specs.HearAnswer.{hear_answer}
use Rattle.steps.specs.Answers.{hear_number}
use Rattle.steps.specs.Values.{hear_count}
use Rattle.steps.specs.Outcomes.{frame_or_none}
use Rattle.steps.specs.Steps.{hear_taken, hear_other, hear_step}
use Rattle.steps.specs.Steps as after
use Rattle.steps.specs.Knowing.{stepped, hears_by}
use Rattle.laws.specs.Records.{Shaped}
use Rattle.laws.proofs.StepLaws.{hear_judged}
use Rattle.single.specs.Judged.{Judged}
use Rattle.single.specs.Outcomes.{heard_answer}
use Rattle.single.specs.Single.{hear_refusal_singly, hear_singly, hear_count_singly, hear_buffer}
use Rattle.single.specs.declared.Heard.{Heard}
use Rattle.single.proofs.Broadcasts.{taken_accepted}
use Rattle.single.proofs.Chains.{length_refusal, refuses, passes, passed_32}
use Rattle.single.proofs.Lasting.{bytes_fit}
use Rattle.single.proofs.Numbers.{hear_tells}
use Rattle.single.proofs.Rows.{stored, hear_runs}

-- what `hear` promises of its result and of the buffer, whatever way it went
pub record Hears (p : Post) (bytes given : List ℕ) (r : Result Heard Refusal) (exit : List ℕ) : Type 0 where
  pub value : heard_answer p r ≡ hear_singly p bytes given
  pub buffer : exit ≡ hear_buffer p bytes given
  pub number : refused_with r ≡ hear_refusal_singly p bytes given
  pub count : hear_count (heard_answer p r).answer ≡ hear_count_singly p bytes given

number_is : (p : Post) (r : Result Heard Refusal) → refused_with r ≡ hear_number (heard_answer p r).answer
number_is p (Ok d) = passed d.hearing
  where
    passed : (h : said.Hearing) → ◌≡◌ {A = ℕ} 0 (hear_number (hear_answer (Ok h)))
    passed (said.TheVariants.Taken n) = refl
    passed (said.TheVariants.Again n) = refl
    passed (said.TheVariants.Early n) = refl
    passed (said.TheVariants.Beacon n) = refl
number_is p (Err e) = refl

hears : (p : Post) (bytes buffer : List ℕ) (r : Result Heard Refusal) (exit : List ℕ) → heard_answer p r ≡ hear_singly p bytes buffer
    → exit ≡ hear_buffer p bytes buffer → Hears p bytes buffer r exit
hears p bytes buffer r exit v b =
    let t = hear_tells p bytes buffer (heard_answer p r) v in
    record { value = v; buffer = b; number = number_is p r ∙ t.0; count = t.1 }

-- a refusal that a `?` hands on
pub hear_refused : (p : Post) (bytes buffer : List ℕ) (r : Result Heard Refusal) (e : Refusal) → IsErrAnd r (λ k. k ≡ e)
    → hear_refusal_singly p bytes buffer ≡ refusal_number e → Hears p bytes buffer r buffer
unfolding hear_singly hear_buffer
hear_refused p bytes buffer (Ok d) e h n = absurd h
hear_refused p bytes buffer (Err k) e h n =
    let q : eqb (refusal_number e) 0 ≡ false = ne_eqb (refusal_number e) 0 (never_0 e) in
    rw h (hears p bytes buffer (Err e) buffer (rw (n, q)) (rw (n, q)))

-- 6 of the buffer
pub hear_short : (p : Post) (bytes buffer : List ℕ) (e : Refusal) → refusal_number e ≡ length_refusal buffer
    → hear_refusal_singly p bytes buffer ≡ refusal_number e
unfolding hear_refusal_singly
hear_short p bytes buffer e h = refuses (bad_length buffer) 6 _ e h

-- 6 to 11 of the frame
pub hear_unread : (p : Post) (bytes buffer : List ℕ) (e : Refusal) → 0 ≡ length_refusal buffer → refused_read (refusal_number e) ≡ read_of bytes
    → hear_refusal_singly p bytes buffer ≡ refusal_number e
unfolding hear_refusal_singly read_of
hear_unread p bytes buffer e l h =
    let n : refusal_number e ≡ read_refusal bytes = ap (λ (g : FrameRead). g.refusal) h in
    passes (bad_length buffer) 6 _ (omega arith) l ∙ rw (← n, ne_eqb (refusal_number e) 0 (never_0 e))

-- the bytes are a frame
pub record Reads (bytes : List ℕ) (f : Frame) : Type 0 where
  pub number : read_refusal bytes ≡ 0
  pub frame : f ≡ frame_of bytes

pub reads : (bytes : List ℕ) (f : Frame) → read_answer (Ok f) ≡ read_of bytes → Reads bytes f
unfolding read_of
reads bytes f h =
    let n : read_refusal bytes ≡ 0 = sym (ap (λ (g : FrameRead). g.refusal) h) in
    record { number = n; frame = ap (λ (g : FrameRead). g.frame) h ∙ rw n }

-- 12 of the record
pub hear_bad : (p : Post) (bytes buffer : List ℕ) (f : Frame) (e : Refusal) → 0 ≡ length_refusal buffer → Reads bytes f → refusal_number e ≡ record_refusal p
    → hear_refusal_singly p bytes buffer ≡ refusal_number e
unfolding hear_refusal_singly
hear_bad p bytes buffer f e l r h = passes (bad_length buffer) 6 _ (omega arith) l ∙ rw r.number (refuses (bad_record p) 12 _ e h)

-- the record is good, and the step decides
pub hear_decides : (p : Post) (bytes buffer l : List ℕ) (f : Frame) (n : ℕ) → 0 ≡ length_refusal buffer → Reads bytes f → Judged p l
    → n ≡ hear_refusal (post_in l) f → hear_refusal_singly p bytes buffer ≡ n
unfolding hear_refusal_singly
hear_decides p bytes buffer l f n h r j e = passes (bad_length buffer) 6 _ (omega arith) h ∙ rw (r.number, j.good) (sym (rw (j.post, r.frame) at e))

-- the step is not refused
pub record Takes (p : Post) (bytes m : List ℕ) (d : row.RowHeard) : Type 0 where
  pub accepted : hear_refusal p (frame_of bytes) ≡ 0
  pub step : ◌≡◌ {A = after.Heard} (record { answer = hear_answer (Ok d.hearing); post = post_in m; frame = frame_or_none d.frame }) (hear_step p (frame_of bytes))
  pub post : Shaped (hear_step p (frame_of bytes)).post × (bad_record (hear_step p (frame_of bytes)).post ≡ false)
  pub read : frame_refusal (frame_of bytes) ≡ 0

pub hear_takes : (p : Post) (bytes l m : List ℕ) (f : Frame) (d : row.RowHeard) → AreBytes bytes → Reads bytes f → Judged p l → 0 ≡ hear_refusal (post_in l) f
    → stepped (hear_answer (Ok d.hearing)) m (frame_or_none d.frame) ≡ hears_by (known_in l) (post_in l) f → Takes p bytes m d
hear_takes p bytes l m f d are r j z e =
    let a : frame_refusal (frame_of bytes) ≡ 0 = (readable bytes r.number).1 in
    record {
      accepted = sym (rw (j.post, r.frame) at z);
      step = hear_runs p (frame_of bytes) l m _ _ j (rw r.frame at e);
      post = hear_judged p (frame_of bytes) a (bytes_fit bytes are) j.shaped j.good;
      read = a;
    }

-- a broadcast is a good frame
pub passed_good : (p : Post) (bytes l m : List ℕ) (f o : Frame) (d : row.RowHeard) → Reads bytes f → Judged p l → Takes p bytes m d
    → is_some d.frame ≡ is_next f (last_of (post_in l) f.lane) → d.frame ≡ Some o → frame_refusal o ≡ 0
unfolding hear_step
passed_good p bytes l m f o d r j s b h =
    let next : is_next (frame_of bytes) (last_of p (frame_of bytes).lane) ≡ true = sym (rw (h, j.post, r.frame) at b) in
    let e : o ≡ (hear_taken p (frame_of bytes)).frame = rw (h, s.accepted, next) at (ap (λ (a : after.Heard). a.frame) s.step) in
    rw e (taken_accepted p (frame_of bytes) s.accepted next s.read)

-- what is written for a broadcast, or for none
pub broadcast : (buffer exit : List ℕ) (o : Option Frame) (f : Frame) → o ≡ Some f → exit ≡ frames_with buffer 0 f → exit ≡ frames_with buffer 0 (frame_or_none o)
broadcast buffer exit o f h e = rw h e

pub no_broadcast : (buffer : List ℕ) (o : Option Frame) → o ≡ None → buffer ≡ frames_with buffer 0 (frame_or_none o)
no_broadcast buffer o h = rw h (sym (none_kept buffer 0 no_frame refl))

-- the broadcast goes into the buffer, and the record that the step leaves is stored
pub hear_done : (p : Post) (bytes buffer l m : List ℕ) (f : Frame) (d : row.RowHeard) (post : Post) (exit : List ℕ) → 0 ≡ length_refusal buffer
    → Reads bytes f → Judged p l → Takes p bytes m d → length m ≡ 543 → exit ≡ frames_with buffer 0 (frame_or_none d.frame) → post ≡ record_in m
    → Hears p bytes buffer (Ok (record { hearing = d.hearing; post = post })) exit
unfolding hear_singly hear_buffer hear_step hear_other hear_taken
hear_done p bytes buffer l m f d post exit h r j s wm ex ep =
    hears p bytes buffer (Ok (record { hearing = d.hearing; post = post })) exit
    (rw (z, q) (ap (λ (o : after.Heard). record { answer = o.answer; post = (hear_step p g).post }) s.step))
    (rw z (go (is_next g (last_of p g.lane)) refl))
  where
    g : Frame
    g = frame_of bytes

    z : hear_refusal_singly p bytes buffer ≡ 0
    z = hear_decides p bytes buffer l f 0 h r j (rw (j.post, r.frame) (sym s.accepted))

    q : post ≡ (hear_step p g).post
    q = stored m (hear_step p g).post post wm (ap (λ (o : after.Heard). o.post) s.step) s.post ep

    there : exit ≡ frames_with buffer 0 (hear_step p g).frame
    there = ex ∙ ap (λ (o : after.Heard). frames_with buffer 0 o.frame) s.step

    go : (t : Bool) → is_next g (last_of p g.lane) ≡ t → exit ≡ cond (is_next g (last_of p g.lane)) (bytes_of (hear_taken p g).frame) buffer
    go true t = rw t (rw (s.accepted, t) at there ∙ buffer_filled buffer (hear_taken p g).frame (passed_32 buffer h) (taken_accepted p g s.accepted t s.read))
    go false t = rw t (rw (s.accepted, t) at there ∙ none_kept buffer 0 no_frame refl)
