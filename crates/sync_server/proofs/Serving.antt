-- Frames that were written one after another.
use Rattle.std.proofs.Common.{◌≡◌, ℕ, ◌<◌, List, [], ◌∷◌, ◌++◌, length, Contains, Bool, false, not, ◌||◌, take, drop, Option, Some, None, Ok, Err, ◌+◌, refl, sym, ap, ◌∙◌, subst, arith, ◌≤◌, append_assoc, append-nil, length-append}
use Rattle.std.specs.List.{All}
use Rattle.std.specs.Io.KnownBytes.{Appends}
use Rattle.std.specs.Option.{is_some, is_none}
use Rattle.std.proofs.lemmas.Bool.{true≢false}
use Rattle.std.proofs.lemmas.List.{take-append-drop, length-take-le}
use Rattle.std.proofs.lemmas.List.Elements.{All-weaker, All-nil, All-cons, All-append, Contains-append_left}
use Rattle.sync_frames.specs.Snapshots.{Numbered}
use Rattle.snap_share.specs.Lists.{StartsWith}
use Rattle.sync_frames.specs.Frames.{Frames, IsDocumentOf, frame_of}
use Rattle.sync_frames.proofs.Streams.{Frames-snoc}
use Rattle.sync_server.specs.End.{is_closed_end, is_limit_end}
use Rattle.sync_server.specs.Served.{BeginsFrameOf, Ended, Sent, TurnedTo, Wrote}
use Rattle.sync_server.specs.Turns.{Turned, latest, newer}
use Rattle.sync_server.proofs.Turned.{last_newer, latest_more, latest_same, newer_more, newer_same}
use Rattle.sync_server.specs.declared.end.StreamEnd.{StreamEnd}
use Rattle.sync_server.specs.declared.end.StreamEnd.TheVariants.{Closed, Limit, WriteFault, ReadSeatFault, WantOfMemory}

pub nothing : (before : Option (List ℕ)) → Appends before before []
nothing None = tt
nothing (Some xs) = sym (append-nil xs)

-- one write after another
pub appends_both : (before mid after : Option (List ℕ)) (xs ys : List ℕ) → Appends before mid xs → Appends mid after ys → Appends before after (xs ++ ys)
appends_both None mid after xs ys h next = tt
appends_both (Some b) None after xs ys h next = absurd h
appends_both (Some b) (Some m) None xs ys h next = absurd next
appends_both (Some b) (Some m) (Some a) xs ys h next = next ∙ ap (λ l. l ++ ys) h ∙ append_assoc b xs ys

pub appends_none : (before mid after : Option (List ℕ)) (xs : List ℕ) → Appends before mid xs → Appends mid after [] → Appends before after xs
appends_none before mid after xs h next = subst (Appends before after) (append-nil xs) (appends_both before mid after xs [] h next)

pub sent_none : (known : List Numbered) (before : Option (List ℕ)) → Sent known before before [] 0 0
sent_none known before = record { out = []; written = nothing before; counted = refl; all_known = All-nil (Contains known); frames = refl; number = refl }

-- what was known is still known
pub still_known : (known more : List Numbered) (before now : Option (List ℕ)) (read : List Numbered) (last count : ℕ) → StartsWith more known → Sent known before now read last count → Sent more before now read last count
still_known known more before now read last count grows sent = record {
  out = sent.out;
  written = sent.written;
  counted = sent.counted;
  all_known = All-weaker (Contains known) (Contains more) (λ s h. subst (λ (l : List Numbered). Contains l s) (sym grows.1) (Contains-append_left known grows.0 s h)) read sent.all_known;
  frames = sent.frames;
  number = sent.number;
}

-- one more that was read is known
known_more : (known read : List Numbered) (s : Numbered) → All (Contains known) read → Contains known s → All (Contains known) (read ++ s ∷ [])
known_more known read s all here = All-append (Contains known) read (s ∷ []) all (All-cons (Contains known) s [] here (All-nil (Contains known)))

-- a turn that wrote nothing
pub sent_same : (known : List Numbered) (before now after : Option (List ℕ)) (read : List Numbered) (last count : ℕ) (s : Numbered) → Sent known before now read last count → Contains known s → s.number ≤ last → Appends now after []
    → Sent known before after (read ++ s ∷ []) last count
sent_same known before now after read last count s sent here low h =
    let under : s.number ≤ latest 0 read = subst (λ (k : ℕ). s.number ≤ k) sent.number low in
    let same : newer 0 (read ++ s ∷ []) ≡ newer 0 read = newer_same 0 read s under in record {
      out = sent.out;
      written = appends_none before now after sent.out sent.written h;
      counted = ap length same ∙ sent.counted;
      all_known = known_more known read s sent.all_known here;
      frames = subst (λ (l : List Numbered). Frames 0 l sent.out) (sym same) sent.frames;
      number = sent.number ∙ sym (latest_same 0 read s under);
    }

-- a turn that wrote a frame
pub sent_more : (known : List Numbered) (before now after : Option (List ℕ)) (read : List Numbered) (last count n : ℕ) (s : Numbered) (text : List ℕ) → Sent known before now read last count → IsDocumentOf s text → Contains known s → last < s.number → n ≡ s.number
    → Appends now after (frame_of s.number text) → Sent known before after (read ++ s ∷ []) n (count + 1)
sent_more known before now after read last count n s text sent doc here rises is h =
    let above : latest 0 read < s.number = subst (λ (k : ℕ). k < s.number) sent.number rises in
    let more : newer 0 (read ++ s ∷ []) ≡ newer 0 read ++ s ∷ [] = newer_more 0 read s above in
    let all = Frames-snoc 0 (newer 0 read) sent.out s text sent.frames (subst (λ (k : ℕ). k < s.number) (sym (last_newer 0 read)) above) doc in record {
      out = sent.out ++ frame_of s.number text;
      written = appends_both before now after sent.out (frame_of s.number text) sent.written h;
      counted = omega (arith, ap length more, length-append (newer 0 read) (s ∷ []), sent.counted);
      all_known = known_more known read s sent.all_known here;
      frames = subst (λ (l : List Numbered). Frames 0 l (sent.out ++ frame_of s.number text)) (sym more) all;
      number = is ∙ sym (latest_more 0 read s above);
    }

-- ---- the end

closed : (known : List Numbered) (before now : Option (List ℕ)) (read : List Numbered) (last count : ℕ) → Sent known before now read last count → Ended known before now read count Closed None
closed known before now read last count sent = (sent.out, sent.written, sent.counted, sent.all_known, (refl, sent.frames))

-- no more numbers, or no more turns
pub serves_closed : (known : List Numbered) (before now : Option (List ℕ)) (read : List Numbered) (last count : ℕ) → Sent known before now read last count → Ended known before now read count Closed None × Ended known before now read count Limit None
serves_closed known before now read last count sent = (closed known before now read last count sent, (sent.out, sent.written, sent.counted, sent.all_known, (refl, sent.frames)))

-- a turn that wrote nothing at all
silent : (known : List Numbered) (before now after : Option (List ℕ)) (read : List Numbered) (last count : ℕ) → Sent known before now read last count → Appends now after [] → Sent known before after read last count
silent known before now after read last count sent h = record {
  out = sent.out;
  written = appends_none before now after sent.out sent.written h;
  counted = sent.counted;
  all_known = sent.all_known;
  frames = sent.frames;
  number = sent.number;
}

-- the last number, and how many frames, behind a turn that went on
abbrev pub number_or : Option ℕ → ℕ → ℕ
number_or None last = last
number_or (Some n) last = n

abbrev pub count_with : Option ℕ → ℕ → ℕ
count_with None count = count
count_with (Some n) count = count + 1

module _ {C : Type 0} (was_read : C → Option Numbered → C → Type 0) (c d : C) (known : List Numbered) where
  -- A turn that went on.
  pub goes_on : (old : List Numbered) (now after : Option (List ℕ)) (last count : ℕ) (wrote : Option ℕ) → StartsWith known old → Wrote was_read c d known last now after (Ok wrote)
      → (s : Numbered) × was_read c (Some s) d
      × ((before : Option (List ℕ)) (read : List Numbered) → Sent old before now read last count → Sent known before after (read ++ s ∷ []) (number_or wrote last) (count_with wrote count))
  goes_on old now after last count None grows (s, was, here, low, h) =
      (s, was, λ before read sent. sent_same known before now after read last count s (still_known old known before now read last count grows sent) here low h)
  goes_on old now after last count (Some n) grows (s, was, text, doc, here, rises, is, h) =
      (s, was, λ before read sent. sent_more known before now after read last count n s text (still_known old known before now read last count grows sent) doc here rises is h)

  -- A turn that ended the stream.
  pub serves_to : (old : List Numbered) (now after : Option (List ℕ)) (last count : ℕ) (end : StreamEnd) → StartsWith known old → Wrote was_read c d known last now after (Err end)
      → (more : Option Numbered) × was_read c more d × ((before : Option (List ℕ)) (read : List Numbered) → Sent old before now read last count → Ended known before after read count end more)
  serves_to old now after last count Closed grows (was, h) =
      (None, was, λ before read sent. closed known before after read last count (silent known before now after read last count (still_known old known before now read last count grows sent) h))
  serves_to old now after last count Limit grows (was, h) =
      (None, was, λ before read sent. let e = silent known before now after read last count (still_known old known before now read last count grows sent) h in (e.out, e.written, e.counted, e.all_known, (refl, e.frames)))
  serves_to old now after last count ReadSeatFault grows (was, h) =
      (None, was, λ before read sent. let e = silent known before now after read last count (still_known old known before now read last count grows sent) h in (e.out, e.written, e.counted, e.all_known, (refl, e.frames)))
  serves_to old now after last count WantOfMemory grows (was, h) =
      (None, was, λ before read sent. let e = silent known before now after read last count (still_known old known before now read last count grows sent) h in (e.out, e.written, e.counted, e.all_known, (refl, e.frames)))
  serves_to old now after last count WriteFault grows (s, was, part, here, rises, begins, h) = (
    Some s,
    was,
    λ before read sent.
        let now_known = still_known old known before now read last count grows sent in (
          now_known.out ++ part,
          appends_both before now after now_known.out part now_known.written h,
          now_known.counted,
          now_known.all_known,
          (now_known.out, part, refl, now_known.frames, here, subst (λ (k : ℕ). k < s.number) (now_known.number ∙ sym (last_newer 0 read)) rises, begins),
        ),
  )

-- a turn that ended the stream had asked for a number, within the limit, and then read
module _ {X C : Type 0} (asked : X → ℕ → X → Type 0) (was_read : C → Option Numbered → C → Type 0) (x y z : X) (c d e : C) (read : List Numbered) (last limit : ℕ) where
  pub turned_closed : last ≡ latest 0 read → Turned asked was_read 0 x c read y d → asked y last z → length read < limit → TurnedTo asked was_read x c read z d limit Closed None
  turned_closed number h next few = (y, h, subst (λ (n : ℕ). asked y n z) number next, few)

  pub turned_to : (end : StreamEnd) (more : Option Numbered) → is_limit_end end ≡ false → is_closed_end end ≡ false → last ≡ latest 0 read → Turned asked was_read 0 x c read y d → asked y last z → was_read d more e → length read < limit
      → TurnedTo asked was_read x c read z e limit end more
  turned_to Limit more other more_to_come number h next this few = absurd (true≢false other)
  turned_to Closed more other more_to_come number h next this few = absurd (true≢false more_to_come)
  turned_to WriteFault more other more_to_come number h next this few = (y, d, h, subst (λ (n : ℕ). asked y n z) number next, this, few)
  turned_to ReadSeatFault more other more_to_come number h next this few = (y, d, h, subst (λ (n : ℕ). asked y n z) number next, this, few)
  turned_to WantOfMemory more other more_to_come number h next this few = (y, d, h, subst (λ (n : ℕ). asked y n z) number next, this, few)

-- ---- one turn

-- there is a number, so the numbers are not closed
pub still_open : (o : Option ℕ) (old now r : Bool) → is_some o ≡ not r → r ≡ false → old ≡ false → now ≡ (old || is_none o) → now ≡ false
still_open (Some n) old now r s e o h = h ∙ ap (λ (b : Bool). b || false) o
still_open None old now r s e o h = absurd (true≢false (sym (s ∙ ap not e)))

less : (n m : ℕ) → n < m → n ≤ m
less n m h = omega (arith, h)

pub begins : (s : Numbered) (d bytes : List ℕ) (n : ℕ) → IsDocumentOf s d → bytes ≡ frame_of s.number d → n < length bytes → BeginsFrameOf s (take n bytes)
begins s d bytes n doc is part = (
  d,
  drop n bytes,
  doc,
  sym is ∙ sym (take-append-drop n bytes),
  subst (λ (l : List ℕ). length (take n bytes) < length l) is (subst (λ (k : ℕ). k < length bytes) (sym (length-take-le n bytes (less n (length bytes) part))) part),
)
