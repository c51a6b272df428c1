-- Batches that are recorded one after another.
use denote.Ref.{Bor}
use Rattle.std.proofs.Common.{◌≡◌, ◌≢◌, ◌<◌, ◌≤◌, ◌+◌, ◌-◌, nat_eq, nat_lt, ℕ, Bool, true, false, if◌then◌else◌, List, [], ◌∷◌, ◌++◌, length, take, map, Option, Some, None, IfSome, append-nil, append_assoc, length-append, refl, sym, ap, ◌∙◌, subst, inl, inr, arith}
use Rattle.std.proofs.KnownBytes.{Appends-nil, Appends-trans}
use Rattle.std.proofs.lemmas.Bool.{le-ltb, lt-ltb}
use Rattle.std.proofs.Math.Seq.{take-append-add, take-append_seam}
use Rattle.std.proofs.lemmas.List.{length-map, take-append-le}
use Rattle.std.specs.Io.KnownBytes.{Appends, IsAtEnd}
use Rattle.flag_text.specs.Outlet.{AppendsPart}
use Rattle.byte_streams.proofs.Cutting.{begins, no_line, some_part}
use Rattle.byte_streams.specs.Fill.{Grows}
use Rattle.byte_streams.specs.Lines.{HasNoFeed, IsCut, parts_of}
use Rattle.note_streams.proofs.Folded.{few_lines, joined-assoc, joined-first, joined-last, joined-refused}
use Rattle.note_streams.specs.Outcomes.{Outcomes}
use Rattle.note_streams.specs.Record.{Recorded, Scene, joined, most_line, nothing, of_line, record_of, refused}
use Rattle.note_streams.specs.Batch.{Follows, Fronts, Leaves, Stands, Stops}
use Rattle.note_streams.specs.Recorded.{of_parts, recorded_of}
use Rattle.note_streams.specs.Rest.{is_empty, is_torn}
use Rattle.note_streams.proofs.Behind.{at_end, keeps_cut, some_more}

-- ---- the fold over parts

module _ (s : Scene) where
  next_part : (line : List ℕ) (parts : List (List ℕ)) → parts ≢ [] → of_parts s (line ∷ parts) ≡ joined (of_line s line) (of_parts s parts)
  next_part line [] some = absurd (some refl)
  next_part line (part ∷ parts) some = refl

  parts_more : (lines parts : List (List ℕ)) → parts ≢ [] → of_parts s (lines ++ parts) ≡ joined (record_of s lines) (of_parts s parts)
  parts_more [] parts some = sym (joined-first (of_parts s parts))
  parts_more (line ∷ lines) parts some =
      next_part line (lines ++ parts) (some_more lines parts some)
      ∙ ap (joined (of_line s line)) (parts_more lines parts some)
      ∙ sym (joined-assoc (of_line s line) (record_of s lines) (of_parts s parts))

  -- the lines of a batch, and then what stands behind it
  pub batch_more : (bytes rest : List ℕ) (lines : List (List ℕ)) (more : List ℕ) → IsCut bytes lines rest → recorded_of s (bytes ++ more) ≡ joined (record_of s lines) (recorded_of s (rest ++ more))
  unfolding recorded_of
  batch_more bytes rest lines more cut = ap (of_parts s) (cut more) ∙ parts_more lines (parts_of (rest ++ more)) (some_part (rest ++ more))

  long_line : (line : List ℕ) → most_line < length line → of_line s line ≡ refused
  unfolding of_line
  long_line line long = rw (lt-ltb most_line (length line) long) refl

  long_first : (part : List ℕ) (others : List (List ℕ)) → most_line < length part → of_parts s (part ∷ others) ≡ refused
  unfolding joined
  long_first part [] long = rw (lt-ltb most_line (length part) long) refl
  long_first part (next ∷ others) long = ap (λ (r : Recorded). joined r (of_parts s (next ∷ others))) (long_line part long)

  -- what is too long for a line is refused, whatever follows it
  pub long_rest : (rest more : List ℕ) → HasNoFeed rest → most_line < length rest → recorded_of s (rest ++ more) ≡ refused
  unfolding recorded_of
  long_rest rest more none long =
      let first = begins rest more none in
      ap (of_parts s) first.2 ∙ long_first first.0 first.1 (omega (arith, long, first.3))

  -- what stands behind the last line is passed over
  pub last_rest : (rest : List ℕ) → HasNoFeed rest → length rest ≤ most_line → recorded_of s (rest ++ []) ≡ nothing
  unfolding recorded_of
  last_rest rest none short =
      let is : parts_of (rest ++ []) ≡ rest ∷ [] = ap parts_of (append-nil rest) ∙ no_line rest none in
      ap (of_parts s) is ∙ ap (λ (b : Bool). if b then refused else nothing) (le-ltb most_line (length rest) short)

-- ---- what is recorded of two parts

pub open_text : (one other : Recorded) → one.refused ≡ false → (joined one other).text ≡ one.text ++ other.text
unfolding joined
open_text one other good = rw good refl

pub open_lines : (one other : Recorded) → one.refused ≡ false → (joined one other).lines ≡ one.lines + other.lines
unfolding joined
open_lines one other good = rw good refl

pub open_refused : (one other : Recorded) → one.refused ≡ false → (joined one other).refused ≡ other.refused
unfolding joined
open_refused one other good = rw good refl

begins_parts : (t : List ℕ) (n : ℕ) (b : Bool) (o : Outcomes) (r : Recorded) → (u : List ℕ) × ((joined (record { text = t; lines = n; refused = b; outcomes = o }) r).text ≡ t ++ u)
unfolding joined
begins_parts t n true o r = ([], sym (append-nil t))
begins_parts t n false o r = (r.text, refl)

pub begins_with : (one other : Recorded) → (t : List ℕ) × ((joined one other).text ≡ one.text ++ t)
begins_with one other = begins_parts one.text one.lines one.refused one.outcomes other

-- ---- fronts

front : (old new : Option (List ℕ)) (a c : List ℕ) → Appends old new a → AppendsPart old new (a ++ c)
front old new a c is =
    let low : length a ≤ length (a ++ c) = omega (arith, length-append a c) in
    (length a, low, subst (Appends old new) (sym (take-append_seam a c)) is)

pub fronts : (old mid new : Option (List ℕ)) (a b c : List ℕ) → Appends old mid a → AppendsPart mid new b → AppendsPart old new (a ++ (b ++ c))
fronts old mid new a b c is part =
    let n = part.0 in
    let all : take (length a + n) (a ++ (b ++ c)) ≡ a ++ take n b = take-append-add a (b ++ c) n ∙ ap (λ (t : List ℕ). a ++ t) (take-append-le n b c part.1) in
    let low : length a + n ≤ length (a ++ (b ++ c)) = omega (arith, part.1, length-append a (b ++ c), length-append b c) in
    (length a + n, low, subst (Appends old new) (sym all) (Appends-trans old mid new a (take n b) is part.2))

-- ---- a stream

abbrev pub Known : Scene → List ℕ → ℕ → ℕ → Option (List ℕ) → Option (List ℕ) → Option (List ℕ) → Option (List ℕ) → Type 0
Known s held lines taken start now old new = IfSome start (λ bytes. Stands s bytes held lines taken now old new)

module _ (s : Scene) where
  -- before the first batch
  begun_at : (bytes : List ℕ) (out : Option (List ℕ)) → Stands s bytes [] 0 0 (Some bytes) out out
  begun_at bytes out = record {
    acc = nothing;
    good = refl;
    number = refl;
    text = Appends-nil out;
    follows = (joined-first (recorded_of s bytes), omega arith, refl);
  }

  pub begun : (start out : Option (List ℕ)) → Known s [] 0 0 start start out out
  begun None out = tt
  begun (Some bytes) out = begun_at bytes out

  module _ (bytes : List ℕ) where
    grown_follows : (held after : List ℕ) (taken : ℕ) (acc : Recorded) (now next : Option (List ℕ)) (grows : Grows now next held after) → Follows s bytes held taken acc now → Follows s bytes after (taken + (length after - length held)) acc next
    grown_follows held after taken acc None next grows follows = absurd follows
    grown_follows held after taken acc (Some left) None grows follows = absurd grows.stream
    grown_follows held after taken acc (Some left) (Some more) grows follows =
        let all : after ++ more ≡ held ++ left = ap (λ (t : List ℕ). t ++ more) grows.batch ∙ append_assoc held grows.added more ∙ ap (λ (t : List ℕ). held ++ t) (sym grows.stream) in
        let a : length after ≡ length held + length grows.added = ap length grows.batch ∙ length-append held grows.added in
        let b : length left ≡ length grows.added + length more = ap length grows.stream ∙ length-append grows.added more in
        (ap (λ (t : List ℕ). joined acc (recorded_of s t)) all ∙ follows.0, omega (arith, a, b, follows.1), ap is_torn all ∙ follows.2)

    grown_at : (held after : List ℕ) (lines taken : ℕ) (now next old new : Option (List ℕ)) → Grows now next held after → Stands s bytes held lines taken now old new → Stands s bytes after lines (taken + (length after - length held)) next old new
    grown_at held after lines taken now next old new grows stands = record {
      acc = stands.acc;
      good = stands.good;
      number = stands.number;
      text = stands.text;
      follows = grown_follows held after taken stands.acc now next grows stands.follows;
    }

    left_follows : (held rest : List ℕ) (lines : List (List ℕ)) (taken : ℕ) (acc : Recorded) (now : Option (List ℕ)) → IsCut held lines rest → Follows s bytes held taken acc now → Follows s bytes rest taken (joined acc (record_of s lines)) now
    left_follows held rest lines taken acc None cut follows = absurd follows
    left_follows held rest lines taken acc (Some left) cut follows =
        (joined-assoc acc (record_of s lines) (recorded_of s (rest ++ left)) ∙ ap (joined acc) (sym (batch_more s held rest lines left cut)) ∙ follows.0, follows.1, keeps_cut held rest lines cut left ∙ follows.2)

    left_at : (held rest : List ℕ) (before after taken : ℕ) (now old mid new : Option (List ℕ)) → Leaves s held rest before after mid new → Stands s bytes held before taken now old mid → Stands s bytes rest after taken now old new
    left_at held rest before after taken now old mid new leaves stands =
        let r = record_of s leaves.lines in
        record {
          acc = joined stands.acc r;
          good = open_refused stands.acc r stands.good ∙ leaves.good;
          number = open_lines stands.acc r stands.good ∙ ap (λ (n : ℕ). n + r.lines) stands.number ∙ sym leaves.number;
          text = subst (Appends old new) (sym (open_text stands.acc r stands.good)) (Appends-trans old mid new stands.acc.text r.text stands.text leaves.text);
          follows = left_follows held rest leaves.lines taken stands.acc now leaves.cut stands.follows;
        }

    -- a front of the whole
    front_of : (held : List ℕ) (taken : ℕ) (acc : Recorded) (now old new : Option (List ℕ)) → acc.refused ≡ false → Appends old new acc.text → Follows s bytes held taken acc now → AppendsPart old new (recorded_of s bytes).text
    front_of held taken acc None old new good text follows = absurd follows
    front_of held taken acc (Some left) old new good text follows =
        let r = recorded_of s (held ++ left) in
        let is : (recorded_of s bytes).text ≡ acc.text ++ r.text = ap (λ (x : Recorded). x.text) (sym follows.0) ∙ open_text acc r good in
        subst (AppendsPart old new) (sym is) (front old new acc.text r.text text)

    pub front_at : (held : List ℕ) (lines taken : ℕ) (now old new : Option (List ℕ)) → Stands s bytes held lines taken now old new → AppendsPart old new (recorded_of s bytes).text
    front_at held lines taken now old new stands = front_of held taken stands.acc now old new stands.good stands.text stands.follows

    -- the output failed within a batch
    cut_of : (held : List ℕ) (lines taken : ℕ) (now old mid new : Option (List ℕ)) (fronts_in : Fronts s held mid new) (stands : Stands s bytes held lines taken now old mid) → Follows s bytes held taken stands.acc now → AppendsPart old new (recorded_of s bytes).text
    cut_of held lines taken None old mid new part stands follows = absurd follows
    cut_of held lines taken (Some left) old mid new part stands follows =
        let r = record_of s part.lines in
        let m = recorded_of s (part.rest ++ left) in
        let whole : joined stands.acc (joined r m) ≡ recorded_of s bytes = ap (joined stands.acc) (sym (batch_more s held part.rest part.lines left part.cut)) ∙ follows.0 in
        let text : (recorded_of s bytes).text ≡ stands.acc.text ++ (joined r m).text = ap (λ (x : Recorded). x.text) (sym whole) ∙ open_text stands.acc (joined r m) stands.good in
        let more = begins_with r m in
        let all : (recorded_of s bytes).text ≡ stands.acc.text ++ (r.text ++ more.0) = text ∙ ap (λ (t : List ℕ). stands.acc.text ++ t) more.1 in
        subst (AppendsPart old new) (sym all) (fronts old mid new stands.acc.text r.text more.0 stands.text part.text)

    pub cut_at : (held : List ℕ) (lines taken : ℕ) (now old mid new : Option (List ℕ)) → Fronts s held mid new → Stands s bytes held lines taken now old mid → AppendsPart old new (recorded_of s bytes).text
    cut_at held lines taken now old mid new part stands = cut_of held lines taken now old mid new part stands stands.follows

    -- ---- the end of a stream

    ended_of : (rest : List ℕ) (taken : ℕ) (acc : Recorded) (now : Option (List ℕ)) → HasNoFeed rest → length rest ≤ most_line → IsAtEnd now → Follows s bytes rest taken acc now → acc ≡ recorded_of s bytes
    ended_of rest taken acc None none short end follows = absurd follows
    ended_of rest taken acc (Some left) none short end follows =
        let no_more : recorded_of s (rest ++ left) ≡ nothing = ap (λ (t : List ℕ). recorded_of s (rest ++ t)) end ∙ last_rest s rest none short in
        sym (joined-last acc) ∙ ap (joined acc) (sym no_more) ∙ follows.0

    pub ended_at : (rest : List ℕ) (lines taken : ℕ) (now old new : Option (List ℕ)) → HasNoFeed rest → length rest ≤ most_line → IsAtEnd now → Stands s bytes rest lines taken now old new → ((recorded_of s bytes).refused ≡ false) × Appends old new (recorded_of s bytes).text
    ended_at rest lines taken now old new none short end stands =
        let is = ended_of rest taken stands.acc now none short end stands.follows in
        (ap (λ (r : Recorded). r.refused) (sym is) ∙ stands.good, subst (λ (r : Recorded). Appends old new r.text) is stands.text)

    -- what was passed over there, of so many bytes
    rest_of : (rest : List ℕ) (taken : ℕ) (acc : Recorded) (now : Option (List ℕ)) → HasNoFeed rest → IsAtEnd now → Follows s bytes rest taken acc now → (nat_lt 0 (length rest) ≡ is_torn bytes) × (nat_eq taken 0 ≡ is_empty bytes)
    rest_of rest taken acc None none end follows = absurd follows
    rest_of rest taken acc (Some left) none end follows =
        let no_more = ap length end in
        let all : taken ≡ length bytes = omega (arith, no_more, follows.1) in
        (sym (at_end rest none) ∙ ap (λ (t : List ℕ). is_torn (rest ++ t)) (sym end) ∙ follows.2, ap (λ (n : ℕ). nat_eq n 0) all)

    pub rest_at : (rest : List ℕ) (lines taken : ℕ) (now old new : Option (List ℕ)) → HasNoFeed rest → IsAtEnd now → Stands s bytes rest lines taken now old new → (nat_lt 0 (length rest) ≡ is_torn bytes) × (nat_eq taken 0 ≡ is_empty bytes)
    rest_at rest lines taken now old new none end stands = rest_of rest taken stands.acc now none end stands.follows

    -- ---- a line that is no context

    abbrev IsStopped : ℕ → Option (List ℕ) → Option (List ℕ) → Recorded → Type 0
    IsStopped n old new r = (r.refused ≡ true) × (r.lines ≡ n) × Appends old new r.text

    stopped_with : (acc r whole : Recorded) (before n : ℕ) (old mid new : Option (List ℕ)) → acc.refused ≡ false → acc.lines ≡ before → Appends old mid acc.text → Appends mid new r.text → joined acc r ≡ whole → r.refused ≡ true → n ≡ before + r.lines → IsStopped n old new whole
    stopped_with acc r whole before n old mid new good number text more is bad line =
        subst (IsStopped n old new) is (
          open_refused acc r good ∙ bad,
          open_lines acc r good ∙ ap (λ (k : ℕ). k + r.lines) number ∙ sym line,
          subst (Appends old new) (sym (open_text acc r good)) (Appends-trans old mid new acc.text r.text text more),
        )

    stopped_of : (held : List ℕ) (before n taken : ℕ) (now old mid new : Option (List ℕ)) (stops : Stops s held before n mid new) (stands : Stands s bytes held before taken now old mid) → Follows s bytes held taken stands.acc now → IsStopped n old new (recorded_of s bytes)
    stopped_of held before n taken None old mid new stops stands follows = absurd follows
    stopped_of held before n taken (Some left) old mid new stops stands follows =
        let r = record_of s stops.lines in
        let m = recorded_of s (stops.rest ++ left) in
        let whole : joined stands.acc (joined r m) ≡ recorded_of s bytes = ap (joined stands.acc) (sym (batch_more s held stops.rest stops.lines left stops.cut)) ∙ follows.0 in
        elim stops.why [
          | inl bad ↦ stopped_with stands.acc r (recorded_of s bytes) before n old mid new stands.good stands.number stands.text stops.text
              (ap (joined stands.acc) (sym (joined-refused r m bad.0)) ∙ whole) bad.0 bad.1
          | inr long ↦
              let is : m ≡ refused = long_rest s stops.rest left stops.none long.1 in
              let text : (joined r m).text ≡ r.text = open_text r m long.0 ∙ ap (λ (x : Recorded). r.text ++ x.text) is ∙ append-nil r.text in
              let lines : (joined r m).lines ≡ r.lines + 1 = open_lines r m long.0 ∙ ap (λ (x : Recorded). r.lines + x.lines) is in
              stopped_with stands.acc (joined r m) (recorded_of s bytes) before n old mid new stands.good stands.number stands.text (subst (Appends mid new) (sym text) stops.text)
              whole (open_refused r m long.0 ∙ ap (λ (x : Recorded). x.refused) is) (omega (arith, long.2, lines))
        ]

    pub stopped_at : (held : List ℕ) (before n taken : ℕ) (now old mid new : Option (List ℕ)) → Stops s held before n mid new → Stands s bytes held before taken now old mid → IsStopped n old new (recorded_of s bytes)
    stopped_at held before n taken now old mid new stops stands = stopped_of held before n taken now old mid new stops stands stands.follows

    all_follows : (held : List ℕ) (taken : ℕ) (acc : Recorded) (now : Option (List ℕ)) → Follows s bytes held taken acc now → taken ≤ length bytes
    all_follows held taken acc None follows = absurd follows
    all_follows held taken acc (Some left) follows = omega (arith, follows.1)

    -- no more was taken than there is
    pub all_at : (held : List ℕ) (lines taken : ℕ) (now old new : Option (List ℕ)) → Stands s bytes held lines taken now old new → taken ≤ length bytes
    all_at held lines taken now old new stands = all_follows held taken stands.acc now stands.follows

  -- ---- the same of a stream whose bytes may not be known

  pub grown : (held after : List ℕ) (lines taken : ℕ) (start now next old new : Option (List ℕ)) → Grows now next held after → Known s held lines taken start now old new → Known s after lines (taken + (length after - length held)) start next old new
  grown held after lines taken None now next old new grows stands = tt
  grown held after lines taken (Some bytes) now next old new grows stands = grown_at bytes held after lines taken now next old new grows stands

  pub left_so : (held rest : List ℕ) (before after taken : ℕ) (start now old mid new : Option (List ℕ)) → Leaves s held rest before after mid new → Known s held before taken start now old mid → Known s rest after taken start now old new
  left_so held rest before after taken None now old mid new leaves stands = tt
  left_so held rest before after taken (Some bytes) now old mid new leaves stands = left_at bytes held rest before after taken now old mid new leaves stands

  pub when_known : (P : List ℕ → Type 0) (held : List ℕ) (lines taken : ℕ) (start now old new : Option (List ℕ)) → Known s held lines taken start now old new → ((bytes : List ℕ) → Stands s bytes held lines taken now old new → P bytes) → IfSome start P
  when_known P held lines taken None now old new stands f = tt
  when_known P held lines taken (Some bytes) now old new stands f = f bytes stands

-- lines that were recorded are no more than there are
pub few_recorded : (s : Scene) (lines : List (Bor (List ℕ))) (r : Recorded) → r ≡ record_of s (map (λ line. line.now) lines) → r.lines ≤ length lines
few_recorded s lines r is =
    let few = few_lines s (map (λ (line : Bor (List ℕ)). line.now) lines) in
    let same = length-map lines (λ (line : Bor (List ℕ)). line.now) in
    let one = ap (λ (x : Recorded). x.lines) is in
    omega (arith, few, same, one)
