-- What the front and the rest of a stream are.
use Rattle.std.proofs.Common.{◌≡◌, ℕ, ◌+◌, ◌-◌, ◌<◌, ◌≤◌, ◌⊎◌, ⊎_elim, List, [], ◌∷◌, ◌++◌, length, take, drop, refl, sym, ap, ap₂, subst, ◌∙◌, arith, append_assoc, append-nil, length-append, length-drop, le_antisymm, Ok, Err}
use Rattle.std.proofs.lemmas.List.{take-append-le, drop-append-le}
use Rattle.flag_defs.specs.Document.{Definitions}
use Rattle.flag_defs.specs.Floats.{Marks, MeansFlags, MeansWithFloats}
use Rattle.flag_defs.proofs.Meanings.{one_meaning_with_floats, same_flags}
use Rattle.sync_frames.specs.Snapshots.{Numbered}
use Rattle.sync_frames.specs.Frames.{frame_of, length_in, number_in, document_in, max_length, IsDocumentOf, Frames, Reads, HoldsFrame, Shows, ShowsLength, ShowsNotRising, ShowsDocument, last_number}
use Rattle.sync_frames.specs.Header.{IsPart}
use Rattle.sync_frames.specs.declared.fault.FrameFault.{FrameFault}
use Rattle.sync_frames.specs.declared.fault.FrameFault.TheVariants.{WantOfMemory, Length, NotRising, Document, Failed}
use Rattle.sync_frames.proofs.Headers.{length_in-append, number_in-append, length-frame, length_in-frame, number_in-frame, document_in-frame, same_frames}

-- no frame that may follow stands first in the rest
abbrev pub NoFrame : ℕ → List ℕ → Type 0
NoFrame last rest = (s : Numbered) (d after : List ℕ) → rest ≡ frame_of s.number d ++ after → last < s.number → IsDocumentOf s d → ⊥

length-framed : (rest : List ℕ) (n : ℕ) (d after : List ℕ) → rest ≡ frame_of n d ++ after → length rest ≡ (12 + length d) + length after
length-framed rest n d after is = ap length is ∙ length-append (frame_of n d) after ∙ ap (λ (k : ℕ). k + length after) (length-frame n d)

said : (rest : List ℕ) (n : ℕ) (d after : List ℕ) → rest ≡ frame_of n d ++ after → 8 + length d ≤ max_length → length_in rest ≡ 8 + length d
said rest n d after is small = ap length_in is ∙ length_in-frame n d after small

pub part-no_frame : (last : ℕ) (rest : List ℕ) → IsPart last rest → NoFrame last rest
part-no_frame last rest p s d after is rises doc =
    let all = length-framed rest s.number d after is in
    let says = said rest s.number d after is doc.small in
    omega (arith, p.short (omega arith))

length-no_frame : (last : ℕ) (rest : List ℕ) → ShowsLength rest → NoFrame last rest
length-no_frame last rest p s d after is rises doc =
    let says = said rest s.number d after is doc.small in
    ⊎_elim (λ (low : length_in rest < 8). omega arith) (λ (high : max_length < length_in rest). omega (arith, doc.small)) p.wrong

stays-no_frame : (last : ℕ) (rest : List ℕ) → ShowsNotRising last rest → NoFrame last rest
stays-no_frame last rest p s d after is rises doc =
    let number : number_in rest ≡ s.number = ap number_in is ∙ number_in-frame s.number d after doc.fits in
    omega (arith, p.stays)

document-no_frame : (last : ℕ) (rest : List ℕ) → ShowsDocument last rest → NoFrame last rest
document-no_frame last rest p s d after is rises doc =
    let document : document_in rest ≡ d = ap document_in is ∙ document_in-frame s.number d after doc.small in
    let refused : MeansWithFloats d (Err p.fault) = subst (λ (l : List ℕ). MeansWithFloats l (Err p.fault)) document p.refused in
    cc (one_meaning_with_floats d (Err p.fault) (Ok s.flags) refused doc.means.0)

pub shows-no_frame : (last : ℕ) (rest : List ℕ) (fault : FrameFault) → Shows last rest fault → NoFrame last rest
shows-no_frame last rest WantOfMemory h = absurd h
shows-no_frame last rest Length h = length-no_frame last rest h
shows-no_frame last rest NotRising h = stays-no_frame last rest h
shows-no_frame last rest Document h = document-no_frame last rest h
shows-no_frame last rest Failed h = absurd h

-- a part of a frame shows nothing
pub part-shows_nothing : (last : ℕ) (rest : List ℕ) → IsPart last rest → (fault : FrameFault) → Shows last rest fault → ⊥
part-shows_nothing last rest p WantOfMemory h = h
part-shows_nothing last rest p Length h = let low = p.low h.there in let high = p.high h.there in ⊎_elim (λ (l : length_in rest < 8). omega arith) (λ (l : max_length < length_in rest). omega arith) h.wrong
part-shows_nothing last rest p NotRising h = omega (arith, p.rises h.there, h.stays)
part-shows_nothing last rest p Document h = let f = h.frame in omega (arith, f.there, f.low, p.short (omega (arith, f.there, f.low)))
part-shows_nothing last rest p Failed h = h

-- ---- one reading

abbrev pub numbered : ℕ → Definitions → Marks → Numbered
numbered n fs ms = record { number = n; flags = fs; floats = ms }

-- one number and one document are one snapshot
pub one_snapshot : (d : List ℕ) (s t : Numbered) → s.number ≡ t.number → MeansFlags d s.flags s.floats → MeansFlags d t.flags t.floats → s ≡ t
one_snapshot d s t number p q =
    let same = same_flags d s.flags t.flags s.floats t.floats p q in
    ap₂ (λ (n : ℕ) (fs : Definitions). numbered n fs s.floats) number same.0 ∙ ap (λ (ms : Marks). numbered t.number t.flags ms) same.1

aligned : (last : ℕ) (ss ts : List Numbered) (b c r q : List ℕ) → Frames last ss b → Frames last ts c → b ++ r ≡ c ++ q → NoFrame (last_number last ss) r → length ts ≤ length ss
aligned last ss [] b c r q f g e none = omega arith
aligned last [] (t ∷ ts) b c r q f g e none =
    let d = g.0 in let rest = g.1 in
    let is : r ≡ frame_of t.number d ++ (rest ++ q) = sym (ap (λ (l : List ℕ). l ++ r) f) ∙ e ∙ ap (λ (l : List ℕ). l ++ q) g.2 ∙ append_assoc (frame_of t.number d) rest q in
    absurd (none t d (rest ++ q) is g.3 g.4)
aligned last (s ∷ ss) (t ∷ ts) b c r q f g e none =
    let same = same_frames s.number t.number f.0 g.0 (f.1 ++ r) (g.1 ++ q) f.4.fits g.4.fits f.4.small g.4.small (sym (append_assoc (frame_of s.number f.0) f.1 r) ∙ sym (ap (λ (l : List ℕ). l ++ r) f.2) ∙ e ∙ ap (λ (l : List ℕ). l ++ q) g.2 ∙ append_assoc (frame_of t.number g.0) g.1 q) in
    let theirs : Frames s.number ts g.1 = subst (λ (n : ℕ). Frames n ts g.1) (sym same.0) g.5 in
    omega (arith, aligned s.number ss ts f.1 g.1 r q f.5 theirs same.2 none)

same_reading : (last : ℕ) (ss ts : List Numbered) (b c r q : List ℕ) → Frames last ss b → Frames last ts c → b ++ r ≡ c ++ q → length ss ≡ length ts → (ss ≡ ts) × (r ≡ q)
same_reading last [] [] b c r q f g e n = (refl, sym (ap (λ (l : List ℕ). l ++ r) f) ∙ e ∙ ap (λ (l : List ℕ). l ++ q) g)
same_reading last [] (t ∷ ts) b c r q f g e n = absurd (omega arith)
same_reading last (s ∷ ss) [] b c r q f g e n = absurd (omega arith)
same_reading last (s ∷ ss) (t ∷ ts) b c r q f g e n =
    let same = same_frames s.number t.number f.0 g.0 (f.1 ++ r) (g.1 ++ q) f.4.fits g.4.fits f.4.small g.4.small (sym (append_assoc (frame_of s.number f.0) f.1 r) ∙ sym (ap (λ (l : List ℕ). l ++ r) f.2) ∙ e ∙ ap (λ (l : List ℕ). l ++ q) g.2 ∙ append_assoc (frame_of t.number g.0) g.1 q) in
    let theirs : Frames s.number ts g.1 = subst (λ (n : ℕ). Frames n ts g.1) (sym same.0) g.5 in
    let means = subst (λ (l : List ℕ). MeansFlags l s.flags s.floats) same.1 f.4.means in
    let one : s ≡ t = one_snapshot g.0 s t same.0 means g.4.means in
    let others = same_reading s.number ss ts f.1 g.1 r q f.5 theirs same.2 (omega arith) in
    (ap₂ (λ (x : Numbered) (xs : List Numbered). x ∷ xs) one others.0, others.1)

-- a stream has one reading
pub reads_once : (x : List ℕ) (ss ts : List Numbered) (r q : List ℕ) → Reads x ss r → Reads x ts q → (ss ≡ ts) × (r ≡ q)
reads_once x ss ts r q a b =
    same_reading 0 ss ts a.front b.front r q a.frames b.frames (sym a.whole ∙ b.whole) (le_antisymm (b.longest ss a.front r a.whole a.frames) (a.longest ts b.front q b.whole b.frames))

pub reads : (x front rest : List ℕ) (ss : List Numbered) → x ≡ front ++ rest → Frames 0 ss front → NoFrame (last_number 0 ss) rest → Reads x ss rest
reads x front rest ss is frames none = record {
  front = front;
  whole = is;
  frames = frames;
  longest = λ ts b r e f. aligned 0 ss ts front b rest r frames f (sym is ∙ e) none;
}

-- ---- reading on

Frames-append : (last : ℕ) (ss ts : List Numbered) (b c : List ℕ) → Frames last ss b → Frames (last_number last ss) ts c → Frames last (ss ++ ts) (b ++ c)
Frames-append last [] ts b c f g = subst (λ (l : List ℕ). Frames last ts l) (sym (ap (λ (l : List ℕ). l ++ c) f)) g
Frames-append last (s ∷ ss) ts b c f g =
    (f.0, f.1 ++ c, ap (λ (l : List ℕ). l ++ c) f.2 ∙ append_assoc (frame_of s.number f.0) f.1 c, f.3, f.4, Frames-append s.number ss ts f.1 c f.5 g)

pub last_number-append : (last : ℕ) (ss ts : List Numbered) → last_number last (ss ++ ts) ≡ last_number (last_number last ss) ts
last_number-append last [] ts = refl
last_number-append last (s ∷ ss) ts = last_number-append s.number ss ts

-- one more frame at the end
pub Frames-snoc : (last : ℕ) (ss : List Numbered) (b : List ℕ) (s : Numbered) (d : List ℕ) → Frames last ss b → last_number last ss < s.number → IsDocumentOf s d → Frames last (ss ++ s ∷ []) (b ++ frame_of s.number d)
Frames-snoc last ss b s d f rises doc = Frames-append last ss (s ∷ []) b (frame_of s.number d) f (d, [], sym (append-nil (frame_of s.number d)), rises, doc, refl)

pub reads_on : (x piece rest front after : List ℕ) (ss ts : List Numbered) → Reads x ss rest → rest ++ piece ≡ front ++ after → Frames (last_number 0 ss) ts front → NoFrame (last_number (last_number 0 ss) ts) after → Reads (x ++ piece) (ss ++ ts) after
reads_on x piece rest front after ss ts a is frames none =
    reads (x ++ piece) (a.front ++ front) after (ss ++ ts)
    (ap (λ (l : List ℕ). l ++ piece) a.whole ∙ append_assoc a.front rest piece ∙ ap (λ (l : List ℕ). a.front ++ l) is ∙ sym (append_assoc a.front front after))
    (Frames-append 0 ss ts a.front front a.frames frames)
    (subst (λ (n : ℕ). NoFrame n after) (sym (last_number-append 0 ss ts)) none)

-- ---- more bytes behind a fault

document_in-append : (a b : List ℕ) → 12 ≤ length a → 4 + length_in a ≤ length a → document_in (a ++ b) ≡ document_in a
document_in-append a b there whole =
    ap (λ (n : ℕ). take (n - 8) (drop 12 (a ++ b))) (length_in-append a b (omega arith)) ∙ ap (take (length_in a - 8)) (drop-append-le 12 a b there) ∙ take-append-le (length_in a - 8) (drop 12 a) b (omega (arith, length-drop 12 a))

pub holds-append : (last : ℕ) (a b : List ℕ) → HoldsFrame last a → HoldsFrame last (a ++ b)
holds-append last a b h =
    let len = length-append a b in
    let says = length_in-append a b (omega (arith, h.there, h.low)) in
    let number = number_in-append a b (omega (arith, h.there, h.low)) in
    record { there = omega (arith, h.there); low = omega (arith, h.low); high = omega (arith, h.high); rises = omega (arith, h.rises) }

pub shows-append : (last : ℕ) (a b : List ℕ) (fault : FrameFault) → Shows last a fault → Shows last (a ++ b) fault
shows-append last a b WantOfMemory h = h
shows-append last a b Length h =
    let says = length_in-append a b h.there in
    record { there = omega (arith, length-append a b, h.there); wrong = subst (λ (n : ℕ). (n < 8) ⊎ (max_length < n)) (sym says) h.wrong }
shows-append last a b NotRising h =
    let len = length-append a b in
    let says = length_in-append a b (omega (arith, h.there)) in
    let number = number_in-append a b h.there in
    record { there = omega (arith, h.there); low = omega (arith, h.low); high = omega (arith, h.high); stays = omega (arith, h.stays) }
shows-append last a b Document h =
    let f = h.frame in
    record { frame = holds-append last a b f; fault = h.fault; refused = subst (λ (l : List ℕ). MeansWithFloats l (Err h.fault)) (sym (document_in-append a b (omega (arith, f.there, f.low)) f.there)) h.refused }
shows-append last a b Failed h = h
