-- Whole frames.
use Rattle.std.proofs.Common.{◌≡◌, ℕ, zero, suc, ◌+◌, ◌-◌, ◌<◌, ◌≤◌, List, [], ◌∷◌, ◌++◌, length, take, drop, get_or, sym, ap, subst, ◌∙◌, arith, append_assoc, append-nil, length-append, Err}
use Rattle.std.proofs.Math.Seq.{take-append-add, drop-append-add}
use Rattle.std.proofs.lemmas.List.{drop-take}
use Rattle.flag_defs.specs.Floats.{MeansFlags, MeansWithFloats}
use Rattle.flag_defs.specs.declared.fault.DefFault.{DefFault}
use Rattle.sync_frames.specs.Snapshots.{Numbered}
use Rattle.sync_frames.specs.Frames.{frame_of, length_in, number_in, document_in, ShowsDocument}
use Rattle.sync_frames.specs.Header.{IsHeader}
use Rattle.sync_frames.specs.Received.{HasRead, IsFirst}
use Rattle.sync_frames.specs.declared.header.Header.{Header}
use Rattle.sync_frames.proofs.Headers.{frame_first, length-document_in, length-frame, number_in-fits, behind_header}
use Rattle.sync_frames.proofs.Streams.{Frames-snoc, last_number-append}

-- what stands in a whole frame behind the first 12 bytes
pub whole_document : (last : ℕ) (x : List ℕ) (h : Header) → IsHeader last x h → drop 12 (take h.end x) ≡ document_in x
whole_document last x h is =
    let end : h.end ≡ 12 + (length_in x - 8) = omega (arith, is.end, is.frame.low) in
    ap (λ (n : ℕ). drop 12 (take n x)) end ∙ drop-take 12 (length_in x - 8) x

pub first : (last : ℕ) (x : List ℕ) (h : Header) (s : Numbered) → IsHeader last x h → ((i : ℕ) → get_or x i 0 < 256) → s.number ≡ h.number → MeansFlags (document_in x) s.flags s.floats → IsFirst last s x (drop h.end x)
first last x h s is bytes number means =
    let same : number_in x ≡ s.number = sym (number ∙ is.number) in
    let split = frame_first x is.frame.low is.frame.there bytes in
    record {
      document = document_in x;
      whole = split ∙ ap (λ (n : ℕ). frame_of n (document_in x) ++ drop (4 + length_in x) x) same ∙ ap (λ (n : ℕ). frame_of s.number (document_in x) ++ drop n x) (sym is.end);
      rises = omega (arith, is.frame.rises);
      is_document = record { fits = omega (arith, number_in-fits x bytes); small = omega (arith, length-document_in x is.frame.low is.frame.there, is.frame.high); means = means };
    }

pub refused : (last : ℕ) (x : List ℕ) (h : Header) (fault : DefFault) → IsHeader last x h → MeansWithFloats (document_in x) (Err fault) → ShowsDocument last x
refused last x h fault is means = record { frame = is.frame; fault = fault; refused = means }

pub header-nil : (last : ℕ) (x : List ℕ) (h : Header) → IsHeader last (x ++ []) h → IsHeader last x h
header-nil last x h is = subst (λ (l : List ℕ). IsHeader last l h) (append-nil x) is

-- less is left behind a frame
pub shorter : (last : ℕ) (s : Numbered) (bytes after : List ℕ) → IsFirst last s bytes after → length after < length bytes
shorter last s bytes after f = omega (arith, ap length f.whole, length-append (frame_of s.number f.document) after, length-frame s.number f.document)

-- one snapshot more was read
pub read_more : (first : Numbered) (bytes rest after : List ℕ) (snapshots : List Numbered) (last : ℕ) (s : Numbered) → HasRead first bytes rest snapshots last → IsFirst last s rest after → HasRead first bytes after (snapshots ++ s ∷ []) s.number
read_more first bytes rest after snapshots last s h f =
    let rises = f.rises in
    record {
      others = h.others ++ s ∷ [];
      front = h.front ++ frame_of s.number f.document;
      whole = h.whole ∙ ap (λ (l : List ℕ). h.front ++ l) f.whole ∙ sym (append_assoc h.front (frame_of s.number f.document) after);
      all = ap (λ (l : List Numbered). l ++ s ∷ []) h.all;
      frames = Frames-snoc first.number h.others h.front s f.document h.frames (omega (arith, h.number)) f.is_document;
      number = sym (last_number-append first.number h.others (s ∷ []));
    }

-- ---- as they are read

-- the bytes of `&frame[12..]`, where the frame was split off
pub document_read : (last : ℕ) (x front : List ℕ) (h : Header) → IsHeader last x h → front ≡ take h.end x → take (length front - 12) (drop 12 front) ≡ document_in x
document_read last x front h is split = behind_header front ∙ ap (drop 12) split ∙ whole_document last x h is

-- ---- two lists, joined

pub take_past : (xs ys : List ℕ) (n : ℕ) → length xs ≤ n → take n (xs ++ ys) ≡ xs ++ take (n - length xs) ys
take_past xs ys n h = ap (λ (m : ℕ). take m (xs ++ ys)) (let e : n ≡ length xs + (n - length xs) = omega arith in e) ∙ take-append-add xs ys (n - length xs)

pub drop_past : (xs ys : List ℕ) (n : ℕ) → length xs ≤ n → drop n (xs ++ ys) ≡ drop (n - length xs) ys
drop_past xs ys n h = ap (λ (m : ℕ). drop m (xs ++ ys)) (let e : n ≡ length xs + (n - length xs) = omega arith in e) ∙ drop-append-add xs ys (n - length xs)

pub small-append : (xs ys : List ℕ) → ((i : ℕ) → get_or xs i 0 < 256) → ((i : ℕ) → get_or ys i 0 < 256) → (i : ℕ) → get_or (xs ++ ys) i 0 < 256
small-append [] ys h k i = k i
small-append (x ∷ xs) ys h k zero = h 0
small-append (x ∷ xs) ys h k (suc i) = small-append xs ys (λ j. h (suc j)) k i

pub small-front : (xs ys : List ℕ) → ((i : ℕ) → get_or (xs ++ ys) i 0 < 256) → (i : ℕ) → get_or xs i 0 < 256
small-front [] ys h i = omega arith
small-front (x ∷ xs) ys h zero = h 0
small-front (x ∷ xs) ys h (suc i) = small-front xs ys (λ j. h (suc j)) i
