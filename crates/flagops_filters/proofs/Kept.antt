-- The first bytes of an input are kept.
use Rattle.std.proofs.Common.{◌≡◌, ◌∙◌, ◌+◌, ◌-◌, ◌≤◌, ◌++◌, ℕ, List, [], Option, Some, None, ap, arith, length, min, sym, take}
use Rattle.std.proofs.Math.Seq.{take-append-add}
use Rattle.std.proofs.lemmas.List.{append-nil, length-take, length-take-le, take_all, take_min}
use Rattle.std.proofs.lemmas.Slice.{take-put_mid}
use Rattle.std.specs.Io.KnownBytes.{Consumes, Keeps}
use Rattle.flagops_filters.specs.Opening.{most_kept}
use borrow.Rule.Slice.PartMut.{put_mid}

-- as many of more bytes as there is room for are put behind those that were kept
pub more_kept : (count n : ℕ) (bytes more put : List ℕ) → length bytes ≡ most_kept → count ≤ most_kept → n ≡ min (most_kept - count) (length more) → put ≡ take n more
    → take (count + n) (put_mid count (count + n - count) bytes put) ≡ take most_kept (take count bytes ++ more)
more_kept count n bytes more put room fits is same =
    let long : length put ≡ n = omega (arith, ap length same, length-take n more, is) in
    let first : length (take count bytes) ≡ count = length-take-le count bytes (omega (arith, room, fits)) in
    let all : most_kept ≡ length (take count bytes) + (most_kept - count) = omega (arith, first, fits) in
    let rest : put ≡ take (most_kept - count) more = same ∙ ap (λ (k : ℕ). take k more) is ∙ take_min (most_kept - count) more in
    take-put_mid count (count + n - count) bytes put (count + n) (omega (arith, long)) (omega (arith, room, fits))
    ∙ ap (λ (bs : List ℕ). take count bytes ++ bs) rest
    ∙ sym (ap (λ (k : ℕ). take k (take count bytes ++ more)) all ∙ take-append-add (take count bytes) more (most_kept - count))

-- no more bytes change nothing
pub same_kept : (count : ℕ) (bytes : List ℕ) → count ≤ most_kept → take count bytes ≡ take most_kept (take count bytes ++ [])
same_kept count bytes fits =
    sym (ap (λ (bs : List ℕ). take most_kept bs) (append-nil (take count bytes)) ∙ take_all most_kept (take count bytes) (omega (arith, fits, length-take count bytes)))

-- a read that failed took none
pub none_taken : (old new : Option (List ℕ)) → Keeps old new → Consumes old new []
none_taken None new keeps = tt
none_taken (Some xs) None keeps = keeps
none_taken (Some xs) (Some ys) keeps = sym keeps
