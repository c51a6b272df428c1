-- What stands in the 12 bytes before a document.
use Rattle.std.proofs.Common.{◌≡◌, ℕ, zero, suc, ◌+◌, ◌-◌, ◌<◌, ◌≤◌, ◌^◌, List, [], ◌∷◌, ◌++◌, length, take, drop, get_or, refl, sym, ap, ◌∙◌, arith, append_assoc, length-append, length-drop}
use Rattle.std.proofs.lemmas.List.{take-append-le, drop-append-le, take_at, drop_at, take-append-drop, drop-drop, get_or-drop, length-take-le, take_all}
use Rattle.std.proofs.lemmas.Nat.{from_be_bytes-to_be_bytes_4, from_be_bytes-to_be_bytes_8, be_bytes_4, be_bytes_8}
use Rattle.std.specs.Int.{w32, w64, to_be_bytes, from_be_bytes}
use Rattle.sync_frames.specs.Frames.{frame_of, length_in, number_in, document_in, max_length}

pub length_in-append : (a b : List ℕ) → 4 ≤ length a → length_in (a ++ b) ≡ length_in a
unfolding length_in
length_in-append a b h = ap (from_be_bytes w32) (take-append-le 4 a b h)

pub number_in-append : (a b : List ℕ) → 12 ≤ length a → number_in (a ++ b) ≡ number_in a
unfolding number_in
number_in-append a b h =
    ap (from_be_bytes w64) (ap (take 8) (drop-append-le 4 a b (omega arith)) ∙ take-append-le 8 (drop 4 a) b (omega (arith, length-drop 4 a)))

-- the first 4 bytes, one by one
pub length_in-bytes : (x : List ℕ) → 4 ≤ length x → from_be_bytes w32 (get_or x 0 0 ∷ get_or x 1 0 ∷ get_or x 2 0 ∷ get_or x 3 0 ∷ []) ≡ length_in x
unfolding length_in
length_in-bytes [] h = absurd (omega arith)
length_in-bytes (a ∷ []) h = absurd (omega arith)
length_in-bytes (a ∷ b ∷ []) h = absurd (omega arith)
length_in-bytes (a ∷ b ∷ c ∷ []) h = absurd (omega arith)
length_in-bytes (a ∷ b ∷ c ∷ d ∷ x) h = refl

eight : (x : List ℕ) → 8 ≤ length x → get_or x 0 0 ∷ get_or x 1 0 ∷ get_or x 2 0 ∷ get_or x 3 0 ∷ get_or x 4 0 ∷ get_or x 5 0 ∷ get_or x 6 0 ∷ get_or x 7 0 ∷ [] ≡ take 8 x
eight [] h = absurd (omega arith)
eight (a ∷ []) h = absurd (omega arith)
eight (a ∷ b ∷ []) h = absurd (omega arith)
eight (a ∷ b ∷ c ∷ []) h = absurd (omega arith)
eight (a ∷ b ∷ c ∷ d ∷ []) h = absurd (omega arith)
eight (a ∷ b ∷ c ∷ d ∷ e ∷ []) h = absurd (omega arith)
eight (a ∷ b ∷ c ∷ d ∷ e ∷ f ∷ []) h = absurd (omega arith)
eight (a ∷ b ∷ c ∷ d ∷ e ∷ f ∷ g ∷ []) h = absurd (omega arith)
eight (a ∷ b ∷ c ∷ d ∷ e ∷ f ∷ g ∷ i ∷ x) h = refl

pub number_in-bytes : (x : List ℕ) → 12 ≤ length x
    → from_be_bytes w64 (get_or x 4 0 ∷ get_or x 5 0 ∷ get_or x 6 0 ∷ get_or x 7 0 ∷ get_or x 8 0 ∷ get_or x 9 0 ∷ get_or x 10 0 ∷ get_or x 11 0 ∷ []) ≡ number_in x
unfolding number_in
number_in-bytes [] h = absurd (omega arith)
number_in-bytes (a ∷ []) h = absurd (omega arith)
number_in-bytes (a ∷ b ∷ []) h = absurd (omega arith)
number_in-bytes (a ∷ b ∷ c ∷ []) h = absurd (omega arith)
number_in-bytes (a ∷ b ∷ c ∷ d ∷ x) h = ap (from_be_bytes w64) (eight x (omega arith))

length_4 : (n : ℕ) → length (to_be_bytes w32 n) ≡ 4
length_4 n = refl

length_8 : (n : ℕ) → length (to_be_bytes w64 n) ≡ 8
length_8 n = refl

pub length-frame : (n : ℕ) (d : List ℕ) → length (frame_of n d) ≡ 12 + length d
unfolding frame_of
length-frame n d = length-append (to_be_bytes w32 (8 + length d)) (to_be_bytes w64 n ++ d) ∙ omega (arith, length-append (to_be_bytes w64 n) d, length_4 (8 + length d), length_8 n)

pub length_in-frame : (n : ℕ) (d tail : List ℕ) → 8 + length d ≤ max_length → length_in (frame_of n d ++ tail) ≡ 8 + length d
unfolding length_in frame_of
length_in-frame n d tail small =
    ap (from_be_bytes w32) (ap (take 4) (append_assoc (to_be_bytes w32 (8 + length d)) (to_be_bytes w64 n ++ d) tail) ∙ take_at (to_be_bytes w32 (8 + length d)) ((to_be_bytes w64 n ++ d) ++ tail) 4 (length_4 (8 + length d)))
    ∙ from_be_bytes-to_be_bytes_4 (8 + length d) (omega arith)

behind_4 : (n : ℕ) (d tail : List ℕ) → drop 4 (frame_of n d ++ tail) ≡ to_be_bytes w64 n ++ (d ++ tail)
unfolding frame_of
behind_4 n d tail =
    ap (drop 4) (append_assoc (to_be_bytes w32 (8 + length d)) (to_be_bytes w64 n ++ d) tail) ∙ drop_at (to_be_bytes w32 (8 + length d)) ((to_be_bytes w64 n ++ d) ++ tail) 4 (length_4 (8 + length d))
    ∙ append_assoc (to_be_bytes w64 n) d tail

pub number_in-frame : (n : ℕ) (d tail : List ℕ) → n < 2 ^ 64 → number_in (frame_of n d ++ tail) ≡ n
unfolding number_in
number_in-frame n d tail fits =
    ap (from_be_bytes w64) (ap (take 8) (behind_4 n d tail) ∙ take_at (to_be_bytes w64 n) (d ++ tail) 8 (length_8 n)) ∙ from_be_bytes-to_be_bytes_8 n fits

behind_12 : (n : ℕ) (d tail : List ℕ) → drop 12 (frame_of n d ++ tail) ≡ d ++ tail
behind_12 n d tail = sym (drop-drop 8 4 (frame_of n d ++ tail)) ∙ ap (drop 8) (behind_4 n d tail) ∙ drop_at (to_be_bytes w64 n) (d ++ tail) 8 (length_8 n)

pub document_in-frame : (n : ℕ) (d tail : List ℕ) → 8 + length d ≤ max_length → document_in (frame_of n d ++ tail) ≡ d
document_in-frame n d tail small =
    ap (λ k. take k (drop 12 (frame_of n d ++ tail))) (let e : length_in (frame_of n d ++ tail) - 8 ≡ length d = omega (arith, length_in-frame n d tail small) in e)
    ∙ ap (take (length d)) (behind_12 n d tail) ∙ take_at d tail (length d) refl

pub behind-frame : (n : ℕ) (d tail : List ℕ) → drop (12 + length d) (frame_of n d ++ tail) ≡ tail
behind-frame n d tail = drop_at (frame_of n d) tail (12 + length d) (length-frame n d)

-- frames that two lists begin with are one frame
pub same_frames : (n m : ℕ) (d e p q : List ℕ) → n < 2 ^ 64 → m < 2 ^ 64 → 8 + length d ≤ max_length → 8 + length e ≤ max_length
    → frame_of n d ++ p ≡ frame_of m e ++ q → (n ≡ m) × (d ≡ e) × (p ≡ q)
same_frames n m d e p q n-fits m-fits d-small e-small same =
    let number = sym (number_in-frame n d p n-fits) ∙ ap number_in same ∙ number_in-frame m e q m-fits in
    let document = sym (document_in-frame n d p d-small) ∙ ap document_in same ∙ document_in-frame m e q e-small in
    (number, document, sym (behind-frame n d p) ∙ ap (λ (k : ℕ). drop k (frame_of n d ++ p)) (ap (λ (l : List ℕ). 12 + length l) document) ∙ ap (drop (12 + length e)) same ∙ behind-frame m e q)

taken : (k : ℕ) (x : List ℕ) (i : ℕ) → ((i : ℕ) → get_or x i 0 < 256) → get_or (take k x) i 0 < 256
taken zero x i h = omega arith
taken (suc k) [] i h = omega arith
taken (suc k) (a ∷ x) zero h = h 0
taken (suc k) (a ∷ x) (suc i) h = taken k x i (λ j. h (suc j))

dropped : (k : ℕ) (x : List ℕ) (i : ℕ) → ((i : ℕ) → get_or x i 0 < 256) → get_or (drop k x) i 0 < 256
dropped k x i h = let e = get_or-drop k x i 0 in omega (arith, h (k + i))

first_4 : (x : List ℕ) (n : ℕ) → 4 ≤ length x → ((i : ℕ) → get_or x i 0 < 256) → n ≡ length_in x → to_be_bytes w32 n ≡ take 4 x
unfolding length_in
first_4 x n there bytes is = be_bytes_4 (take 4 x) n (length-take-le 4 x there) (λ i. taken 4 x i bytes) is

next_8 : (x : List ℕ) (n : ℕ) → 12 ≤ length x → ((i : ℕ) → get_or x i 0 < 256) → n ≡ number_in x → to_be_bytes w64 n ≡ take 8 (drop 4 x)
unfolding number_in
next_8 x n there bytes is = be_bytes_8 (take 8 (drop 4 x)) n (length-take-le 8 (drop 4 x) (omega (arith, length-drop 4 x))) (λ i. taken 8 (drop 4 x) i (λ j. dropped 4 x j bytes)) is

in_parts : (x : List ℕ) (k : ℕ) → x ≡ take 4 x ++ (take 8 (drop 4 x) ++ (take k (drop 12 x) ++ drop (12 + k) x))
in_parts x k =
    sym (ap (λ l. take 4 x ++ l)
    (ap (λ l. take 8 (drop 4 x) ++ l) (ap (λ l. take k (drop 12 x) ++ l) (sym (drop-drop k 12 x)) ∙ take-append-drop k (drop 12 x) ∙ sym (drop-drop 8 4 x)) ∙ take-append-drop 8 (drop 4 x))
    ∙ take-append-drop 4 x)

parts_of_frame : (n : ℕ) (d after : List ℕ) → frame_of n d ++ after ≡ to_be_bytes w32 (8 + length d) ++ (to_be_bytes w64 n ++ (d ++ after))
unfolding frame_of
parts_of_frame n d after =
    append_assoc (to_be_bytes w32 (8 + length d)) (to_be_bytes w64 n ++ d) after ∙ ap (λ l. to_be_bytes w32 (8 + length d) ++ l) (append_assoc (to_be_bytes w64 n) d after)

pub length-document_in : (x : List ℕ) → 8 ≤ length_in x → 4 + length_in x ≤ length x → 8 + length (document_in x) ≡ length_in x
length-document_in x low whole = omega (arith, length-take-le (length_in x - 8) (drop 12 x) (omega (arith, length-drop 12 x)))

-- a whole frame stands first
pub frame_first : (x : List ℕ) → 8 ≤ length_in x → 4 + length_in x ≤ length x → ((i : ℕ) → get_or x i 0 < 256)
    → x ≡ frame_of (number_in x) (document_in x) ++ drop (4 + length_in x) x
frame_first x low whole bytes =
    let k : 12 + (length_in x - 8) ≡ 4 + length_in x = omega arith in
    let head = first_4 x (8 + length (document_in x)) (omega arith) bytes (length-document_in x low whole) in
    let number = next_8 x (number_in x) (omega arith) bytes refl in
    in_parts x (length_in x - 8)
    ∙ ap (λ (m : ℕ). take 4 x ++ (take 8 (drop 4 x) ++ (document_in x ++ drop m x))) k
    ∙ ap (λ (l : List ℕ). l ++ (take 8 (drop 4 x) ++ (document_in x ++ drop (4 + length_in x) x))) (sym head)
    ∙ ap (λ (l : List ℕ). to_be_bytes w32 (8 + length (document_in x)) ++ (l ++ (document_in x ++ drop (4 + length_in x) x))) (sym number)
    ∙ sym (parts_of_frame (number_in x) (document_in x) (drop (4 + length_in x) x))

pub number_in-fits : (x : List ℕ) → ((i : ℕ) → get_or x i 0 < 256) → number_in x < 2 ^ 64
unfolding number_in
number_in-fits x bytes =
    let at = λ (i : ℕ). taken 8 (drop 4 x) i (λ j. dropped 4 x j bytes) in
    let b0 = at 0 in let b1 = at 1 in let b2 = at 2 in let b3 = at 3 in let b4 = at 4 in let b5 = at 5 in let b6 = at 6 in let b7 = at 7 in
    omega arith

-- the bytes of `&frame[12..]`
pub behind_header : (x : List ℕ) → take (length x - 12) (drop 12 x) ≡ drop 12 x
behind_header x = take_all (length x - 12) (drop 12 x) (omega (arith, length-drop 12 x))

-- a frame in its three parts
pub written : (n : ℕ) (d head number a b c : List ℕ) → head ≡ to_be_bytes w32 (8 + length d) → number ≡ to_be_bytes w64 n → a ≡ head → b ≡ a ++ number → c ≡ b ++ d → c ≡ frame_of n d
unfolding frame_of
written n d head number a b c head-is number-is a-is b-is c-is =
    c-is ∙ ap (λ (l : List ℕ). l ++ d) (b-is ∙ ap (λ (l : List ℕ). l ++ number) (a-is ∙ head-is) ∙ ap (λ (l : List ℕ). to_be_bytes w32 (8 + length d) ++ l) number-is)
    ∙ append_assoc (to_be_bytes w32 (8 + length d)) (to_be_bytes w64 n) d
