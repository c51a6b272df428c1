-- Whoever reads the file of a tally reads that tally.
use Rattle.std.proofs.Common.{◌≡◌, ◌≢◌, ◌<◌, ◌≤◌, ◌^◌, ◌+◌, ℕ, List, [], ◌∷◌, ◌++◌, length, get_or, take, drop, take-append-drop, length-append, lit<, Result, Ok, Err, append_assoc, append-nil, refl, sym, ap, ap₂, ◌∙◌, subst, inl, inr, arith}
use Rattle.std.proofs.lemmas.List.{append_cancel_left}
use Rattle.std.proofs.lemmas.Fmt.{decimal_digit}
use Rattle.std.proofs.Math.Seq.{take-append_seam}
use Rattle.json.specs.Print.{escape_byte}
use Rattle.flag_text.specs.Printing.{text_of}
use Rattle.book_core.specs.Printing.{Reads, line_text}
use Rattle.note_tallies.specs.Point.{point_line}
use Rattle.note_tallies.specs.Tally.{PageTally, IsPageTally}
use Rattle.note_tallies.specs.Counts.{AddsCounts, AddsUp, AreCounted, ReadsCounts, Refuses}
use Rattle.note_tallies.specs.File.{Head, header_shape, head_of, head_shape, points_text, file_text, tally_text}
use Rattle.note_tallies.specs.Reading.{AreSmall, IsHead, IsUpTo, IsNoTally, IsFile, BeginNoPoint, BeginLow, ReadsTally, ReadsAs}
use Rattle.note_tallies.specs.declared.file_fault.TallyFileFault.{TallyFileFault}
use Rattle.note_tallies.specs.declared.file_fault.TallyFileFault.TheVariants.{WantOfMemory, Header, Page, Line, Order, Inputs}
use Rattle.note_tallies.proofs.FileHeads.{same_head}
use Rattle.note_tallies.proofs.Same.{no_line, no_low, same_counts}

-- the parts of a file, with what stands behind it
parts : (h : Head) (counts rest : List ℕ) → file_text h counts ++ rest ≡ line_text header_shape ++ (line_text (head_shape h) ++ (points_text 0 counts ++ rest))
unfolding file_text
parts h counts rest =
    append_assoc (line_text header_shape) (line_text (head_shape h) ++ points_text 0 counts) rest
    ∙ ap (λ (t : List ℕ). line_text header_shape ++ t) (append_assoc (line_text (head_shape h)) (points_text 0 counts) rest)

pub whole : (h : Head) (counts : List ℕ) → file_text h counts ≡ line_text header_shape ++ (line_text (head_shape h) ++ points_text 0 counts)
unfolding file_text
whole h counts = refl

-- a file, and the same bytes as others see them
same_parts : (h g : Head) (counts rest : List ℕ) (bytes others : List ℕ) → IsHead h → IsHead g → bytes ≡ file_text h counts ++ rest → bytes ≡ file_text g others → (h ≡ g) × (points_text 0 counts ++ rest ≡ points_text 0 others)
same_parts h g counts rest bytes others is also one other =
    same_head h g (points_text 0 counts ++ rest) (points_text 0 others) is also
    (append_cancel_left (line_text header_shape) (line_text (head_shape h) ++ (points_text 0 counts ++ rest)) (line_text (head_shape g) ++ points_text 0 others) (sym (parts h counts rest) ∙ sym one ∙ other ∙ whole g others))

small : (t : PageTally) → IsPageTally t → AreSmall t.counts
small t is = λ p. let few = is.small p in omega (arith, few)

total_few : (t : PageTally) → IsPageTally t → t.total ≤ 2 ^ 32
total_few t is = omega (arith, is.allowed.few)

up_to : (bytes : List ℕ) (t : PageTally) (h : Head) (counts rest : List ℕ) (n : ℕ) → IsFile bytes t → IsUpTo bytes h counts rest n → (h ≡ head_of t) × (points_text 0 counts ++ rest ≡ points_text 0 t.counts)
up_to bytes t h counts rest n is u = same_parts h (head_of t) counts rest bytes t.counts u.head is.head u.text is.text

line_told : (bytes : List ℕ) (t : PageTally) (h : Head) (counts rest : List ℕ) (n : ℕ) → IsFile bytes t → IsUpTo bytes h counts rest n → BeginNoPoint h.total rest → ⊥
line_told bytes t h counts rest n is u none =
    let same = up_to bytes t h counts rest n is u in
    let totals : h.total ≡ t.total = ap (λ (g : Head). g.total) same.0 in
    no_line counts t.counts 0 h.total rest (omega (arith, totals, total_few t is.lawful)) u.small (small t is.lawful) (omega (arith, u.whole)) (omega (arith, totals, is.lawful.whole)) u.left none same.1

order_told : (bytes : List ℕ) (t : PageTally) (h : Head) (counts rest : List ℕ) (n : ℕ) → IsFile bytes t → IsUpTo bytes h counts rest n → BeginLow h.total counts rest → ⊥
order_told bytes t h counts rest n is u low =
    let same = up_to bytes t h counts rest n is u in
    let totals : h.total ≡ t.total = ap (λ (g : Head). g.total) same.0 in
    let near : low.0.point ≤ 0 + low.2 = omega (arith, low.5) in
    no_low counts t.counts 0 h.total rest low.1 low.0 (omega (arith, totals, total_few t is.lawful)) u.small (small t is.lawful) (omega (arith, u.whole)) (omega (arith, totals, is.lawful.whole)) low.3 low.4 (inr (low.2, near, low.6)) same.1

abbrev pub with_counts : Head → List ℕ → PageTally
with_counts h counts = record { page = h.page; total = h.total; first = h.first; last = h.last; inputs = h.inputs; counts = counts }

equal_counts : (h : Head) (t : PageTally) (bytes counts : List ℕ) → IsFile bytes t → IsHead h → bytes ≡ file_text h counts → length counts ≡ h.total → AreSmall counts → (h ≡ head_of t) × (counts ≡ t.counts)
equal_counts h t bytes counts is head text size few =
    let same = same_parts h (head_of t) counts [] bytes t.counts head is.head (text ∙ sym (append-nil (file_text h counts))) is.text in
    let totals : h.total ≡ t.total = ap (λ (g : Head). g.total) same.0 in
    let points : points_text 0 counts ≡ points_text 0 t.counts = sym (append-nil (points_text 0 counts)) ∙ same.1 in
    (same.0, same_counts counts t.counts 0 t.total (total_few t is.lawful) few (small t is.lawful) (omega (arith, size, totals)) (omega (arith, is.lawful.whole)) points)

inputs_told : (bytes : List ℕ) (t : PageTally) (h : Head) (counts : List ℕ) → IsFile bytes t → IsNoTally bytes h counts → ⊥
inputs_told bytes t h counts is u =
    let same = equal_counts h t bytes counts is u.head u.text u.whole u.small in
    u.none (subst IsPageTally (sym (ap₂ with_counts same.0 same.1)) is.lawful)

pub told : (bytes : List ℕ) (t : PageTally) → IsFile bytes t → ReadsAs bytes t
told bytes t is (Ok u) reads want =
    let same = equal_counts (head_of u) t bytes u.counts is reads.head reads.text reads.lawful.whole (small u reads.lawful) in
    ap (λ (v : PageTally). Ok v) (ap₂ with_counts same.0 same.1)
told bytes t is (Err WantOfMemory) reads want = absurd (want refl)
told bytes t is (Err Header) reads want = absurd (reads (line_text (head_shape (head_of t)) ++ points_text 0 t.counts) (is.text ∙ whole (head_of t) t.counts))
told bytes t is (Err Page) reads want =
    absurd (reads.2 (head_of t) (points_text 0 t.counts) is.head (append_cancel_left (line_text header_shape) reads.0 (line_text (head_shape (head_of t)) ++ points_text 0 t.counts) (sym reads.1 ∙ is.text ∙ whole (head_of t) t.counts)))
told bytes t is (Err (Line n)) reads want = absurd (line_told bytes t reads.0 reads.1 reads.2 n is reads.3 reads.4)
told bytes t is (Err (Order n)) reads want = absurd (order_told bytes t reads.0 reads.1 reads.2 n is reads.3 reads.4)
told bytes t is (Err Inputs) reads want = absurd (inputs_told bytes t reads.0 reads.1 is reads.2)

-- ---- what a reader does

header_text : line_text header_shape ≡ 123 ∷ 34 ∷ 116 ∷ 97 ∷ 108 ∷ 108 ∷ 121 ∷ 34 ∷ 58 ∷ 49 ∷ 125 ∷ 10 ∷ []
unfolding text_of escape_byte
header_text = rw (decimal_digit 1 (lit< tt)) refl

pub header_bytes : (header : List ℕ) → header ≡ 123 ∷ 34 ∷ 116 ∷ 97 ∷ 108 ∷ 108 ∷ 121 ∷ 34 ∷ 58 ∷ 49 ∷ 125 ∷ 10 ∷ [] → header ≡ line_text header_shape
header_bytes header is = is ∙ sym header_text

pub front_is : (bytes header : List ℕ) → header ≡ line_text header_shape → take (length header) bytes ≡ header → bytes ≡ line_text header_shape ++ drop (length header) bytes
front_is bytes header is same = sym (take-append-drop (length header) bytes) ∙ ap (λ (t : List ℕ). t ++ drop (length header) bytes) (same ∙ is)

pub front_of : (bytes header rest : List ℕ) → header ≡ line_text header_shape → bytes ≡ line_text header_shape ++ rest → take (length header) bytes ≡ header
front_of bytes header rest is same = ap (take (length header)) (same ∙ ap (λ (t : List ℕ). t ++ rest) (sym is)) ∙ take-append_seam header rest

pub long_enough : (bytes header rest : List ℕ) → header ≡ line_text header_shape → bytes ≡ line_text header_shape ++ rest → length header ≤ length bytes
long_enough bytes header rest is same =
    let all = ap length same in
    let sum = length-append (line_text header_shape) rest in
    let size = ap length is in
    omega (arith, all, sum, size)

file_of : (h : Head) (bytes rest more points : List ℕ) → bytes ≡ line_text header_shape ++ rest → rest ≡ line_text (head_shape h) ++ more → more ≡ points → bytes ≡ line_text header_shape ++ (line_text (head_shape h) ++ points)
file_of h bytes rest more points one two three =
    one ∙ ap (λ (r : List ℕ). line_text header_shape ++ r) (two ∙ ap (λ (m : List ℕ). line_text (head_shape h) ++ m) three)

up : (h : Head) (bytes rest more counts left : List ℕ) (n : ℕ) → bytes ≡ line_text header_shape ++ rest → rest ≡ line_text (head_shape h) ++ more → IsHead h → AreCounted more h.total counts left n → left ≢ [] → IsUpTo bytes h counts left n
up h bytes rest more counts left n one two is are some = record {
  head = is;
  text = file_of h bytes rest more (points_text 0 counts ++ left) one two are.text ∙ sym (parts h counts left);
  whole = are.whole;
  small = are.small;
  number = are.number;
  left = some;
}

pub reads : (h : Head) (bytes rest more : List ℕ) (r : Result PageTally TallyFileFault) → bytes ≡ line_text header_shape ++ rest → rest ≡ line_text (head_shape h) ++ more → IsHead h → ReadsCounts h more r → ReadsTally bytes r
reads h bytes rest more (Ok t) one two is counted =
    let same : t ≡ with_counts h counted.0 = counted.3 in
    subst (λ (u : PageTally). IsFile bytes u) (sym same) (record {
      head = is;
      lawful = counted.2;
      text = file_of h bytes rest more (points_text 0 counted.0) one two counted.1 ∙ sym (whole h counted.0);
    })
reads h bytes rest more (Err WantOfMemory) one two is counted = tt
reads h bytes rest more (Err Header) one two is counted = absurd counted
reads h bytes rest more (Err Page) one two is counted = absurd counted
reads h bytes rest more (Err (Line n)) one two is counted = (h, counted.0, counted.1, up h bytes rest more counted.0 counted.1 n one two is counted.2 counted.3, counted.4)
reads h bytes rest more (Err (Order n)) one two is counted = (h, counted.0, counted.1, up h bytes rest more counted.0 counted.1 n one two is counted.2 counted.3, counted.4)
reads h bytes rest more (Err Inputs) one two is counted =
    (h, counted.0, record { head = is; text = file_of h bytes rest more (points_text 0 counted.0) one two counted.1 ∙ sym (whole h counted.0); whole = counted.2; small = counted.3; none = counted.4 })

pub tally_is : (h : Head) (counts : List ℕ) → IsHead h → length counts ≡ h.total → AddsUp counts h.inputs → IsPageTally (with_counts h counts)
tally_is h counts is size adds = record { allowed = is.allowed.total; whole = size; small = adds.small; added = adds.added; few = adds.few; ends = is.allowed.ends }

pub adds_up : (h : Head) (counts : List ℕ) → IsPageTally (with_counts h counts) → AddsUp counts h.inputs
adds_up h counts is = record { small = is.small; added = is.added; few = is.few }

pub counted_with : (h : Head) (bytes counts : List ℕ) (r : Result PageTally TallyFileFault) → bytes ≡ points_text 0 counts → length counts ≡ h.total → AreSmall counts → AddsCounts h counts r → ReadsCounts h bytes r
counted_with h bytes counts (Ok t) text size few adds = (counts, text, adds.0, adds.1)
counted_with h bytes counts (Err WantOfMemory) text size few adds = tt
counted_with h bytes counts (Err Header) text size few adds = absurd adds
counted_with h bytes counts (Err Page) text size few adds = absurd adds
counted_with h bytes counts (Err (Line n)) text size few adds = absurd adds
counted_with h bytes counts (Err (Order n)) text size few adds = absurd adds
counted_with h bytes counts (Err Inputs) text size few adds = (counts, text, size, few, adds)

pub refused_with : (h : Head) (bytes : List ℕ) (fault : TallyFileFault) → Refuses bytes h.total fault → ReadsCounts h bytes (Err fault)
refused_with h bytes WantOfMemory why = tt
refused_with h bytes Header why = absurd why
refused_with h bytes Page why = absurd why
refused_with h bytes (Line n) why = why
refused_with h bytes (Order n) why = why
refused_with h bytes Inputs why = absurd why

-- the text that is printed
pub printed : (t : PageTally) (header all head points : List ℕ) → header ≡ line_text header_shape → head ≡ text_of (head_shape (head_of t)) → points ≡ points_text 0 t.counts → all ≡ ((header ++ head) ++ 10 ∷ []) ++ points → all ≡ tally_text t
unfolding file_text
printed t header all head points one two three is =
    is ∙ ap₂ (λ (a b : List ℕ). a ++ b) (ap₂ (λ (a b : List ℕ). (a ++ b) ++ 10 ∷ []) one two) three
    ∙ ap (λ (x : List ℕ). x ++ points_text 0 t.counts) (append_assoc (line_text header_shape) (text_of (head_shape (head_of t))) (10 ∷ []))
    ∙ append_assoc (line_text header_shape) (line_text (head_shape (head_of t))) (points_text 0 t.counts)

pub is_file : (t : PageTally) (bytes : List ℕ) → IsPageTally t → t.page.site < 2 ^ 32 → Reads (head_shape (head_of t)) → bytes ≡ tally_text t → IsFile bytes t
is_file t bytes is small read text = record {
  head = record { allowed = record { total = is.allowed; ends = is.ends }; bounded = record { site = small; inputs = omega (arith, is.few) }; reads = read };
  lawful = is;
  text = text;
}
