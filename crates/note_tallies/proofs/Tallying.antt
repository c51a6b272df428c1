-- What was tallied of many lines is the tally of what they say.
use Rattle.std.proofs.Common.{◌≡◌, ◌≢◌, ◌<◌, ◌+◌, ◌⊎◌, ℕ, Bool, true, false, if◌then◌else◌, List, [], ◌∷◌, map, filter, length, Option, Some, None, IfSome, Result, Ok, Err, refl, sym, ap, ap₂, ◌∙◌, subst, inl, inr, ⊎_elim, arith}
use Rattle.std.specs.Bool.{beq}
use Rattle.std.specs.Cmp.Lexicographic.{nat_list_cmp_total}
use Rattle.std.specs.List.{AllByRecursion}
use Rattle.std.specs.List.Sorted.{IsStrictlySortedBy}
use Rattle.std.specs.Option.{option_or}
use Rattle.std.specs.declared.cmp.Ordering.TheVariants.{Less}
use Rattle.std.proofs.lemmas.Bool.{cases_Bool}
use Rattle.std.proofs.lemmas.List.{length-map}
use Rattle.bucket_core.specs.Point.{point_of, scale}
use Rattle.book_core.specs.Page.{PageName, bytes_cmp, page_eq}
use Rattle.book_core.proofs.Ordered.{All-weaker}
use Rattle.book_core.proofs.Taken.{is_less}
use Rattle.page_tally.specs.Folding.{is_above_last}
use Rattle.note_lines.specs.Hashed.{Hashed, has_hash, hashed_line}
use Rattle.note_lines.specs.Note.{Noted, note_line}
use Rattle.note_lines.proofs.OneKind.{hash_kind, input_kind}
use Rattle.note_tallies.specs.JoinLaw.{IsRangeBy, counts_by, first_line, last_line}
use Rattle.note_tallies.specs.Tally.{hash_line_on, line_on}
use Rattle.note_tallies.proofs.Pages.{same_page}
use Rattle.note_tallies.specs.Law.{AreOfOneKind, IsTallyOfHashedNotes, IsTallyOfNotes, TalliedAreOfOneKind, hashes_of, inputs_of, with_hashes, with_notes, with_saids}
use Rattle.note_tallies.specs.Lines.{IsSaid, Said, Tallied, finished, has_room, is_alike, of_hash, of_input, passed, said_line, said_page, said_point, tallied, untallied, with_said}
use Rattle.note_tallies.specs.declared.fault.LineTallyFault.{LineTallyFault}
use Rattle.note_tallies.specs.declared.fault.LineTallyFault.TheVariants.{Mixed, Order, TooMany}
use Rattle.note_tallies.proofs.Counted.{counts_on, counts_from_nothing}

-- what is said of a page
abbrev pub saids_of : PageName → List Said → List Said
saids_of page saids = filter (λ said. page_eq (said_page said) page) saids

-- the lines of that, and the points
abbrev pub lines_of : PageName → List Said → List (List ℕ)
lines_of page saids = map said_line (saids_of page saids)

abbrev pub points_of : ℕ → PageName → List Said → List ℕ
points_of total page saids = map (said_point total) (saids_of page saids)

-- ---- the lines rise

-- each line is above the one before it
abbrev pub Follows : Option (List ℕ) → List (List ℕ) → Type 0
Follows before [] = Unit {0}
Follows before (x ∷ xs) = (is_above_last before x ≡ true) × Follows (Some x) xs

above_all : (x : List ℕ) (xs : List (List ℕ)) → Follows (Some x) xs → AllByRecursion (λ (y : List ℕ). bytes_cmp x y ≡ Less) xs
above_all x [] follows = tt
above_all x (y ∷ ys) follows =
    let less : bytes_cmp x y ≡ Less = is_less (bytes_cmp x y) follows.0 in
    (less, All-weaker (λ (z : List ℕ). bytes_cmp y z ≡ Less) (λ (z : List ℕ). bytes_cmp x z ≡ Less) ys (λ z high. nat_list_cmp_total.trans x y z (less) (high)) (above_all y ys follows.1))

rise : (xs : List (List ℕ)) (before : Option (List ℕ)) → Follows before xs → IsStrictlySortedBy bytes_cmp xs
unfolding IsStrictlySortedBy
rise [] before follows = tt
rise (x ∷ xs) before follows = (above_all x xs follows.1, rise xs (Some x) follows.1)

-- ---- what some lines change

record Goes (t : Tallied) (saids : List Said) (u : Tallied) : Type 0 where
  page : u.page ≡ t.page
  total : u.total ≡ t.total
  counts : u.counts ≡ counts_on t.counts (points_of t.total t.page saids)
  inputs : u.inputs ≡ t.inputs + length (saids_of t.page saids)
  first : u.first ≡ option_or t.first (first_line (lines_of t.page saids))
  last : u.last ≡ option_or (last_line (lines_of t.page saids)) t.last
  rising : Follows t.before (map said_line saids)

pub said_here : (page : PageName) (said : Said) (saids : List Said) → page_eq (said_page said) page ≡ true → saids_of page (said ∷ saids) ≡ said ∷ saids_of page saids
said_here page said saids same = rw same refl

pub said_there : (page : PageName) (said : Said) (saids : List Said) → page_eq (said_page said) page ≡ false → saids_of page (said ∷ saids) ≡ saids_of page saids
said_there page said saids other = rw other refl

first_more : (had : Option (List ℕ)) (x : List ℕ) (later : Option (List ℕ)) → option_or (option_or had (Some x)) later ≡ option_or had (Some x)
first_more None x later = refl
first_more (Some y) x later = refl

last_more : (later : Option (List ℕ)) (x : List ℕ) (had : Option (List ℕ)) → option_or later (Some x) ≡ option_or (option_or later (Some x)) had
last_more None x had = refl
last_more (Some y) x had = refl

none_before : (o : Option (List ℕ)) → option_or o None ≡ o
none_before None = refl
none_before (Some x) = refl

one_more : (t u : Tallied) (said : Said) (saids : List Said) → is_above_last t.before (said_line said) ≡ true → page_eq (said_page said) t.page ≡ true → Goes (tallied t (said_line said) (said_point t.total said)) saids u → Goes t (said ∷ saids) u
one_more t u said saids above same later =
    let here = said_here t.page said saids same in
    let rest = lines_of t.page saids in
    record {
      page = later.page;
      total = later.total;
      first = later.first ∙ first_more t.first (said_line said) (first_line rest) ∙ ap (λ (ss : List Said). option_or t.first (first_line (map said_line ss))) (sym here);
      last = later.last ∙ last_more (last_line rest) (said_line said) t.last ∙ ap (λ (ss : List Said). option_or (last_line (map said_line ss)) t.last) (sym here);
      counts = later.counts ∙ ap (λ (ss : List Said). counts_on t.counts (map (said_point t.total) ss)) (sym here);
      inputs = later.inputs ∙ (let many = ap length here in omega (arith, many));
      rising = (above, later.rising);
    }

one_other : (t u : Tallied) (said : Said) (saids : List Said) → is_above_last t.before (said_line said) ≡ true → page_eq (said_page said) t.page ≡ false → Goes (passed t (said_line said)) saids u → Goes t (said ∷ saids) u
one_other t u said saids above other later =
    let there = said_there t.page said saids other in
    record {
      page = later.page;
      total = later.total;
      first = later.first ∙ ap (λ (ss : List Said). option_or t.first (first_line (map said_line ss))) (sym there);
      last = later.last ∙ ap (λ (ss : List Said). option_or (last_line (map said_line ss)) t.last) (sym there);
      counts = later.counts ∙ ap (λ (ss : List Said). counts_on t.counts (map (said_point t.total) ss)) (sym there);
      inputs = later.inputs ∙ ap (λ (ss : List Said). t.inputs + length ss) (sym there);
      rising = (above, later.rising);
    }

one_said : (above alike same room : Bool) (t u : Tallied) (said : Said) (saids : List Said) → is_above_last t.before (said_line said) ≡ above → page_eq (said_page said) t.page ≡ same
    → with_saids (if above then (if alike then (if same then (if room then Ok (tallied t (said_line said) (said_point t.total said)) else Err TooMany) else Ok (passed t (said_line said))) else Err Mixed) else Err Order) saids ≡ Ok u
    → ((v : Tallied) → with_saids (Ok v) saids ≡ Ok u → Goes v saids u) → Goes t (said ∷ saids) u
one_said true true true true t u said saids a s e later = one_more t u said saids a s (later (tallied t (said_line said) (said_point t.total said)) e)
one_said true true true false t u said saids a s e later = cc
one_said true true false room t u said saids a s e later = one_other t u said saids a s (later (passed t (said_line said)) e)
one_said true false same room t u said saids a s e later = cc
one_said false alike same room t u said saids a s e later = cc

end_same : (t u : Tallied) → (let r : Result Tallied LineTallyFault = Ok t in r) ≡ Ok u → t ≡ u
end_same t u e = cc

goes : (saids : List Said) (t u : Tallied) → with_saids (Ok t) saids ≡ Ok u → Goes t saids u
goes [] t u e =
    let same = end_same t u e in
    record {
      page = sym (ap (λ (v : Tallied). v.page) same);
      total = sym (ap (λ (v : Tallied). v.total) same);
      first = sym (none_before u.first) ∙ ap (λ (v : Tallied). option_or v.first None) (sym same);
      last = sym (ap (λ (v : Tallied). v.last) same);
      counts = sym (ap (λ (v : Tallied). v.counts) same);
      inputs = (let many = ap (λ (v : Tallied). v.inputs) same in omega (arith, many));
      rising = tt;
    }
goes (said ∷ saids) t u e =
    one_said (is_above_last t.before (said_line said)) (is_alike t.before (said_line said)) (page_eq (said_page said) t.page) (has_room t (said_point t.total said)) t u said saids refl refl e (λ v f. goes saids v u f)

-- ---- the lines of the page

-- what holds of each line holds of each that is kept
all_kept : (P : List ℕ → Type 0) (page : PageName) (saids : List Said) → AllByRecursion P (map said_line saids) → AllByRecursion P (lines_of page saids)
all_kept P page [] all = tt
all_kept P page (said ∷ saids) all =
    let later = all_kept P page saids all.1 in
    ⊎_elim
    (λ (same : page_eq (said_page said) page ≡ true). subst (λ (ss : List Said). AllByRecursion P (map said_line ss)) (sym (said_here page said saids same)) (all.0, later))
    (λ (other : page_eq (said_page said) page ≡ false). subst (λ (ss : List Said). AllByRecursion P (map said_line ss)) (sym (said_there page said saids other)) later)
    (cases_Bool (page_eq (said_page said) page))

rise_kept : (page : PageName) (saids : List Said) → IsStrictlySortedBy bytes_cmp (map said_line saids) → IsStrictlySortedBy bytes_cmp (lines_of page saids)
unfolding IsStrictlySortedBy
rise_kept page [] rising = tt
rise_kept page (said ∷ saids) rising =
    let later = rise_kept page saids rising.1 in
    let all = all_kept (λ (y : List ℕ). bytes_cmp (said_line said) y ≡ Less) page saids rising.0 in
    ⊎_elim
    (λ (same : page_eq (said_page said) page ≡ true). subst (λ (ss : List Said). IsStrictlySortedBy bytes_cmp (map said_line ss)) (sym (said_here page said saids same)) (all, later))
    (λ (other : page_eq (said_page said) page ≡ false). subst (λ (ss : List Said). IsStrictlySortedBy bytes_cmp (map said_line ss)) (sym (said_there page said saids other)) later)
    (cases_Bool (page_eq (said_page said) page))

-- ---- of one kind: each says what it has of its page

module _ {N X : Type 0} (say : N → Said) (own : N → X) (line : PageName → X → List ℕ) (at : ℕ → X → ℕ)
    (spelled : (note : N) → said_line (say note) ≡ line (said_page (say note)) (own note)) (placed : (total : ℕ) (note : N) → said_point total (say note) ≡ at total (own note)) where
  abbrev its : PageName → List N → List X
  its page notes = map own (filter (λ note. page_eq (said_page (say note)) page) notes)

  its_here : (page : PageName) (note : N) (notes : List N) → page_eq (said_page (say note)) page ≡ true → its page (note ∷ notes) ≡ own note ∷ its page notes
  its_here page note notes same = rw same refl

  its_there : (page : PageName) (note : N) (notes : List N) → page_eq (said_page (say note)) page ≡ false → its page (note ∷ notes) ≡ its page notes
  its_there page note notes other = rw other refl

  its_lines : (page : PageName) (notes : List N) → lines_of page (map say notes) ≡ map (line page) (its page notes)
  its_lines page [] = refl
  its_lines page (note ∷ notes) =
      let later = its_lines page notes in
      ⊎_elim
      (λ (same : page_eq (said_page (say note)) page ≡ true).
      let here : said_line (say note) ≡ line page (own note) = spelled note ∙ ap (λ (p : PageName). line p (own note)) (same_page (said_page (say note)) page same) in
      ap (map said_line) (said_here page (say note) (map say notes) same) ∙ ap₂ (λ (l : List ℕ) (ls : List (List ℕ)). l ∷ ls) here later ∙ ap (map (line page)) (sym (its_here page note notes same)))
      (λ (other : page_eq (said_page (say note)) page ≡ false). ap (map said_line) (said_there page (say note) (map say notes) other) ∙ later ∙ ap (map (line page)) (sym (its_there page note notes other)))
      (cases_Bool (page_eq (said_page (say note)) page))

  its_points : (total : ℕ) (page : PageName) (notes : List N) → points_of total page (map say notes) ≡ map (at total) (its page notes)
  its_points total page [] = refl
  its_points total page (note ∷ notes) =
      let later = its_points total page notes in
      ⊎_elim
      (λ (same : page_eq (said_page (say note)) page ≡ true).
      ap (map (said_point total)) (said_here page (say note) (map say notes) same) ∙ ap₂ (λ (p : ℕ) (ps : List ℕ). p ∷ ps) (placed total note) later ∙ ap (map (at total)) (sym (its_here page note notes same)))
      (λ (other : page_eq (said_page (say note)) page ≡ false). ap (map (said_point total)) (said_there page (say note) (map say notes) other) ∙ later ∙ ap (map (at total)) (sym (its_there page note notes other)))
      (cases_Bool (page_eq (said_page (say note)) page))

  all_lines : (notes : List N) → map said_line (map say notes) ≡ map (λ note. said_line (say note)) notes
  all_lines [] = refl
  all_lines (note ∷ notes) = ap (λ (ls : List (List ℕ)). said_line (say note) ∷ ls) (all_lines notes)

  -- what was tallied of them
  record Tells (page : PageName) (notes : List N) (t : Tallied) : Type 0 where
    pub rising : IsStrictlySortedBy bytes_cmp (map (λ note. said_line (say note)) notes)
    pub same : t.page ≡ page
    pub tally : IsRangeBy line at (its page notes) (finished t)

  tells : (page : PageName) (total : ℕ) (notes : List N) (t : Tallied) → with_saids (Ok (untallied page total)) (map say notes) ≡ Ok t → Tells page notes t
  tells page total notes t e =
      let saids = map say notes in
      let g = goes saids (untallied page total) t e in
      let rising = rise (map said_line saids) None g.rising in
      let xs = its page notes in
      let lines : lines_of page saids ≡ map (line t.page) xs = its_lines page notes ∙ ap (λ (p : PageName). map (line p) xs) (sym g.page) in
      let points = its_points total page notes in
      let size : length (saids_of page saids) ≡ length xs = sym (length-map (saids_of page saids) (said_point total)) ∙ ap length points ∙ length-map xs (at total) in
      record {
        rising = subst (IsStrictlySortedBy bytes_cmp) (all_lines notes) rising;
        same = g.page;
        tally = record {
          rising = subst (IsStrictlySortedBy bytes_cmp) lines (rise_kept page saids rising);
          first = g.first ∙ ap first_line lines;
          last = g.last ∙ none_before (last_line (lines_of page saids)) ∙ ap last_line lines;
          tally = record {
            inputs = (let many = g.inputs in omega (arith, many, size));
            counts = g.counts ∙ ap (counts_on (untallied page total).counts) points ∙ counts_from_nothing (at total) xs total ∙ ap (counts_by at xs) (sym g.total);
          };
        };
      }

pub tally_of_notes : (page : PageName) (total : ℕ) (notes : List Noted) (t : Tallied) → 0 < total → with_notes (Ok (untallied page total)) notes ≡ Ok t → IsTallyOfNotes page notes t
tally_of_notes page total notes t some e =
    let is = tells of_input (λ (note : Noted). note.input) line_on point_of (λ note. refl) (λ n note. refl) page total notes t e in
    record { rising = is.rising; same = is.same; tally = is.tally }

pub tally_of_hashes : (page : PageName) (total : ℕ) (notes : List Hashed) (t : Tallied) → 0 < total → with_hashes (Ok (untallied page total)) notes ≡ Ok t → IsTallyOfHashedNotes page notes t
tally_of_hashes page total notes t some e =
    let is = tells of_hash (λ (note : Hashed). note.hash) hash_line_on scale (λ note. refl) (λ n note. refl) page total notes t e in
    record { rising = is.rising; same = is.same; tally = is.tally }

pub inputs_here : (page : PageName) (note : Noted) (notes : List Noted) → page_eq note.page page ≡ true → inputs_of page (note ∷ notes) ≡ note.input ∷ inputs_of page notes
inputs_here page note notes same = rw same refl

pub inputs_there : (page : PageName) (note : Noted) (notes : List Noted) → page_eq note.page page ≡ false → inputs_of page (note ∷ notes) ≡ inputs_of page notes
inputs_there page note notes other = rw other refl

-- ---- lines of one kind

same_from_beq : (x y : Bool) → beq x y ≡ true → x ≡ y
same_from_beq true true e = refl
same_from_beq true false e = cc
same_from_beq false true e = cc
same_from_beq false false e = refl

-- each line is of this kind
abbrev AreOf : Bool → List Said → Type 0
AreOf kind saids = AllByRecursion (λ (said : Said). has_hash (said_line said) ≡ kind) saids

one_kind : (above alike same room : Bool) (t u : Tallied) (said : Said) (saids : List Said) → is_alike t.before (said_line said) ≡ alike
    → with_saids (if above then (if alike then (if same then (if room then Ok (tallied t (said_line said) (said_point t.total said)) else Err TooMany) else Ok (passed t (said_line said))) else Err Mixed) else Err Order) saids ≡ Ok u
    → (is_alike t.before (said_line said) ≡ true) × ((v : Tallied) × (v.before ≡ Some (said_line said)) × (with_saids (Ok v) saids ≡ Ok u))
one_kind true true true true t u said saids k e = (k, (tallied t (said_line said) (said_point t.total said), refl, e))
one_kind true true true false t u said saids k e = cc
one_kind true true false room t u said saids k e = (k, (passed t (said_line said), refl, e))
one_kind true false same room t u said saids k e = cc
one_kind false alike same room t u said saids k e = cc

next_kind : (t u : Tallied) (said : Said) (saids : List Said) → with_saids (Ok t) (said ∷ saids) ≡ Ok u
    → (is_alike t.before (said_line said) ≡ true) × ((v : Tallied) × (v.before ≡ Some (said_line said)) × (with_saids (Ok v) saids ≡ Ok u))
next_kind t u said saids e =
    one_kind (is_above_last t.before (said_line said)) (is_alike t.before (said_line said)) (page_eq (said_page said) t.page) (has_room t (said_point t.total said)) t u said saids refl e

later_kinds : (saids : List Said) (t u : Tallied) (before : List ℕ) → t.before ≡ Some before → with_saids (Ok t) saids ≡ Ok u → AreOf (has_hash before) saids
later_kinds [] t u before is e = tt
later_kinds (said ∷ saids) t u before is e =
    let next = next_kind t u said saids e in
    let here : has_hash before ≡ has_hash (said_line said) = same_from_beq (has_hash before) (has_hash (said_line said)) (subst (λ (o : Option (List ℕ)). is_alike o (said_line said) ≡ true) is next.0) in
    (sym here, subst (λ (kind : Bool). AreOf kind saids) (sym here) (later_kinds saids next.1.0 u (said_line said) next.1.1 next.1.2))

as_notes : (saids : List Said) → AllByRecursion IsSaid saids → AreOf false saids → (notes : List Noted) × (saids ≡ map of_input notes)
as_notes [] are kinds = ([], refl)
as_notes (of_input note ∷ saids) are kinds = let rest = as_notes saids are.1 kinds.1 in (note ∷ rest.0, ap (λ (ss : List Said). of_input note ∷ ss) rest.1)
as_notes (of_hash note ∷ saids) are kinds = let hash = hash_kind note are.0 in let none = kinds.0 in cc

as_hashes : (saids : List Said) → AllByRecursion IsSaid saids → AreOf true saids → (notes : List Hashed) × (saids ≡ map of_hash notes)
as_hashes [] are kinds = ([], refl)
as_hashes (of_hash note ∷ saids) are kinds = let rest = as_hashes saids are.1 kinds.1 in (note ∷ rest.0, ap (λ (ss : List Said). of_hash note ∷ ss) rest.1)
as_hashes (of_input note ∷ saids) are kinds = let input = input_kind note in let none = kinds.0 in cc

by_kind : (kind : Bool) (saids : List Said) → AllByRecursion IsSaid saids → AreOf kind saids → AreOfOneKind saids
by_kind true saids are kinds = inr (as_hashes saids are kinds)
by_kind false saids are kinds = inl (as_notes saids are kinds)

pub of_one_kind : TalliedAreOfOneKind
of_one_kind page total [] t are e = inl ([], refl)
of_one_kind page total (said ∷ saids) t are e =
    let next = next_kind (untallied page total) t said saids e in
    by_kind (has_hash (said_line said)) (said ∷ saids) are (refl, later_kinds saids next.1.0 t (said_line said) next.1.1 next.1.2)
