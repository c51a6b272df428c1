-- Where the next line has no room, there are too many for any tally; and where two are of different kinds, the files have both.
use Rattle.std.proofs.Common.{◌≡◌, ◌<◌, ◌≤◌, ◌⊎◌, ◌==◌, ◌+◌, ℕ, suc, Bool, cond, true, false, ◌&&◌, nat_lt, List, [], ◌∷◌, ◌++◌, length, map, count_by, get_or, refl, sym, ap, ◌∙◌, subst, inl, inr, ⊎_elim, arith}
use borrow.Author.Tests.{ltb-false}
use Rattle.std.proofs.lemmas.List.{map-append}
use Rattle.std.proofs.lemmas.List.Sums.{sum_by-cons}
use Rattle.std.proofs.lemmas.List.FromFn.{get_or-map-range_with_len}
use Rattle.std.specs.List.{AllByRecursion, Contains}
use Rattle.std.specs.List.Sorted.{IsStrictlySortedBy}
use Rattle.std.specs.declared.cmp.Ordering.TheVariants.{Less}
use Rattle.bucket_core.specs.Point.{point_of, scale}
use Rattle.bucket_core.proofs.Hashes.{point_of-below, scale-below}
use Rattle.book_core.specs.Page.{PageName, bytes_cmp, page_eq}
use Rattle.note_tallies.specs.Law.{hashes_of, inputs_of}
use Rattle.note_tallies.specs.Lines.{IsSaid, Said, Tallied, finished, has_room, of_hash, of_input, said_line, said_page, said_point, untallied}
use Rattle.note_lines.specs.Hashed.{Hashed, hashed_line}
use Rattle.note_lines.specs.Note.{Noted, note_line}
use Rattle.note_tallies.proofs.Pages.{same_page}
use Rattle.note_tallies.specs.JoinLaw.{IsTallyBy}
use Rattle.note_tallies.specs.Tally.{hash_line_on, hashed_on, line_on, most_at_point, most_in_all, noted_on}
use Rattle.note_tallies.specs.Filter.{AreTalliedHashes, AreTalliedInputs, StreamIsTallied}
use Rattle.note_streams.proofs.Among.{In, from_in, in_front, in_middle}
use Rattle.note_streams.proofs.Held.{on_this, total_stays}
use Rattle.note_streams.proofs.Members.{all_map, all_members, each_said, hashed_is_on, note_is_on}
use Rattle.note_streams.specs.LogLines.{all_lines}
use Rattle.note_streams.specs.LogRecorded.{AreMixed, IsCrowded, IsSaidOf}
use Rattle.note_streams.specs.Sorted.{AreDistinct, HasNoRoom}

-- ---- rising lists

less_at : (l : List ℕ) (before after : List (List ℕ)) (k : List ℕ) → AllByRecursion (λ (x : List ℕ). bytes_cmp l x ≡ Less) (before ++ k ∷ after) → bytes_cmp l k ≡ Less
less_at l [] after k all = all.0
less_at l (b ∷ bs) after k all = less_at l bs after k all.1

-- each line is below one that stands further on
below_later : (before after : List (List ℕ)) (k l : List ℕ) → IsStrictlySortedBy bytes_cmp (before ++ k ∷ after) → In l before → bytes_cmp l k ≡ Less
unfolding IsStrictlySortedBy
below_later [] after k l rising there = absurd there
below_later (b ∷ bs) after k l rising (inl same) = subst (λ (x : List ℕ). bytes_cmp x k ≡ Less) same (less_at b bs after k rising.0)
below_later (b ∷ bs) after k l rising (inr there) = below_later bs after k l rising.1 there

all_push : {X : Type 0} (P : X → Type 0) (xs : List X) (x : X) → AllByRecursion P xs → P x → AllByRecursion P (xs ++ x ∷ [])
all_push P [] x all one = (one, tt)
all_push P (y ∷ ys) x all one = (all.0, all_push P ys x all.1 one)

rising_push : (xs : List (List ℕ)) (x : List ℕ) → IsStrictlySortedBy bytes_cmp xs → AllByRecursion (λ (y : List ℕ). bytes_cmp y x ≡ Less) xs → IsStrictlySortedBy bytes_cmp (xs ++ x ∷ [])
unfolding IsStrictlySortedBy
rising_push [] x rising below = (tt, tt)
rising_push (y ∷ ys) x rising below = (all_push (λ (z : List ℕ). bytes_cmp y z ≡ Less) ys x rising.0 below.0, rising_push ys x rising.1 below.1)

-- ---- no room

full_by : (a b : Bool) → (a && b) ≡ false → (a ≡ false) ⊎ (b ≡ false)
full_by true b is = inr is
full_by false b is = inl refl

-- a point of a said line is one
said_below : (total : ℕ) (said : Said) → IsSaid said → 0 < total → said_point total said < total
said_below total (of_input note) is some = point_of-below total note.input some
said_below total (of_hash note) is some = scale-below total note.hash some is.hash

full_in : {X : Type 0} (at : ℕ → X → ℕ) (t : Tallied) (xs : List X) (total p : ℕ) → p < total → t.total ≡ total → IsTallyBy at xs (finished t) → has_room t p ≡ false → (most_in_all ≤ length xs) ⊎ (most_at_point ≤ count_by (λ x. at total x == p) xs)
full_in {X} at t xs total p below same is full =
    let there : get_or t.counts p 0 ≡ count_by (λ x. at total x == p) xs =
    ap (λ (cs : List ℕ). get_or cs p 0) is.counts
    ∙ get_or-map-range_with_len (λ (q : ℕ). count_by (λ (x : X). at t.total x == q) xs) 0 t.total p p 0 (subst (λ (n : ℕ). p < n) (sym same) below) (omega arith)
    ∙ ap (λ (n : ℕ). count_by (λ (x : X). at n x == p) xs) same in
    ⊎_elim
    (λ (all : nat_lt t.inputs most_in_all ≡ false). inl (let many = ltb-false _ _ all in omega (arith, many, is.inputs)))
    (λ (one : nat_lt (get_or t.counts p 0) most_at_point ≡ false). inr (let many = ltb-false _ _ one in omega (arith, many, there)))
    (full_by (nat_lt t.inputs most_in_all) (nat_lt (get_or t.counts p 0) most_at_point) full)

-- ---- members of a page as what lines say of it

module _ {X : Type 0} (say : X → Said) where
  length_said : (xs : List X) → length (map say xs) ≡ length xs
  length_said [] = refl
  length_said (x ∷ xs) = ap suc (length_said xs)

  all_said : (P : Said → Type 0) (xs : List X) → AllByRecursion (λ (x : X). P (say x)) xs → AllByRecursion P (map say xs)
  all_said P [] all = tt
  all_said P (x ∷ xs) all = (all.0, all_said P xs all.1)

-- ---- the whole

-- what is said of a page, whose lines rise and stand in the files, and what was tallied of it
pub record IsOfPage (files : List (List ℕ)) (page : PageName) (total : ℕ) (t : Tallied) (line : List ℕ) (p : ℕ) : Type 0 where
  pub saids : List Said
  pub rising : IsStrictlySortedBy bytes_cmp (map said_line saids)
  pub below : AllByRecursion (λ (k : List ℕ). bytes_cmp k line ≡ Less) (map said_line saids)
  pub each : AllByRecursion (IsSaidOf files page) saids
  pub full : (most_in_all ≤ length saids) ⊎ (most_at_point ≤ count_by (λ said. said_point total said == p) saids)

lines_below : (line : List ℕ) (saids : List Said) → AllByRecursion (λ (s : Said). bytes_cmp (said_line s) line ≡ Less) saids → AllByRecursion (λ (k : List ℕ). bytes_cmp k line ≡ Less) (map said_line saids)
lines_below line [] all = tt
lines_below line (s ∷ ss) all = (all.0, lines_below line ss all.1)

module _ {X : Type 0} (say : X → Said) (line : PageName → X → List ℕ) (at : ℕ → X → ℕ) (files : List (List ℕ)) (page : PageName) (total p : ℕ) (t : Tallied) (next : List ℕ)
    (lines_are : (x : X) → said_line (say x) ≡ line page x) (points_are : (x : X) → said_point total (say x) ≡ at total x) (pages_are : (x : X) → said_page (say x) ≡ page) where
  abbrev Stands : X → Type 0
  Stands x = (IsSaid (say x) × Contains (all_lines files) (said_line (say x))) × (bytes_cmp (said_line (say x)) next ≡ Less)

  pairs : (xs : List X) → AllByRecursion Stands xs → AllByRecursion (λ (x : X). IsSaidOf files page (say x)) xs
  pairs [] all = tt
  pairs (x ∷ xs) all = (record { one = all.0.0.0; page_is = pages_are x; there = all.0.0.1 }, pairs xs all.1)

  lows : (xs : List X) → AllByRecursion Stands xs → AllByRecursion (λ (x : X). bytes_cmp (said_line (say x)) next ≡ Less) xs
  lows [] all = tt
  lows (x ∷ xs) all = (all.0.1, lows xs all.1)

  same_lines : (xs : List X) → map said_line (map say xs) ≡ map (line page) xs
  same_lines [] = refl
  same_lines (x ∷ xs) = ap (λ (l : List ℕ). l ∷ map said_line (map say xs)) (lines_are x) ∙ ap (λ (ls : List (List ℕ)). line page x ∷ ls) (same_lines xs)

  same_counts : (xs : List X) → count_by (λ said. said_point total said == p) (map say xs) ≡ count_by (λ x. at total x == p) xs
  same_counts [] = refl
  same_counts (x ∷ xs) =
      sum_by-cons (λ (said : Said). cond (said_point total said == p) 1 0) (say x) (map say xs)
      ∙ ap (λ (n : ℕ). cond (n == p) 1 0 + count_by (λ said. said_point total said == p) (map say xs)) (points_are x)
      ∙ ap (λ (n : ℕ). cond (at total x == p) 1 0 + n) (same_counts xs)
      ∙ sym (sum_by-cons (λ (x' : X). cond (at total x' == p) 1 0) x xs)

  of_page : (xs : List X) → p < total → t.total ≡ total → IsStrictlySortedBy bytes_cmp (map (line page) xs) → AllByRecursion Stands xs → IsTallyBy at xs (finished t) → has_room t p ≡ false → IsOfPage files page total t next p
  of_page xs below same rising all is full = record {
    saids = map say xs;
    rising = subst (IsStrictlySortedBy bytes_cmp) (sym (same_lines xs)) rising;
    below = lines_below next (map say xs) (all_said say (λ (s : Said). bytes_cmp (said_line s) next ≡ Less) xs (lows xs all));
    each = all_said say (IsSaidOf files page) xs (pairs xs all);
    full = ⊎_elim
        (λ (all : most_in_all ≤ length xs). inl (subst (λ (n : ℕ). most_in_all ≤ n) (sym (length_said say xs)) all))
        (λ (one : most_at_point ≤ count_by (λ x. at total x == p) xs). inr (subst (λ (n : ℕ). most_at_point ≤ n) (sym (same_counts xs)) one))
        (full_in at t xs total p below same is full);
  }

-- the line of the next is above those, and stands in the files
pub crowd : (files : List (List ℕ)) (page : PageName) (total : ℕ) (t : Tallied) (said : Said) → IsSaidOf files page said → IsOfPage files page total t (said_line said) (said_point total said) → IsCrowded files page total
crowd files page total t said one of = record {
  saids = of.saids;
  more = said;
  once = subst (IsStrictlySortedBy bytes_cmp) (sym (map-append said_line of.saids (said ∷ []))) (rising_push (map said_line of.saids) (said_line said) of.rising of.below);
  each = all_push (IsSaidOf files page) of.saids said of.each one;
  full = of.full;
}

module _ (files lines : List (List ℕ)) (page : PageName) (total : ℕ) (some : 0 < total) (are : AreDistinct files lines) (no : HasNoRoom page total lines) where
  abbrev next : List ℕ
  next = said_line no.said

  rising_all : IsStrictlySortedBy bytes_cmp (no.before ++ next ∷ no.after)
  rising_all = subst (IsStrictlySortedBy bytes_cmp) no.split are.rising

  -- a line of them stands in the files
  stands : (l : List ℕ) → In l (no.before ++ next ∷ no.after) → Contains (all_lines files) l
  stands l there = are.each l (subst (λ (ls : List (List ℕ)). Contains ls l) (sym no.split) (from_in (no.before ++ next ∷ no.after) l there))

  -- those before it stand in the files and below it
  before_it : (l : List ℕ) → In l no.before → Contains (all_lines files) l × (bytes_cmp l next ≡ Less)
  before_it l there = (stands l (in_front no.before (next ∷ no.after) l there), below_later no.before no.after next l rising_all there)

  total_is : no.tally.total ≡ total
  total_is = total_stays no.before (untallied page total) no.tally no.takes

  point_below : said_point total no.said < total
  point_below = said_below total no.said no.is_said some

  room_is : has_room no.tally (said_point total no.said) ≡ false
  room_is = subst (λ (n : ℕ). has_room no.tally (said_point n no.said) ≡ false) total_is no.full

  apart : (s : Said) → IsSaid s × (Contains (all_lines files) (said_line s) × (bytes_cmp (said_line s) next ≡ Less)) → (IsSaid s × Contains (all_lines files) (said_line s)) × (bytes_cmp (said_line s) next ≡ Less)
  apart s all = ((all.0, all.1.0), all.1.1)

  all_apart : (ss : List Said) → AllByRecursion (λ (s : Said). IsSaid s × (Contains (all_lines files) (said_line s) × (bytes_cmp (said_line s) next ≡ Less))) ss → AllByRecursion (λ (s : Said). (IsSaid s × Contains (all_lines files) (said_line s)) × (bytes_cmp (said_line s) next ≡ Less)) ss
  all_apart [] all = tt
  all_apart (s ∷ ss) all = (apart s all.0, all_apart ss all.1)

  of_inputs : AreTalliedInputs page no.before no.tally → IsOfPage files page total no.tally next (said_point total no.said)
  of_inputs read =
      let notes = read.0 in
      let inputs = inputs_of page notes in
      let all = all_apart (map of_input notes) (each_said (λ (l : List ℕ). Contains (all_lines files) l × (bytes_cmp l next ≡ Less)) no.before (map of_input notes) before_it read.1) in
      let each = all_members (λ (n : Noted). n.page) (λ n. n.input) page (noted_on page) (λ n same. note_is_on n page same)
      (λ (n : Noted). (IsSaid (of_input n) × Contains (all_lines files) (said_line (of_input n))) × (bytes_cmp (said_line (of_input n)) next ≡ Less)) notes
      (all_map of_input (λ (s : Said). (IsSaid s × Contains (all_lines files) (said_line s)) × (bytes_cmp (said_line s) next ≡ Less)) notes all) in
      of_page (λ (input : List ℕ). of_input (noted_on page input)) line_on point_of files page total (said_point total no.said) no.tally next (λ x. refl) (λ x. refl) (λ x. refl)
      inputs point_below total_is (on_this line_on point_of page no.tally inputs read.2.same read.2.tally) each read.2.tally.tally room_is

  of_hashes : AreTalliedHashes page no.before no.tally → IsOfPage files page total no.tally next (said_point total no.said)
  of_hashes read =
      let notes = read.0 in
      let hashes = hashes_of page notes in
      let all = all_apart (map of_hash notes) (each_said (λ (l : List ℕ). Contains (all_lines files) l × (bytes_cmp l next ≡ Less)) no.before (map of_hash notes) before_it read.1) in
      let each = all_members (λ (n : Hashed). n.page) (λ n. n.hash) page (hashed_on page) (λ n same. hashed_is_on n page same)
      (λ (n : Hashed). (IsSaid (of_hash n) × Contains (all_lines files) (said_line (of_hash n))) × (bytes_cmp (said_line (of_hash n)) next ≡ Less)) notes
      (all_map of_hash (λ (s : Said). (IsSaid s × Contains (all_lines files) (said_line s)) × (bytes_cmp (said_line s) next ≡ Less)) notes all) in
      of_page (λ (hash : ℕ). of_hash (hashed_on page hash)) hash_line_on scale files page total (said_point total no.said) no.tally next (λ x. refl) (λ x. refl) (λ x. refl)
      hashes point_below total_is (on_this hash_line_on scale page no.tally hashes read.2.same read.2.tally) each read.2.tally.tally room_is

  its_page : page_eq (said_page no.said) page ≡ true → IsSaidOf files page no.said
  its_page same = record {
    one = no.is_said;
    page_is = same_page (said_page no.said) page same;
    there = stands next (in_middle no.before no.after next);
  }

  by_kind : no.tally.page ≡ page → AreTalliedInputs page no.before no.tally ⊎ AreTalliedHashes page no.before no.tally → IsCrowded files page total
  by_kind same (inl read) = crowd files page total no.tally no.said (its_page (subst (λ (q : PageName). page_eq (said_page no.said) q ≡ true) same no.same)) (of_inputs read)
  by_kind same (inr read) = crowd files page total no.tally no.said (its_page (subst (λ (q : PageName). page_eq (said_page no.said) q ≡ true) same no.same)) (of_hashes read)

  page_of : AreTalliedInputs page no.before no.tally ⊎ AreTalliedHashes page no.before no.tally → no.tally.page ≡ page
  page_of (inl read) = read.2.same
  page_of (inr read) = read.2.same

  pub crowded : StreamIsTallied → IsCrowded files page total
  crowded law = let read = law page total no.before no.tally some no.takes in by_kind (page_of read) read

-- ---- both kinds

pub mixed : (files lines : List (List ℕ)) → AreDistinct files lines → AreMixed lines → AreMixed (all_lines files)
mixed files lines are is = record {
  note = is.note;
  is_note = is.is_note;
  note_there = are.each (note_line is.note) is.note_there;
  hashed = is.hashed;
  is_hashed = is.is_hashed;
  hashed_there = are.each (hashed_line is.hashed) is.hashed_there;
}
