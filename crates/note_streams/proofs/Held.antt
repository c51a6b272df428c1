-- What was tallied of lines that rise, each once, is the tally of what the files hold.
use Rattle.std.proofs.Common.{◌≡◌, ◌<◌, ◌⊎◌, ℕ, Bool, true, false, if◌then◌else◌, List, [], ◌∷◌, map, Result, Ok, Err, refl, sym, ap, ◌∙◌, subst, inl, inr, ⊎_elim}
use Rattle.std.specs.List.{AllByRecursion, Contains}
use Rattle.std.specs.List.Sorted.{IsStrictlySortedBy}
use Rattle.bucket_core.specs.Point.{point_of, scale}
use Rattle.book_core.specs.Page.{PageName, bytes_cmp, page_eq}
use Rattle.note_tallies.specs.Law.{hashes_of, inputs_of}
use Rattle.note_tallies.specs.Lines.{IsSaid, Said, Tallied, finished, has_room, is_alike, of_hash, of_input, passed, said_line, said_page, said_point, tallied, untallied}
use Rattle.note_tallies.specs.Refusals.{TakesSaid}
use Rattle.note_tallies.specs.declared.fault.LineTallyFault.{LineTallyFault}
use Rattle.note_tallies.specs.declared.fault.LineTallyFault.TheVariants.{Order, TooMany, Mixed}
use Rattle.note_lines.specs.Hashed.{Hashed, IsHashed}
use Rattle.note_lines.specs.Note.{IsNote, Noted}
use Rattle.page_tally.specs.Folding.{is_above_last}
use Rattle.note_tallies.specs.JoinLaw.{IsRangeBy, IsRangeOf, IsRangeOfHashes}
use Rattle.note_tallies.specs.Tally.{PageTally, hash_line_on, hashed_on, line_on, noted_on}
use Rattle.note_tallies.specs.Blank.{is_blank}
use Rattle.note_tallies.specs.Filter.{AreLinesOf, AreTalliedHashes, AreTalliedInputs, StreamIsTallied, TakesAll}
use Rattle.note_streams.proofs.Among.{In, all_of, from_in, of_all, to_in}
use Rattle.note_streams.proofs.Members.{all_map, all_members, each_said, hashed_is_on, in_hashes, in_members, in_notes, kept_lines, no_hash_in, no_note_in, note_is_on, page_itself, said_there}
use Rattle.note_streams.specs.LogLines.{all_lines}
use Rattle.note_streams.specs.LogRecorded.{AreMixed, IsHeldAs, IsRecordTally, IsTallyOfHashes, IsTallyOfInputs}
use Rattle.note_streams.specs.Sorted.{AreDistinct, TalliesLines}
use Rattle.note_streams.specs.Stray.{AreKept, IsKept}
use Rattle.note_streams.specs.Tallies.{AreOfOneKind}

-- ---- the total stays

total_by : (above alike same room : Bool) (t new : Tallied) (said : Said)
    → (let r : Result Tallied LineTallyFault = if above then (if alike then (if same then (if room then Ok (tallied t (said_line said) (said_point t.total said)) else Err TooMany) else Ok (passed t (said_line said))) else Err Mixed) else Err Order in r) ≡ Ok new → new.total ≡ t.total
total_by true true true true t new said is = let same : tallied t (said_line said) (said_point t.total said) ≡ new = cc in ap (λ (x : Tallied). x.total) (sym same)
total_by true true true false t new said is = cc
total_by true true false room t new said is = let same : passed t (said_line said) ≡ new = cc in ap (λ (x : Tallied). x.total) (sym same)
total_by true false same room t new said is = cc
total_by false alike same room t new said is = cc

pub total_stays : (lines : List (List ℕ)) (old new : Tallied) → TakesAll old lines new → new.total ≡ old.total
total_stays [] old new all = ap (λ (t : Tallied). t.total) all
total_stays (l ∷ ls) old new all =
    total_stays ls all.0 new all.2
    ∙ ⊎_elim
    (λ (blank : (is_blank l ≡ true) × (all.0 ≡ old)). ap (λ (t : Tallied). t.total) blank.1)
    (λ (some : (is_blank l ≡ false) × TakesSaid old l all.0).
    let said = some.1.0 in
    total_by (is_above_last old.before (said_line said)) (is_alike old.before (said_line said)) (page_eq (said_page said) old.page) (has_room old (said_point old.total said)) old all.0 said some.1.3)
    all.1

-- ---- the whole

-- the lines rise on this page
pub on_this : {X : Type 0} (line : PageName → X → List ℕ) (at : ℕ → X → ℕ) (page : PageName) (t : Tallied) (xs : List X) → t.page ≡ page → IsRangeBy line at xs (finished t) → IsStrictlySortedBy bytes_cmp (map (line page) xs)
on_this line at page t xs same is = subst (λ (p : PageName). IsStrictlySortedBy bytes_cmp (map (line p) xs)) same is.rising

-- what can be noted and has its line in the files is held
pub held : {X : Type 0} (IsOne : X → Type 0) (line : X → List ℕ) (files : List (List ℕ)) (xs : List X) → AllByRecursion (λ (x : X). IsOne x × Contains (all_lines files) (line x)) xs → AllByRecursion (IsHeldAs IsOne line files) xs
held IsOne line files [] all = tt
held IsOne line files (x ∷ xs) all = (record { one = all.0.0; there = all.0.1 }, held IsOne line files xs all.1)

module _ (files lines : List (List ℕ)) (page : PageName) (are : AreDistinct files lines) where
  -- what is said has its line in the files
  pub saids_there : (before : List (List ℕ)) (saids : List Said) → ((l : List ℕ) → In l before → In l lines) → AreLinesOf before saids → AllByRecursion (λ (s : Said). IsSaid s × Contains (all_lines files) (said_line s)) saids
  saids_there before saids among says = each_said (Contains (all_lines files)) before saids (λ l there. are.each l (from_in lines l (among l there))) says

  -- what has its line in the files is said
  is_said : (saids : List Said) (said : Said) → AreLinesOf lines saids → IsSaid said → Contains (all_lines files) (said_line said) → In said saids
  is_said saids said says is there = said_there lines saids said is says (to_in lines (said_line said) (are.all (said_line said) there))

  of_inputs : (t : PageTally) (last : Tallied) → t ≡ finished last → AreTalliedInputs page lines last → IsTallyOfInputs files page t
  of_inputs t last is read =
      let notes = read.0 in
      let inputs = inputs_of page notes in
      let each = all_members (λ (n : Noted). n.page) (λ n. n.input) page (noted_on page) (λ n same. note_is_on n page same)
      (λ (n : Noted). IsSaid (of_input n) × Contains (all_lines files) (said_line (of_input n))) notes
      (all_map of_input (λ (s : Said). IsSaid s × Contains (all_lines files) (said_line s)) notes (saids_there lines (map of_input notes) (λ l there. there) read.1)) in
      record {
        inputs = inputs;
        recorded = record {
          once = on_this line_on point_of page last inputs read.2.same read.2.tally;
          each = held (λ input. IsNote (noted_on page input)) (line_on page) files inputs each;
          all = λ input recorded.
              from_in inputs input (in_members (λ (n : Noted). n.page) (λ n. n.input) page (noted_on page) notes input (page_itself page) refl (in_notes notes (noted_on page input) (is_said (map of_input notes) (of_input (noted_on page input)) read.1 recorded.one recorded.there)));
        };
        no_hash = λ hash recorded. no_hash_in notes (hashed_on page hash) (is_said (map of_input notes) (of_hash (hashed_on page hash)) read.1 recorded.one recorded.there);
        tally = subst (IsRangeOf inputs) (sym is) read.2.tally;
      }

  of_hashes : (t : PageTally) (last : Tallied) → t ≡ finished last → AreTalliedHashes page lines last → IsTallyOfHashes files page t
  of_hashes t last is read =
      let notes = read.0 in
      let hashes = hashes_of page notes in
      let each = all_members (λ (n : Hashed). n.page) (λ n. n.hash) page (hashed_on page) (λ n same. hashed_is_on n page same)
      (λ (n : Hashed). IsSaid (of_hash n) × Contains (all_lines files) (said_line (of_hash n))) notes
      (all_map of_hash (λ (s : Said). IsSaid s × Contains (all_lines files) (said_line s)) notes (saids_there lines (map of_hash notes) (λ l there. there) read.1)) in
      record {
        hashes = hashes;
        recorded = record {
          once = on_this hash_line_on scale page last hashes read.2.same read.2.tally;
          each = held (λ hash. IsHashed (hashed_on page hash)) (hash_line_on page) files hashes each;
          all = λ hash recorded.
              from_in hashes hash (in_members (λ (n : Hashed). n.page) (λ n. n.hash) page (hashed_on page) notes hash (page_itself page) refl (in_hashes notes (hashed_on page hash) (is_said (map of_hash notes) (of_hash (hashed_on page hash)) read.1 recorded.one recorded.there)));
        };
        no_input = λ input recorded. no_note_in notes (noted_on page input) (is_said (map of_hash notes) (of_input (noted_on page input)) read.1 recorded.one recorded.there);
        tally = subst (IsRangeOfHashes hashes) (sym is) read.2.tally;
      }

  kept_all : (saids : List Said) → AreLinesOf lines saids → AreKept (all_lines files)
  kept_all saids says = all_of IsKept (all_lines files) (λ l there. of_all IsKept lines l (kept_lines lines saids says) (to_in lines l (are.all l (from_in (all_lines files) l there))))

  by_kind : (total : ℕ) (t : PageTally) (last : Tallied) → t ≡ finished last → TakesAll (untallied page total) lines last → AreTalliedInputs page lines last ⊎ AreTalliedHashes page lines last → IsRecordTally files page total t × AreOfOneKind (all_lines files)
  by_kind total t last is takes (inl read) = (
    record {
      page_is = ap (λ (x : PageTally). x.page) is ∙ read.2.same;
      total_is = ap (λ (x : PageTally). x.total) is ∙ total_stays lines (untallied page total) last takes;
      of = inl (of_inputs t last is read);
    },
    record {
      kept = kept_all (map of_input read.0) read.1;
      alike = λ (mixed : AreMixed (all_lines files)). no_hash_in read.0 mixed.hashed (is_said (map of_input read.0) (of_hash mixed.hashed) read.1 mixed.is_hashed mixed.hashed_there);
    },
  )
  by_kind total t last is takes (inr read) = (
    record {
      page_is = ap (λ (x : PageTally). x.page) is ∙ read.2.same;
      total_is = ap (λ (x : PageTally). x.total) is ∙ total_stays lines (untallied page total) last takes;
      of = inr (of_hashes t last is read);
    },
    record {
      kept = kept_all (map of_hash read.0) read.1;
      alike = λ (mixed : AreMixed (all_lines files)). no_note_in read.0 mixed.note (is_said (map of_hash read.0) (of_input mixed.note) read.1 mixed.is_note mixed.note_there);
    },
  )

  pub tallied_all : StreamIsTallied → (total : ℕ) → 0 < total → (t : PageTally) → TalliesLines page total lines (Ok t) → IsRecordTally files page total t × AreOfOneKind (all_lines files)
  tallied_all law total some t is = by_kind total t is.0 is.2 is.1 (law page total lines is.0 some is.1)
