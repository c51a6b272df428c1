-- Lines that rise, taken one after another.
use Rattle.std.proofs.Common.{◌≡◌, ◌+◌, ℕ, Bool, true, false, if◌then◌else◌, List, [], ◌∷◌, ◌++◌, Some, None, Option, Result, Ok, Err, append_assoc, append-nil, refl, sym, ap, ◌∙◌, subst, inl, inr}
use Rattle.std.specs.List.{AllByRecursion}
use Rattle.std.specs.List.Sorted.{IsStrictlySortedBy}
use Rattle.std.specs.Bool.{beq}
use Rattle.std.specs.Ordering.{is_lt}
use Rattle.std.specs.declared.cmp.Ordering.TheVariants.{Less}
use Rattle.std.proofs.lemmas.Map.Keys.{sorted_head, sorted_tail}
use Rattle.book_core.proofs.Ordered.{All-weaker}
use Rattle.book_core.specs.Page.{PageName, bytes_cmp, page_eq}
use Rattle.note_tallies.specs.Lines.{IsSaid, Said, Tallied, finished, has_room, is_alike, of_hash, of_input, passed, said_line, said_page, said_point, tallied, untallied, with_said}
use Rattle.note_tallies.specs.Refusals.{Refuses}
use Rattle.note_tallies.specs.declared.fault.LineTallyFault.{LineTallyFault}
use Rattle.note_tallies.specs.declared.fault.LineTallyFault.TheVariants as line
use Rattle.note_lines.proofs.OneKind.{hash_kind, input_kind}
use Rattle.note_lines.specs.Hashed.{has_hash, hashed_line}
use Rattle.note_lines.specs.Note.{note_line}
use Rattle.page_tally.specs.Folding.{is_above_last}
use Rattle.note_tallies.specs.Tally.{PageTally}
use Rattle.note_tallies.specs.Blank.{is_blank}
use Rattle.note_tallies.specs.Filter.{Filtered, RefusesLine, Takes, TakesAll, numbered}
use Rattle.note_tallies.specs.declared.filter_fault.FilterFault.{FilterFault}
use Rattle.note_streams.proofs.Among.{In, from_in, in_front, in_middle}
use Rattle.note_streams.specs.LogRecorded.{AreMixed}
use Rattle.note_streams.specs.Sorted.{TalliesLines}

-- one line more at the end
takes_more : (lines : List (List ℕ)) (line : List ℕ) (old mid new : Tallied) → TakesAll old lines mid → Takes mid line new → TakesAll old (lines ++ line ∷ []) new
takes_more [] line old mid new all one = (new, subst (λ (t : Tallied). Takes t line new) all one, refl)
takes_more (l ∷ ls) line old mid new all one = (all.0, all.1, takes_more ls line all.0 mid new all.2 one)

-- ---- what the next line finds

-- the last line that was taken is below all that are left
abbrev pub AreAbove : Option (List ℕ) → List (List ℕ) → Type 0
AreAbove last rest = AllByRecursion (λ (l : List ℕ). is_above_last last l ≡ true) rest

-- the line of a note is the last of all then
before_by : (above alike same room : Bool) (t new : Tallied) (said : Said)
    → (let r : Result Tallied LineTallyFault = if above then (if alike then (if same then (if room then Ok (tallied t (said_line said) (said_point t.total said)) else Err line.TooMany) else Ok (passed t (said_line said))) else Err line.Mixed) else Err line.Order in r) ≡ Ok new → new.before ≡ Some (said_line said)
before_by true true true true t new said is = let same : tallied t (said_line said) (said_point t.total said) ≡ new = cc in ap (λ (x : Tallied). x.before) (sym same)
before_by true true true false t new said is = cc
before_by true true false room t new said is = let same : passed t (said_line said) ≡ new = cc in ap (λ (x : Tallied). x.before) (sym same)
before_by true false same room t new said is = cc
before_by false alike same room t new said is = cc

before_is : (t new : Tallied) (said : Said) → with_said t said ≡ Ok new → new.before ≡ Some (said_line said)
before_is t new said is = before_by (is_above_last t.before (said_line said)) (is_alike t.before (said_line said)) (page_eq (said_page said) t.page) (has_room t (said_point t.total said)) t new said is

-- the last of all is one of these lines, and says something
abbrev pub EndsAmong : List (List ℕ) → Option (List ℕ) → Type 0
EndsAmong before None = Unit {0}
EndsAmong before (Some last) = (said : Said) × IsSaid said × (last ≡ said_line said) × In last before

ends_more : (before : List (List ℕ)) (l : List ℕ) (last : Option (List ℕ)) → EndsAmong before last → EndsAmong (before ++ l ∷ []) last
ends_more before l None is = tt
ends_more before l (Some last) is = (is.0, is.1, is.2, in_front before (l ∷ []) last is.3)

ends_next : (before : List (List ℕ)) (l : List ℕ) (old new : Tallied) → EndsAmong before old.before → Takes old l new → EndsAmong (before ++ l ∷ []) new.before
ends_next before l old new is (inl blank) = subst (λ (t : Tallied). EndsAmong (before ++ l ∷ []) t.before) (sym blank.1) (ends_more before l old.before is)
ends_next before l old new is (inr some) =
    let said = some.1 in
    let last : new.before ≡ Some l = before_is old new said.0 said.3 ∙ ap (λ (k : List ℕ). Some k) (sym said.2) in
    subst (EndsAmong (before ++ l ∷ [])) (sym last) (said.0, said.1, said.2, in_middle before [] l)

less_above : (l : List ℕ) (ls : List (List ℕ)) → AllByRecursion (λ (k : List ℕ). bytes_cmp l k ≡ Less) ls → AreAbove (Some l) ls
less_above l ls all = All-weaker (λ (k : List ℕ). bytes_cmp l k ≡ Less) (λ (k : List ℕ). is_above_last (Some l) k ≡ true) ls (λ k less. ap is_lt less) all

next_above : (old new : Tallied) (l : List ℕ) (ls : List (List ℕ)) → IsStrictlySortedBy bytes_cmp (l ∷ ls) → AreAbove old.before (l ∷ ls) → Takes old l new → AreAbove new.before ls
next_above old new l ls rising above (inl blank) = subst (λ (t : Tallied). AreAbove t.before ls) (sym blank.1) above.1
next_above old new l ls rising above (inr some) =
    let said = some.1 in
    let last : new.before ≡ Some l = before_is old new said.0 said.3 ∙ ap (λ (k : List ℕ). Some k) (sym said.2) in
    subst (λ (o : Option (List ℕ)). AreAbove o ls) (sym last) (less_above l ls (sorted_head bytes_cmp l ls rising))

pub record Stands (page : PageName) (total : ℕ) (lines rest : List (List ℕ)) (f : Filtered) : Type 0 where
  pub before : List (List ℕ)
  pub split : lines ≡ before ++ rest
  pub takes : TakesAll (untallied page total) before f.tally
  pub rising : IsStrictlySortedBy bytes_cmp rest
  pub above : AreAbove f.tally.before rest
  pub ends : EndsAmong before f.tally.before

all_above : (lines : List (List ℕ)) → AreAbove None lines
all_above [] = tt
all_above (l ∷ ls) = (refl, all_above ls)

pub begun : (page : PageName) (total : ℕ) (lines : List (List ℕ)) (f : Filtered) → f ≡ record { tally = untallied page total; lines = 0 } → IsStrictlySortedBy bytes_cmp lines → Stands page total lines lines f
begun page total lines f is rising = subst (Stands page total lines lines) (sym is) (record {
  before = [];
  split = refl;
  takes = refl;
  rising = rising;
  above = all_above lines;
  ends = tt;
})

-- ---- why it is refused

-- no line is out of order
in_order : (above alike same room : Bool) (t : Tallied) (said : Said) → above ≡ true
    → (let r : Result Tallied LineTallyFault = if above then (if alike then (if same then (if room then Ok (tallied t (said_line said) (said_point t.total said)) else Err line.TooMany) else Ok (passed t (said_line said))) else Err line.Mixed) else Err line.Order in r) ≡ Err line.Order → ⊥
in_order true true true true t said up refused = cc
in_order true true true false t said up refused = cc
in_order true true false room t said up refused = cc
in_order true false same room t said up refused = cc
in_order false alike same room t said up refused = cc

no_room : (above alike same room : Bool) (t : Tallied) (said : Said)
    → (let r : Result Tallied LineTallyFault = if above then (if alike then (if same then (if room then Ok (tallied t (said_line said) (said_point t.total said)) else Err line.TooMany) else Ok (passed t (said_line said))) else Err line.Mixed) else Err line.Order in r) ≡ Err line.TooMany → (same ≡ true) × (room ≡ false)
no_room true true true true t said refused = cc
no_room true true true false t said refused = (refl, refl)
no_room true true false room t said refused = cc
no_room true false same room t said refused = cc
no_room false alike same room t said refused = cc

unlike_last : (above alike same room : Bool) (t : Tallied) (said : Said)
    → (let r : Result Tallied LineTallyFault = if above then (if alike then (if same then (if room then Ok (tallied t (said_line said) (said_point t.total said)) else Err line.TooMany) else Ok (passed t (said_line said))) else Err line.Mixed) else Err line.Order in r) ≡ Err line.Mixed → alike ≡ false
unlike_last true true true true t said refused = cc
unlike_last true true true false t said refused = cc
unlike_last true true false room t said refused = cc
unlike_last true false same room t said refused = refl
unlike_last false alike same room t said refused = cc

-- two lines of different kinds
kinds : (lines : List (List ℕ)) (one other : Said) → IsSaid one → IsSaid other → In (said_line one) lines → In (said_line other) lines → beq (has_hash (said_line one)) (has_hash (said_line other)) ≡ false → AreMixed lines
kinds lines (of_input one) (of_input other) is also here there unlike =
    let a = input_kind one in
    let b = input_kind other in
    let same : beq (has_hash (note_line one)) (has_hash (note_line other)) ≡ true = rw (a, b) refl in
    cc
kinds lines (of_hash one) (of_hash other) is also here there unlike =
    let a = hash_kind one is in
    let b = hash_kind other also in
    let same : beq (has_hash (hashed_line one)) (has_hash (hashed_line other)) ≡ true = rw (a, b) refl in
    cc
kinds lines (of_input one) (of_hash other) is also here there unlike = record {
  note = one;
  is_note = is;
  note_there = from_in lines (note_line one) here;
  hashed = other;
  is_hashed = also;
  hashed_there = from_in lines (hashed_line other) there;
}
kinds lines (of_hash one) (of_input other) is also here there unlike = record {
  note = other;
  is_note = also;
  note_there = from_in lines (note_line other) there;
  hashed = one;
  is_hashed = is;
  hashed_there = from_in lines (hashed_line one) here;
}

two_kinds : (lines before : List (List ℕ)) (last : Option (List ℕ)) (said : Said) → ((k : List ℕ) → In k before → In k lines) → IsSaid said → In (said_line said) lines → EndsAmong before last → is_alike last (said_line said) ≡ false → AreMixed lines
two_kinds lines before None said among is there ends unlike = cc
two_kinds lines before (Some last) said among is there ends unlike =
    kinds lines ends.0 said ends.1 is (subst (λ (k : List ℕ). In k lines) ends.2 (among last ends.3)) there
    (subst (λ (k : List ℕ). beq (has_hash k) (has_hash (said_line said)) ≡ false) ends.2 unlike)

module _ (page : PageName) (total : ℕ) (lines rest others : List (List ℕ)) (l : List ℕ) (is : rest ≡ l ∷ others) (f : Filtered) (stands : Stands page total lines rest f) where
  here : lines ≡ stands.before ++ l ∷ others
  here = stands.split ∙ ap (λ (ls : List (List ℕ)). stands.before ++ ls) is

  rising_here : IsStrictlySortedBy bytes_cmp (l ∷ others)
  rising_here = subst (IsStrictlySortedBy bytes_cmp) is stands.rising

  above_here : AreAbove f.tally.before (l ∷ others)
  above_here = subst (AreAbove f.tally.before) is stands.above

  -- a line that is taken
  pub taken : (new : Filtered) → (new.lines ≡ f.lines + 1) × Takes f.tally l new.tally → Stands page total lines others new
  taken new takes = record {
    before = stands.before ++ l ∷ [];
    split = here ∙ sym (append_assoc stands.before (l ∷ []) others);
    takes = takes_more stands.before l (untallied page total) f.tally new.tally stands.takes takes.1;
    rising = sorted_tail bytes_cmp l others rising_here;
    above = next_above f.tally new.tally l others rising_here above_here takes.1;
    ends = ends_next stands.before l f.tally new.tally stands.ends takes.1;
  }

  refused_for : (cause : LineTallyFault) (n : ℕ) → is_blank l ≡ false → Refuses f.tally l cause → TalliesLines page total lines (Err (numbered cause n))
  refused_for line.WantOfMemory n some why = tt
  refused_for line.Line n some why =
      (l, from_in lines l (subst (λ (ls : List (List ℕ)). In l ls) (sym here) (in_middle stands.before others l)), record { some = some; none = why })
  refused_for line.Order n some why =
      let up = subst (λ (k : List ℕ). is_above_last f.tally.before k ≡ true) why.2 above_here.0 in
      in_order (is_above_last f.tally.before (said_line why.0)) (is_alike f.tally.before (said_line why.0)) (page_eq (said_page why.0) f.tally.page) (has_room f.tally (said_point f.tally.total why.0)) f.tally why.0 up why.3
  refused_for line.TooMany n some why =
      let both = no_room (is_above_last f.tally.before (said_line why.0)) (is_alike f.tally.before (said_line why.0)) (page_eq (said_page why.0) f.tally.page) (has_room f.tally (said_point f.tally.total why.0)) f.tally why.0 why.3 in
      record {
        before = stands.before;
        said = why.0;
        after = others;
        split = here ∙ ap (λ (k : List ℕ). stands.before ++ k ∷ others) why.2;
        is_said = why.1;
        tally = f.tally;
        takes = stands.takes;
        same = both.0;
        full = both.1;
      }
  refused_for line.Mixed n some why =
      let unlike = unlike_last (is_above_last f.tally.before (said_line why.0)) (is_alike f.tally.before (said_line why.0)) (page_eq (said_page why.0) f.tally.page) (has_room f.tally (said_point f.tally.total why.0)) f.tally why.0 why.3 in
      two_kinds lines stands.before f.tally.before why.0
      (λ k there. subst (In k) (sym here) (in_front stands.before (l ∷ others) k there))
      why.1 (subst (λ (k : List ℕ). In k lines) why.2 (subst (In l) (sym here) (in_middle stands.before others l))) stands.ends unlike

  -- a line that is refused
  pub refused : (fault : FilterFault) (new : Filtered) → RefusesLine f l fault new → TalliesLines page total lines (Err fault)
  refused fault new refuses =
      let why = refuses.why in
      subst (λ (e : FilterFault). TalliesLines page total lines (Err e)) (sym why.1) (refused_for why.0 (f.lines + 1) refuses.some why.2)

-- no line is left
pub ended : (page : PageName) (total : ℕ) (lines rest : List (List ℕ)) (f : Filtered) (t : PageTally) → rest ≡ [] → Stands page total lines rest f → t ≡ finished f.tally → TalliesLines page total lines (Ok t)
ended page total lines rest f t none stands is =
    let all : lines ≡ stands.before = stands.split ∙ ap (λ (ls : List (List ℕ)). stands.before ++ ls) none ∙ append-nil stands.before in
    (f.tally, subst (λ (ls : List (List ℕ)). TakesAll (untallied page total) ls f.tally) (sym all) stands.takes, is)
