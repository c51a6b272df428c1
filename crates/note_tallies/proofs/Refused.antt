-- What a line changes, or why it is refused.
use Rattle.std.proofs.Common.{◌≡◌, ◌≢◌, ◌<◌, Bool, true, false, if◌then◌else◌, List, [], ◌∷◌, ◌++◌, ℕ, Result, Ok, Err, IfOk, OnOk, IfErr, Option, Some, None, MatchOption, refl, sym, ap, ◌∙◌, subst, inl, inr, arith}
use Rattle.bucket_core.specs.Point.{point_of, scale}
use Rattle.book_core.specs.Page.{PageName, page_eq}
use Rattle.book_core.specs.PageOrder.{pages_equal}
use Rattle.page_tally.specs.Folding.{is_above_last}
use Rattle.flag_text.specs.Printing.{text_of}
use Rattle.note_lines.specs.Hashed.{Hashed, IsHashed, has_hash, hashed_line}
use Rattle.note_lines.specs.Note.{Noted, IsNote, note_line, note_shape}
use Rattle.note_lines.proofs.OneKind.{hash_kind, input_kind}
use Rattle.note_tallies.specs.Tally.{IsLineOn, hash_line_on, hashed_on, line_on, noted_on}
use Rattle.note_tallies.proofs.Pages.{same_page}
use Rattle.note_tallies.specs.Lines.{IsSaid, Said, Tallied, has_room, is_alike, of_hash, of_input, passed, said_line, said_page, said_point, tallied, with_point, with_said}
use Rattle.note_tallies.specs.Place.{IsPlace}
use Rattle.note_tallies.specs.Refusals.{Refuses, RefusesSaid, SaysNothing, TakesSaid}
use Rattle.note_tallies.specs.declared.fault.LineTallyFault.{LineTallyFault}
use Rattle.note_tallies.specs.declared.fault.LineTallyFault.TheVariants.{WantOfMemory, Line, Order, TooMany, Mixed}
use Rattle.note_tallies.specs.declared.place.Place.{Place}
use Rattle.note_tallies.specs.declared.place.Place.TheVariants.{Own, Other}

-- ---- what a line that says something changes

abbrev Answer : Type 0
Answer = Result Tallied LineTallyFault

told : (above alike same : Bool) (counted other : Answer) → above ≡ true → alike ≡ true → (if above then (if alike then (if same then counted else other) else Err Mixed) else Err Order) ≡ (if same then counted else other)
told true true same counted other a k = refl
told true false same counted other a k = cc
told false alike same counted other a k = cc

told_order : (above alike same : Bool) (counted other : Answer) → above ≡ false → (if above then (if alike then (if same then counted else other) else Err Mixed) else Err Order) ≡ Err Order
told_order true alike same counted other a = cc
told_order false alike same counted other a = refl

told_mixed : (above alike same : Bool) (counted other : Answer) → above ≡ true → alike ≡ false → (if above then (if alike then (if same then counted else other) else Err Mixed) else Err Order) ≡ Err Mixed
told_mixed true true same counted other a k = cc
told_mixed true false same counted other a k = refl
told_mixed false alike same counted other a k = cc

module _ (t : Tallied) (said : Said) where
  abbrev its_line : List ℕ
  its_line = said_line said

  abbrev counted : Answer
  counted = with_point t its_line (said_point t.total said)

  abbrev other : Answer
  other = Ok (passed t its_line)

  pub said_own : is_above_last t.before its_line ≡ true → is_alike t.before its_line ≡ true → page_eq (said_page said) t.page ≡ true → with_said t said ≡ counted
  said_own above alike same =
      told (is_above_last t.before its_line) (is_alike t.before its_line) (page_eq (said_page said) t.page) counted other above alike ∙ ap (λ (b : Bool). if b then counted else other) same

  pub said_other : is_above_last t.before its_line ≡ true → is_alike t.before its_line ≡ true → page_eq (said_page said) t.page ≡ false → with_said t said ≡ other
  said_other above alike apart =
      told (is_above_last t.before its_line) (is_alike t.before its_line) (page_eq (said_page said) t.page) counted other above alike ∙ ap (λ (b : Bool). if b then counted else other) apart

  said_low : is_above_last t.before its_line ≡ false → with_said t said ≡ Err Order
  said_low low = told_order (is_above_last t.before its_line) (is_alike t.before its_line) (page_eq (said_page said) t.page) counted other low

  said_mixed : is_above_last t.before its_line ≡ true → is_alike t.before its_line ≡ false → with_said t said ≡ Err Mixed
  said_mixed above unlike = told_mixed (is_above_last t.before its_line) (is_alike t.before its_line) (page_eq (said_page said) t.page) counted other above unlike

-- ---- what it says

-- it says something, whatever place it has
says : (t : Tallied) (line : List ℕ) (place : Place) → IsPlace t line place → (said : Said) × IsSaid said × (line ≡ said_line said)
says t line (Own at) is = (is.0, is.1, is.2)
says t line Other is = (is.0, is.1, is.2)

pub order_refused : (t : Tallied) (line : List ℕ) (place : Place) → IsPlace t line place → is_above_last t.before line ≡ false → Refuses t line Order
order_refused t line place is low =
    let s = says t line place is in
    (s.0, s.1, s.2, said_low t s.0 (subst (λ (l : List ℕ). is_above_last t.before l ≡ false) s.2 low))

pub mixed_refused : (t : Tallied) (line : List ℕ) (place : Place) → IsPlace t line place → is_above_last t.before line ≡ true → is_alike t.before line ≡ false → Refuses t line Mixed
mixed_refused t line place is above unlike =
    let s = says t line place is in
    (s.0, s.1, s.2, said_mixed t s.0 (subst (λ (l : List ℕ). is_above_last t.before l ≡ true) s.2 above) (subst (λ (l : List ℕ). is_alike t.before l ≡ false) s.2 unlike))

-- ---- a line of the page

module _ (t : Tallied) (line : List ℕ) (at : ℕ) (is : IsPlace t line (Own at)) (above : is_above_last t.before line ≡ true) (alike : is_alike t.before line ≡ true) where
  own_is : with_said t is.0 ≡ with_point t line at
  own_is =
      said_own t is.0 (subst (λ (l : List ℕ). is_above_last t.before l ≡ true) is.2 above) (subst (λ (l : List ℕ). is_alike t.before l ≡ true) is.2 alike) is.3
      ∙ ap (λ (l : List ℕ). with_point t l (said_point t.total is.0)) (sym is.2) ∙ ap (with_point t line) (sym is.4)

  pub own_taken : {X : Type 0} (r : Result X LineTallyFault) (new : Tallied) → OnOk r (with_point t line at ≡ Ok new) → OnOk r (TakesSaid t line new)
  own_taken (Ok x) new taken = (is.0, is.1, is.2, own_is ∙ taken)
  own_taken (Err e) new taken = tt

  never_line : (room : Bool) → (let r : Answer = if room then Ok (tallied t line at) else Err TooMany in r) ≡ Err Line → ⊥
  never_line true e = cc
  never_line false e = cc

  own_fault : (fault : LineTallyFault) → (fault ≢ WantOfMemory → with_point t line at ≡ Err fault) → Refuses t line fault
  own_fault WantOfMemory why = tt
  own_fault Line why = absurd (never_line (has_room t at) (why (λ e. cc)))
  own_fault Order why = (is.0, is.1, is.2, own_is ∙ why (λ e. cc))
  own_fault TooMany why = (is.0, is.1, is.2, own_is ∙ why (λ e. cc))
  own_fault Mixed why = (is.0, is.1, is.2, own_is ∙ why (λ e. cc))

  pub own_refused : {X : Type 0} (r : Result X LineTallyFault) → IfErr r (λ fault. fault ≢ WantOfMemory → with_point t line at ≡ Err fault) → IfErr r (λ fault. Refuses t line fault)
  own_refused (Ok x) why = tt
  own_refused (Err fault) why = own_fault fault why

-- its line is one of the page
on_page : (said : Said) (page : PageName) → IsSaid said → page_eq (said_page said) page ≡ true → IsLineOn page (said_line said)
on_page (of_input note) page is same =
    let p : note.page ≡ page = same_page note.page page same in
    inl (note.input, subst (λ (q : PageName). IsNote (noted_on q note.input)) p is, ap (λ (q : PageName). line_on q note.input) p)
on_page (of_hash note) page is same =
    let p : note.page ≡ page = same_page note.page page same in
    inr (note.hash, subst (λ (q : PageName). IsHashed (hashed_on q note.hash)) p is, ap (λ (q : PageName). hash_line_on q note.hash) p)

pub own_line : (t : Tallied) (line : List ℕ) (at : ℕ) → IsPlace t line (Own at) → IsLineOn t.page line
own_line t line at is = subst (IsLineOn t.page) (sym is.2) (on_page is.0 t.page is.1 is.3)

pub own_below : (t : Tallied) (line : List ℕ) (at : ℕ) → IsPlace t line (Own at) → at < t.total
own_below t line at is = is.5

-- ---- a line of another page

pub other_taken : {X : Type 0} (t new : Tallied) (line : List ℕ) (r : Result X LineTallyFault) → IsPlace t line Other → is_above_last t.before line ≡ true → is_alike t.before line ≡ true → OnOk r (new ≡ passed t line) → OnOk r (TakesSaid t line new)
other_taken t new line (Ok x) is above alike done = (
  is.0,
  is.1,
  is.2,
  said_other t is.0 (subst (λ (l : List ℕ). is_above_last t.before l ≡ true) is.2 above) (subst (λ (l : List ℕ). is_alike t.before l ≡ true) is.2 alike) is.3
      ∙ ap (λ (l : List ℕ). Ok (passed t l)) (sym is.2) ∙ ap (λ (u : Tallied). Ok u) (sym done),
)
other_taken t new line (Err e) is above alike done = tt

pub other_refused : {X : Type 0} (t : Tallied) (line : List ℕ) (r : Result X LineTallyFault) → IfErr r (λ fault. fault ≡ WantOfMemory) → IfErr r (λ fault. Refuses t line fault)
other_refused t line (Ok x) want = tt
other_refused t line (Err fault) want = subst (Refuses t line) (sym want) tt

-- ---- what is read of a line

-- of a line of the kind without inputs, and of one of the other kind
module _ (line : List ℕ) where
  pub no_hash : has_hash line ≡ true → ((note : Hashed) → IsHashed note → line ≢ hashed_line note) → SaysNothing line
  no_hash kind none (of_hash note) is same = none note is same
  no_hash kind none (of_input note) is same = let input : has_hash line ≡ false = ap has_hash same ∙ input_kind note in cc

  pub no_input : has_hash line ≡ false → ((note : Noted) → IsNote note → line ≢ note_line note) → SaysNothing line
  no_input kind none (of_input note) is same = none note is same
  no_input kind none (of_hash note) is same = let hash : has_hash line ≡ true = ap has_hash same ∙ hash_kind note is in cc

abbrev Told : {X : Type 0} → Tallied → List ℕ → (X → Type 0) → (X → List ℕ) → Option Place → Type 0
Told {X} t line is spelled o = MatchOption o ((x : X) → is x → line ≢ spelled x) (IsPlace t line)

pub matched_hash : {E : Type 0} (t : Tallied) (line : List ℕ) (r : Result (Option Place) E) → has_hash line ≡ true → IfOk r (Told t line IsHashed hashed_line) → IfOk r (Told t line IsSaid said_line)
matched_hash t line (Ok None) kind none = no_hash line kind none
matched_hash t line (Ok (Some place)) kind is = is
matched_hash t line (Err e) kind none = tt

pub matched_input : {E : Type 0} (t : Tallied) (line : List ℕ) (r : Result (Option Place) E) → has_hash line ≡ false → IfOk r (Told t line IsNote note_line) → IfOk r (Told t line IsSaid said_line)
matched_input t line (Ok None) kind none = no_input line kind none
matched_input t line (Ok (Some place)) kind is = is
matched_input t line (Err e) kind none = tt

-- where a line has a place
pub has_place : (t : Tallied) (line : List ℕ) (o : Option Place) (place : Place) → o ≡ Some place → Told t line IsSaid said_line o → IsPlace t line place
has_place t line o place is told = subst (Told t line IsSaid said_line) is told

-- a note of the page, and one of another
pub note_own : (t : Tallied) (line : List ℕ) (note : Noted) (at : ℕ) → IsNote note → line ≡ note_line note → page_eq note.page t.page ≡ true → at ≡ point_of t.total note.input → at < t.total → IsPlace t line (Own at)
note_own t line note at is same page here below = (of_input note, is, same, page, here, below)

pub own_input : (t : Tallied) (line input : List ℕ) (at : ℕ) → IsNote (noted_on t.page input) × (line ≡ line_on t.page input) → at ≡ point_of t.total input → at < t.total → IsPlace t line (Own at)
own_input t line input at is here below = note_own t line (noted_on t.page input) at is.0 is.1 (pages_equal.refl t.page) here below

pub note_other : (t : Tallied) (line : List ℕ) (note : Noted) → IsNote note → line ≡ note_line note → page_eq note.page t.page ≡ false → IsPlace t line Other
note_other t line note is same page = (of_input note, is, same, page)

pub hash_own : (t : Tallied) (line : List ℕ) (note : Hashed) (at : ℕ) → IsHashed note → line ≡ hashed_line note → page_eq note.page t.page ≡ true → at ≡ scale t.total note.hash → at < t.total → IsPlace t line (Own at)
hash_own t line note at is same page here below = (of_hash note, is, same, page, here, below)

pub hash_other : (t : Tallied) (line : List ℕ) (note : Hashed) → IsHashed note → line ≡ hashed_line note → page_eq note.page t.page ≡ false → IsPlace t line Other
hash_other t line note is same page = (of_hash note, is, same, page)

-- the line of a note ends with a line feed
pub ends_so : (line : List ℕ) (note : Noted) → line ≡ note_line note → ((text : List ℕ) → line ≢ text ++ 10 ∷ []) → ⊥
unfolding note_line
ends_so line note same none = none (text_of (note_shape note)) same
