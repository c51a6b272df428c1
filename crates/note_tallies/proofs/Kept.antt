-- What a line leaves is a tally.
use Rattle.std.proofs.Common.{◌≡◌, ◌≢◌, ◌<◌, ◌+◌, ℕ, Bool, true, false, List, length, get_or, set, Option, Some, None, option_map, nat_lt, refl, sym, ap, ◌∙◌, subst, ⊎_elim, arith, length-set}
use borrow.Author.Tests.{ltb-true, lt-ltb}
use Rattle.std.specs.Bool.{beq}
use Rattle.std.specs.Option.{is_some, option_or}
use Rattle.std.proofs.lemmas.Bool.{and_from, and_parts, cases_eq}
use Rattle.std.proofs.lemmas.List.{get_or-set_same, get_or-set_other}
use Rattle.std.proofs.lemmas.List.Sums.{sum_by-set}
use Rattle.book_core.specs.Page.{PageName, bytes_cmp}
use Rattle.page_tally.specs.Folding.{is_above_last}
use Rattle.note_lines.specs.Hashed.{has_hash}
use Rattle.note_tallies.specs.Tally.{IsTallyTotal, AreEnds, IsLineOn, most_at_point, most_in_all}
use Rattle.note_tallies.proofs.JoinEnds.{le_from_lt, le_trans, le_itself}
use Rattle.note_tallies.proofs.Zeros.{none_is}
use Rattle.note_tallies.specs.Lines.{Tallied, untallied, passed, tallied, has_room, is_alike, IsWithin, IsTally}

same_from_beq : (x y : Bool) → beq x y ≡ true → x ≡ y
same_from_beq true true e = refl
same_from_beq true false e = cc
same_from_beq false true e = cc
same_from_beq false false e = refl

within_next : (last before : Option (List ℕ)) (line : List ℕ) → IsWithin last before → is_above_last before line ≡ true → is_alike before line ≡ true → IsWithin last (Some line)
within_next None before line within above alike = tt
within_next (Some last) None line within above alike = absurd within
within_next (Some last) (Some before) line within above alike =
    (le_trans last before line within.0 (le_from_lt (bytes_cmp before line) above), within.1 ∙ same_from_beq (has_hash before) (has_hash line) alike)

-- a line of another page
pub passed_is : (t : Tallied) (line : List ℕ) → IsTally t → is_above_last t.before line ≡ true → is_alike t.before line ≡ true → IsTally (passed t line)
passed_is t line is above alike = record { lawful = is.lawful; within = within_next t.last t.before line is.within above alike }

ends_next : (page : PageName) (inputs : ℕ) (first last before : Option (List ℕ)) (line : List ℕ) → AreEnds page inputs first last → IsWithin last before → is_above_last before line ≡ true → is_alike before line ≡ true → IsLineOn page line
    → AreEnds page (inputs + 1) (option_or first (Some line)) (Some line)
ends_next page inputs None None before line are within above alike on = (omega arith, on, on, le_itself line, refl)
ends_next page inputs None (Some last) before line are within above alike on = absurd are
ends_next page inputs (Some first) None before line are within above alike on = absurd are
ends_next page inputs (Some first) (Some last) before line are within above alike on =
    let next = within_next (Some last) before line within above alike in
    (omega arith, are.1, on, le_trans first last line are.3 next.0, are.4 ∙ next.1)

-- a line of the page
pub tallied_is : (t : Tallied) (line : List ℕ) (at : ℕ) → IsTally t → is_above_last t.before line ≡ true → is_alike t.before line ≡ true → IsLineOn t.page line → at < t.total → has_room t at ≡ true → IsTally (tallied t line at)
tallied_is t line at is above alike on below room =
    let had = get_or t.counts at 0 in
    let parts = and_parts (nat_lt t.inputs most_in_all) (nat_lt had most_at_point) room in
    let more : t.inputs < most_in_all = ltb-true _ _ parts.0 in
    let few : had < most_at_point = ltb-true _ _ parts.1 in
    let inside : at < length t.counts = omega (arith, is.lawful.whole, below) in
    let sums = sum_by-set (λ (n : ℕ). n) t.counts at (had + 1) 0 inside in
    record {
      lawful = record {
        allowed = is.lawful.allowed;
        whole = length-set t.counts at (had + 1) ∙ is.lawful.whole;
        small = λ p. ⊎_elim
            (λ (same : p ≡ at). let here = ap (λ q. get_or (set t.counts at (had + 1)) q 0) same ∙ get_or-set_same t.counts at (had + 1) 0 inside in omega (arith, here, few))
            (λ (other : p ≢ at). let here = get_or-set_other t.counts at p (had + 1) 0 other in let old = is.lawful.small p in omega (arith, here, old))
            (cases_eq p at);
        added = omega (arith, is.lawful.added, sums);
        few = omega (arith, more);
        ends = ends_next t.page t.inputs t.first t.last t.before line is.lawful.ends is.within above alike on;
      };
      within = (le_itself line, refl);
    }

-- before the first line
pub untallied_is : (page : PageName) (total : ℕ) → IsTallyTotal total → IsTally (untallied page total)
untallied_is page total allowed = record { lawful = none_is page total allowed; within = tt }

-- what was counted, part by part
pub counted_is : (v : Tallied) (line : List ℕ) (place : ℕ) (page : PageName) (total : ℕ) (before last first : Option (List ℕ)) (inputs : ℕ) (counts : List ℕ) (at had : ℕ) → IsTally v → is_above_last v.before line ≡ true → is_alike v.before line ≡ true
    → IsLineOn v.page line → place < v.total → has_room v place ≡ true
    → page ≡ v.page → total ≡ v.total → before ≡ Some line → first ≡ option_or v.first (Some line) → last ≡ Some line → inputs ≡ v.inputs → counts ≡ v.counts → at ≡ place → had ≡ get_or v.counts place 0
    → IsTally (record { page = page; total = total; before = before; first = first; last = last; inputs = inputs + 1; counts = set counts at (had + 1) })
counted_is v line place page total before last first inputs counts at had is above alike on below room p t b f l n c a h =
    let new : Tallied = record { page = page; total = total; before = before; first = first; last = last; inputs = inputs + 1; counts = set counts at (had + 1) } in
    let same : new ≡ tallied v line place = λ i. record { page = p i; total = t i; before = b i; first = f i; last = l i; inputs = n i + 1; counts = set (c i) (a i) (h i + 1) } in
    subst IsTally (sym same) (tallied_is v line place is above alike on below room)

pub none_first : {X : Type 0} (f : X → List ℕ) (o : Option X) (line own : List ℕ) → is_some o ≡ false → own ≡ line → Some own ≡ option_or (option_map f o) (Some line)
none_first f None line own none same = ap (λ (l : List ℕ). Some l) same
none_first f (Some x) line own none same = cc

pub some_first : {X : Type 0} (f : X → List ℕ) (o : Option X) (line : List ℕ) → is_some o ≡ true → option_map f o ≡ option_or (option_map f o) (Some line)
some_first f None line some = cc
some_first f (Some x) line some = refl

pub room_is : (v : Tallied) (at : ℕ) → v.inputs < most_in_all → get_or v.counts at 0 < most_at_point → has_room v at ≡ true
room_is v at more few = and_from (nat_lt v.inputs most_in_all) (nat_lt (get_or v.counts at 0) most_at_point) (lt-ltb v.inputs most_in_all more) (lt-ltb (get_or v.counts at 0) most_at_point few)

-- what was passed over, part by part
pub passed_by : (v : Tallied) (line : List ℕ) (before last : Option (List ℕ)) → IsTally v → is_above_last v.before line ≡ true → is_alike v.before line ≡ true → before ≡ Some line → last ≡ v.last
    → IsTally (record { page = v.page; total = v.total; before = before; first = v.first; last = last; inputs = v.inputs; counts = v.counts })
passed_by v line before last is above alike b l =
    let new : Tallied = record { page = v.page; total = v.total; before = before; first = v.first; last = last; inputs = v.inputs; counts = v.counts } in
    let same : new ≡ passed v line = λ i. record { page = v.page; total = v.total; before = b i; first = v.first; last = l i; inputs = v.inputs; counts = v.counts } in
    subst IsTally (sym same) (passed_is v line is above alike)
