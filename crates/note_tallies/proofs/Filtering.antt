-- A stream is tallied as what its lines say is.
use Rattle.std.proofs.Common.{◌≡◌, ◌<◌, ◌+◌, ◌⊎◌, ℕ, OnOk, OnErr, IfErr, List, [], ◌∷◌, ◌++◌, map, Result, Ok, Err, true, false, refl, sym, ap, ◌∙◌, subst, inl, inr, ⊎_elim}
use Rattle.std.specs.List.{AllByRecursion}
use Rattle.book_core.specs.Page.{PageName}
use Rattle.note_lines.specs.Hashed.{Hashed}
use Rattle.note_lines.specs.Note.{Noted}
use Rattle.note_tallies.specs.Law.{IsTallyOfHashedNotes, IsTallyOfNotes, TalliedAreOfOneKind, with_hashes, with_notes, with_saids}
use Rattle.note_tallies.specs.Lines.{IsSaid, Said, Tallied, of_hash, of_input, untallied}
use Rattle.note_tallies.specs.Refusals.{Refuses, TakesSaid}
use Rattle.note_tallies.specs.declared.fault.LineTallyFault.{LineTallyFault}
use Rattle.note_tallies.specs.Blank.{is_blank}
use Rattle.note_tallies.specs.Filter.{AreLinesOf, AreTalliedHashes, AreTalliedInputs, Filtered, StreamIsTallied, Takes, TakesAll, TakesLine, numbered_answer}

abbrev okay : Tallied → Result Tallied LineTallyFault
okay t = Ok t

record Says (old : Tallied) (lines : List (List ℕ)) (new : Tallied) : Type 0 where
  saids : List Said
  are : AllByRecursion IsSaid saids
  lines_are : AreLinesOf lines saids
  tallied : with_saids (okay old) saids ≡ okay new

said : (lines : List (List ℕ)) (old new : Tallied) → TakesAll old lines new → Says old lines new
said [] old new takes = record { saids = []; are = tt; lines_are = refl; tallied = ap okay (sym takes) }
said (line ∷ lines) old new takes =
    let later : Says takes.0 lines new = said lines takes.0 new takes.2 in
    ⊎_elim
    (λ (blank : (is_blank line ≡ true) × (takes.0 ≡ old)). (record {
      saids = later.saids;
      are = later.are;
      lines_are = inl (blank.0, later.lines_are);
      tallied = subst (λ (t : Tallied). with_saids (okay t) later.saids ≡ okay new) blank.1 later.tallied;
    }))
    (λ (some : (is_blank line ≡ false) × TakesSaid old line takes.0).
    let one = some.1 in record {
      saids = one.0 ∷ later.saids;
      are = (one.1, later.are);
      lines_are = inr (one.0, later.saids, refl, one.1, one.2, later.lines_are);
      tallied = ap (λ (r : Result Tallied LineTallyFault). with_saids r later.saids) one.3 ∙ later.tallied;
    })
    takes.1

abbrev pub TalliesNotes : Type 0
TalliesNotes = (page : PageName) (total : ℕ) (notes : List Noted) (tally : Tallied) → 0 < total → with_notes (okay (untallied page total)) notes ≡ okay tally → IsTallyOfNotes page notes tally

abbrev pub TalliesHashes : Type 0
TalliesHashes = (page : PageName) (total : ℕ) (notes : List Hashed) (tally : Tallied) → 0 < total → with_hashes (okay (untallied page total)) notes ≡ okay tally → IsTallyOfHashedNotes page notes tally

pub stream : TalliesNotes → TalliesHashes → TalliedAreOfOneKind → StreamIsTallied
stream of_notes of_hashes kinds page total lines t some takes =
    let says = said lines (untallied page total) t takes in
    elim (kinds page total says.saids t says.are says.tallied) [
      | inl notes ↦ inl (
        notes.0,
        subst (AreLinesOf lines) notes.1 says.lines_are,
        of_notes page total notes.0 t some (subst (λ (ss : List Said). with_saids (okay (untallied page total)) ss ≡ okay t) notes.1 says.tallied),
      )
      | inr notes ↦ inr (
        notes.0,
        subst (AreLinesOf lines) notes.1 says.lines_are,
        of_hashes page total notes.0 t some (subst (λ (ss : List Said). with_saids (okay (untallied page total)) ss ≡ okay t) notes.1 says.tallied),
      )
    ]

-- what the tally answers of a line that is not blank, with its number
pub takes : (old : Filtered) (line : List ℕ) (r : Result (Unit {0}) LineTallyFault) (new : Tallied) → is_blank line ≡ false → OnOk r (TakesSaid old.tally line new) → IfErr r (λ fault. Refuses old.tally line fault) → OnErr r (new ≡ old.tally)
    → TakesLine old line (numbered_answer r (old.lines + 1)) (record { tally = new; lines = old.lines + 1 })
takes old line (Ok u) new some taken refused same = (refl, inr (some, taken))
takes old line (Err fault) new some taken refused same = record { some = some; why = (fault, refl, refused); same = same }
