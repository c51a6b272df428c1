-- A line is that of an input of a page, or of a hash, exactly where it is that of a note of the page.
use Rattle.std.proofs.Common.{◌≡◌, ◌↔◌, ℕ, Bool, true, List, None, IsTrue, Result, Ok, Err, IfOk, sym, ap, ◌∙◌, subst, inl, inr}
use Rattle.book_core.specs.Page.{PageName, page_eq}
use Rattle.book_core.specs.PageOrder.{pages_equal}
use Rattle.note_lines.specs.Hashed.{Hashed, IsHashed, hashed_line}
use Rattle.note_lines.specs.Note.{Noted, IsNote, note_line}
use Rattle.note_lines.specs.Reading.{Reads, ReadsHashed}
use Rattle.note_lines.proofs.OneKind.{not_both}
use Rattle.note_lines.proofs.Lines.{one_hashed, one_note}
use Rattle.note_tallies.specs.Tally.{IsHashLineOn, IsInputLineOn, IsLineOn, hash_line_on, hashed_on, line_on, noted_on}
use Rattle.note_tallies.proofs.Pages.{same_page}

on_page : (note : Noted) (page : PageName) (line : List ℕ) → IsNote note → line ≡ note_line note → note.page ≡ page → IsInputLineOn page line
on_page note page line is spelled same =
    (note.input, subst (λ (p : PageName). IsNote (noted_on p note.input)) same is, spelled ∙ ap (λ (p : PageName). line_on p note.input) same)

of_page : (note : Noted) (page : PageName) (line : List ℕ) → IsNote note → line ≡ note_line note → IsLineOn page line → note.page ≡ page
of_page note page line is spelled (inl on) = ap (λ (n : Noted). n.page) (one_note note (noted_on page on.0) is on.1 (sym spelled ∙ on.2))
of_page note page line is spelled (inr on) = absurd (not_both note (hashed_on page on.0) on.1 (sym spelled ∙ on.2))

pub is_on : (note : Noted) (page : PageName) (line : List ℕ) (same : Bool) → IsNote note → line ≡ note_line note → same ≡ page_eq note.page page → IsTrue same ↔ IsLineOn page line
is_on note page line same is spelled tells = (
  λ (yes : same ≡ true). inl (on_page note page line is spelled (same_page note.page page (sym tells ∙ yes))),
  λ (on : IsLineOn page line). tells ∙ ap (λ (p : PageName). page_eq p page) (of_page note page line is spelled on) ∙ pages_equal.refl page,
)

hash_on_page : (note : Hashed) (page : PageName) (line : List ℕ) → IsHashed note → line ≡ hashed_line note → note.page ≡ page → IsHashLineOn page line
hash_on_page note page line is spelled same =
    (note.hash, subst (λ (p : PageName). IsHashed (hashed_on p note.hash)) same is, spelled ∙ ap (λ (p : PageName). hash_line_on p note.hash) same)

of_hash_page : (note : Hashed) (page : PageName) (line : List ℕ) → IsHashed note → line ≡ hashed_line note → IsHashLineOn page line → note.page ≡ page
of_hash_page note page line is spelled on = ap (λ (n : Hashed). n.page) (one_hashed note (hashed_on page on.0) is on.1 (sym spelled ∙ on.2))

pub is_hash_on : (note : Hashed) (page : PageName) (line : List ℕ) (same : Bool) → IsHashed note → line ≡ hashed_line note → same ≡ page_eq note.page page → IsTrue same ↔ IsHashLineOn page line
is_hash_on note page line same is spelled tells = (
  λ (yes : same ≡ true). hash_on_page note page line is spelled (same_page note.page page (sym tells ∙ yes)),
  λ (on : IsHashLineOn page line). tells ∙ ap (λ (p : PageName). page_eq p page) (of_hash_page note page line is spelled on) ∙ pages_equal.refl page,
)

-- a line without an input is of the page where it is that of a hash of it
either : (page : PageName) (line : List ℕ) → Reads line None → IsLineOn page line → IsHashLineOn page line
either page line none (inl on) = absurd (none (noted_on page on.0) on.1 on.2)
either page line none (inr on) = on

pub no_input : {E : Type 0} (page : PageName) (line : List ℕ) (r : Result Bool E) → Reads line None → IfOk r (λ is. IsTrue is ↔ IsHashLineOn page line) → IfOk r (λ is. IsTrue is ↔ IsLineOn page line)
no_input page line (Ok is) none tells = (λ yes. inr (tells.0 yes), λ on. tells.1 (either page line none on))
no_input page line (Err e) none tells = tt

pub no_hash : (page : PageName) (line : List ℕ) (is : Bool) → ReadsHashed line None → IsHashLineOn page line → IsTrue is
no_hash page line is none on = absurd (none (hashed_on page on.0) on.1 on.2)
