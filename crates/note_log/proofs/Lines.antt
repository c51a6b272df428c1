-- Lines of notes, one after the other.
use Rattle.std.proofs.Common.{ℕ, List, [], ◌∷◌, ◌++◌, sym, ap, ◌∙◌, subst, append_assoc, append-nil, inl, inr, arith}
use Rattle.std.specs.List.{flat_map, Contains}
use Rattle.std.proofs.lemmas.List.Elements.{Contains-append_cases, Contains-push_cases}
use Rattle.flag_text.specs.Printing.{text_of}
use Rattle.note_lines.specs.Hashed.{hashed, hashed_line, hashed_shape, line_as}
use Rattle.note_lines.specs.Note.{Noted, note_line, note_shape}
use Rattle.note_lines.specs.declared.form.NoteForm.{NoteForm}
use Rattle.note_lines.specs.declared.form.NoteForm.TheVariants.{Hash, Input}
use Rattle.log_file.specs.Line.{EndsLine}
use Rattle.note_log.specs.Line.{HasLine}

-- nothing is in no list
pub not_in : {X : Type 0} (x : X) → ¬ (Contains [] x)
not_in x c = omega (arith, c.1)

pub ends_more : (form : NoteForm) (bytes : List ℕ) (note : Noted) → EndsLine (bytes ++ line_as form note)
unfolding note_line hashed_line
ends_more Input bytes note = inr (bytes ++ text_of (note_shape note), sym (append_assoc bytes (text_of (note_shape note)) (10 ∷ [])))
ends_more Hash bytes note = inr (bytes ++ text_of (hashed_shape (hashed note)), sym (append_assoc bytes (text_of (hashed_shape (hashed note))) (10 ∷ [])))

-- whole lines behind whole lines
pub ends_lines : (form : NoteForm) (bytes : List ℕ) (notes : List Noted) → EndsLine bytes → EndsLine (bytes ++ flat_map (line_as form) notes)
ends_lines form bytes [] e = subst EndsLine (sym (append-nil bytes)) e
ends_lines form bytes (note ∷ notes) e =
    subst EndsLine (append_assoc bytes (line_as form note) (flat_map (line_as form) notes)) (ends_lines form (bytes ++ line_as form note) notes (ends_more form bytes note))

-- a line that stands there stays
pub has_more : (line bytes more : List ℕ) → HasLine line bytes → HasLine line (bytes ++ more)
has_more line bytes more h = record {
  before = h.before;
  after = h.after ++ more;
  parts = ap (λ (t : List ℕ). t ++ more) h.parts ∙ append_assoc h.before (line ++ h.after) more ∙ ap (λ (t : List ℕ). h.before ++ t) (append_assoc line h.after more);
  starts = h.starts;
}

-- each of the notes has its line there
pub has_in : (form : NoteForm) (bytes : List ℕ) (notes : List Noted) (note : Noted) → EndsLine bytes → Contains notes note → HasLine (line_as form note) (bytes ++ flat_map (line_as form) notes)
has_in form bytes [] note e c = absurd (not_in note c)
has_in form bytes (first ∷ notes) note e c = elim (Contains-append_cases (first ∷ []) notes note c) [
  | inl d ↦ elim (Contains-push_cases [] first note d) [
    | inl none ↦ absurd (not_in note none)
    | inr same ↦ record {
      before = bytes;
      after = flat_map (line_as form) notes;
      parts = ap (λ (n : Noted). bytes ++ (line_as form n ++ flat_map (line_as form) notes)) same;
      starts = e;
    }
  ]
  | inr d ↦ subst (HasLine (line_as form note)) (append_assoc bytes (line_as form first) (flat_map (line_as form) notes)) (has_in form (bytes ++ line_as form first) notes note (ends_more form bytes first) d)
]
