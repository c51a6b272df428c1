-- The lines of notes, and those that are left of them.
use Rattle.std.proofs.Common.{◌≡◌, ◌≤◌, ◌<◌, ℕ, List, [], ◌∷◌, ◌++◌, length, map, Vec, refl, sym, ap, ap₂, ◌∙◌, subst, append-nil, inl, inr, arith}
use Rattle.std.specs.List.{flat_map, Contains}
use Rattle.std.specs.declared.alloc.Global.{Global}
use Rattle.std.proofs.Math.Logic.{∥∥₁_map}
use Rattle.std.proofs.lemmas.Grind.{flat_map-append}
use Rattle.std.proofs.lemmas.List.{map-append}
use Rattle.std.proofs.lemmas.List.Elements.{Contains-append_left, Contains-append_right, Contains-push, Contains-push_cases, Contains-append_cases}
use Rattle.note_lines.specs.Hashed.{line_as}
use Rattle.note_lines.specs.Note.{Noted, most_noted}
use Rattle.note_lines.specs.declared.form.NoteForm.{NoteForm}
use Rattle.note_log.specs.Batch.{Adds, ArePrinted, IsBatch, items_of}
use Rattle.note_log.specs.Files.{StandsIn}
use Rattle.note_log.specs.Log.{Wants}
use Rattle.note_log.specs.Memory.{AreLeft}
use Rattle.note_log.specs.Recalled.{joined}
use Rattle.note_log.specs.Shown.{shown_in}
use Rattle.note_log.specs.declared.batch.Batch.{Batch}
use Rattle.note_log.proofs.Lines.{not_in}
use Rattle.note_log.proofs.Lists.{at_head}

abbrev Line : Type 0
Line = Vec ℕ Global

-- no note is printed yet
pub none_printed : (form : NoteForm) (lines : List Line) → lines ≡ [] → ArePrinted form [] lines
none_printed form lines none = record {
  recorded = [];
  wanted = λ n c. absurd (not_in n c);
  lines = ap items_of none;
  all = λ n w. absurd (not_in n w.0);
}

-- ---- one note more

module _ (form : NoteForm) (notes : List Noted) (note : Noted) where
  abbrev more : List Noted
  more = notes ++ note ∷ []

  wider : (n : Noted) → Wants notes n → Wants more n
  wider n w = (Contains-append_left notes (note ∷ []) n w.0, w.1)

  -- one that is too long
  kept : (old new : List Line) → ArePrinted form notes old → most_noted < length note.input → new ≡ old → ArePrinted form more new
  kept old new p long same = record {
    recorded = p.recorded;
    wanted = λ n c. wider n (p.wanted n c);
    lines = ap items_of same ∙ p.lines;
    all = λ n w. elim (Contains-push_cases notes note n w.0) [
      | inl c ↦ p.all n (c, w.1)
      | inr e ↦ let short = subst (λ (m : Noted). length m.input ≤ most_noted) (sym e) w.1 in absurd (omega (arith, long, short))
    ];
  }

  grown : (old new : List Line) → ArePrinted form notes old → length note.input ≤ most_noted → items_of new ≡ items_of old ++ line_as form note ∷ [] → ArePrinted form more new
  grown old new p short g = record {
    recorded = p.recorded ++ note ∷ [];
    wanted = λ n c. elim (Contains-push_cases p.recorded note n c) [
      | inl d ↦ wider n (p.wanted n d)
      | inr e ↦ subst (Wants more) e (Contains-push notes note, short)
    ];
    lines = g ∙ ap (λ (ls : List (List ℕ)). ls ++ line_as form note ∷ []) p.lines ∙ sym (map-append (line_as form) p.recorded (note ∷ []));
    all = λ n w. elim (Contains-push_cases notes note n w.0) [
      | inl c ↦ Contains-append_left p.recorded (note ∷ []) n (p.all n (c, w.1))
      | inr e ↦ subst (Contains (p.recorded ++ note ∷ [])) e (Contains-push p.recorded note)
    ];
  }

  pub with_note : (old new : List Line) → ArePrinted form notes old → Adds form note old new → ArePrinted form more new
  with_note old new p adds = elim adds [
    | inl long ↦ kept old new p long.0 long.1
    | inr short ↦ grown old new p short.0 short.1
  ]

-- ---- lines and notes

-- each line is that of a note
pub listed : (form : NoteForm) (lines : List Line) (notes : List Noted) → items_of lines ≡ map (line_as form) notes → (line : Line) → Contains lines line
    → (note : Noted) × Contains notes note × (line.items ≡ line_as form note)
listed form [] notes e line c = absurd (not_in line c)
listed form (x ∷ lines) [] e line c = cc
listed form (x ∷ lines) (n ∷ notes) e line c =
    let first : x.items ≡ line_as form n = cc in
    let others : items_of lines ≡ map (line_as form) notes = cc in
    elim (Contains-append_cases (x ∷ []) lines line c) [
      | inl d ↦ elim (Contains-push_cases [] x line d) [
        | inl none ↦ absurd (not_in line none)
        | inr same ↦ (n, at_head n notes, subst (λ (l : Line). l.items ≡ line_as form n) same first)
      ]
      | inr d ↦ let r = listed form lines notes others line d in (r.0, Contains-append_right (n ∷ []) notes r.0 r.1, r.2)
    ]

-- and each note has its line
line_of : (form : NoteForm) (lines : List Line) (notes : List Noted) → items_of lines ≡ map (line_as form) notes → (note : Noted) → Contains notes note
    → (line : Line) × Contains lines line × (line.items ≡ line_as form note)
line_of form lines [] e note c = absurd (not_in note c)
line_of form [] (n ∷ notes) e note c = cc
line_of form (x ∷ lines) (n ∷ notes) e note c =
    let first : x.items ≡ line_as form n = cc in
    let others : items_of lines ≡ map (line_as form) notes = cc in
    elim (Contains-append_cases (n ∷ []) notes note c) [
      | inl d ↦ elim (Contains-push_cases [] n note d) [
        | inl none ↦ absurd (not_in note none)
        | inr same ↦ (x, at_head x lines, subst (λ (m : Noted). x.items ≡ line_as form m) same first)
      ]
      | inr d ↦ let r = line_of form lines notes others note d in (r.0, Contains-append_right (x ∷ []) lines r.0 r.1, r.2)
    ]

-- notes that are to be recorded, with these lines
record HasNotes (form : NoteForm) (notes : List Noted) (left : List Line) : Type 0 where
  recorded : List Noted
  wanted : (note : Noted) → Contains recorded note → Wants notes note
  lines : items_of left ≡ map (line_as form) recorded

has_notes : (form : NoteForm) (notes : List Noted) (left : List Line) → ((line : Line) → Contains left line → (note : Noted) × Wants notes note × (line.items ≡ line_as form note)) → HasNotes form notes left
has_notes form notes [] h = record { recorded = []; wanted = λ n c. absurd (not_in n c); lines = refl }
has_notes form notes (x ∷ left) h =
    let first = h x (at_head x left) in
    let others = has_notes form notes left (λ line c. h line (Contains-append_right (x ∷ []) left line c)) in
    record {
      recorded = first.0 ∷ others.recorded;
      wanted = λ n c. elim (Contains-append_cases (first.0 ∷ []) others.recorded n c) [
        | inl d ↦ elim (Contains-push_cases [] first.0 n d) [
          | inl none ↦ absurd (not_in n none)
          | inr same ↦ subst (Wants notes) same first.1
        ]
        | inr d ↦ others.wanted n d
      ];
      lines = ap₂ (λ (l : List ℕ) (ls : List (List ℕ)). l ∷ ls) first.2 others.lines;
    }

-- ---- the lines that are left of those of notes

joined_lines : (form : NoteForm) (notes : List Noted) → joined (map (line_as form) notes) ≡ flat_map (line_as form) notes
joined_lines form [] = refl
joined_lines form (n ∷ notes) = ap (λ (t : List ℕ). line_as form n ++ t) (joined_lines form notes)

module _ (form : NoteForm) (notes : List Noted) (lines : List Line) (batch : Batch) (p : ArePrinted form notes lines) (bytes : batch.bytes.items ≡ joined (items_of batch.lines.items)) where
  left_batch : AreLeft lines batch.lines.items (shown_in batch.shown.items) → IsBatch form notes batch
  left_batch a =
      let h = has_notes form notes batch.lines.items (λ line c. let n = listed form lines p.recorded p.lines line (a.0 line c) in (n.0, p.wanted n.0 n.1, n.2)) in
      record {
        recorded = h.recorded;
        wanted = h.wanted;
        lines = h.lines;
        bytes = bytes ∙ ap joined h.lines ∙ joined_lines form h.recorded;
        known = λ note w.
            let l = line_of form lines p.recorded p.lines note (p.all note w) in
            elim (a.1 l.0 l.1) [
              | inl c ↦ let n = listed form batch.lines.items h.recorded h.lines l.0 c in inr (n.0, n.1, sym n.2 ∙ l.2)
              | inr s ↦ inl (subst (λ (t : List ℕ). StandsIn t (shown_in batch.shown.items)) l.2 s)
            ];
      }

  pub batch_left : ∥ AreLeft lines batch.lines.items (shown_in batch.shown.items) ∥₁ → ∥ IsBatch form notes batch ∥₁
  batch_left a = ∥∥₁_map a left_batch

-- ---- lines, one after the other

pub joined_more : (lines : List Line) (line : Line) → joined (items_of (lines ++ line ∷ [])) ≡ joined (items_of lines) ++ line.items
joined_more lines line =
    ap joined (map-append (λ (l : Line). l.items) lines (line ∷ [])) ∙ flat_map-append (λ (l : List ℕ). l) (items_of lines) (line.items ∷ [])
    ∙ ap (λ (t : List ℕ). joined (items_of lines) ++ t) (append-nil line.items)
