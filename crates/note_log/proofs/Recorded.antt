-- What a call of a log amounts to.
use Rattle.std.proofs.Common.{◌≡◌, ℕ, ◌==◌, true, false, List, [], ◌∷◌, ◌++◌, length, Option, refl, sym, ap, ◌∙◌, subst, append_assoc, append-nil, inl, inr, arith}
use Rattle.std.proofs.lemmas.Bool.{eqb-true}
use Rattle.std.proofs.lemmas.Grind.{flat_map-append}
use Rattle.std.specs.List.{flat_map, Contains}
use Rattle.http_server.specs.declared.log.Log.{Log}
use Rattle.note_lines.specs.Hashed.{line_as}
use Rattle.note_lines.specs.Note.{Noted}
use Rattle.note_lines.specs.declared.form.NoteForm.{NoteForm}
use Rattle.note_log.specs.Batch.{IsBatch}
use Rattle.note_log.specs.Handing.{Moves}
use Rattle.log_file.specs.Line.{EndsLine}
use Rattle.note_log.specs.Line.{HasLine}
use Rattle.note_log.specs.Log.{Logged, Records}
use Rattle.note_log.specs.Memory.{StandAll}
use Rattle.note_log.specs.Shown.{relied_in, shown_in}
use Rattle.note_log.specs.declared.batch.Batch.{Batch}
use Rattle.note_log.specs.declared.files.Files.{Files}
use Rattle.note_log.proofs.Batches.{listed}
use Rattle.note_log.proofs.Lines.{ends_lines, has_in, not_in}

-- no byte waits
pub nothing : (waiting : List ℕ) → (length waiting == 0) ≡ true → waiting ≡ []
nothing [] h = refl
nothing (b ∷ bs) h = absurd (omega (arith, eqb-true (length (b ∷ bs)) 0 h))

-- the memory was relied on once more
pub relied_more : (questions after : List (Log Files ℕ × ℕ)) (shown : Log Files ℕ) (n : ℕ) → after ≡ questions ++ (shown, n) ∷ [] → relied_in after ≡ relied_in questions ++ shown_in shown.items
relied_more questions after shown n is =
    ap relied_in is ∙ flat_map-append (λ (q : Log Files ℕ × ℕ). shown_in q.0.items) questions ((shown, n) ∷ [])
    ∙ ap (λ (t : List (List ℕ)). relied_in questions ++ t) (append-nil (shown_in shown.items))

abbrev pub holding : NoteForm → List (List ℕ) → List ℕ → List ℕ → List (List ℕ) → Logged
holding form earlier handed waiting relied = record { form = form; earlier = earlier; handed = handed; waiting = waiting; relied = relied }

module _ (form : NoteForm) (earlier : List (List ℕ)) (b0 b2 : Option (List ℕ)) (h0 h2 w0 w2 : List ℕ) (r0 : List (List ℕ)) where
  -- nothing was recorded
  pub none_recorded : (notes : List Noted) → Moves b0 b2 h0 h2 w0 w2 → Records notes (holding form earlier h0 w0 r0) (holding form earlier h2 w2 r0) b0 b2 false
  none_recorded notes m = record {
    recorded = [];
    wanted = λ n c. absurd (not_in n c);
    more = m.more;
    shown = [];
    form = refl;
    earlier = refl;
    handed = m.handed;
    relied = sym (append-nil r0);
    bytes = m.bytes;
    lines = append-nil w0 ∙ m.waiting;
    whole = λ h. cc;
  }

  pub whole_moved : EndsLine (h0 ++ w0) → Moves b0 b2 h0 h2 w0 w2 → EndsLine (h2 ++ w2)
  whole_moved e m = subst EndsLine (sym (ap (λ (t : List ℕ). t ++ w2) m.handed ∙ append_assoc h0 m.more w2 ∙ ap (λ (t : List ℕ). h0 ++ t) (sym m.waiting))) e

  module _ (notes : List Noted) (batch : Batch) (e : EndsLine (h0 ++ w0)) (b : IsBatch form notes batch) (m : Moves b0 b2 h0 h2 (w0 ++ batch.bytes.items) w2) where
    -- all that was handed over and that waits now
    all_bytes : h2 ++ w2 ≡ (h0 ++ w0) ++ flat_map (line_as form) b.recorded
    all_bytes =
        ap (λ (t : List ℕ). t ++ w2) m.handed ∙ append_assoc h0 m.more w2 ∙ ap (λ (t : List ℕ). h0 ++ t) (sym m.waiting)
        ∙ sym (append_assoc h0 w0 batch.bytes.items) ∙ ap (λ (t : List ℕ). (h0 ++ w0) ++ t) b.bytes

    handed_all : w2 ≡ [] → (h0 ++ w0) ++ flat_map (line_as form) b.recorded ≡ h2
    handed_all none = sym all_bytes ∙ ap (λ (t : List ℕ). h2 ++ t) none ∙ append-nil h2

    line_of : w2 ≡ [] → (note : Noted) → Contains b.recorded note → HasLine (line_as form note) h2
    line_of none note c = subst (HasLine (line_as form note)) (handed_all none) (has_in form (h0 ++ w0) b.recorded note e c)

    -- not all was handed over, and the memory was not relied on
    pub part_recorded : Records notes (holding form earlier h0 w0 r0) (holding form earlier h2 w2 r0) b0 b2 false
    part_recorded = record {
      recorded = b.recorded;
      wanted = b.wanted;
      more = m.more;
      shown = [];
      form = refl;
      earlier = refl;
      handed = m.handed;
      relied = sym (append-nil r0);
      bytes = m.bytes;
      lines = ap (λ (t : List ℕ). w0 ++ t) (sym b.bytes) ∙ m.waiting;
      whole = λ h. cc;
    }

    -- all was, and for the others it was
    pub batch_recorded : (r2 : List (List ℕ)) → r2 ≡ r0 ++ shown_in batch.shown.items → w2 ≡ [] → Records notes (holding form earlier h0 w0 r0) (holding form earlier h2 w2 r2) b0 b2 true
    batch_recorded r2 relied none = record {
      recorded = b.recorded;
      wanted = b.wanted;
      more = m.more;
      shown = shown_in batch.shown.items;
      form = refl;
      earlier = refl;
      handed = m.handed;
      relied = relied;
      bytes = m.bytes;
      lines = ap (λ (t : List ℕ). w0 ++ t) (sym b.bytes) ∙ m.waiting;
      whole = λ h. (
        none,
        λ note w. elim (b.known note w) [
          | inl k ↦ inr k
          | inr c ↦ inl (subst (λ (line : List ℕ). HasLine line h2) c.2 (line_of none c.0 c.1))
        ],
      );
    }

    pub whole_batch : EndsLine (h2 ++ w2)
    whole_batch = subst EndsLine (sym all_bytes) (ends_lines form (h0 ++ w0) b.recorded e)

    pub lines_stand : w2 ≡ [] → StandAll h2 batch.lines.items
    lines_stand none line c =
        let l = listed form batch.lines.items b.recorded b.lines line c in
        subst (λ (t : List ℕ). HasLine t h2) (sym l.2) (line_of none l.0 l.1)
