-- Why files have no tally, where their distinct lines are refused.
use denote.Ref.{Bor}
use Rattle.std.proofs.Common.{◌≡◌, ◌<◌, ℕ, Bool, true, false, not, ◌&&◌, List, Err, refl, sym, ap, ◌∙◌, subst, inl, inr}
use Rattle.std.proofs.lemmas.List.Folds.{Any-from_list_any, list_any-from_Any}
use Rattle.std.specs.List.{Contains, list_any}
use Rattle.book_core.specs.Page.{PageName}
use Rattle.byte_streams.specs.Lines.{lines_view}
use Rattle.note_tallies.specs.Lines.{IsSaid, Said, of_hash, of_input, said_line}
use Rattle.note_lines.proofs.OneKind.{hash_kind, input_kind}
use Rattle.note_lines.specs.Hashed.{Hashed, IsHashed, has_hash, hashed_line}
use Rattle.note_lines.specs.Note.{IsNote, Noted, note_line}
use Rattle.note_tallies.specs.Blank.{is_blank}
use Rattle.note_tallies.specs.declared.filter_fault.FilterFault.{FilterFault}
use Rattle.note_tallies.specs.declared.filter_fault.FilterFault.TheVariants.{WantOfMemory, Line, Order, TooMany, Mixed}
use Rattle.note_streams.proofs.Among.{In, from_in, in_map, map_in, of_all, to_in}
use Rattle.note_streams.proofs.Crowded.{crowded, mixed}
use Rattle.note_streams.proofs.Members.{not_blank}
use Rattle.note_streams.proofs.Strays.{not_both}
use Rattle.note_streams.specs.LogLines.{all_lines}
use Rattle.note_streams.specs.LogRecorded.{AreMixed}
use Rattle.note_streams.specs.Sorted.{AreDistinct, HasStrayLine, IsRefusedFor, IsWhy, TalliesLines, is_hash_line, is_input_line}
use Rattle.note_streams.specs.Stray.{AreKept, IsKept}
use Rattle.note_streams.specs.Tallies.{AreOfOneKind, TalliesFiles}
use Rattle.note_streams.specs.declared.log_fault.LogTallyFault.{LogTallyFault}
use Rattle.note_streams.specs.declared.log_fault.LogTallyFault.TheVariants as told
use Rattle.note_tallies.specs.Filter.{StreamIsTallied}

-- ---- lines of a kind

parts : (a b : Bool) → (a && b) ≡ true → (a ≡ true) × (b ≡ true)
parts true true is = (refl, refl)
parts true false is = cc
parts false b is = cc

-- a line in memory that passes a test
found : (test : List ℕ → Bool) (lines : List (Bor (List ℕ))) → list_any (λ (line : Bor (List ℕ)). test line.now) lines ≡ true → (line : List ℕ) × In line (lines_view lines) × (test line ≡ true)
found test lines some =
    let any = Any-from_list_any (λ (line : Bor (List ℕ)). test line.now) lines some in
    (any.1.now, map_in (λ (line : Bor (List ℕ)). line.now) lines any.1 (to_in lines any.1 (any.0, any.2, any.3)), any.4)

-- and one that is there and passes
some_passes : (test : List ℕ → Bool) (lines : List (Bor (List ℕ))) (line : List ℕ) → In line (lines_view lines) → test line ≡ true → list_any (λ (l : Bor (List ℕ)). test l.now) lines ≡ true
some_passes test lines line there passes =
    let one = in_map (λ (l : Bor (List ℕ)). l.now) lines line there in
    let at = from_in lines one.0 one.1 in
    list_any-from_Any (λ (l : Bor (List ℕ)). test l.now) lines (at.0, one.0, at.1, at.2, ap test one.2 ∙ passes)

of_inputs : (blank kind : Bool) → blank ≡ false → kind ≡ false → (not blank && not kind) ≡ true
of_inputs false false is also = refl
of_inputs false true is also = cc
of_inputs true kind is also = cc

of_hashes : (blank kind : Bool) → blank ≡ false → kind ≡ true → (not blank && kind) ≡ true
of_hashes false true is also = refl
of_hashes false false is also = cc
of_hashes true kind is also = cc

both_are : (a b : Bool) → a ≡ true → b ≡ true → (a && b) ≡ true
both_are true true is also = refl
both_are true false is also = cc
both_are false b is also = cc

differs : {Y : Type 0} → true ≡ false → Y
differs h = cc

note_passes : (note : Noted) → is_input_line (note_line note) ≡ true
note_passes note = of_inputs (is_blank (note_line note)) (has_hash (note_line note)) (not_blank (of_input note)) (input_kind note)

hash_passes : (note : Hashed) → IsHashed note → is_hash_line (hashed_line note) ≡ true
hash_passes note is = of_hashes (is_blank (hashed_line note)) (has_hash (hashed_line note)) (not_blank (of_hash note)) (hash_kind note is)

blank_fails : (blank other : Bool) → blank ≡ true → (not blank && other) ≡ true → ⊥
blank_fails true other is passes = cc
blank_fails false other is passes = cc

kind_fails : (blank kind : Bool) → kind ≡ true → (not blank && not kind) ≡ true → ⊥
kind_fails true true is passes = cc
kind_fails false true is passes = cc
kind_fails true false is passes = cc
kind_fails false false is passes = cc

kind_fails_too : (blank kind : Bool) → kind ≡ false → (not blank && kind) ≡ true → ⊥
kind_fails_too true true is passes = cc
kind_fails_too false true is passes = cc
kind_fails_too true false is passes = cc
kind_fails_too false false is passes = cc

note_said : (line : List ℕ) (said : Said) → IsSaid said → line ≡ said_line said → is_input_line line ≡ true → (note : Noted) × IsNote note × (line ≡ note_line note)
note_said line (of_input note) is same passes = (note, is, same)
note_said line (of_hash note) is same passes = absurd (kind_fails (is_blank line) (has_hash line) (ap has_hash same ∙ hash_kind note is) passes)

hash_said : (line : List ℕ) (said : Said) → IsSaid said → line ≡ said_line said → is_hash_line line ≡ true → (note : Hashed) × IsHashed note × (line ≡ hashed_line note)
hash_said line (of_input note) is same passes = absurd (kind_fails_too (is_blank line) (has_hash line) (ap has_hash same ∙ input_kind note) passes)
hash_said line (of_hash note) is same passes = (note, is, same)

note_by : (line : List ℕ) → IsKept line → is_input_line line ≡ true → (note : Noted) × IsNote note × (line ≡ note_line note)
note_by line (inl blank) passes = absurd (blank_fails (is_blank line) (not (has_hash line)) blank passes)
note_by line (inr noted) passes = note_said line noted.0 noted.1 noted.2 passes

hash_by : (line : List ℕ) → IsKept line → is_hash_line line ≡ true → (note : Hashed) × IsHashed note × (line ≡ hashed_line note)
hash_by line (inl blank) passes = absurd (blank_fails (is_blank line) (has_hash line) blank passes)
hash_by line (inr noted) passes = hash_said line noted.0 noted.1 noted.2 passes

-- ---- the lines of files

module _ (files : List (List ℕ)) (lines : List (Bor (List ℕ))) (are : AreDistinct files (lines_view lines)) where
  abbrev has_inputs : Bool
  has_inputs = list_any (λ (line : Bor (List ℕ)). is_input_line line.now) lines

  abbrev has_hashes : Bool
  has_hashes = list_any (λ (line : Bor (List ℕ)). is_hash_line line.now) lines

  kept_there : (line : List ℕ) → AreKept (all_lines files) → In line (lines_view lines) → IsKept line
  kept_there line kept there = of_all IsKept (all_lines files) line kept (to_in (all_lines files) line (are.each line (from_in (lines_view lines) line there)))

  -- both tests pass where the kinds are mixed
  pub mixed_told : AreKept (all_lines files) → (has_inputs && has_hashes) ≡ true → AreMixed (all_lines files)
  mixed_told kept both =
      let passes = parts has_inputs has_hashes both in
      let one = found is_input_line lines passes.0 in
      let other = found is_hash_line lines passes.1 in
      let first = note_by one.0 (kept_there one.0 kept one.1) one.2 in
      let second = hash_by other.0 (kept_there other.0 kept other.1) other.2 in
      record {
        note = first.0;
        is_note = first.1;
        note_there = subst (Contains (all_lines files)) first.2 (are.each one.0 (from_in (lines_view lines) one.0 one.1));
        hashed = second.0;
        is_hashed = second.1;
        hashed_there = subst (Contains (all_lines files)) second.2 (are.each other.0 (from_in (lines_view lines) other.0 other.1));
      }

  both_pass : AreMixed (all_lines files) → (has_inputs && has_hashes) ≡ true
  both_pass is =
      let inputs = some_passes is_input_line lines (note_line is.note) (to_in (lines_view lines) (note_line is.note) (are.all (note_line is.note) is.note_there)) (note_passes is.note) in
      let hashes = some_passes is_hash_line lines (hashed_line is.hashed) (to_in (lines_view lines) (hashed_line is.hashed) (are.all (hashed_line is.hashed) is.hashed_there)) (hash_passes is.hashed is.is_hashed) in
      both_are has_inputs has_hashes inputs hashes

  pub one_kind : AreKept (all_lines files) → (has_inputs && has_hashes) ≡ false → AreOfOneKind (all_lines files)
  one_kind kept none = record { kept = kept; alike = λ (is : AreMixed (all_lines files)). differs (sym (both_pass is) ∙ none) }

  -- none of the lines is stray
  pub no_stray : AreKept (all_lines files) → HasStrayLine (lines_view lines) → ⊥
  no_stray kept stray = not_both stray.0 (kept_there stray.0 kept (to_in (lines_view lines) stray.0 stray.1)) stray.2

  -- nor are they of both kinds
  pub no_mixture : (has_inputs && has_hashes) ≡ false → AreMixed (lines_view lines) → ⊥
  no_mixture none is = differs (sym (both_pass (mixed files (lines_view lines) are is)) ∙ none)

-- ---- the whole

pub refused_for : (page : PageName) (total : ℕ) (lines : List (List ℕ)) (refused : FilterFault) → TalliesLines page total lines (Err refused) → IsRefusedFor lines refused
refused_for page total lines WantOfMemory why = tt
refused_for page total lines (Line n) why = why
refused_for page total lines (Order n) why = why
refused_for page total lines TooMany why = tt
refused_for page total lines (Mixed n) why = why

pub told_of : (files lines : List (List ℕ)) (page : PageName) (total : ℕ) → 0 < total → AreDistinct files lines → StreamIsTallied → (refused : FilterFault) → TalliesLines page total lines (Err refused) → (fault : LogTallyFault) → IsWhy files refused fault
    → TalliesFiles files page total (Err fault)
told_of files lines page total some are law refused tallies told.WantOfMemory why = tt
told_of files lines page total some are law refused tallies (told.Line i n) why = why
told_of files lines page total some are law refused tallies told.Mixed why = why
told_of files lines page total some are law refused tallies told.TooMany why =
    let no = subst (λ (f : FilterFault). TalliesLines page total lines (Err f)) why.0 tallies in
    (why.1, crowded files lines page total some are no law)
