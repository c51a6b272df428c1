-- The lines of snapshots, one after the other.
use Rattle.std.proofs.Common.{◌≡◌, ℕ, List, [], ◌∷◌, ◌++◌, Bool, true, false, Option, inl, inr, refl, sym, ap, subst, ◌∙◌, append-nil, append_assoc}
use Rattle.std.specs.Io.KnownBytes.{Appends}
use Rattle.flag_text.specs.Outlet.{AppendsPart}
use Rattle.sync_frames.specs.Snapshots.{Numbered}
use Rattle.sync_server.specs.Ends.{Ends, FirstOf}
use Rattle.std.specs.Bool.{MatchBool}
use Rattle.sync_server.proofs.Followed.{first_less}
use Rattle.sync_server.specs.Handed.{Handed, Took}
use Rattle.sync_server.specs.declared.end.ReadEnd.{ReadEnd}
use Rattle.sync_server.specs.declared.end.ReadEnd.TheVariants.{WantOfMemory}
use Rattle.flagops_streams.specs.Printed.{Prints, PrintsBy, snapshot_line, snapshot_lines, last_line, status_of}
use Rattle.flagops_streams.specs.Report.{Writes}
use Rattle.flagops_shell.proofs.Writes.{part_after, whole_after}
use Rattle.flagops_streams.proofs.Writes.{none_written}

-- the lines of two lists
pub lines_append : (ss ts : List Numbered) → snapshot_lines (ss ++ ts) ≡ snapshot_lines ss ++ snapshot_lines ts
lines_append [] ts = refl
lines_append (s ∷ ss) ts = ap (λ (l : List ℕ). snapshot_line s ++ l) (lines_append ss ts) ∙ sym (append_assoc (snapshot_line s) (snapshot_lines ss) (snapshot_lines ts))

-- the lines, and behind them the last line
pub ended_by : (MayEnd : ReadEnd → Type 0) (AreFirst : Type 0) (ss : List Numbered) (old mid new : Option (List ℕ)) (broken : Bool) (status : ℕ) (end : ReadEnd)
    → MayEnd end → Appends old mid (snapshot_lines ss) → Writes mid new broken status (last_line end) (status_of end) → PrintsBy MayEnd AreFirst ss old new broken status
ended_by MayEnd AreFirst ss old mid new false status end how lines (last, is) = (end, how, whole_after old mid new (snapshot_lines ss) (last_line end) lines last, is)
ended_by MayEnd AreFirst ss old mid new true status end how lines (last, is) = (is, inr (end, how, part_after old mid new (snapshot_lines ss) (last_line end) lines last))

pub ended : (stream : List ℕ) (ss : List Numbered) (left : Option (List ℕ)) (is_inlet_broken : Bool) (old mid new : Option (List ℕ)) (broken : Bool) (status : ℕ) (end : ReadEnd)
    → Ends stream ss left is_inlet_broken end → Appends old mid (snapshot_lines ss) → Writes mid new broken status (last_line end) (status_of end) → Prints stream ss left is_inlet_broken old new broken status
ended stream ss left is_inlet_broken = ended_by (Ends stream ss left is_inlet_broken) (FirstOf stream ss) ss

-- the output failed within the line of one more
pub broken_off : (MayEnd : ReadEnd → Type 0) (AreFirst : Type 0) (ss taken : List Numbered) (s : Numbered) (old mid new : Option (List ℕ)) (status : ℕ)
    → AreFirst → ss ≡ taken ++ s ∷ [] → Appends old mid (snapshot_lines taken) → AppendsPart mid new (snapshot_line s) → status ≡ 1 → PrintsBy MayEnd AreFirst ss old new true status
broken_off MayEnd AreFirst ss taken s old mid new status first is lines part one =
    let all : snapshot_lines ss ≡ snapshot_lines taken ++ snapshot_line s = ap snapshot_lines is ∙ lines_append taken (s ∷ []) ∙ ap (λ (l : List ℕ). snapshot_lines taken ++ l) (append-nil (snapshot_line s)) in
    (one, inl (first, subst (AppendsPart old new) (sym all) (part_after old mid new (snapshot_lines taken) (snapshot_line s) lines part)))

-- Printers, by the bytes on their output, whether it is broken, and whether memory ran out.
module _ {X : Type 0} (bytes : X → Option (List ℕ)) (is_broken wants : X → Bool) where
  abbrev PrintedOne : X → Numbered → X → Type 0
  PrintedOne old s new = Appends (bytes old) (bytes new) (snapshot_line s) × (is_broken new ≡ false)

  abbrev PrintedPart : X → Numbered → X → Type 0
  PrintedPart old s new =
      MatchBool (wants new) ((bytes new ≡ bytes old) × (is_broken new ≡ false)) (AppendsPart (bytes old) (bytes new) (snapshot_line s) × (is_broken new ≡ true))

  -- what was taken was printed
  pub lines_taken : (x y : X) (ss : List Numbered) → Took PrintedOne x ss y → Appends (bytes x) (bytes y) (snapshot_lines ss)
  lines_taken x y [] h = none_written (bytes x) (bytes y) (ap bytes h)
  lines_taken x y (s ∷ ss) (z, (line, works), h) = whole_after (bytes x) (bytes z) (bytes y) (snapshot_line s) (snapshot_lines ss) line (lines_taken z y ss h)

  -- memory ran out for the line of the last one: those of the others are there
  pub wanting : (x y : X) (stream : List ℕ) (ss : List Numbered) (left : Option (List ℕ)) (is_inlet_broken : Bool) → FirstOf stream ss → Handed PrintedOne PrintedPart x ss true y → wants y ≡ true
      → (taken : List Numbered) × Ends stream taken left is_inlet_broken WantOfMemory × Appends (bytes x) (bytes y) (snapshot_lines taken)
  wanting x y stream ss left is_inlet_broken first (taken, last, z, is, took, refused) want =
      let same = subst (λ (b : Bool). MatchBool b ((bytes y ≡ bytes z) × (is_broken y ≡ false)) (AppendsPart (bytes z) (bytes y) (snapshot_line last) × (is_broken y ≡ true))) want refused in (
        taken,
        first_less stream taken (last ∷ []) (subst (FirstOf stream) is first),
        subst (λ (o : Option (List ℕ)). Appends (bytes x) o (snapshot_lines taken)) (sym same.0) (lines_taken x z taken took),
      )

  -- the output failed within the line of the last one
  pub off_by : (MayEnd : ReadEnd → Type 0) (x y : X) (stream : List ℕ) (ss : List Numbered) (status : ℕ) → FirstOf stream ss → Handed PrintedOne PrintedPart x ss true y → wants y ≡ false → status ≡ 1
      → PrintsBy MayEnd (FirstOf stream ss) ss (bytes x) (bytes y) (is_broken y) status
  off_by MayEnd x y stream ss status first (taken, last, z, is, took, refused) want one =
      let part = subst (λ (b : Bool). MatchBool b ((bytes y ≡ bytes z) × (is_broken y ≡ false)) (AppendsPart (bytes z) (bytes y) (snapshot_line last) × (is_broken y ≡ true))) want refused in
      subst (λ (b : Bool). PrintsBy MayEnd (FirstOf stream ss) ss (bytes x) (bytes y) b status) (sym part.1)
      (broken_off MayEnd (FirstOf stream ss) ss taken last (bytes x) (bytes z) (bytes y) status first is (lines_taken x z taken took) part.0 one)

  pub off : (x y : X) (stream : List ℕ) (ss : List Numbered) (left : Option (List ℕ)) (is_inlet_broken : Bool) (status : ℕ) → FirstOf stream ss → Handed PrintedOne PrintedPart x ss true y → wants y ≡ false → status ≡ 1
      → Prints stream ss left is_inlet_broken (bytes x) (bytes y) (is_broken y) status
  off x y stream ss left is_inlet_broken = off_by (Ends stream ss left is_inlet_broken) x y stream ss
