-- What a reader of a stream resolves, beside what was framed.
use Rattle.std.specs.Prelude.{◌≡◌, ℕ, ◌++◌, List, Some, option_map}
use Rattle.std.specs.List.{All}
use Rattle.flag_text.specs.Shape.{Shape}
use Rattle.logic_eval.specs.Scope.{Situation}
use Rattle.flag_defs.specs.declared.kind.Kind.{Kind}
use Rattle.flag_resolve.specs.Floats.{resolved_with_floats}
use Rattle.flag_resolve.specs.Resolution.{Asked, resolution_of}
use Rattle.sync_frames.specs.Snapshots.{Numbered, marked_flags}
use Rattle.sync_frames.specs.Frames.{Reads}
use Rattle.sync_frames.specs.Sent.{AreFramesOf, first_sent}

-- each snapshot that comes out is to the first that was framed with its number as this says
abbrev pub OfEachSent : (Numbered → List Numbered → Type 0) → Type 0
OfEachSent Is =
    (sent : List Numbered) (stream later : List ℕ) → AreFramesOf sent (stream ++ later)
    → (ss : List Numbered) (rest : List ℕ) → Reads stream ss rest → All (λ s. Is s sent) ss

-- each key, kind, default, context and moment is resolved as by those flags
abbrev pub ResolvesAsSent : Type 0
ResolvesAsSent = OfEachSent (λ s sent. (a : Asked) (situation : Situation) → resolution_of (Some s.flags) a situation ≡ resolution_of (option_map (λ t. t.flags) (first_sent s.number sent)) a situation)

-- the same where flags may have floats
abbrev pub ResolvesFloatsAsSent : Type 0
ResolvesFloatsAsSent =
    OfEachSent (λ s sent. (want : Kind) (default context : Shape) (key : List ℕ) (moment : ℕ)
    → resolved_with_floats (Some (marked_flags s)) want default context key moment ≡ resolved_with_floats (option_map marked_flags (first_sent s.number sent)) want default context key moment)
