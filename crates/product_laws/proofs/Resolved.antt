-- Equal flags resolve everything alike.
use Rattle.std.proofs.Common.{◌≡◌, ℕ, List, Some, Option, sym, ap}
use Rattle.std.specs.Prelude.{option_map}
use Rattle.std.proofs.lemmas.List.Elements.{All-weaker}
use Rattle.flag_text.specs.Shape.{Shape}
use Rattle.logic_eval.specs.Scope.{Situation}
use Rattle.flag_defs.specs.declared.kind.Kind.{Kind}
use Rattle.flag_resolve.specs.Floats.{resolved_with_floats}
use Rattle.flag_resolve.specs.Resolution.{Asked, resolution_of}
use Rattle.sync_frames.specs.Snapshots.{Numbered, marked_flags}
use Rattle.sync_frames.specs.Sent.{IsFirstSent, first_sent}
use Rattle.sync_frames.proofs.Sent.{gives}
use Rattle.product_laws.specs.Resolves.{OfEachSent, ResolvesAsSent, ResolvesFloatsAsSent}

of_each : (Is : Numbered → List Numbered → Type 0) → ((s : Numbered) (sent : List Numbered) → IsFirstSent sent s → Is s sent) → OfEachSent Is
of_each Is follows sent stream later framed ss rest reading =
    All-weaker (IsFirstSent sent) (λ (s : Numbered). Is s sent) (λ s h. follows s sent h) ss (gives sent stream later framed ss rest reading)

pub resolves : ResolvesAsSent
resolves =
    of_each (λ s sent. (a : Asked) (situation : Situation) → resolution_of (Some s.flags) a situation ≡ resolution_of (option_map (λ t. t.flags) (first_sent s.number sent)) a situation)
    (λ s sent h a situation. ap (λ (o : Option Numbered). resolution_of (option_map (λ t. t.flags) o) a situation) (sym h))

pub resolves_floats : ResolvesFloatsAsSent
resolves_floats =
    of_each (λ s sent. (want : Kind) (default context : Shape) (key : List ℕ) (moment : ℕ)
    → resolved_with_floats (Some (marked_flags s)) want default context key moment ≡ resolved_with_floats (option_map marked_flags (first_sent s.number sent)) want default context key moment)
    (λ s sent h want default context key moment. ap (λ (o : Option Numbered). resolved_with_floats (option_map marked_flags o) want default context key moment) (sym h))
