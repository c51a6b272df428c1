use Rattle.std.proofs.Common.{◌≡◌, ◌∙◌, ℕ, List, Ok, Option, length, subst, sym}
use Rattle.std.specs.Prelude.{IfSome}
use mathlib.Core.List.{IsPrefix}
use Rattle.std.specs.Arc.{arc_value}
use Rattle.flag_defs.specs.Flags.{flags_view}
use Rattle.flag_defs.specs.Floats.{MeansWithFloats}
use Rattle.flag_defs.specs.declared.flags.Flags.{Flags}
use Rattle.snap_share.specs.Known.{Seat}
use Rattle.control_desk.specs.Sources.{Source}
use Rattle.control_desk.proofs.Documents.{means_read}
use Rattle.control_desk.proofs.desk.ControlDesk.hold.Goals as goal

-- a text of as many publications as the seat knew is of the snapshot that it read
pub returns-clause-document : goal.returns-clause-document
returns-clause-document g c =
    let s = arc_value c.in_ok-shared.shared in
    let known = c.current.new.self.known in
    let later = c.learn.new.self.known in
    let text = c.in-Some.text in
    let parts = c.into_parts-told in
    let number : c.number.result ≡ s.number = cc in
    let set : length text.published ≡ c.number.result = subst (λ (o : Option Source). IfSome o (λ t. length t.published ≡ c.number.result)) c.in-Some.is c.in_ok-text.ensures.number in
    let grows : IsPrefix known later = subst (λ (seat : Seat). IsPrefix seat.known later) c.text_of.ensures.seat c.learn.ensures.grows in
    let told : IsPrefix text.published later = subst (λ (published : List Flags). IsPrefix published later) parts.ensures.published c.learn.ensures.told in
    subst (λ (bytes : List ℕ). MeansWithFloats bytes (Ok (flags_view s.flags))) (sym parts.ensures.document)
    (means_read known text.published later s.flags c.number.result text.document c.in_ok-shared.ensures.last.last (number ∙ c.in_ok-shared.ensures.last.number) grows told set parts.ensures.means)
