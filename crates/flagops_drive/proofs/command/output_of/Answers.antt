use Rattle.std.proofs.Common.{◌≡◌, ◌∙◌, ℕ, Vec, Global, ap, arith, length, string_bytes}
use Rattle.flag_defs.specs.Floats.{marked_view}
use Rattle.flag_resolve.specs.Views.{resolution_view}
use Rattle.flagops_drive.specs.Floats.{spelled_of}
use Rattle.flagops_drive.proofs.Tallied.{tallied}
use Rattle.flagops_drive.proofs.command.output_of.Goals as goal

pub returns-clause-tally : goal.returns-clause-tally
returns-clause-tally c =
    let driven = c.args.driven in
    let bytes : c.into_bytes-text.result.items ≡ string_bytes c.in_ok-lines.field-0 = ap (λ (v : Vec ℕ Global). v.items) c.into_bytes-text.ensures.value in
    let count : c.len.result ≡ length driven.answers.items = omega (arith, c.len.ensures, driven.answers.ok.0) in
    tallied resolution_view (spelled_of (marked_view c.args.flags.now) c.args.asks.now) driven.answers.items c.as_slice.result.now c.as_slice-2.result.now c.args.before c.args.json _ _ driven.calls driven.full driven.long
    c.as_slice.ensures.value c.as_slice-2.ensures.value (bytes ∙ c.in_ok-lines.ensures) count c.of.ensures c.inputs_before-had.ensures
