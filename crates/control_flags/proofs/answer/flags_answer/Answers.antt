use Rattle.std.proofs.Common.{◌≡◌, ℕ, List, ◌++◌, ◌∙◌, Vec, Global, ap, ap₂, append_assoc, codes}
use Rattle.flag_defs.specs.Flags.{flags_view}
use Rattle.flag_defs.specs.Floats.{floats_view}
use Rattle.flag_defs.specs.Spelled.{printed_with_floats}
use Rattle.control_flags.specs.Flags.{rows_text}
use Rattle.control_flags.proofs.answer.flags_answer.Goals as goal

pub returns : goal.returns
returns c =
    let a = c.args.asked.now in
    let front : c.into_bytes-body.result.items ≡ rows_text a = ap (λ (v : Vec ℕ Global). v.items) c.into_bytes-body.ensures.value ∙ c.in_ok-rows.ensures in
    let flags = c.as_slice.ensures.value ∙ c.in_ok-flags.ensures.text in
    let both = c.in_ok-extend_from_slice.ensures.items ∙ ap₂ (λ (t more : List ℕ). t ++ more) front flags in
    c.in_ok-extend_from_slice-2.ensures.items ∙ ap (λ (t : List ℕ). t ++ codes "}\n") both ∙ append_assoc (rows_text a) (printed_with_floats (flags_view a.flags.now) (floats_view a.flags.now)) (codes "}\n")
