use Rattle.std.proofs.Common.{◌≡◌, ◌≤◌, length, string_bytes, vec_items, sym, ap, ◌∙◌, subst, arith}
use Rattle.std.proofs.lemmas.List.{length-map}
use Rattle.flag_defs.specs.Document.{max_flags, printed}
use Rattle.flag_defs.specs.Flag.{entry_view, entries_view}
use Rattle.flag_defs.specs.Flags.{flags_view}
use Rattle.flag_defs.specs.Law.{ReadsBack, document_written}
use Rattle.flag_defs.proofs.Law.{printed-back}
use Rattle.flag_defs.proofs.Lawful.{lawful_flags}
use Rattle.flag_defs.proofs.print.print_flags.Goals as goal

pub returns-clause-reads_back : goal.returns-clause-reads_back
returns-clause-reads_back c =
    let flags = c.args.flags.now in
    let fs = flags_view flags in
    let s = c.in_ok-print_entries.field-0 in
    let bytes : c.into_bytes.result.items ≡ string_bytes s = ap vec_items c.into_bytes.ensures.value in
    let slice : c.as_slice.result.now ≡ flags.flags.items = c.as_slice.ensures.value in
    let few : length fs ≤ max_flags = omega (arith, length-map flags.flags.items entry_view, flags.few) in
    let back = subst (λ xs. ReadsBack (string_bytes s) (document_written (entries_view xs))) slice c.in_ok-print_entries.ensures.reads in
    printed-back fs (lawful_flags flags.flags.items) few flags.small c.into_bytes.result.items (bytes ∙ (c.in_ok-print_entries.ensures.text ∙ ap (λ xs. printed (entries_view xs)) slice))
    (subst (λ b. ReadsBack b (document_written fs)) (sym bytes) back)
