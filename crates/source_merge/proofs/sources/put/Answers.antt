use Rattle.std.proofs.Common.{sym, ap, ◌∙◌}
use Rattle.std.specs.Option.{option_copied_mut}
use Rattle.std.specs.Str.{bytes_eq}
use Rattle.flag_defs.specs.Flags.{flags_view}
use Rattle.flag_defs.specs.Floats.{floats_view}
use Rattle.source_merge.specs.Floats.{entries_floats}
use Rattle.source_merge.specs.Sources.{entries_view}
use Rattle.source_merge.proofs.Viewed.{set_value-viewed, absent}
use Rattle.source_merge.proofs.sources.put.Goals as goal

pub returns-in-Some-clause-documents : goal.returns-in-Some-clause-documents
returns-in-Some-clause-documents c =
    ap entries_view (c.get_mut.follows.holds c.args.document).0
    ∙ set_value-viewed flags_view (bytes_eq c.args.name.now) c.args.documents.now.entries c.args.document

pub returns-in-Some-clause-floats : goal.returns-in-Some-clause-floats
returns-in-Some-clause-floats c =
    ap entries_floats (c.get_mut.follows.holds c.args.document).0
    ∙ set_value-viewed floats_view (bytes_eq c.args.name.now) c.args.documents.now.entries c.args.document

pub returns-in_default-clause-documents : goal.returns-in_default-clause-documents
returns-in_default-clause-documents c =
    ap (λ m. entries_view m.entries) c.get_mut.follows.holds-at-none
    ∙ absent flags_view c.args.name.now c.args.documents.now.entries c.args.document (sym c.get_mut.ensures.value ∙ ap option_copied_mut c.in_default.is)

pub returns-in_default-clause-floats : goal.returns-in_default-clause-floats
returns-in_default-clause-floats c =
    ap (λ m. entries_floats m.entries) c.get_mut.follows.holds-at-none
    ∙ absent floats_view c.args.name.now c.args.documents.now.entries c.args.document (sym c.get_mut.ensures.value ∙ ap option_copied_mut c.in_default.is)
