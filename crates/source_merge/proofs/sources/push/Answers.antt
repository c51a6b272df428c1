use Rattle.std.proofs.Common.{◌≡◌, ℕ, List, [], ◌∷◌, ◌++◌, None, string_bytes, ap, ◌∙◌}
use Rattle.flag_defs.specs.Flags.{flags_view}
use Rattle.flag_defs.specs.Floats.{floats_view}
use Rattle.source_merge.specs.Floats.{MarkedSource, entries_floats}
use Rattle.source_merge.specs.Sources.{SourceList, entries_view, is_source}
use Rattle.source_merge.proofs.Viewed.{pushed}
use Rattle.source_merge.proofs.sources.push.Goals as goal

pub returns-clause-pushed : goal.returns-clause-pushed
returns-clause-pushed c =
    let es = c.args.documents.now.entries in
    let key = c.in_ok-from_str.field-0 in
    let named : string_bytes key ≡ c.args.name.now = c.in_ok-from_str.ensures.ok in
    ap entries_view c.in_ok-insert.ensures.entries
    ∙ (pushed flags_view key es (ap (λ (n : List ℕ). is_source n (entries_view es)) named ∙ c.requires)
    ∙ ap (λ (n : List ℕ). let ss : SourceList = entries_view es ++ (n, None) ∷ [] in ss) named)

pub returns-clause-floats : goal.returns-clause-floats
returns-clause-floats c =
    let es = c.args.documents.now.entries in
    let key = c.in_ok-from_str.field-0 in
    let named : string_bytes key ≡ c.args.name.now = c.in_ok-from_str.ensures.ok in
    ap entries_floats c.in_ok-insert.ensures.entries
    ∙ (pushed floats_view key es (ap (λ (n : List ℕ). is_source n (entries_view es)) named ∙ c.requires)
    ∙ ap (λ (n : List ℕ). let ss : List MarkedSource = entries_floats es ++ (n, None) ∷ [] in ss) named)
