use Rattle.std.proofs.Common.{◌≡◌, ℕ, ◌<◌, false, List, [], ◌∷◌, ◌++◌, length, map, take, None, string_bytes, sym, ap, ◌∙◌, subst}
use Rattle.source_merge.specs.Sources.{SourceList, is_source, most_sources}
use Rattle.source_merge.specs.View.{sources_view}
use Rattle.snap_core.specs.Opening.{sources_named}
use Rattle.snap_core.proofs.Named.{new_name, few_before, one_more, added_one, not_refused}
use Rattle.snap_core.proofs.names.sources_of.Goals as goal

pub loop-name-preserved : goal.loop-name-preserved
loop-name-preserved c =
    let ss = sources_view c.loop-name.sources in
    let n = c.as_str.result.now in
    let i = c.loop-name.name-index in
    let fresh : is_source n ss ≡ false =
    ap (λ (m : List ℕ). is_source m ss) c.as_str.ensures.value ∙ (ap (is_source (string_bytes c.name-item.result)) c.loop-name.invariant ∙ new_name c.args.names.now c.requires.distinct c.requires.few i c.name-item.result c.name-item.is c.loop-name-test.true) in
    let few : length ss < most_sources = subst (λ (xs : SourceList). length xs < most_sources) (sym c.loop-name.invariant) (few_before c.args.names.now c.requires.distinct c.requires.few i c.name-item.result c.name-item.is c.loop-name-test.true) in
    added_one ss (sources_view c.add.new.self) n fresh few c.in-Ok.ensures.exact
    ∙ (ap (λ (xs : SourceList). xs ++ (n, None) ∷ []) c.loop-name.invariant
    ∙ (ap (λ (m : List ℕ). let xs : SourceList = sources_named (map string_bytes (take i c.args.names.now)) ++ (m, None) ∷ [] in xs) c.as_str.ensures.value
    ∙ sym (one_more c.args.names.now c.requires.distinct c.requires.few i c.name-item.result c.name-item.is c.loop-name-test.true)))

pub returns-in-Err-Known-clause-want : goal.returns-in-Err-Known-clause-want
returns-in-Err-Known-clause-want c =
    let ss = sources_view c.loop-name.sources in
    let n = c.as_str.result.now in
    let i = c.loop-name.name-index in
    let fresh : is_source n ss ≡ false =
    ap (λ (m : List ℕ). is_source m ss) c.as_str.ensures.value ∙ (ap (is_source (string_bytes c.name-item.result)) c.loop-name.invariant ∙ new_name c.args.names.now c.requires.distinct c.requires.few i c.name-item.result c.name-item.is c.loop-name-test.true) in
    let few : length ss < most_sources = subst (λ (xs : SourceList). length xs < most_sources) (sym c.loop-name.invariant) (few_before c.args.names.now c.requires.distinct c.requires.few i c.name-item.result c.name-item.is c.loop-name-test.true) in
    absurd (not_refused ss n c.in-Err-Known.field-0 fresh few (λ e. let is = c.in-Err-Known.field-0-is in cc) c.in-Err-Known.ensures.exact)

pub returns-in-Err-TooMany-clause-want : goal.returns-in-Err-TooMany-clause-want
returns-in-Err-TooMany-clause-want c =
    let ss = sources_view c.loop-name.sources in
    let n = c.as_str.result.now in
    let i = c.loop-name.name-index in
    let fresh : is_source n ss ≡ false =
    ap (λ (m : List ℕ). is_source m ss) c.as_str.ensures.value ∙ (ap (is_source (string_bytes c.name-item.result)) c.loop-name.invariant ∙ new_name c.args.names.now c.requires.distinct c.requires.few i c.name-item.result c.name-item.is c.loop-name-test.true) in
    let few : length ss < most_sources = subst (λ (xs : SourceList). length xs < most_sources) (sym c.loop-name.invariant) (few_before c.args.names.now c.requires.distinct c.requires.few i c.name-item.result c.name-item.is c.loop-name-test.true) in
    absurd (not_refused ss n c.in-Err-TooMany.field-0 fresh few (λ e. let is = c.in-Err-TooMany.field-0-is in cc) c.in-Err-TooMany.ensures.exact)
