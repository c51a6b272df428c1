use Rattle.std.proofs.Common.{◌≡◌, Vec, codes, Some, ap, sym, subst, ◌∙◌}
use Rattle.std.specs.declared.alloc.Global.{Global}
use Rattle.std.specs.Option.{option_map}
use Rattle.std.proofs.lemmas.Result.{IfOk-weaker}
use Rattle.flag_text.specs.Shape.{members_are_tidy}
use Rattle.flag_text.specs.View.{view, members_view}
use Rattle.flag_text.proofs.Views.{Named}
use Rattle.flag_defs.specs.Document.{FlagsMean, evaluators_in, flags_in}
use Rattle.flag_defs.specs.Entries.{AreMeant, HoldsLimited}
use Rattle.flag_defs.specs.Flag.{entries_view}
use Rattle.flag_defs.proofs.Meant.{tidy_named_object, tidy_evaluators}
use Rattle.flag_defs.proofs.entries.read_document.Goals as goal

pub read-requires : goal.read-requires
read-requires c =
    ap (λ ms. members_are_tidy (members_view ms)) c.as_slice.ensures.value
    ∙ (ap members_are_tidy c.of-definitions.ensures.evaluators ∙ tidy_evaluators (view c.args.document) c.requires)

pub read_definitions-requires : goal.read_definitions-requires
read_definitions-requires c =
    let t = view c.args.document in
    let ms = members_view c.in-Some.definitions.items in
    let is : flags_in t ≡ Some ms = sym c.of-definitions.ensures.definitions ∙ ap (option_map (λ (v : Vec Named Global). members_view v.items)) c.in-Some.is in
    tidy_named_object (codes "flags") t ms c.requires is

pub returns-clause-means : goal.returns-clause-means
returns-clause-means c =
    let t = view c.args.document in
    let ms = members_view c.in-Some.definitions.items in
    let r = c.read_definitions.result in
    let is : flags_in t ≡ Some ms = sym c.of-definitions.ensures.definitions ∙ ap (option_map (λ (v : Vec Named Global). members_view v.items)) c.in-Some.is in
    let same = ap members_view (c.in_ok-evaluators.ensures ∙ c.as_slice.ensures.value) ∙ c.of-definitions.ensures.evaluators in
    subst (λ o. HoldsLimited (FlagsMean (evaluators_in t) o) r) (sym is)
    (subst (λ es. HoldsLimited (FlagsMean es (Some ms)) r) same c.read_definitions.ensures.means)

pub returns-clause-each : goal.returns-clause-each
returns-clause-each c =
    let t = view c.args.document in
    let ms = members_view c.in-Some.definitions.items in
    let is : flags_in t ≡ Some ms = sym c.of-definitions.ensures.definitions ∙ ap (option_map (λ (v : Vec Named Global). members_view v.items)) c.in-Some.is in
    let same = ap members_view (c.in_ok-evaluators.ensures ∙ c.as_slice.ensures.value) ∙ c.of-definitions.ensures.evaluators in
    IfOk-weaker c.read_definitions.result _ _
    (λ v e. subst (λ o. AreMeant (evaluators_in t) o (entries_view v.items)) (sym is) (subst (λ es. AreMeant es (Some ms) (entries_view v.items)) same e))
    c.read_definitions.ensures.each
