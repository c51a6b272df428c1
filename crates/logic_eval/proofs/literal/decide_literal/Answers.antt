use Rattle.std.proofs.Common.{◌≡◌, ◌≢◌, ◌++◌, ◌∷◌, [], ℕ, List, Option, Some, Ok, Result, map, string_bytes, option_map, ap, sym, refl, ◌∙◌, arith, rules}
use Rattle.std.specs.Arc.{arc_value}
use Rattle.std.specs.Option.{option_map_or}
use Rattle.bucket_core.specs.Rule.{Entries, at, total_weight}
use Rattle.flag_text.specs.Shape.{null, text}
use Rattle.logic_ast.specs.View.{buckets_view}
use Rattle.logic_eval.specs.Fractional.{input_result}
use Rattle.logic_eval.specs.Literal.{entries_in}
use Rattle.logic_eval.specs.Run.{Reach}
use Rattle.logic_eval.specs.Views.{progress, default_view, input_view, reach_view}
use Rattle.logic_values.specs.Views.{value_view}
use Rattle.logic_eval.specs.declared.hashed.HashInput.{HashInput}
use Rattle.logic_eval.proofs.Choices.{scaled}
use Rattle.logic_eval.proofs.Exits.{exits}
use Rattle.logic_eval.proofs.Literals.{input_weightless, input_without, input_fault, input_chosen}
use Rattle.logic_values.proofs.Items.{pushed}
use Rattle.logic_values.proofs.Surfaces.{value_null}
use Rattle.logic_eval.proofs.literal.decide_literal.Goals as goal

pub scale-requires : goal.scale-requires
scale-requires c =
    let r : Entries = entries_in (buckets_view c.args.buckets.now.items) in
    let total : c.total_of-total.result ≡ total_weight r = c.total_of-total.ensures r c.requires.ends.sums in
    let z : c.total_of-total.result ≢ 0 = search rules in
    record { some = omega (arith, z); small = omega (arith, total, c.requires.ends.small) }

pub name_at-name-requires : goal.name_at-name-requires
name_at-name-requires c =
    let r : Entries = entries_in (buckets_view c.args.buckets.now.items) in
    let total : c.total_of-total.result ≡ total_weight r = c.total_of-total.ensures r c.requires.ends.sums in
    record { ends = c.requires.ends; point = omega (arith, c.scale.ensures.below, total) }

pub returns-then-total-eq0 : goal.returns-then-total-eq0
returns-then-total-eq0 c =
    let r : Entries = entries_in (buckets_view c.args.buckets.now.items) in
    let total : c.total_of-total.result ≡ total_weight r = c.total_of-total.ensures r c.requires.ends.sums in
    let z : c.total_of-total.result ≡ 0 = search rules in record {
      exact = input_weightless c.args.site (input_view (default_view c.args.subject) c.args.input) r (progress c.args.meter.now) c.total_of-total.result total z
          ∙ ap (λ s. Ok (s, progress c.args.meter.now)) (sym value_null);
    }

pub returns-in_err-input : goal.returns-in_err-input
returns-in_err-input c =
    let r : Entries = entries_in (buckets_view c.args.buckets.now.items) in
    let total : c.total_of-total.result ≡ total_weight r = c.total_of-total.ensures r c.requires.ends.sums in
    let z : c.total_of-total.result ≢ 0 = search rules in record {
      exact = exits _ _ _ _ c.from_residual.ensures.1
          (λ n. input_fault c.args.site (input_view (default_view c.args.subject) c.args.input) r (progress c.args.meter.now) c.total_of-total.result _ total z (c.in_err-input.ensures.exact n));
    }

pub returns-in_default : goal.returns-in_default
returns-in_default c = record {
  exact = input_without c.args.site (input_view (default_view c.args.subject) c.args.input) (entries_in (buckets_view c.args.buckets.now.items)) (progress c.args.meter.now)
      (c.in_ok-input.ensures.exact ∙ ap (λ (o : Option HashInput). let r : Result (Option (List ℕ)) _ = Ok (option_map (λ h. string_bytes (arc_value h.text)) o) in r) c.in_default.is)
      ∙ ap (λ s. Ok (s, progress c.args.meter.now)) (sym value_null);
}

pub returns : goal.returns
returns c =
    let t : ℕ = c.total_of-total.result in
    let z : t ≢ 0 = search rules in
    let r : Entries = entries_in (buckets_view c.args.buckets.now.items) in
    let total : t ≡ total_weight r = c.total_of-total.ensures r c.requires.ends.sums in
    let s : List ℕ = string_bytes (arc_value c.in-Some.input.text) in
    let g : input_result (input_view (default_view c.args.subject) c.args.input) ≡ Ok (Some s) =
    c.in_ok-input.ensures.exact ∙ ap (λ (o : Option HashInput). let r : Result (Option (List ℕ)) _ = Ok (option_map (λ h. string_bytes (arc_value h.text)) o) in r) c.in-Some.is in
    let named = c.name_at-name.ensures ∙ ap (λ n. option_map_or text (at r n) null) (c.scale.ensures.value ∙ scaled t c.in-Some.input.hash s c.in-Some.input.hashed) in
    let site : Reach = record { site = c.args.site; input = s; total = t } in
    let grown : map reach_view c.push.new.self.items ≡ map reach_view c.args.meter.now.reached.items ++ site ∷ [] =
    pushed reach_view c.args.meter.now.reached.items c.push.new.self.items _ site c.in_ok-push.ensures.items refl in record {
      exact = input_chosen c.args.site (input_view (default_view c.args.subject) c.args.input) r (progress c.args.meter.now) t s (value_view c.name_at-name.result) total z g named
          ∙ ap (λ rs. Ok (value_view c.name_at-name.result, (c.args.meter.now.left, rs))) (sym grown);
    }
