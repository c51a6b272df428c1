use Rattle.std.proofs.Common.{◌≡◌, ◌≢◌, ◌++◌, ◌∷◌, [], ℕ, List, Option, Some, Ok, Result, map, string_bytes, option_map, ap, sym, refl, ◌∙◌, rules}
use Rattle.std.specs.Arc.{arc_value}
use Rattle.std.specs.Option.{option_map_or}
use Rattle.bucket_core.specs.Point.{point_of}
use Rattle.bucket_core.specs.Rule.{Entries, at}
use Rattle.flag_text.specs.Shape.{Shape, null, text}
use Rattle.logic_eval.specs.Fractional.{entries_of, input_result}
use Rattle.logic_eval.specs.Run.{Reach}
use Rattle.logic_eval.specs.Views.{progress, default_view, input_view, weighted_variant_view, reach_view}
use Rattle.logic_values.specs.Views.{value_view}
use Rattle.logic_eval.specs.declared.hashed.HashInput.{HashInput}
use Rattle.logic_eval.proofs.Choices.{decided_bad, decided_weightless, decided_fault, decided_without, decided_ok, or_null, scaled}
use Rattle.logic_eval.proofs.Exits.{exits}
use Rattle.logic_values.proofs.Items.{pushed}
use Rattle.logic_values.proofs.Surfaces.{value_null}
use Rattle.logic_eval.proofs.choice.decide.Goals as goal

pub returns-in_default : goal.returns-in_default
returns-in_default c = record { exact = λ n. decided_bad c.args.site (input_view (default_view c.args.subject) c.args.input) (map weighted_variant_view c.args.shares.now) (progress c.args.meter.now) c.in_default.ensures.value }

pub returns-then-total-eq0 : goal.returns-then-total-eq0
returns-then-total-eq0 c = let z : c.in-Some.total ≡ 0 = search rules in record {
  exact = decided_weightless c.args.site (input_view (default_view c.args.subject) c.args.input) (map weighted_variant_view c.args.shares.now) (progress c.args.meter.now) (ap Some (sym z) ∙ c.in-Some.ensures.value) ∙ ap (λ s. Ok (s, progress c.args.meter.now)) (sym value_null);
}

pub returns-in_err-input : goal.returns-in_err-input
returns-in_err-input c = let z : c.in-Some.total ≢ 0 = search rules in record {
  exact = exits _ _ _ _ c.from_residual.ensures.1 (λ n. decided_fault c.args.site (input_view (default_view c.args.subject) c.args.input) (map weighted_variant_view c.args.shares.now) (progress c.args.meter.now) c.in-Some.total _ c.in-Some.ensures.value z (c.in_err-input.ensures.exact n));
}

pub returns-in_default-2 : goal.returns-in_default-2
returns-in_default-2 c = record {
  exact = decided_without c.args.site (input_view (default_view c.args.subject) c.args.input) (map weighted_variant_view c.args.shares.now) (progress c.args.meter.now) c.in-Some.total c.in-Some.ensures.value (c.in_ok-input.ensures.exact ∙ ap (λ (o : Option HashInput). let r : Result (Option (List ℕ)) _ = Ok (option_map (λ h. string_bytes (arc_value h.text)) o) in r) c.in_default-2.is) ∙ ap (λ s. Ok (s, progress c.args.meter.now)) (sym value_null);
}

pub returns : goal.returns
returns c =
    let z : c.in-Some.total ≢ 0 = search rules in
    let s : List ℕ = string_bytes (arc_value c.in-Some-2.input.text) in
    let g : input_result (input_view (default_view c.args.subject) c.args.input) ≡ Ok (Some s) =
    c.in_ok-input.ensures.exact ∙ ap (λ (o : Option HashInput). let r : Result (Option (List ℕ)) _ = Ok (option_map (λ h. string_bytes (arc_value h.text)) o) in r) c.in-Some-2.is in
    let v : Shape = option_map_or (λ x. (weighted_variant_view x.now).0) c.share_at.result null in
    let named : (r : Entries) → entries_of (map weighted_variant_view c.args.shares.now) ≡ Some r → v ≡ option_map_or text (at r (point_of c.in-Some.total s)) null =
    λ r e. or_null _ _ _ _ (c.share_at.ensures r e ∙ ap (λ n. option_map text (at r n)) (c.scale.ensures.value ∙ scaled c.in-Some.total c.in-Some-2.input.hash s c.in-Some-2.input.hashed)) in
    let site : Reach = record { site = c.args.site; input = s; total = c.in-Some.total } in
    let grown : map reach_view c.push.new.self.items ≡ map reach_view c.args.meter.now.reached.items ++ site ∷ [] =
    pushed reach_view c.args.meter.now.reached.items c.push.new.self.items _ site c.in_ok-push.ensures.items refl in record {
      exact = decided_ok c.args.site (input_view (default_view c.args.subject) c.args.input) (map weighted_variant_view c.args.shares.now) (progress c.args.meter.now) c.in-Some.total s v c.in-Some.ensures.value z g named
          ∙ (ap (λ v. Ok (v, (c.args.meter.now.left, map reach_view c.args.meter.now.reached.items ++ site ∷ []))) (sym c.in_ok-chosen.ensures)
          ∙ ap (λ rs. Ok (value_view c.in_ok-chosen.chosen, (c.args.meter.now.left, rs))) (sym grown));
    }
