use Rattle.std.proofs.Common.{◌≡◌, length, None, refl, sym, ap, ◌∙◌, subst}
use Rattle.std.proofs.lemmas.List.{length-replicate}
use Rattle.flag_text.proofs.Halving.{names_rise-tidy}
use Rattle.flag_text.specs.Shape.{members_are_tidy}
use Rattle.flag_text.specs.View.{members_view}
use Rattle.flag_references.specs.Table.{AreHeads, Knows, Learned}
use Rattle.flag_references.proofs.Heads.{no_heads}
use Rattle.flag_references.proofs.Passes.{Knows-none, closed_at_last}
use Rattle.flag_references.proofs.table.Evaluators.read.Goals as goal

pub invariant_of-table : goal.invariant_of-table
invariant_of-table c =
    let evaluators = c.args.members.now in
    let n = length evaluators in
    let is = c.in_ok-measures.ensures in record {
      rising = names_rise-tidy (members_view evaluators) c.requires;
      each = ap length is ∙ length-replicate n None;
      knows = subst (Knows (members_view evaluators)) (sym is) (Knows-none (members_view evaluators) n);
      ends = subst (λ es. AreHeads evaluators es c.in_ok-heads.heads.items) (sym is) (no_heads evaluators c.in_ok-heads.heads.items c.in_ok-heads.ensures);
    }

pub invariant_of-result : goal.invariant_of-result
invariant_of-result c =
    let t = c.pass.new.self in
    let e = c.loop-test.ensures in
    let knows : Knows (members_view t.members) t.measures = subst (λ (x : Learned). Knows (members_view x.members) x.measures) c.table-2.view_is c.table-2.invariant.knows in
    let each : length t.measures ≡ length t.members = subst (λ (x : Learned). length x.measures ≡ length x.members) c.table-2.view_is c.table-2.invariant.each in record {
      tidy = ap (λ ms. members_are_tidy (members_view ms)) (e.members ∙ c.loop.invariant) ∙ c.requires;
      knows_all = closed_at_last t.members t.measures knows each (e.stuck refl);
    }
