use Rattle.std.proofs.Common.{ℕ, List, ◌++◌, take, Bool, Option, option_map, sym, ap, ap₂, ◌∙◌}
use Rattle.decimal_reads.specs.Reads.{Reading, read_view}
use Rattle.flag_defs.specs.Flags.{flags_view}
use Rattle.flag_defs.specs.Floats.{floats_view}
use Rattle.flag_defs.specs.Definition.{Definition}
use Rattle.flag_defs.specs.Flag.{flag_view}
use Rattle.flag_metadata.specs.Merged.{flag_metadata}
use Rattle.flag_metadata.specs.View.{metadata_view}
use Rattle.flag_resolve.specs.Floats.{Marked}
use Rattle.flag_resolve.specs.Resolved.{Resolved}
use Rattle.flag_resolve.specs.Views.{resolution_view}
use Rattle.flag_text.specs.View.{view}
use Rattle.logic_eval.specs.Run.{Reach}
use Rattle.ofrep_answers.proofs.Loops.{flat_step}
use Rattle.ofrep_answers.specs.Evaluation.{bodies, body_at, body_if_told, evaluation, is_spelled, reached_at}
use Rattle.ofrep_answers.proofs.every.told_flags.Goals as goal

pub loop-i-preserved : goal.loop-i-preserved
loop-i-preserved c =
    let fs = flags_view c.args.flags.now in
    let marked : Marked = (fs, floats_view c.args.flags.now) in
    let metadata = flag_metadata (metadata_view c.args.metadata.now) in
    let context = view c.args.context.now in
    let key = c.at.result.0.now in
    let d = flag_view c.at.result.1.now in
    let resolved = c.in_ok-resolution.ensures in
    let r = resolution_view c.in_ok-resolution.resolution in
    let told = bodies metadata marked context c.args.moment (take c.loop-i.i fs) in
    record {
      bodies = c.in_ok-add.ensures.bodies
          ∙ ap₂ (λ (ys : List (List ℕ)) (b : Bool). ys ++ body_if_told (option_map read_view c.in_ok-read.read) b (metadata key) key r) (c.count.ensures.bodies ∙ c.loop-i.invariant.bodies) c.is_spelled-spelled.ensures
          ∙ ap (λ (o : Option Reading). told ++ body_if_told o (is_spelled key marked) (metadata key) key r) c.in_ok-read.ensures
          ∙ ap (λ (q : Resolved). told ++ body_at marked metadata context c.args.moment key q) resolved
          ∙ sym (flat_step (λ (f : List ℕ × Definition). body_at marked metadata context c.args.moment f.0 (evaluation fs f.0 context c.args.moment)) fs c.loop-i.i (key, d) c.at.ensures);
      reached = c.in_ok-add.ensures.reached ∙ ap₂ (λ (ys : List (List ℕ × List Reach)) (r : Resolved). ys ++ reached_at key r.reached) (c.count.ensures.reached ∙ c.loop-i.invariant.reached) resolved
          ∙ sym (flat_step (λ (f : List ℕ × Definition). reached_at f.0 (evaluation fs f.0 context c.args.moment).reached) fs c.loop-i.i (key, d) c.at.ensures);
    }
