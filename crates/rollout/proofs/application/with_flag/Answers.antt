use Rattle.std.proofs.Common.{◌≡◌, sym, subst}
use Rattle.std.specs.Prelude.{IfOk}
use Rattle.flag_text.specs.Outcome.{GivesUnless}
use Rattle.flag_defs.specs.Changes.{by_key}
use Rattle.flag_defs.specs.Document.{limited}
use Rattle.flag_defs.specs.Flag.{flag_view}
use Rattle.flag_defs.specs.Flags.{flags_view}
use Rattle.flag_defs.specs.Floats.{floats_of, floats_view, marks_by_key}
use Rattle.flag_defs.specs.declared.fault.DefFault.TheVariants.{WantOfMemory}
use Rattle.rollout.proofs.Copies.{with_one}
use Rattle.rollout.proofs.application.with_flag.Goals as goal

pub returns : goal.returns
returns c =
    let one = with_one flag_view _ _ c.in_ok-from_str.field-0 c.args.flag (flags_view c.args.flags.now) c.args.key.now c.in_ok-push.ensures.items c.in_ok-entries.ensures.value c.in_ok-from_str.ensures.ok in
    let marks = with_one floats_of _ _ c.in_ok-from_str.field-0 c.args.flag (floats_view c.args.flags.now) c.args.key.now c.in_ok-push.ensures.items c.in_ok-entries.ensures.floats c.in_ok-from_str.ensures.ok in
    record {
      exact = subst (λ fs. GivesUnless WantOfMemory flags_view c.make.result (limited (by_key fs))) (sym one) c.make.ensures.exact;
      floats = subst (λ ms. IfOk c.make.result (λ fs. floats_view fs ≡ marks_by_key ms)) (sym marks) c.make.ensures.floats;
    }
