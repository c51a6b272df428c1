use Rattle.std.proofs.Common.{◌≡◌, ◌∙◌, ℕ, Bool, List, ap, sym, arith}
use Rattle.std.proofs.lemmas.List.{drop_all, length-map}
use Rattle.std.specs.Map.{lookup}
use Rattle.std.specs.Str.{bytes_eq}
use Rattle.flag_defs.specs.Definition.{Definition}
use Rattle.flag_defs.specs.Flag.{entry_view, flag_view}
use Rattle.flag_defs.specs.Flags.{flags_view}
use Rattle.flag_defs.specs.Floats.{Marks, entry_floats, floats_of, floats_view}
use Rattle.rollout.proofs.Rest.{is_behind, is_here}
use Rattle.rollout.proofs.application.flag_of.Goals as goal

pub returns-then-eq-clause-value : goal.returns-then-eq-clause-value
returns-then-eq-clause-value c =
    let entry : List ℕ × Definition = (c.entry.result.0.now, flag_view c.entry.result.1.now) in
    sym (is_here (bytes_eq c.args.key.now) (flags_view c.args.flags.now) c.loop-i.i entry c.entry.ensures.value (sym c.eq.ensures ∙ c.if-eq.true)) ∙ c.loop-i.invariant.flag

pub returns-then-eq-clause-floats : goal.returns-then-eq-clause-floats
returns-then-eq-clause-floats c =
    let entry : List ℕ × Bool = (c.entry.result.0.now, floats_of c.entry.result.1.now) in
    sym (is_here (bytes_eq c.args.key.now) (floats_view c.args.flags.now) c.loop-i.i entry c.entry.ensures.floats (sym c.eq.ensures ∙ c.if-eq.true)) ∙ c.loop-i.invariant.floats

pub loop-i-preserved : goal.loop-i-preserved
loop-i-preserved c =
    let entry : List ℕ × Definition = (c.entry.result.0.now, flag_view c.entry.result.1.now) in
    let mark : List ℕ × Bool = (c.entry.result.0.now, floats_of c.entry.result.1.now) in
    let other = sym c.eq.ensures ∙ c.if-eq.false in
    record {
      flag = is_behind (bytes_eq c.args.key.now) (flags_view c.args.flags.now) c.loop-i.i entry c.entry.ensures.value other ∙ c.loop-i.invariant.flag;
      floats = is_behind (bytes_eq c.args.key.now) (floats_view c.args.flags.now) c.loop-i.i mark c.entry.ensures.floats other ∙ c.loop-i.invariant.floats;
    }

-- there are as many marks as flags
pub returns-clause-floats : goal.returns-clause-floats
returns-clause-floats c =
    let es = c.args.flags.now.flags.items in
    ap (λ (ms : Marks). lookup (bytes_eq c.args.key.now) ms) (sym (drop_all c.loop-i.i (floats_view c.args.flags.now) (omega (arith, length-map es entry_view, length-map es entry_floats)))) ∙ c.loop-i.invariant.floats
