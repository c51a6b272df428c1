use Rattle.std.proofs.Common.{fold, sym, ap, ◌∙◌, arith}
use Rattle.std.proofs.lemmas.List.{drop_all, length-map}
use Rattle.flag_defs.specs.Flag.{entry_view, flag_view}
use Rattle.flag_defs.specs.Flags.{flags_view}
use Rattle.flag_defs.specs.Floats.{Marks, entry_floats, floats_of, floats_view, lent_floats}
use Rattle.source_merge.specs.Floats.{with_mark}
use Rattle.source_merge.proofs.Lent.{one_more}
use Rattle.source_merge.proofs.choice.choose.Goals as goal

pub loop-i-preserved : goal.loop-i-preserved
loop-i-preserved c = (
  one_more flag_view c.loop-i.chosen.entries c.choose_entry.new.chosen.entries c.entry.result.0 c.entry.result.1 (flags_view c.args.flags.now) c.loop-i.i c.in_ok-choose_entry.ensures.entry c.entry.ensures.value
      ∙ c.loop-i.invariant.0,
  one_more floats_of c.loop-i.chosen.entries c.choose_entry.new.chosen.entries c.entry.result.0 c.entry.result.1 (floats_view c.args.flags.now) c.loop-i.i c.in_ok-choose_entry.ensures.floats c.entry.ensures.floats
      ∙ c.loop-i.invariant.1,
)

-- there are as many marks as flags
pub returns-clause-floats : goal.returns-clause-floats
returns-clause-floats c =
    let es = c.args.flags.now.flags.items in
    ap (λ (ms : Marks). fold with_mark (lent_floats c.loop-i.chosen.entries) ms) (sym (drop_all c.loop-i.i (floats_view c.args.flags.now) (omega (arith, length-map es entry_view, length-map es entry_floats))))
    ∙ c.loop-i.invariant.1
