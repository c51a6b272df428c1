use Rattle.std.proofs.Common.{is_some, sym, ap, ◌∙◌}
use Rattle.std.specs.BTreeMap.{is_at}
use Rattle.std.specs.Option.{option_copied_mut}
use Rattle.std.specs.Ordering.{nat_cmp}
use Rattle.source_merge.proofs.Viewed.{set_value-absent}
use Rattle.snap_core.proofs.hub.mark.Goals as goal

pub returns-in_default : goal.returns-in_default
returns-in_default c =
    ap (λ m. m.entries) c.get_mut.follows.holds-at-none
    ∙ sym (set_value-absent (is_at (nat_cmp c.args.id)) c.args.members.now.entries c.args.number (ap is_some (sym c.get_mut.ensures.value ∙ ap option_copied_mut c.in_default.is)))
