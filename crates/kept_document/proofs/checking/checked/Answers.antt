use Rattle.std.proofs.Common.{List, arith, ℕ, Ok, Err, subst}
use Rattle.flag_defs.specs.Flags.{flags_view}
use Rattle.flag_defs.specs.Floats.{MeansAs}
use Rattle.kept_document.proofs.Checked.{other_flags, refused_document}
use Rattle.kept_document.proofs.checking.checked.Goals as goal

pub returns-else-branch-clause-refused : goal.returns-else-branch-clause-refused
returns-else-branch-clause-refused c =
    other_flags c.args.floats c.args.text.items (flags_view c.in-Ok.flags) _ _ (omega arith) (subst (λ (t : List ℕ). MeansAs c.args.floats t (Ok (flags_view c.in-Ok.flags))) c.as_slice.ensures.value c.in-Ok.ensures.means)
    c.in_ok-are_same-in-Ok.ensures.1 c.if-branch.false

pub returns-in-Err-clause-refused : goal.returns-in-Err-clause-refused
returns-in-Err-clause-refused c =
    refused_document c.args.floats c.args.text.items _ c.in-Err.fault _ (omega arith) c.of_document.ensures
    (λ h. subst (λ (t : List ℕ). MeansAs c.args.floats t (Err c.in-Err.fault)) c.as_slice.ensures.value (c.in-Err.ensures.means h))
