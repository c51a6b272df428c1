use Rattle.std.proofs.Common.{◌≡◌, Some, sym, subst, arith}
use Rattle.std.specs.Prelude.{IfErr, option_and_then}
use Rattle.std.specs.Map.{lookup}
use Rattle.std.specs.Str.{bytes_eq}
use Rattle.logic_ast.specs.Expr.{view}
use Rattle.flag_defs.specs.Flag.{targeting_in}
use Rattle.flag_defs.specs.Flags.{flags_view}
use Rattle.kept_document.specs.Kept.{IsRefused}
use Rattle.kept_document.proofs.Checked.{place_is, unread}
use Rattle.kept_document.proofs.keeping.keep.Goals as goal

pub returns-in-Err-clause-refused : goal.returns-in-Err-clause-refused
returns-in-Err-clause-refused c = unread c.args.floats c.args.document.now _ c.args.key.now _ c.args.site c.args.rule.now _ c.in-Err.fault c.in-Err.ensures

pub returns-in-Ok-clause-refused : goal.returns-in-Ok-clause-refused
returns-in-Ok-clause-refused c =
    let targeting : option_and_then targeting_in (lookup (bytes_eq c.args.key.now) (flags_view c.args.flags.now)) ≡ Some (view c.in-Some-targeting.targeting.now) = grind arith in
    let same = place_is _ c.args.key.now _ c.args.site _ _ c.in-Ok.ensures targeting in
    subst (λ p. IfErr c.keep_in.result (IsRefused c.args.floats c.args.document.now p c.args.rule.now (flags_view c.args.wanted.now))) (sym same) c.keep_in.ensures.refused
