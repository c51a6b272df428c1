use Rattle.std.proofs.Common.{ap, sym, subst, ◌∙◌, ℕ, List, IfOk, option_map, string_bytes, ◌≡◌}
use Rattle.flag_defs.specs.Flags.{flags_view}
use Rattle.json.specs.Lex.{tokens}
use Rattle.json.specs.Token.{Token}
use Rattle.flag_doubts.proofs.Names.{no_names, text_names}
use Rattle.flag_doubts.specs.Regression.{first_lost}
use Rattle.flag_doubts.proofs.lost.first_lost.Goals as goal

pub returns-in-Ok : goal.returns-in-Ok
returns-in-Ok c =
    let text = c.in-Ok.ensures in
    subst (λ (ts : List Token). IfOk c.lost_in.result (λ o. option_map string_bytes o ≡ first_lost (flags_view c.args.current.now) (flags_view c.args.later.now) ts))
    (ap (λ (bytes : List ℕ). tokens bytes) text.0 ∙ sym (text_names c.args.text.now text.1)) c.lost_in.ensures

pub returns-in-Err : goal.returns-in-Err
returns-in-Err c = sym (no_names (flags_view c.args.current.now) (flags_view c.args.later.now) c.args.text.now (λ u. absurd (c.in-Err.ensures u)))
