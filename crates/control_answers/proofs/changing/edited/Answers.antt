use Rattle.std.proofs.Common.{◌≡◌, List, ℕ, Ok, rules, string_bytes, subst, sym, true}
use Rattle.std.proofs.lemmas.Bool.{false≢true}
use Rattle.flag_defs.specs.Flags.{flags_view}
use Rattle.flag_defs.specs.Floats.{MeansAs}
use Rattle.kept_document.specs.Kept.{KeptAt, place_in}
use Rattle.control_answers.proofs.NoText.{no_flags}
use Rattle.control_answers.proofs.changing.edited.Goals as goal

-- bytes that are no text mean no flags
pub unreachable-requires : goal.unreachable-requires
unreachable-requires c = no_flags c.in-Ok.text.items (flags_view c.args.wanted.now) (λ is. false≢true (c.in-Err-from_utf8.ensures.succeeds is)) c.in-Ok.ensures.means

pub returns-in-Ok-from_utf8 : goal.returns-in-Ok-from_utf8
returns-in-Ok-from_utf8 c =
    let document = c.args.snapshot.now.document.now in
    let place = place_in true document (flags_view c.args.snapshot.now.flags.now) c.args.key.now c.args.site in
    let same : string_bytes c.in-Ok-from_utf8.text ≡ c.in-Ok.text.items = search rules in
    (subst (λ (text : List ℕ). KeptAt document place c.args.rule.now text) (sym same) c.in-Ok.ensures.kept, subst (λ (text : List ℕ). MeansAs true text (Ok (flags_view c.args.wanted.now))) (sym same) c.in-Ok.ensures.means)

pub returns-in-Err : goal.returns-in-Err
returns-in-Err c = λ other. (c.in-Err.fault, c.in-Err.ensures.refused, c.of_keep.ensures)
