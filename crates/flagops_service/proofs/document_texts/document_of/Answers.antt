use Rattle.std.proofs.Common.{◌≡◌, ◌∙◌, ℕ, List, Ok, rules, string_bytes, subst, sym}
use Rattle.std.proofs.lemmas.Bool.{false≢true}
use Rattle.std.proofs.lemmas.Str.{IsUtf8-from_is_utf8}
use Rattle.flag_defs.specs.Flags.{flags_view}
use Rattle.flag_defs.specs.Floats.{MeansWithFloats}
use Rattle.flagops_service.proofs.Alone.{is_text}
use Rattle.flagops_service.proofs.document_texts.document_of.Goals as goal

-- bytes that mean flags are a text
pub unreachable-requires : goal.unreachable-requires
unreachable-requires c =
    let bytes = c.in_ok-bytes.bytes.items in
    false≢true (c.in-Err.ensures.succeeds (IsUtf8-from_is_utf8 bytes (is_text bytes (flags_view c.args.flags.now) c.in_ok-bytes.ensures.means)))

pub returns-clause-text : goal.returns-clause-text
returns-clause-text c =
    let same : string_bytes c.in-Ok.text ≡ c.in_ok-bytes.bytes.items = search rules in
    same ∙ c.in_ok-bytes.ensures.bytes

pub returns-clause-means : goal.returns-clause-means
returns-clause-means c =
    let same : string_bytes c.in-Ok.text ≡ c.in_ok-bytes.bytes.items = search rules in
    subst (λ (bytes : List ℕ). MeansWithFloats bytes (Ok (flags_view c.args.flags.now))) (sym same) c.in_ok-bytes.ensures.means
