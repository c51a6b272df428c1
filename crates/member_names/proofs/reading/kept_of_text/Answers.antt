use Rattle.std.proofs.Common.{◌≡◌, [], ◌∷◌, Some, sym, ap, ◌∙◌, arith, rules}
use Rattle.json.specs.Token.{Token}
use Rattle.flag_text.specs.Shape.{object}
use Rattle.flag_text.specs.View.{members_view}
use Rattle.member_names.proofs.NamedTexts.{object_read, object_of}
use Rattle.member_names.proofs.reading.kept_of_text.Goals as goal

pub returns : goal.returns
returns c =
    let kept = c.in_ok-kept.ensures in
    let opened : c.in_ok-reader.reader ≡ Token.begin_object ∷ c.next.new.self = grind arith in
    let none : c.kept_members.new.reader ≡ [] = search rules in (
      object kept.0,
      object_read c.args.text.now c.next.new.self kept.0 (sym c.in_ok-reader.ensures.ok ∙ opened) (kept.1 ∙ ap (λ ts. Some (kept.0, ts)) none) kept.2.0,
      (members_view c.in_ok-kept.kept.entries, object_of c.in_ok-listed.field-0 c.in_ok-kept.kept.entries c.in_ok-listed.ensures, kept.2.1),
    )
