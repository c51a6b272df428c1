use Rattle.std.proofs.Common.{◌≡◌, ◌∷◌, Some, arith, rules}
use Rattle.json.specs.Json.{read_key}
use Rattle.json.specs.Token.{Token}
use Rattle.flagops_drive.proofs.PlainMembers.{text_comes}
use Rattle.flagops_drive.proofs.plain_members.text.Goals as goal

pub returns-in-Some-String : goal.returns-in-Some-String
returns-in-Some-String c =
    let named : read_key c.args.reader.now ≡ Some (Some c.args.name.now, c.comes.new.reader) = search rules in
    let first : c.comes.new.reader ≡ Token.string c.in-Some-String.text.now ∷ c.next.new.self = grind arith in
    text_comes _ _ _ _ _ named first
