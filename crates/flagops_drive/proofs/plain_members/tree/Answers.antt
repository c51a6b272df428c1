use Rattle.std.proofs.Common.{◌≡◌, Some, rules}
use Rattle.json.specs.Json.{read_key}
use Rattle.flagops_drive.proofs.plain_members.tree.Goals as goal

pub returns-clause-value : goal.returns-clause-value
returns-clause-value c =
    let named : read_key c.args.reader.now ≡ Some (Some c.args.name.now, c.comes.new.reader) = search rules in
    record { rest = c.comes.new.reader; named = named; is = c.in_ok-tree.ensures.ok; shorter = c.in_ok-tree.ensures.shorter }
