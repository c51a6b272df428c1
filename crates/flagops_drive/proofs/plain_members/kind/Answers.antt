use Rattle.std.proofs.Common.{sym, ap}
use Rattle.std.specs.Prelude.{codes}
use Rattle.flag_text.specs.Shape.{text}
use Rattle.flag_defs.specs.Kind.{word_of}
use Rattle.flagops_drive.proofs.PlainMembers.{same_comes, word_named}
use Rattle.flagops_drive.proofs.plain_members.kind.Goals as goal

pub returns-in-Some : goal.returns-in-Some
returns-in-Some c =
    same_comes (codes "want") c.args.reader.now (text c.in_ok-word.word.now) (text (word_of c.in-Some.kind)) c.text.new.reader (ap text (sym (word_named c.in_ok-word.word.now c.in-Some.kind (sym c.in-Some.ensures))))
    c.in_ok-word.ensures
