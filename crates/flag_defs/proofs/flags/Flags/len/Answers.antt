use Rattle.std.proofs.Common.{◌≡◌, ◌≤◌, true, sym, subst}
use Rattle.std.proofs.lemmas.List.{length-map}
use Rattle.std.proofs.lemmas.List.Elements.{All-from_recursion}
use Rattle.flag_defs.specs.Document.{max_flags}
use Rattle.flag_defs.specs.Flag.{entry_view, is_definition}
use Rattle.flag_defs.specs.Flags.{flags_view}
use Rattle.flag_defs.proofs.Lawful.{lawful_flags}
use Rattle.flag_defs.proofs.Spellings.{marked_flags}
use Rattle.flag_defs.proofs.flags.Flags.len.Goals as goal

pub returns-clause-lawful : goal.returns-clause-lawful
returns-clause-lawful c =
    let fs = c.args.self.now in
    record {
      rise = fs.rising;
      each = All-from_recursion (λ f. is_definition f.1 ≡ true) (flags_view fs) (lawful_flags fs.flags.items);
      few = subst (λ n. n ≤ max_flags) (sym (length-map fs.flags.items entry_view)) fs.few;
      small = fs.small;
    }

pub returns-clause-spelled : goal.returns-clause-spelled
returns-clause-spelled c = marked_flags c.args.self.now.flags.items
