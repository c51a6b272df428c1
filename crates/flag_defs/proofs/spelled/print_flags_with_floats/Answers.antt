use Rattle.std.proofs.Common.{◌≡◌, ◌≤◌, ℕ, List, length, true, string_bytes, vec_items, sym, ap, ◌∙◌, subst}
use Rattle.std.specs.Str.{IsUtf8}
use Rattle.std.proofs.lemmas.List.{length-map}
use Rattle.std.proofs.lemmas.List.Elements.{All-from_recursion}
use Rattle.std.proofs.lemmas.Str.{IsUtf8-string_bytes, is_utf8-from_IsUtf8}
use Rattle.flag_defs.specs.Document.{max_bytes, max_flags}
use Rattle.flag_defs.specs.Flag.{entries_view, entry_view, is_definition}
use Rattle.flag_defs.specs.Flags.{AreFlags, flags_view}
use Rattle.flag_defs.specs.Floats.{MeansFlags, entries_floats, floats_view}
use Rattle.flag_defs.specs.Spelled.{printed_with_floats}
use Rattle.flag_defs.specs.declared.flags.Flags.{Flags}
use Rattle.flag_defs.proofs.Lawful.{lawful_flags}
use Rattle.flag_defs.proofs.SpellingRead.{printed_reads_back, printed_short}
use Rattle.flag_defs.proofs.Spellings.{marked_flags}
use Rattle.flag_defs.proofs.spelled.print_flags_with_floats.Goals as goal
use Rattle.flag_defs.proofs.spelled.print_flags_with_floats.Goals.{After-into_bytes}

are_flags : (fs : Flags) → AreFlags (flags_view fs)
are_flags fs = record {
  rise = fs.rising;
  each = All-from_recursion (λ f. is_definition f.1 ≡ true) (flags_view fs) (lawful_flags fs.flags.items);
  few = subst (λ n. n ≤ max_flags) (sym (length-map fs.flags.items entry_view)) fs.few;
  small = fs.small;
}

abbrev text_of : Flags → List ℕ
text_of fs = printed_with_floats (flags_view fs) (floats_view fs)

string_is : (c : After-into_bytes) → string_bytes c.in_ok-text.text ≡ text_of c.args.flags.now
string_is c = c.in_ok-text.ensures ∙ ap (λ es. printed_with_floats (entries_view es) (entries_floats es)) c.as_slice.ensures.value

bytes_are : (c : After-into_bytes) → c.into_bytes.result.items ≡ text_of c.args.flags.now
bytes_are c = ap vec_items c.into_bytes.ensures.value ∙ string_is c

back : (c : After-into_bytes) → let fs = c.args.flags.now in MeansFlags (text_of fs) (flags_view fs) (floats_view fs)
back c =
    let fs = c.args.flags.now in
    let utf8 = is_utf8-from_IsUtf8 (text_of fs) (subst IsUtf8 (string_is c) (IsUtf8-string_bytes c.in_ok-text.text)) in
    printed_reads_back (flags_view fs) (floats_view fs) (are_flags fs) (marked_flags fs.flags.items) utf8

pub returns-clause-text : goal.returns-clause-text
returns-clause-text c = bytes_are c

pub returns-clause-reads_back : goal.returns-clause-reads_back
returns-clause-reads_back c = let fs = c.args.flags.now in subst (λ (b : List ℕ). MeansFlags b (flags_view fs) (floats_view fs)) (sym (bytes_are c)) (back c)

pub returns-clause-small : goal.returns-clause-small
returns-clause-small c =
    let fs = c.args.flags.now in
    subst (λ (b : List ℕ). length b ≤ max_bytes) (sym (bytes_are c)) (printed_short (flags_view fs) (floats_view fs) (are_flags fs) (marked_flags fs.flags.items))
