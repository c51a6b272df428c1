-- What is said of the members of a document with one more.
use Rattle.std.proofs.Common.{◌≡◌, ℕ, Bool, true, false, not, cond, ◌||◌, ◌&&◌, codes, List, Option, Some, None, refl, ap, ◌∙◌}
use Rattle.std.specs.Str.{bytes_eq}
use Rattle.json.specs.Find.{get_member, later_or}
use Rattle.json.specs.Json.{Json, Members, no_members, member}
use Rattle.member_names.specs.declared.reader.Reader.TheVariants as reader
use Rattle.member_names.specs.Repeated.{repeats}
use Rattle.member_names.proofs.Grammar.{joined}
use Rattle.flag_doubts.specs.AllRead.{are_definitions_read, are_flags_read, takes_each}
use Rattle.flag_doubts.specs.Doubled.{members_in}
use Rattle.flag_doubts.specs.Repeated.{repeats_under, repeats_beside}

or_more : (a b c : Bool) → (a || (b || c)) ≡ ((a || b) || c)
or_more true b c = refl
or_more false b c = refl

pub or_none : (a : Bool) → (a || false) ≡ a
or_none true = refl
or_none false = refl

and_more : (a b c : Bool) → (a && (b && c)) ≡ ((a && b) && c)
and_more true b c = refl
and_more false b c = refl

pub and_true : (a : Bool) → (a && true) ≡ a
and_true true = refl
and_true false = refl

module _ (k : List ℕ) (j : Json) where
  abbrev one : Members
  one = member k j no_members

  pub repeats_under-more : (key : List ℕ) (ds : Members) → repeats_under key (joined ds one) ≡ (repeats_under key ds || (bytes_eq k key && repeats j))
  repeats_under-more key no_members = or_none (bytes_eq k key && repeats j)
  repeats_under-more key (member l d ds) =
      ap (λ b. (bytes_eq l key && repeats d) || b) (repeats_under-more key ds) ∙ or_more (bytes_eq l key && repeats d) (repeats_under key ds) (bytes_eq k key && repeats j)

  pub repeats_beside-more : (ds : Members) → repeats_beside (joined ds one) ≡ (repeats_beside ds || (not (bytes_eq k (codes "flags")) && repeats j))
  repeats_beside-more no_members = or_none (not (bytes_eq k (codes "flags")) && repeats j)
  repeats_beside-more (member l d ds) =
      ap (λ b. (not (bytes_eq l (codes "flags")) && repeats d) || b) (repeats_beside-more ds)
      ∙ or_more (not (bytes_eq l (codes "flags")) && repeats d) (repeats_beside ds) (not (bytes_eq k (codes "flags")) && repeats j)

  abbrev is_taken : Bool
  is_taken = takes_each reader.Definition (Some j)

  pub are_definitions_read-more : (ds : Members) → are_definitions_read (joined ds one) ≡ (are_definitions_read ds && is_taken)
  are_definitions_read-more no_members = and_true is_taken
  are_definitions_read-more (member l d ds) =
      ap (λ b. takes_each reader.Definition (Some d) && b) (are_definitions_read-more ds) ∙ and_more (takes_each reader.Definition (Some d)) (are_definitions_read ds) is_taken

  abbrev are_taken : List ℕ → Json → Bool
  are_taken l d = not (bytes_eq l (codes "flags")) || are_definitions_read (members_in (Some d))

  pub are_flags_read-more : (ds : Members) → are_flags_read (joined ds one) ≡ (are_flags_read ds && are_taken k j)
  are_flags_read-more no_members = and_true (are_taken k j)
  are_flags_read-more (member l d ds) = ap (λ b. are_taken l d && b) (are_flags_read-more ds) ∙ and_more (are_taken l d) (are_flags_read ds) (are_taken k j)

  later : (b : Bool) (o e : Option Json) → later_or (cond b (Some j) o) e ≡ cond b (Some j) (later_or o e)
  later true o e = refl
  later false o e = refl

  none_later : (b : Bool) → later_or None (cond b (Some j) None) ≡ cond b (Some j) None
  none_later b = refl

  pub get_member-more : (name : List ℕ) (ds : Members) → get_member name (joined ds one) ≡ cond (bytes_eq k name) (Some j) (get_member name ds)
  get_member-more name no_members = refl
  get_member-more name (member l d ds) =
      ap (λ o. later_or o (cond (bytes_eq l name) (Some d) None)) (get_member-more name ds) ∙ later (bytes_eq k name) (get_member name ds) (cond (bytes_eq l name) (Some d) None)
