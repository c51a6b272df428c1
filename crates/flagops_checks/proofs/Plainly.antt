-- What is told of a document of which each member is read, member by member, also where the values of variants stand as texts.
use Rattle.std.proofs.Common.{◌≡◌, ℕ, Bool, true, false, cond, not, ◌||◌, ◌&&◌, codes, List, Option, Some, None, refl}
use Rattle.std.proofs.lemmas.Bool.{false≢true}
use Rattle.std.specs.List.{list_all}
use Rattle.std.specs.Str.{bytes_eq}
use Rattle.json.specs.Json as json
use Rattle.spelled_numbers.specs.Floats.{each_member, in_object, of_document, of_flag, of_flags, with_texts}
use Rattle.member_names.specs.Unread.{reads}
use Rattle.member_names.specs.declared.reader.Reader.{Reader}
use Rattle.member_names.specs.declared.reader.Reader.TheVariants as reader
use Rattle.flag_doubts.specs.AllRead.{are_all_read, are_definitions_read, are_flags_read, takes_each}
use Rattle.member_names.specs.Repeated.{member_names}
use Rattle.flag_doubts.specs.Doubled.{members_in}

-- ---- what was told of the names, member by member

-- each of these members is such
abbrev pub Each : (List ℕ → json.Json → Type 0) → json.Members → Type 0
Each P json.no_members = Unit {0}
Each P (json.member k j ms) = P k j × Each P ms

-- what is an object is such
abbrev pub OfObject : (json.Members → Type 0) → json.Json → Type 0
OfObject P json.null = Unit {0}
OfObject P (json.boolean b) = Unit {0}
OfObject P (json.number s) = Unit {0}
OfObject P (json.string s) = Unit {0}
OfObject P (json.array js) = Unit {0}
OfObject P (json.object ms) = P ms

-- the reader takes the member
abbrev pub IsRead : Reader → List ℕ → json.Json → Type 0
IsRead r k j = reads r k ≡ true

abbrev pub AreRead : json.Members → Type 0
AreRead ms = Each (IsRead reader.Definition) ms

abbrev pub IsPlainDefinition : List ℕ → json.Json → Type 0
IsPlainDefinition k j = OfObject AreRead j

abbrev pub ArePlainFlags : json.Members → Type 0
ArePlainFlags ms = Each IsPlainDefinition ms

-- the member of a document is read, and where it has flags, they are plain
abbrev pub IsPlainMember : List ℕ → json.Json → Type 0
IsPlainMember k j = (reads reader.Document k ≡ true) × (bytes_eq k (codes "flags") ≡ true → OfObject ArePlainFlags j)

abbrev pub IsPlainDocument : json.Json → Type 0
IsPlainDocument j = OfObject (Each IsPlainMember) j

both : (a b : Bool) → (a && b) ≡ true → (a ≡ true) × (b ≡ true)
both true b e = (refl, e)
both false b e = absurd (false≢true e)

each_taken : (r : Reader) (ms : json.Members) → list_all (reads r) (member_names ms) ≡ true → Each (IsRead r) ms
each_taken r json.no_members e = tt
each_taken r (json.member k j ms) e = let p = both (reads r k) (list_all (reads r) (member_names ms)) e in (p.0, each_taken r ms p.1)

plain_definition : (j : json.Json) → takes_each reader.Definition (Some j) ≡ true → OfObject AreRead j
plain_definition json.null e = tt
plain_definition (json.boolean b) e = tt
plain_definition (json.number s) e = tt
plain_definition (json.string s) e = tt
plain_definition (json.array js) e = tt
plain_definition (json.object ms) e = each_taken reader.Definition ms e

plain_definitions : (ms : json.Members) → are_definitions_read ms ≡ true → ArePlainFlags ms
plain_definitions json.no_members e = tt
plain_definitions (json.member k j ms) e = let p = both (takes_each reader.Definition (Some j)) (are_definitions_read ms) e in (plain_definition j p.0, plain_definitions ms p.1)

plain_flags : (j : json.Json) → are_definitions_read (members_in (Some j)) ≡ true → OfObject ArePlainFlags j
plain_flags json.null e = tt
plain_flags (json.boolean b) e = tt
plain_flags (json.number s) e = tt
plain_flags (json.string s) e = tt
plain_flags (json.array js) e = tt
plain_flags (json.object ms) e = plain_definitions ms e

named : (b c : Bool) → (not b || c) ≡ true → b ≡ true → c ≡ true
named true c e is = e
named false c e is = absurd (false≢true is)

plain_members : (ms : json.Members) → list_all (reads reader.Document) (member_names ms) ≡ true → are_flags_read ms ≡ true → Each IsPlainMember ms
plain_members json.no_members e f = tt
plain_members (json.member k j ms) e f =
    let is_flags = bytes_eq k (codes "flags") in
    let are_read = are_definitions_read (members_in (Some j)) in
    let p = both (reads reader.Document k) (list_all (reads reader.Document) (member_names ms)) e in
    let q = both (not is_flags || are_read) (are_flags_read ms) f in
    ((p.0, λ is. plain_flags j (named is_flags are_read q.0 is)), plain_members ms p.1 q.1)

-- what is read of the text is the document of which it is told
pub same_document : (o : Option json.Json) → are_all_read o ≡ true → (ms : json.Members) × (o ≡ Some (json.object ms)) × IsPlainDocument (json.object ms)
same_document None e = absurd (false≢true e)
same_document (Some json.null) e = absurd (false≢true e)
same_document (Some (json.boolean b)) e = absurd (false≢true e)
same_document (Some (json.number s)) e = absurd (false≢true e)
same_document (Some (json.string s)) e = absurd (false≢true e)
same_document (Some (json.array js)) e = absurd (false≢true e)
same_document (Some (json.object ms)) e = let p = both (list_all (reads reader.Document) (member_names ms)) (are_flags_read ms) e in (ms, refl, plain_members ms p.0 p.1)

-- ---- with the values of variants as texts

module _ (P : List ℕ → json.Json → Type 0) (f : List ℕ → json.Json → json.Json) (stays : (k : List ℕ) (j : json.Json) → P k j → P k (f k j)) where
  each_stays : (ms : json.Members) → Each P ms → Each P (each_member f ms)
  each_stays json.no_members h = tt
  each_stays (json.member k j ms) h = (stays k j h.0, each_stays ms h.1)

  object_stays : (j : json.Json) → OfObject (Each P) j → OfObject (Each P) (in_object f j)
  object_stays json.null h = tt
  object_stays (json.boolean b) h = tt
  object_stays (json.number s) h = tt
  object_stays (json.string s) h = tt
  object_stays (json.array js) h = tt
  object_stays (json.object ms) h = each_stays ms h

either : (P : json.Json → Type 0) (b : Bool) (i j : json.Json) → P i → P j → P (cond b i j)
either P true i j p q = p
either P false i j p q = q

flags_stay : (j : json.Json) → OfObject ArePlainFlags j → OfObject ArePlainFlags (in_object of_flags j)
flags_stay = object_stays IsPlainDefinition of_flags (λ k. object_stays (IsRead reader.Definition) of_flag (λ l j read. read))

member_stays : (k : List ℕ) (j : json.Json) → IsPlainMember k j → IsPlainMember k (of_document k j)
member_stays k j h = (h.0, λ named. either (OfObject ArePlainFlags) (bytes_eq k (codes "flags")) (in_object of_flags j) j (flags_stay j (h.1 named)) (h.1 named))

pub document_stays : (j : json.Json) → IsPlainDocument j → IsPlainDocument (with_texts j)
document_stays = object_stays IsPlainMember of_document member_stays
