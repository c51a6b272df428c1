-- What a text means, and where a site's buckets stand.
use Rattle.std.proofs.Common.{◌≡◌, ◌≢◌, ◌≤◌, ℕ, Bool, true, false, List, length, Option, Some, Result, Ok, Err, Vec, Global, sym, ap, ◌∙◌, subst}
use Rattle.std.specs.Prelude.{IfErr}
use Rattle.std.proofs.lemmas.Bool.{true≢false}
use Rattle.flag_text.specs.Shape.{Shape}
use Rattle.flag_text.specs.declared.fault.TextFault.{TextFault}
use Rattle.flag_text.specs.declared.fault.TextFault.TheVariants as text_fault
use Rattle.bucket_core.specs.Rule.{Entries}
use Rattle.logic_ast.specs.Expression.{Expression}
use Rattle.logic_ast.specs.Writing.{written}
use Rattle.flag_defs.specs.Document.{Definitions, DocumentMeans, max_bytes, printed}
use Rattle.flag_defs.specs.Floats.{MeansAs}
use Rattle.flag_defs.proofs.Meanings.{one_meaning, one_meaning_with_floats}
use Rattle.flag_defs.specs.declared.fault.DefFault.{DefFault}
use Rattle.flag_defs.specs.declared.fault.DefFault.TheVariants as document_fault
use Rattle.text_spans.specs.Path.{Step}
use Rattle.kept_document.specs.Place.{SitePlace, buckets, site_place}
use Rattle.kept_document.specs.Kept.{IsKept, IsOther, IsRefused, IsRefusedText, in_tree, of_document, of_reading}
use Rattle.kept_document.specs.declared.fault.KeepFault.{KeepFault}
use Rattle.kept_document.specs.declared.fault.KeepFault.TheVariants.{WantOfMemory, Shared, TooLong, Differs}
use Rattle.kept_document.proofs.Texts.{one_kept}

abbrev definitions_or : Result Definitions DefFault → Definitions → Definitions
definitions_or (Ok fs) gs = fs
definitions_or (Err e) gs = gs

one_meaning_as : (floats : Bool) (t : List ℕ) (r s : Result Definitions DefFault) → MeansAs floats t r → MeansAs floats t s → r ≡ s
one_meaning_as true t r s p q = one_meaning_with_floats t r s p q
one_meaning_as false t r s p q = one_meaning t r s p q

pub means_one : (floats : Bool) (t : List ℕ) (fs gs : Definitions) → MeansAs floats t (Ok fs) → MeansAs floats t (Ok gs) → fs ≡ gs
means_one floats t fs gs p q = ap (λ r. definitions_or r fs) (one_meaning_as floats t (Ok fs) (Ok gs) p q)

-- flags that are printed alike are the same
pub same_flags : (fs gs : Definitions) (one other : List ℕ) → one ≡ printed fs → other ≡ printed gs → DocumentMeans one (Ok fs) → DocumentMeans other (Ok gs) → (b : Bool) → (b ≡ true → one ≡ other) → (one ≡ other → b ≡ true)
    → (b ≡ true → fs ≡ gs) × (fs ≡ gs → b ≡ true)
same_flags fs gs one other p q m n b there back = (
  λ h. means_one false other fs gs (subst (λ (t : List ℕ). DocumentMeans t (Ok fs)) (there h) m) n,
  λ e. back (p ∙ ap printed e ∙ sym q),
)

-- ---- the place

abbrev shape_or : Result Shape KeepFault → Shape → Shape
shape_or (Ok t) u = t
shape_or (Err e) u = u

pub place_is : (r : Result Shape TextFault) (key : List ℕ) (o : Option Expression) (n : ℕ) (t : Shape) (e : Expression) → of_reading r ≡ Ok t → o ≡ Some e → in_tree r key o n ≡ site_place t key (written e) n
place_is (Err f) key o n t e h g = cc
place_is (Ok u) key o n t e h g =
    let same : u ≡ t = ap (λ x. shape_or x u) h in
    ap (λ x. in_tree (Ok u) key x n) g ∙ ap (λ x. site_place x key (written e) n) same

never : {P : Type 0} (f : TextFault) (e : KeepFault) → of_reading (Err f) ≡ Err e → e ≢ WantOfMemory → e ≢ Differs → P
never text_fault.WantOfMemory e h a b = absurd (a cc)
never text_fault.NotJson e h a b = absurd (b cc)
never text_fault.NotWhole e h a b = absurd (b cc)
never text_fault.TooLarge e h a b = absurd (b cc)
never text_fault.TooDeep e h a b = absurd (b cc)

-- a text that is not read as a document
pub unread : (floats : Bool) (d : List ℕ) (r : Result Shape TextFault) (key : List ℕ) (o : Option Expression) (n : ℕ) (rule : Entries) (wanted : Definitions) (e : KeepFault) → (e ≢ WantOfMemory → of_reading r ≡ Err e)
    → IsRefused floats d (in_tree r key o n) rule wanted e
unread floats d r key o n rule wanted WantOfMemory h = tt
unread floats d (Ok t) key o n rule wanted Shared h = let is : Ok t ≡ Err Shared = h (λ z. cc) in cc
unread floats d (Ok t) key o n rule wanted TooLong h = let is : Ok t ≡ Err TooLong = h (λ z. cc) in cc
unread floats d (Ok t) key o n rule wanted Differs h = let is : Ok t ≡ Err Differs = h (λ z. cc) in cc
unread floats d (Err f) key o n rule wanted Shared h = never f Shared (h (λ z. cc)) (λ z. cc) (λ z. cc)
unread floats d (Err f) key o n rule wanted TooLong h = never f TooLong (h (λ z. cc)) (λ z. cc) (λ z. cc)
unread floats d (Err f) key o n rule wanted Differs h = (λ s. s, λ kept s. absurd s)

-- ---- the text that was made

pub refused_document : (floats : Bool) (t : List ℕ) (wanted : Definitions) (e : DefFault) (r : KeepFault) → length t ≤ max_bytes → r ≡ of_document e → (e ≢ document_fault.WantOfMemory → MeansAs floats t (Err e)) → IsRefusedText floats t wanted r
refused_document floats t wanted e r fits is means = subst (IsRefusedText floats t wanted) (sym is) (by e means)
  where
    differs : (f : DefFault) → MeansAs floats t (Err f) → IsOther floats t wanted
    differs f p = (fits, λ q. let never : Err f ≡ Ok wanted = one_meaning_as floats t (Err f) (Ok wanted) p q in cc)

    by : (f : DefFault) → (f ≢ document_fault.WantOfMemory → MeansAs floats t (Err f)) → IsRefusedText floats t wanted (of_document f)
    by document_fault.WantOfMemory h = tt
    by document_fault.NotJson h = differs document_fault.NotJson (h (λ z. cc))
    by document_fault.NoFlags h = differs document_fault.NoFlags (h (λ z. cc))
    by document_fault.TooLarge h = differs document_fault.TooLarge (h (λ z. cc))

pub other_flags : (floats : Bool) (t : List ℕ) (fs wanted : Definitions) (b : Bool) → length t ≤ max_bytes → MeansAs floats t (Ok fs) → (fs ≡ wanted → b ≡ true) → b ≡ false → IsOther floats t wanted
other_flags floats t fs wanted b fits means same differs = (fits, λ m. true≢false (sym (same (means_one floats t fs wanted means m)) ∙ differs))

-- the condition of a refusal, where the text with the rule in its place was refused
pub refused_text : (floats : Bool) (d : List ℕ) (place : SitePlace) (list : List Step) (first last : ℕ) (rule : Entries) (wanted : Definitions) (kept : List ℕ) (r : Result (Vec ℕ Global) KeepFault)
    → place ≡ buckets list first last → IsKept d list first last rule kept → IfErr r (IsRefusedText floats kept wanted) → IfErr r (IsRefused floats d place rule wanted)
refused_text floats d place list first last rule wanted kept (Ok v) is there h = h
refused_text floats d place list first last rule wanted kept (Err e) is there h = subst (λ (p : SitePlace). IsRefused floats d p rule wanted e) (sym is) (by e h)
  where
    by : (e : KeepFault) → IsRefusedText floats kept wanted e → IsRefused floats d (buckets list first last) rule wanted e
    by WantOfMemory h = tt
    by Shared h = absurd h
    by TooLong h = (kept, there, h)
    by Differs h = (λ s. s, λ other k. subst (λ (t : List ℕ). IsOther floats t wanted) (sym (one_kept d list first last rule kept other there k)) h)
