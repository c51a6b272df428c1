-- What is replaced reads as the items of a list of the document.
use Rattle.std.proofs.Common.{◌≡◌, ◌∙◌, ℕ, List, [], ◌∷◌, ◌++◌, Option, Some, None, option_and_then, Result, Ok, refl, sym, ap, subst}
use Rattle.bucket_core.specs.Rule.{Entries}
use Rattle.std.specs.Map.{lookup}
use Rattle.std.specs.Str.{bytes_eq}
use Rattle.flag_defs.specs.Document.{max_bytes}
use Rattle.flag_defs.specs.Flag.{targeting_in}
use Rattle.flag_text.specs.Reading.{doc_of}
use Rattle.flag_text.specs.Shape.{Shape, list, Items}
use Rattle.flag_text.specs.declared.fault.TextFault.{TextFault}
use Rattle.kept_document.specs.Kept.{IsKept, KeptAt, in_tree}
use Rattle.logic_ast.specs.Expression.{Expression}
use Rattle.logic_ast.specs.Writing.{written}
use Rattle.product_laws.specs.Part.{BytesReadAsPart, item_at, part_at}
use Rattle.kept_document.specs.Place.{SitePlace, buckets, shared, nowhere, site_place}
use Rattle.text_spans.specs.Path.{Stands, Step, index}
use Rattle.product_laws.specs.Replaced.{IsPutInto, ReadsAs, ReplacedIsRead}
use Rattle.product_laws.proofs.Followed.{IsListed, part_append, place_listed}

-- the bytes at the place of each item of a list read as it
abbrev pub AreRead : List ℕ → List Step → Items → Type 0
AreRead document path items = (i : ℕ) (front old back : List ℕ) → Stands document (path ++ index i ∷ []) front old back → ReadsAs old (item_at i items)

pub none_more : (o : Option Shape) (u : Shape) → option_and_then (part_at []) o ≡ Some u → o ≡ Some u
none_more None u e = cc
none_more (Some v) u e = e

-- ---- a document of this tree

-- the list that a place names, and its items
abbrev pub IsFound : List ℕ → Shape → List Step → ℕ → ℕ → Type 0
IsFound document t path first last = (l : IsListed t path first last) × AreRead document path l.items

abbrev pub IsPut : List ℕ → Shape → SitePlace → Entries → List ℕ → Type 0
IsPut document t place rule kept = (path : List Step) × (first : ℕ) × (last : ℕ) × (place ≡ buckets path first last) × IsPutInto document t path first last rule kept

module _ (document : List ℕ) (t : Shape) (key : List ℕ) (found : (form : Shape) (n : ℕ) (path : List Step) (first last : ℕ) → site_place t key form n ≡ buckets path first last → IsFound document t path first last) where
  put : (path : List Step) (first last : ℕ) (rule : Entries) (kept : List ℕ) → IsFound document t path first last → IsKept document path first last rule kept → IsPutInto document t path first last rule kept
  put path first last rule kept (l, items_read) k = record {
    items = l.items;
    there = l.there;
    within = l.within;
    whole = l.whole;
    front = k.front;
    one = k.one;
    behind = k.behind_one;
    before = k.before_other;
    other = k.other;
    back = k.back;
    mark = k.mark;
    begins = k.begins.whole;
    ends = k.ends.whole;
    one_read = items_read first k.front k.one k.behind_one k.begins;
    other_read = items_read last k.before_other k.other k.back k.ends;
    is = k.is;
  }

  at_place : (rule : Entries) (kept : List ℕ) (place : SitePlace) → ((path : List Step) (first last : ℕ) → place ≡ buckets path first last → IsFound document t path first last) → KeptAt document place rule kept
      → IsPut document t place rule kept
  at_place rule kept (buckets path first last) listed k = (path, first, last, refl, put path first last rule kept (listed path first last refl) k)
  at_place rule kept (shared evaluator) listed k = absurd k
  at_place rule kept nowhere listed k = absurd k

  in_it : (o : Option Expression) (n : ℕ) (rule : Entries) (kept : List ℕ) → KeptAt document (in_tree (Ok t) key o n) rule kept → IsPut document t (in_tree (Ok t) key o n) rule kept
  in_it None n rule kept k = absurd k
  in_it (Some e) n rule kept k = at_place rule kept (in_tree (Ok t) key (Some e) n) (found (written e) n) k

  -- where it is put into the document, it is put into such a list
  pub put_by : (r : Result Shape TextFault) → r ≡ Ok t → (o : Option Expression) (n : ℕ) (rule : Entries) (kept : List ℕ) → KeptAt document (in_tree r key o n) rule kept → IsPut document t (in_tree r key o n) rule kept
  put_by r is o n rule kept k =
      subst (λ (x : Result Shape TextFault). IsPut document t (in_tree x key o n) rule kept) (sym is)
      (in_it o n rule kept (subst (λ (x : Result Shape TextFault). KeptAt document (in_tree x key o n) rule kept) is k))

-- ---- one that is read without floats

module _ (reads : BytesReadAsPart) (document : List ℕ) (t : Shape) (document_read : doc_of document max_bytes ≡ Ok t) where
  item_read : (path : List Step) (items : Items) → part_at path t ≡ Some (list items) → AreRead document path items
  item_read path items there i front old back stands =
      let found = reads document max_bytes (path ++ index i ∷ []) front old back t document_read stands in
      let one : part_at (path ++ index i ∷ []) t ≡ option_and_then (part_at []) (item_at i items) = part_append path (index i ∷ []) t ∙ ap (option_and_then (part_at (index i ∷ []))) there in
      (found.0, none_more (item_at i items) found.0 (sym one ∙ found.1), found.2)

  found_plain : (key : List ℕ) (form : Shape) (n : ℕ) (path : List Step) (first last : ℕ) → site_place t key form n ≡ buckets path first last → IsFound document t path first last
  found_plain key form n path first last e = let l = place_listed t key path first last form n e in (l, item_read path l.items l.there)

pub replaced_read : BytesReadAsPart → ReplacedIsRead
replaced_read reads document t flags key n rule kept is k =
    put_by document t key (found_plain reads document t is key) (doc_of document max_bytes) is (option_and_then targeting_in (lookup (bytes_eq key) flags)) n rule kept k
