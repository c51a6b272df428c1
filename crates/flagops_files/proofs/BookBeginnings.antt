-- The first line of a book.
use Rattle.std.proofs.Common.{◌≡◌, ℕ, Bool, true, false, not, cond, ◌==◌, nat_lt, List, [], ◌∷◌, ◌++◌, length, codes, Option, Some, None, Result, Ok, Err, if◌then◌else◌, refl, sym, ap, ◌∙◌}
use Rattle.std.specs.List.{slice_split, onto_first}
use Rattle.std.specs.Str.{bytes_eq, is_utf8}
use Rattle.std.proofs.lemmas.Bool.{true≢false, false≢true, false_from_ne_true}
use Rattle.std.proofs.lemmas.Slice.Eq.{bytes_eq-Decides}
use Rattle.json.specs.Lex.{Lexeme, token, lex, between}
use Rattle.json.specs.Token.{begin_object, string}
use Rattle.serde_json.specs.Data.{Data}
use Rattle.serde_json.specs.Read.{read}
use Rattle.flag_text.proofs.Bools.{both, left}
use Rattle.flag_text.specs.Shape.{Shape, null, boolean, whole, other, text, list, object, Members, no_members, member, levels, has_other}
use Rattle.flag_text.specs.Reading.{shape_of, json_of, max_levels, if_json, if_whole, doc_of, tree_of}
use Rattle.flag_text.specs.declared.fault.TextFault.{TextFault}
use Rattle.flag_text.specs.declared.fault.TextFault.TheVariants.{NotWhole, TooLarge, TooDeep}
use Rattle.book_core.specs.Reading.{is_feed, is_book_member, is_header, is_one, lines_book, lines_in, parts_book, book_of, unended_fault}
use Rattle.book_core.specs.declared.fault.BookFileFault.TheVariants.{Header}
use Rattle.flagops_shell.specs.Beginning.{may_begin_record}
use Rattle.flagops_files.proofs.Lexed.{feedless, line_may_begin}
use Rattle.flagops_files.proofs.Members.{opens_read}
use Rattle.flagops_files.proofs.Tokens.{object_lexemes}

-- ---- the first line

-- the bytes begin with a line without a line feed
record Cut (bytes first : List ℕ) : Type 0 where
  rest : List ℕ
  whole : bytes ≡ first ++ rest
  free : feedless first ≡ true

first_part : (bytes first : List ℕ) (parts : List (List ℕ)) → slice_split is_feed bytes ≡ first ∷ parts → Cut bytes first
first_part [] first parts e = let same : [] ≡ first = cc in record { rest = []; whole = ap (λ l. l ++ []) same; free = ap feedless (sym same) }
first_part (x ∷ xs) first parts e = go (is_feed x) refl e (first_part xs)
  where
    later : (ps : List (List ℕ)) → slice_split is_feed xs ≡ ps → is_feed x ≡ false → onto_first x ps ≡ first ∷ parts → ((f : List ℕ) (rest : List (List ℕ)) → slice_split is_feed xs ≡ f ∷ rest → Cut xs f) → Cut (x ∷ xs) first
    later [] is unlike f h = let same : x ∷ [] ≡ first = cc in record { rest = xs; whole = ap (λ l. l ++ xs) same; free = ap feedless (sym same) ∙ both (not (x == 10)) true (ap not unlike) refl }
    later (p ∷ ps) is unlike f h =
        let c = h p ps is in
        let same : x ∷ p ≡ first = cc in
        record { rest = c.rest; whole = ap (λ l. x ∷ l) c.whole ∙ ap (λ l. l ++ c.rest) same; free = ap feedless (sym same) ∙ both (not (x == 10)) _ (ap not unlike) c.free }

    go : (b : Bool) → is_feed x ≡ b → cond b ([] ∷ slice_split is_feed xs) (onto_first x (slice_split is_feed xs)) ≡ first ∷ parts → ((f : List ℕ) (rest : List (List ℕ)) → slice_split is_feed xs ≡ f ∷ rest → Cut xs f) → Cut (x ∷ xs) first
    go true is f h = let same : [] ≡ first = cc in record { rest = x ∷ xs; whole = ap (λ l. l ++ (x ∷ xs)) same; free = ap feedless (sym same) }
    go false is f h = later (slice_split is_feed xs) refl is f h

-- ---- what the line of a header stands for

-- the object with the one member "book"
record HasHeader (r : Result Shape TextFault) : Type 0 where
  name : List ℕ
  value : Shape
  tree : r ≡ Ok (object (member name value no_members))
  book : name ≡ codes "book"

header_members : (ms : Members) → is_book_member ms ≡ true → HasHeader (Ok (object ms))
header_members no_members e = absurd (false≢true e)
header_members (member name t no_members) e = record { name = name; value = t; tree = refl; book = (bytes_eq-Decides name (codes "book")).0 (left (bytes_eq name (codes "book")) (is_one t) e) }
header_members (member name t (member l u ms)) e = absurd (false≢true e)

header_tree : (r : Result Shape TextFault) → is_header r ≡ true → HasHeader r
header_tree (Err f) e = absurd (false≢true e)
header_tree (Ok null) e = absurd (false≢true e)
header_tree (Ok (boolean b)) e = absurd (false≢true e)
header_tree (Ok (whole n)) e = absurd (false≢true e)
header_tree (Ok other) e = absurd (false≢true e)
header_tree (Ok (text s)) e = absurd (false≢true e)
header_tree (Ok (list ts)) e = absurd (false≢true e)
header_tree (Ok (object ms)) e = header_members ms e

kept : (b c : Bool) (s t : Shape) → (if b then Err TooDeep else (if c then Err NotWhole else Ok s)) ≡ Ok t → s ≡ t
kept true c s t e = cc
kept false true s t e = cc
kept false false s t e = cc

whole_doc : (r : Result Shape TextFault) (t : Shape) → if_whole r ≡ Ok t → r ≡ Ok t
whole_doc (Err f) t e = cc
whole_doc (Ok s) t e = ap Ok (kept (nat_lt max_levels (levels s)) (has_other s) s t e)

-- the value that the bytes are read as
record IsRead (bytes : List ℕ) (t : Shape) : Type 0 where
  value : Data
  reads : read bytes ≡ Some value
  shape : shape_of value ≡ t

read_utf8 : (b : Bool) (o : Option Data) (v : Data) → (if b then o else None) ≡ Some v → o ≡ Some v
read_utf8 true o v e = e
read_utf8 false o v e = cc

read_json : (bytes : List ℕ) (v : Data) → json_of bytes ≡ Some v → read bytes ≡ Some v
unfolding json_of
read_json bytes v e = read_utf8 (is_utf8 bytes) (read bytes) v e

read_value : (bytes : List ℕ) (t : Shape) (o : Option Data) → json_of bytes ≡ o → if_json o ≡ Ok t → IsRead bytes t
read_value bytes t None is e = cc
read_value bytes t (Some v) is e = record { value = v; reads = read_json bytes v is; shape = cc }

read_doc : (b : Bool) (bytes : List ℕ) (t : Shape) → (if b then Err TooLarge else if_json (json_of bytes)) ≡ Ok t → IsRead bytes t
read_doc true bytes t e = cc
read_doc false bytes t e = read_value bytes t (json_of bytes) refl e

named_book : (line rest name : List ℕ) (ls : List Lexeme) → feedless line ≡ true → lex between line ≡ token begin_object ∷ (token (string name) ∷ ls) → name ≡ codes "book" → may_begin_record (line ++ rest) ≡ true
named_book line rest name ls f e book = line_may_begin line rest (codes "ook") ls f (e ∙ ap (λ n. token begin_object ∷ (token (string n) ∷ ls)) book)

-- a line that stands for a header begins a record, whatever follows it
header_begins : (line rest : List ℕ) → feedless line ≡ true → is_header (tree_of line (length line)) ≡ true → may_begin_record (line ++ rest) ≡ true
header_begins line rest f e =
    let h = header_tree (tree_of line (length line)) e in
    let r = read_doc (nat_lt (length line) (length line)) line (object (member h.name h.value no_members)) (whole_doc (doc_of line (length line)) _ h.tree) in
    let o = opens_read line r.value h.name h.value r.reads r.shape in
    let l = object_lexemes (lex between line) h.name o.0 o.1 in
    named_book line rest h.name l.0 f l.1 h.book

-- ---- what begins no record is no book

no_header : (bytes first : List ℕ) (parts : List (List ℕ)) → slice_split is_feed bytes ≡ first ∷ parts → may_begin_record bytes ≡ false → is_header (tree_of first (length first)) ≡ false
no_header bytes first parts is none = false_from_ne_true (is_header (tree_of first (length first))) (λ e.
    let c = first_part bytes first parts is in
    true≢false (sym (header_begins first c.rest c.free e) ∙ ap may_begin_record (sym c.whole) ∙ none))

-- it is refused for its first line
pub no_book : (bytes : List ℕ) → may_begin_record bytes ≡ false → book_of bytes ≡ Err Header
unfolding book_of
no_book bytes none = go (slice_split is_feed bytes) refl
  where
    go : (parts : List (List ℕ)) → slice_split is_feed bytes ≡ parts → parts_book parts ≡ Err Header
    go [] is = refl
    go (first ∷ []) is = ap (λ b. Err (unended_fault b)) (no_header bytes first [] is none)
    go (first ∷ part ∷ parts) is = ap (λ b. if b then lines_book (lines_in (part ∷ parts)) else Err Header) (no_header bytes first (part ∷ parts) is none)
