-- The line of a note reads as the note, so that different notes have different lines; with the input, and with its hash.
use Rattle.std.proofs.Common.{◌≡◌, ◌≢◌, ℕ, ◌<◌, ◌≤◌, ◌^◌, List, [], ◌∷◌, ◌++◌, length, append-nil, true, Option, Some, None, Result, Ok, Err, nat_lt, pos, decimal, refl, sym, ap, ap₂, ◌∙◌, arith, IfSome, IfOk}
use borrow.Author.Tests.{lt-ltb}
use Rattle.std.specs.Option.{option_and_then}
use Rattle.std.specs.Str.{IsUtf8}
use Rattle.std.proofs.lemmas.Str.{IsUtf8-append, IsUtf8-from_ascii}
use Rattle.std.proofs.lemmas.Fmt.{IsAscii-decimal}
use Rattle.json.specs.Json.{if_last, value}
use Rattle.json.specs.Lex.{tokens}
use Rattle.json.specs.Print.{quoted}
use Rattle.json.specs.Tree.{json_tokens, depth, HasNumbers}
use Rattle.json.proofs.Printed.Decimals.{IsNumber-decimal}
use Rattle.json.proofs.Printed.Trees.{value-json_tokens, ArePrintable-json_tokens}
use Rattle.json.proofs.Printed.Tokens.{tokens-print}
use Rattle.json.proofs.Printed.Utf8.{IsUtf8-are_ascii, IsUtf8-quoted}
use Rattle.serde_json.specs.Data as json
use Rattle.serde_json.specs.Read.{of_json, number_of, read, max_depth}
use Rattle.serde_json.specs.Written.{outline, compact_text}
use Rattle.serde_json.proofs.Numbers.{number_of-decimal}
use Rattle.serde_json.proofs.Texts.{print-outline}
use Rattle.flag_text.specs.Printing.{data_of, text_of}
use Rattle.flag_text.specs.Reading.{tree_of}
use Rattle.flag_text.specs.Shape.{Shape, is_whole, levels, text, whole}
use Rattle.flag_text.specs.declared.fault.TextFault.{TextFault}
use Rattle.flag_text.proofs.Printed.{tree_of-written}
use Rattle.book_core.specs.Page.{PageName}
use Rattle.book_core.specs.Printing.{by_shape, line_text}
use Rattle.book_core.specs.Reading.{by_of, site_of}
use Rattle.note_lines.specs.Hashed.{Hashed, IsHashed, hashed_line, hashed_shape}
use Rattle.note_lines.specs.Note.{Noted, IsNote, note_shape, note_line, parts_shape}
use Rattle.note_lines.specs.Reading.{Reads, ReadsHashed, shape_hashed, shape_note}

-- ---- the tree of a note is that of no other

by_seen : (by : Option (List ℕ)) → by_of (by_shape by) ≡ Some by
by_seen None = refl
by_seen (Some s) = refl

pub shape_note-seen : (note : Noted) → note.page.site < 2 ^ 32 → shape_note (note_shape note) ≡ Some note
shape_note-seen note small =
    let site : nat_lt note.page.site (2 ^ 32) ≡ true = lt-ltb _ _ small in
    rw (site, by_seen note.page.by) refl

pub shape_hashed-seen : (note : Hashed) → IsHashed note → shape_hashed (hashed_shape note) ≡ Some note
shape_hashed-seen note is =
    let site : nat_lt note.page.site (2 ^ 32) ≡ true = lt-ltb _ _ is.site in
    let hash : nat_lt note.hash (2 ^ 32) ≡ true = lt-ltb _ _ is.hash in
    rw (site, by_seen note.page.by, hash) refl

-- ---- what may stand last

record IsLast (last : Shape) : Type 0 where
  has_range : is_whole last ≡ true
  has_level : levels last ≡ 0
  has_numbers : HasNumbers (outline (data_of last))
  has_data : of_json (outline (data_of last)) ≡ Some (data_of last)
  has_depth : depth (outline (data_of last)) ≡ 0
  has_text : IsUtf8 (compact_text (data_of last))

input_last : (input : List ℕ) → IsUtf8 input → IsLast (text input)
input_last input u = record { has_range = refl; has_level = refl; has_numbers = tt; has_data = refl; has_depth = refl; has_text = IsUtf8-quoted input u }

number_read : (n : ℕ) → n < 2 ^ 64 → of_json (outline (data_of (whole (pos n)))) ≡ Some (data_of (whole (pos n)))
number_read n small =
    let number : number_of (decimal n) ≡ Some (json.unsigned n) = number_of-decimal n small in
    rw number refl

pub whole_number : (n : ℕ) → n < 2 ^ 53 → is_whole (whole (pos n)) ≡ true
whole_number n small = lt-ltb _ _ small

hash_last : (hash : ℕ) → hash < 2 ^ 32 → IsLast (whole (pos hash))
hash_last hash small = record {
  has_range = whole_number hash (omega (arith, small));
  has_level = refl;
  has_numbers = IsNumber-decimal hash (omega (arith, small));
  has_data = number_read hash (omega (arith, small));
  has_depth = refl;
  has_text = IsUtf8-from_ascii _ (IsAscii-decimal hash (omega (arith, small)));
}

-- ---- its text is UTF-8

comma : (xs : List ℕ) → IsUtf8 xs → IsUtf8 (44 ∷ xs)
comma xs u = IsUtf8-append (44 ∷ []) xs (IsUtf8-are_ascii (44 ∷ []) refl) u

utf8_by : (by : Option (List ℕ)) → IfSome by IsUtf8 → IsUtf8 (compact_text (data_of (by_shape by)))
utf8_by None u = IsUtf8-are_ascii _ refl
utf8_by (Some s) u = IsUtf8-quoted s u

numbers_by : (by : Option (List ℕ)) → HasNumbers (outline (data_of (by_shape by)))
numbers_by None = tt
numbers_by (Some s) = tt

levels_by : (by : Option (List ℕ)) → levels (by_shape by) ≡ 0
levels_by None = refl
levels_by (Some s) = refl

whole_by : (by : Option (List ℕ)) → is_whole (by_shape by) ≡ true
whole_by None = refl
whole_by (Some s) = refl

of_by : (by : Option (List ℕ)) → of_json (outline (data_of (by_shape by))) ≡ Some (data_of (by_shape by))
of_by None = refl
of_by (Some s) = refl

depth_by : (by : Option (List ℕ)) → depth (outline (data_of (by_shape by))) ≡ 0
depth_by None = refl
depth_by (Some s) = refl

pub whole_parts : (page : PageName) (last : Shape) → page.site < 2 ^ 32 → is_whole last ≡ true → is_whole (parts_shape page last) ≡ true
whole_parts page last small is =
    let site : nat_lt page.site (2 ^ 53) ≡ true = lt-ltb _ _ (omega (arith, small)) in
    rw (site, whole_by page.by, is) refl

module _ (page : PageName) (last : Shape) (is : IsLast last) (small : page.site < 2 ^ 32) where
  abbrev shape : Shape
  shape = parts_shape page last

  utf8_parts : IsUtf8 page.flag → IfSome page.by IsUtf8 → IsUtf8 (text_of shape)
  unfolding text_of
  utf8_parts flag by =
      let close : IsUtf8 (93 ∷ []) = IsUtf8-are_ascii (93 ∷ []) refl in
      let start : IsUtf8 (91 ∷ []) = IsUtf8-are_ascii (91 ∷ []) refl in
      let end = comma _ (IsUtf8-append (compact_text (data_of last)) (93 ∷ []) is.has_text close) in
      let middle = comma _ (IsUtf8-append (compact_text (data_of (by_shape page.by))) _ (utf8_by page.by by) end) in
      let site = comma _ (IsUtf8-append (decimal page.site) _ (IsUtf8-from_ascii _ (IsAscii-decimal page.site (omega (arith, small)))) middle) in
      IsUtf8-append (91 ∷ []) _ start (IsUtf8-append (quoted page.flag) _ (IsUtf8-quoted page.flag flag) site)

  -- ---- it reads as the tree

  numbers_parts : HasNumbers (outline (data_of shape))
  numbers_parts = (tt, (IsNumber-decimal page.site (omega (arith, small)), (numbers_by page.by, (is.has_numbers, tt))))

  of_parts : of_json (outline (data_of shape)) ≡ Some (data_of shape)
  of_parts =
      let site : number_of (decimal page.site) ≡ Some (json.unsigned page.site) = number_of-decimal page.site (omega (arith, small)) in
      rw (site, of_by page.by, is.has_data) refl

  shallow : depth (outline (data_of shape)) ≤ max_depth
  shallow = rw (depth_by page.by, is.has_depth) (omega arith)

  read_text : read (text_of shape) ≡ Some (data_of shape)
  unfolding text_of
  read_text =
      let d = data_of shape in
      let j = outline d in
      ap (λ b. option_and_then of_json (option_and_then (λ p. if_last p.0 p.1) (value max_depth (tokens b)))) (sym (print-outline d))
      ∙ ap (λ ts. option_and_then of_json (option_and_then (λ p. if_last p.0 p.1) (value max_depth ts))) (tokens-print (json_tokens j) (ArePrintable-json_tokens j numbers_parts) ∙ sym (append-nil (json_tokens j)))
      ∙ ap (λ r. option_and_then of_json (option_and_then (λ p. if_last p.0 p.1) r)) (value-json_tokens j max_depth [] shallow)
      ∙ of_parts

  flat : levels shape ≤ 120
  flat = rw (levels_by page.by, is.has_level) (omega arith)

  -- the text of the tree reads as the tree
  tree_of-parts : IsUtf8 page.flag → IfSome page.by IsUtf8 → tree_of (text_of shape) (length (text_of shape)) ≡ Ok shape
  tree_of-parts flag by =
      let bytes = text_of shape in
      tree_of-written bytes (length bytes) shape (whole_parts page last small is.has_range) flat (omega arith) (utf8_parts flag by) read_text

pub utf8_text : (note : Noted) → IsNote note → IsUtf8 (text_of (note_shape note))
utf8_text note is = utf8_parts note.page (text note.input) (input_last note.input is.input) is.site is.flag is.by

pub utf8_hashed : (note : Hashed) → IsHashed note → IsUtf8 (text_of (hashed_shape note))
utf8_hashed note is = utf8_parts note.page (whole (pos note.hash)) (hash_last note.hash is.hash) is.site is.flag is.by

-- the text of a note's tree reads as the tree
pub tree_of-note : (note : Noted) → IsNote note → tree_of (text_of (note_shape note)) (length (text_of (note_shape note))) ≡ Ok (note_shape note)
tree_of-note note is = tree_of-parts note.page (text note.input) (input_last note.input is.input) is.site is.flag is.by

pub tree_of-hashed : (note : Hashed) → IsHashed note → tree_of (text_of (hashed_shape note)) (length (text_of (hashed_shape note))) ≡ Ok (hashed_shape note)
tree_of-hashed note is = tree_of-parts note.page (whole (pos note.hash)) (hash_last note.hash is.hash) is.site is.flag is.by

-- ---- the lines of different notes differ

head-same : (x y : ℕ) (xs ys : List ℕ) → x ∷ xs ≡ y ∷ ys → x ≡ y
head-same x y xs ys e = cc

rest-same : (x y : ℕ) (xs ys : List ℕ) → x ∷ xs ≡ y ∷ ys → xs ≡ ys
rest-same x y xs ys e = cc

some-same : {X : Type 0} (a b : X) → Some a ≡ Some b → a ≡ b
some-same a b e = cc

abbrev good : Shape → Result Shape TextFault
good t = Ok t

ok-same : (a b : Shape) → good a ≡ good b → a ≡ b
ok-same a b e = cc

before_end : (xs ys : List ℕ) → xs ++ 10 ∷ [] ≡ ys ++ 10 ∷ [] → xs ≡ ys
before_end [] [] e = refl
before_end [] (y ∷ []) e = cc
before_end [] (y ∷ z ∷ ys) e = cc
before_end (x ∷ []) [] e = cc
before_end (x ∷ y ∷ xs) [] e = cc
before_end (x ∷ xs) (y ∷ ys) e = ap₂ (λ (b : ℕ) (bs : List ℕ). b ∷ bs) (head-same x y _ _ e) (before_end xs ys (rest-same x y _ _ e))

-- trees that are read from their texts, of which the lines are one, are one
same_trees : (s t : Shape) → tree_of (text_of s) (length (text_of s)) ≡ Ok s → tree_of (text_of t) (length (text_of t)) ≡ Ok t → line_text s ≡ line_text t → s ≡ t
same_trees s t is also same =
    let texts : text_of s ≡ text_of t = before_end _ _ same in
    let trees : good s ≡ good t = sym is ∙ ap (λ b. tree_of b (length b)) texts ∙ also in
    ok-same s t trees

pub one_note : (one other : Noted) → IsNote one → IsNote other → note_line one ≡ note_line other → one ≡ other
unfolding note_line
one_note one other is also same =
    let trees = same_trees (note_shape one) (note_shape other) (tree_of-note one is) (tree_of-note other also) same in
    some-same one other (sym (shape_note-seen one is.site) ∙ ap shape_note trees ∙ shape_note-seen other also.site)

pub one_hashed : (one other : Hashed) → IsHashed one → IsHashed other → hashed_line one ≡ hashed_line other → one ≡ other
unfolding hashed_line
one_hashed one other is also same =
    let trees = same_trees (hashed_shape one) (hashed_shape other) (tree_of-hashed one is) (tree_of-hashed other also) same in
    some-same one other (sym (shape_hashed-seen one is) ∙ ap shape_hashed trees ∙ shape_hashed-seen other also)

-- ---- what reading a line's text tells of the line

-- the text of the line of a tree that is read from its own text is read as the tree
read_as : (bytes : List ℕ) (t : Shape) → tree_of (text_of t) (length (text_of t)) ≡ Ok t → bytes ++ 10 ∷ [] ≡ line_text t → tree_of bytes (length bytes) ≡ Ok t
read_as bytes t is same = ap (λ b. tree_of b (length b)) (before_end bytes (text_of t) same) ∙ is

pub read_note_as : (bytes : List ℕ) (note : Noted) → IsNote note → bytes ++ 10 ∷ [] ≡ note_line note → tree_of bytes (length bytes) ≡ Ok (note_shape note)
unfolding note_line
read_note_as bytes note is same = read_as bytes (note_shape note) (tree_of-note note is) same

pub read_hashed_as : (bytes : List ℕ) (note : Hashed) → IsHashed note → bytes ++ 10 ∷ [] ≡ hashed_line note → tree_of bytes (length bytes) ≡ Ok (hashed_shape note)
unfolding hashed_line
read_hashed_as bytes note is same = read_as bytes (hashed_shape note) (tree_of-hashed note is) same

-- a text that is no tree is that of no note's line
pub no_tree : (line bytes : List ℕ) → line ≡ bytes ++ 10 ∷ [] → ((tree : Shape) → tree_of bytes (length bytes) ≢ Ok tree) → Reads line None × ReadsHashed line None
no_tree line bytes is_line refused = (
  λ note is same. refused (note_shape note) (read_note_as bytes note is (sym is_line ∙ same)),
  λ note is same. refused (hashed_shape note) (read_hashed_as bytes note is (sym is_line ∙ same)),
)

-- what the tree of a text tells of its line
pub of_tree : (line bytes : List ℕ) (tree : Shape) → line ≡ bytes ++ 10 ∷ [] → tree_of bytes (length bytes) ≡ Ok tree → (r : Option Noted)
    → IfSome r (λ note. IsNote note × (line ≡ note_line note)) → (r ≡ None → (note : Noted) → IsNote note → line ≡ note_line note → tree ≢ note_shape note) → Reads line r
of_tree line bytes tree is_line seen (Some note) found none = found
of_tree line bytes tree is_line seen None found none = λ note is same. none refl note is same (ok-same _ _ (sym seen ∙ read_note_as bytes note is (sym is_line ∙ same)))

pub of_hashed_tree : (line bytes : List ℕ) (tree : Shape) → line ≡ bytes ++ 10 ∷ [] → tree_of bytes (length bytes) ≡ Ok tree → (r : Option Hashed)
    → IfSome r (λ note. IsHashed note × (line ≡ hashed_line note)) → (r ≡ None → (note : Hashed) → IsHashed note → line ≡ hashed_line note → tree ≢ hashed_shape note) → ReadsHashed line r
of_hashed_tree line bytes tree is_line seen (Some note) found none = found
of_hashed_tree line bytes tree is_line seen None found none = λ note is same. none refl note is same (ok-same _ _ (sym seen ∙ read_hashed_as bytes note is (sym is_line ∙ same)))

-- what holds of an answer by two facts
pub by_both : {X E : Type 0} {P Q R : X → Type 0} (r : Result X E) → ((x : X) → P x → Q x → R x) → IfOk r P → IfOk r Q → IfOk r R
by_both (Ok x) f p q = f x p q
by_both (Err e) f p q = tt

-- a line of a note ends with a line feed
pub ends_line : (line : List ℕ) → ((bytes : List ℕ) → line ≢ bytes ++ 10 ∷ []) → Reads line None × ReadsHashed line None
unfolding note_line hashed_line
ends_line line none = (λ note is same. none (text_of (note_shape note)) same, λ note is same. none (text_of (hashed_shape note)) same)
