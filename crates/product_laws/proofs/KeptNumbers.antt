-- The numbers of a document with a rule in the place of a site's buckets: those of the document, and the weights.
use Rattle.std.proofs.Common.{◌≡◌, ◌∙◌, ◌⊎◌, inl, inr, ◌<◌, ◌≤◌, ◌+◌, ◌^◌, ℕ, pos, Bool, true, false, cond, ◌&&◌, List, [], ◌∷◌, ◌++◌, length, Option, Some, None, is_some, option_and_then, option_map, decimal, Result, Ok, Err, refl, sym, ap, ap₂, subst, arith, append_assoc, true≢false}
use Rattle.std.specs.Prelude.{nat_lt}
use Rattle.std.proofs.lemmas.Bool.{cases_Bool, ltb-false, ltb-true}
use Rattle.std.proofs.lemmas.List.{append_cancel_left}
use Rattle.std.proofs.lemmas.List.Folds.{list_all-append}
use Rattle.std.specs.List.{AllByRecursion, list_all}
use Rattle.std.specs.Str.{is_utf8}
use Rattle.bucket_core.specs.Rule.{Entries}
use Rattle.flag_defs.specs.Document.{max_bytes}
use Rattle.flag_text.proofs.Trees.{tree_reads}
use Rattle.flag_text.specs.Grammar.{tree_from, value_in}
use Rattle.flag_text.specs.Readers.{as_whole}
use Rattle.flag_text.specs.Reading.{doc_of, if_json, json_of, number_shape, shape_of}
use Rattle.flag_text.specs.Shape.{Shape}
use Rattle.flag_text.specs.declared.fault.TextFault.TheVariants.{TooLarge}
use Rattle.spelled_numbers.specs.Floats.{has_whole_numbers, is_whole_number, items_have_whole_numbers, members_have_whole_numbers}
use Rattle.json.specs.Json as json
use Rattle.json.specs.Json.{Json}
use Rattle.json.specs.Lex.{Mode, between, in_word, class, lex, punctuate, tokens}
use Rattle.json.specs.Token.{Token}
use Rattle.json.specs.Tree.{items_tokens, json_tokens, members_tokens}
use Rattle.json.specs.Word.{ends_word}
use Rattle.kept_document.specs.Kept.{IsKept, KeptAt, entries_text, entry_text}
use Rattle.product_laws.proofs.TokenNumbers.{bucket_ends, bucket_has, comma_lexed, text_from, tokens_have, tokens_of, value_from}
use Rattle.product_laws.proofs.Spliced.{Edge, Starts, after, ended_next, have, left_has, next, nothing_lexed, spliced, stands_at, token_has}
use Rattle.product_laws.specs.Part.{BytesReadAsPart}
use Rattle.serde_json.proofs.Numbers.{number_of-decimal}
use Rattle.serde_json.specs.Data.{Data}
use Rattle.serde_json.specs.Read.{read}
use Rattle.kept_document.specs.Place.{SitePlace, buckets, shared, nowhere}
use Rattle.text_spans.specs.Path.{Stands, Step, index}
use Rattle.product_laws.specs.FloatKept.{IsWritable, WholeNumbersStay}
use Rattle.product_laws.specs.FloatWhole.{IsWholeText}

-- ---- the numbers of a value are those of its tokens

and_true : (b : Bool) → b ≡ (b && true)
and_true true = refl
and_true false = refl

mutual
  value_whole : (j : Json) → has_whole_numbers j ≡ tokens_have is_whole_number (json_tokens j)
  value_whole json.null = refl
  value_whole (json.boolean b) = refl
  value_whole (json.number s) = and_true (is_whole_number s)
  value_whole (json.string s) = refl
  value_whole (json.array js) = items_whole js
  value_whole (json.object ms) = members_whole ms

  items_whole : (js : json.Items) → items_have_whole_numbers js ≡ tokens_have is_whole_number (items_tokens js)
  items_whole json.no_items = refl
  items_whole (json.item j js) = ap₂ (λ a b. a && b) (value_whole j) (items_whole js) ∙ sym (list_all-append (token_has is_whole_number) (json_tokens j) (items_tokens js))

  members_whole : (ms : json.Members) → members_have_whole_numbers ms ≡ tokens_have is_whole_number (members_tokens ms)
  members_whole json.no_members = refl
  members_whole (json.member k j ms) = ap₂ (λ a b. a && b) (value_whole j) (members_whole ms) ∙ sym (list_all-append (token_has is_whole_number) (json_tokens j) (members_tokens ms))

-- ---- a text that is read is a value, and not empty

value_there : (o : Option Data) (p : Option Json) (t : Shape) → if_json o ≡ Ok t → option_map shape_of o ≡ option_and_then tree_from p → (j : Json) × (p ≡ Some j)
value_there None p t e h = cc
value_there (Some d) None t e h = cc
value_there (Some d) (Some j) t e h = (j, refl)

doc_value : (bytes : List ℕ) (limit : ℕ) (t : Shape) → doc_of bytes limit ≡ Ok t → (j : Json) × (value_in bytes ≡ Some j)
unfolding json_of
doc_value bytes limit t e = by (nat_lt limit (length bytes)) (is_utf8 bytes) e
  where
    by : (long utf8 : Bool) → cond long (Err TooLarge) (if_json (cond utf8 (read bytes) None)) ≡ Ok t → (j : Json) × (value_in bytes ≡ Some j)
    by true u h = cc
    by false false h = cc
    by false true h = value_there (read bytes) (value_in bytes) t h (tree_reads bytes)

nothing_there : tokens [] ≡ []
unfolding lex punctuate
nothing_there = refl

no_tokens : {X : Type 0} (j : Json) → [] ≡ json_tokens j → X
no_tokens json.null h = cc
no_tokens (json.boolean b) h = cc
no_tokens (json.number s) h = cc
no_tokens (json.string s) h = cc
no_tokens (json.array js) h = cc
no_tokens (json.object ms) h = cc

not_empty : {X : Type 0} (bytes : List ℕ) (limit : ℕ) (t : Shape) → doc_of bytes limit ≡ Ok t → bytes ≡ [] → X
not_empty bytes limit t e is =
    let v = doc_value bytes limit t e in
    no_tokens v.0 (sym nothing_there ∙ ap (λ l. tokens l) (sym is) ∙ tokens_of bytes v.0 v.1)

first_empty : (a b : List ℕ) → a ++ b ≡ [] → a ≡ []
first_empty [] b h = refl
first_empty (x ∷ a) b h = cc

last_empty : (a b : List ℕ) → a ++ b ≡ [] → b ≡ []
last_empty [] b h = h
last_empty (x ∷ a) b h = cc

-- ---- modes

after-append : (a b : List ℕ) (m : Mode) → after m (a ++ b) ≡ after (after m a) b
after-append [] b m = refl
after-append (x ∷ a) b m = after-append a b (next m (class x))

starts_with : (m : Mode) (t u : List ℕ) → ends_word u ≡ true → Starts m t → Starts m u
starts_with m t u ended (inl e) = inl e
starts_with m t u ended (inr h) = inr (h.0, ended)

starts : (m : Mode) (t : List ℕ) → (t ≡ [] → ⊥) → Edge m t → Starts m t
starts m t none (inl s) = s
starts m t none (inr e) = absurd (none e)

-- bytes that follow a word leave the lexer as they do where nothing stands before them
starts_alone : (m : Mode) (b t : List ℕ) → Starts m (b ++ t) → Starts (after m b) t → Starts (after between b) t
starts_alone m b t (inl e) s = subst (λ (n : Mode). Starts (after n b) t) e s
starts_alone m [] t (inr h) s = inl refl
starts_alone m (x ∷ b) t (inr h) s =
    let same : next m (class x) ≡ next between (class x) =
    ap (λ n. next n (class x)) h.0 ∙ ended_next in_word x (b ++ t) h.1 (inl (inr (refl, h.1))) ∙ sym (ended_next between x (b ++ t) h.1 (inl (inl refl))) in
    subst (λ (n : Mode). Starts (after n b) t) same s

-- ---- a weight

weight_whole : (n : ℕ) → n < 2 ^ 53 → is_whole_number (decimal n) ≡ true
weight_whole n small =
    let within : nat_lt n (2 ^ 53) ≡ true = grind (arith, small) in
    ap (λ o. is_some (option_and_then as_whole (option_map number_shape o))) (number_of-decimal n (omega (arith, small))) ∙ rw within refl

-- ---- the document

module _ (reads : BytesReadAsPart) (document : List ℕ) (t : Shape) (document_read : doc_of document max_bytes ≡ Ok t) (whole : IsWholeText document) where
  abbrev Fine : List ℕ → Type 0
  Fine l = have is_whole_number (lex between l) ≡ true

  fine : Fine document
  fine = let v = doc_value document max_bytes t document_read in text_from is_whole_number document v.0 v.1 (sym (value_whole v.0) ∙ whole v.0 v.1)

  -- the bytes of a value are some
  some_bytes : {X : Type 0} (path : List Step) (front old back : List ℕ) → Stands document path front old back → old ≡ [] → X
  some_bytes path front old back h e = let part = reads document max_bytes path front old back t document_read h in not_empty old max_bytes part.0 part.2 e

  module _ (list : List Step) (first last : ℕ) (rule : Entries) (kept : List ℕ) (k : IsKept document list first last rule kept) where
    at_first : Starts (after between k.front) (k.one ++ k.behind_one)
    at_first =
        starts (after between k.front) (k.one ++ k.behind_one) (λ e. some_bytes (list ++ index first ∷ []) k.front k.one k.behind_one k.begins (first_empty k.one k.behind_one e))
        (stands_at document (list ++ index first ∷ []) k.front k.one k.behind_one k.begins).0

    back_fine : Fine k.back
    back_fine = by (stands_at document (list ++ index last ∷ []) k.before_other k.other k.back k.ends).1
      where
        by : Edge (after between (k.before_other ++ k.other)) k.back → Fine k.back
        by (inr e) = ap (λ l. have is_whole_number (lex between l)) e ∙ ap (have is_whole_number) (nothing_lexed between)
        by (inl s) = left_has is_whole_number k.back (k.before_other ++ k.other) between s (ap (λ l. have is_whole_number (lex between l)) (append_assoc k.before_other k.other k.back ∙ sym k.ends.whole) ∙ fine)

    -- behind the mark between two buckets a bucket may stand
    mark_fine : (u : List ℕ) → ends_word u ≡ true → Fine u → Fine (k.mark ++ u)
    mark_fine u ended h = elim (cases_Bool (nat_lt first last)) [ inl e ↦ many (k.marked.between (ltb-true first last e)) | inr e ↦ one (k.marked.alone (ltb-false first last e)) ]
      where
        one : k.mark ≡ 44 ∷ [] → Fine (k.mark ++ u)
        one e = ap (λ m. have is_whole_number (lex between (m ++ u))) e ∙ ap (have is_whole_number) (comma_lexed u) ∙ h

        many : (old : List ℕ) × (back : List ℕ) × Stands document (list ++ index (first + 1) ∷ []) ((k.front ++ k.one) ++ k.mark) old back → Fine (k.mark ++ u)
        many (old, back, s) =
            let before = k.front ++ k.one in
            let rest = old ++ back in
            let there : document ≡ before ++ (k.mark ++ rest) = s.whole ∙ append_assoc before k.mark rest in
            let behind : k.behind_one ≡ k.mark ++ rest = append_cancel_left before k.behind_one (k.mark ++ rest) (append_assoc k.front k.one k.behind_one ∙ sym k.begins.whole ∙ there) in
            let some : rest ≡ [] → ⊥ = λ e. some_bytes (list ++ index (first + 1) ∷ []) (before ++ k.mark) old back s (first_empty old back e) in
            let at : Edge (after between before) (k.mark ++ rest) = subst (λ (l : List ℕ). Edge (after between before) l) behind (stands_at document (list ++ index first ∷ []) k.front k.one k.behind_one k.begins).1 in
            let from : Starts (after between before) (k.mark ++ rest) = starts (after between before) (k.mark ++ rest) (λ e. some (last_empty k.mark rest e)) at in
            let next_at : Starts (after between (before ++ k.mark)) rest = starts (after between (before ++ k.mark)) rest some (stands_at document (list ++ index (first + 1) ∷ []) (before ++ k.mark) old back s).0 in
            let inside : Starts (after between k.mark) rest =
            starts_alone (after between before) k.mark rest from (subst (λ (m : Mode). Starts m rest) (after-append before k.mark between) next_at) in
            let old_fine : Fine (k.mark ++ rest) = left_has is_whole_number (k.mark ++ rest) before between from (ap (λ l. have is_whole_number (lex between l)) (sym there) ∙ fine) in
            spliced is_whole_number rest u h k.mark between inside (starts_with (after between k.mark) rest u ended inside) old_fine

    rest_fine : (es : Entries) → AllByRecursion (λ (e : List ℕ × ℕ). e.1 < 2 ^ 53) es → Fine (entries_text k.mark true es ++ k.back)
    rest_fine [] small = back_fine
    rest_fine (e ∷ es) small =
        let more = entries_text k.mark true es ++ k.back in
        let bucket : Fine (entry_text e ++ more) = bucket_has is_whole_number e.0 e.1 more small.0 (weight_whole e.1 small.0) (rest_fine es small.1) in
        ap (λ l. have is_whole_number (lex between l)) (append_assoc k.mark (entry_text e ++ entries_text k.mark true es) k.back ∙ ap (λ l. k.mark ++ l) (append_assoc (entry_text e) (entries_text k.mark true es) k.back))
        ∙ mark_fine (entry_text e ++ more) (bucket_ends e.0 e.1 more) bucket

    text_fine : (r : Entries) → IsWritable r → Fine (k.front ++ (entries_text k.mark false r ++ k.back))
    text_fine [] writable = absurd (writable.some refl)
    text_fine (e ∷ es) writable =
        let more = entries_text k.mark true es ++ k.back in
        let small = writable.small in
        let bucket : Fine (entry_text e ++ more) = bucket_has is_whole_number e.0 e.1 more small.0 (weight_whole e.1 small.0) (rest_fine es small.1) in
        ap (λ l. have is_whole_number (lex between (k.front ++ l))) (append_assoc (entry_text e) (entries_text k.mark true es) k.back)
        ∙ spliced is_whole_number (k.one ++ k.behind_one) (entry_text e ++ more) bucket k.front between at_first
        (starts_with (after between k.front) (k.one ++ k.behind_one) (entry_text e ++ more) (bucket_ends e.0 e.1 more) at_first)
        (ap (λ l. have is_whole_number (lex between l)) (sym k.begins.whole) ∙ fine)

    kept_whole : IsWritable rule → IsWholeText kept
    kept_whole writable j is =
        value_whole j ∙ value_from is_whole_number kept j is (ap (λ l. have is_whole_number (lex between l)) k.is ∙ text_fine rule writable)

pub whole_numbers_stay : BytesReadAsPart → WholeNumbersStay
whole_numbers_stay reads document t (buckets list first last) rule kept read writable whole k = kept_whole reads document t read whole list first last rule kept k writable
whole_numbers_stay reads document t (shared name) rule kept read writable whole k = absurd k
whole_numbers_stay reads document t nowhere rule kept read writable whole k = absurd k
