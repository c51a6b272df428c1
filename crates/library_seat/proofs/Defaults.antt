-- Defaults that are known without reading.
use Rattle.std.proofs.Common.{◌≡◌, ℕ, List, Bool, true, false, Ok, None, codes, refl, ap, sym, ◌∙◌, rules}
use Rattle.std.specs.Str.{bytes_eq}
use Rattle.std.proofs.lemmas.Slice.Eq.{bytes_eq-Decides}
use Rattle.core.specs.Str.{is_utf8, chars}
use Rattle.json.specs.Json.{value}
use Rattle.json.specs.Lex.{lex, punctuate}
use Rattle.json.specs.Word.{word}
use Rattle.flag_text.specs.Reading.{json_of}
use Rattle.flag_text.specs.Shape.{boolean}
use Rattle.flag_text.specs.View.{view}
use Rattle.flag_text.specs.declared.tree.Tree.{Bool as Truth, the_lemmas}
use Rattle.library_seat.specs.Early.{text_refusal}
use Rattle.library_seat.specs.Question.{default_of}
use lib.Utf8.{encode}

-- bytes that were found to be a name
pub are : (found : Bool) (bytes text name : List ℕ) → found ≡ bytes_eq bytes text → found ≡ true → text ≡ name → bytes ≡ name
are found bytes text name is so says = (bytes_eq-Decides bytes text).0 (sym is ∙ so) ∙ says

pub view-Truth : (b : Bool) → view (Truth b) ≡ boolean b
view-Truth b = search (rules, the_lemmas)

-- what the names of truth values stand for
false_reads : default_of (codes "false") ≡ Ok (boolean false)
unfolding json_of is_utf8 chars encode value punctuate lex word
false_reads = refl

true_reads : default_of (codes "true") ≡ Ok (boolean true)
unfolding json_of is_utf8 chars encode value punctuate lex word
true_reads = refl

pub false_is : default_of (codes "false") ≡ Ok (view (Truth false))
false_is = false_reads ∙ ap Ok (sym (view-Truth false))

pub true_is : default_of (codes "true") ≡ Ok (view (Truth true))
true_is = true_reads ∙ ap Ok (sym (view-Truth true))

pub false_is_text : text_refusal (codes "false") ≡ None
unfolding is_utf8 chars encode
false_is_text = refl

pub true_is_text : text_refusal (codes "true") ≡ None
unfolding is_utf8 chars encode
true_is_text = refl
