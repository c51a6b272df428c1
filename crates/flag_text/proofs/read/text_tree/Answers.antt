use Rattle.std.proofs.Common.{◌≡◌, ◌≢◌, ℕ, List, [], ◌∷◌, true, is_some, Option, None, Some, Result, Ok, Err, MatchOption, sym, ap, ◌∙◌, rules}
use Rattle.json.specs.Json.{value}
use Rattle.json.specs.Lex.{tokens}
use Rattle.json.specs.Reads.{token_of}
use Rattle.json.specs.Token.{Token}
use Rattle.serde_json.specs.Read.{converted, max_depth, read}
use Rattle.flag_text.specs.Grammar.{tree_from}
use Rattle.flag_text.specs.Outcome.{GivesUnless}
use Rattle.flag_text.specs.Reading.{if_json}
use Rattle.flag_text.specs.View.{view}
use Rattle.flag_text.specs.declared.fault.TextFault.{TextFault}
use Rattle.flag_text.specs.declared.fault.TextFault.TheVariants.{NotJson, WantOfMemory}
use Rattle.flag_text.specs.declared.tree.Tree.{Tree}
use Rattle.flag_text.proofs.Trees.{whole_read, whole_and_more, whole_refused}
use Rattle.flag_text.proofs.read.text_tree.Goals as goal

no_tree : (text : List ℕ) (reader : List Token) (e : TextFault) (r : Result Tree TextFault) → reader ≡ tokens text → r ≡ Err e → (e ≢ WantOfMemory → e ≡ NotJson) → (e ≡ NotJson → converted tree_from (value max_depth reader) ≡ None)
    → GivesUnless WantOfMemory view r (if_json (read text))
no_tree text reader e (Ok t) begins is kind none = cc
no_tree text reader e (Err f) begins is kind none = λ other.
    let same : f ≡ e = cc in
    let fault : e ≡ NotJson = kind (λ want. other (same ∙ want)) in
    whole_refused text (ap (λ ts. converted tree_from (value max_depth ts)) (sym begins) ∙ none fault) ∙ ap Err (sym (same ∙ fault))

pub returns-in_err-tree-clause-exact : goal.returns-in_err-tree-clause-exact
returns-in_err-tree-clause-exact c =
    let is : c.from_residual-in_err-tree.result ≡ Err c.in_err-tree.field-0.0 = search rules in
    no_tree c.args.text.now c.in_ok-reader.reader c.in_err-tree.field-0.0 c.from_residual-in_err-tree.result c.in_ok-reader.ensures.ok is c.in_err-tree.ensures.kind (λ fault. c.in_err-tree.ensures.err (ap Err fault))

and_more : {T : Type 0} (token_of : T → Token) (next : Option T) (reader rest : List Token) → true ≡ is_some next → MatchOption next ((reader ≡ []) × (rest ≡ [])) (λ t. reader ≡ token_of t ∷ rest)
    → (t : Token) × (reader ≡ t ∷ rest)
and_more token_of None reader rest some read_as = cc
and_more token_of (Some t) reader rest some read_as = (token_of t, read_as)

pub returns-then-is_some-clause-exact : goal.returns-then-is_some-clause-exact
returns-then-is_some-clause-exact c = λ _.
    let more = and_more token_of c.next.result c.read_value.new.reader c.next.new.self c.if-is_some.ensures c.next.ensures.value in
    let tree = view c.in_ok-tree.tree in
    whole_and_more c.args.text.now tree more.0 c.next.new.self (ap (λ ts. converted tree_from (value max_depth ts)) (sym c.in_ok-reader.ensures.ok) ∙ c.in_ok-tree.ensures.ok ∙ ap (λ ts. Some (tree, ts)) more.1)

pub returns-clause-exact : goal.returns-clause-exact
returns-clause-exact c =
    let none : c.read_value.new.reader ≡ [] = search rules in
    whole_read c.args.text.now (view c.in_ok-tree.tree) (ap (λ ts. converted tree_from (value max_depth ts)) (sym c.in_ok-reader.ensures.ok) ∙ c.in_ok-tree.ensures.ok ∙ ap (λ ts. Some (view c.in_ok-tree.tree, ts)) none)
