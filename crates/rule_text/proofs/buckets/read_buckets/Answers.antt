use Rattle.std.proofs.Common.{◌≡◌, List, [], ◌∷◌, true, is_some, Option, None, Some, Err, MatchOption, option_map, sym, ap, ◌∙◌, subst, rules}
use Rattle.json.specs.Json.{value}
use Rattle.json.specs.Reads.{token_of}
use Rattle.json.specs.Token.{Token}
use Rattle.serde_json.specs.Read.{converted, max_depth, of_json}
use Rattle.rule_text.specs.Buckets.{GivesEntries}
use Rattle.rule_text.specs.Lent.{lent_view}
use Rattle.rule_text.specs.declared.fault.RuleTextFault.TheVariants.{Text}
use Rattle.rule_text.proofs.Found.{judged_text, no_json, no_value, whole_and_more, whole_read}
use Rattle.rule_text.proofs.buckets.read_buckets.Goals as goal

pub returns-in_err-found-clause-exact : goal.returns-in_err-found-clause-exact
returns-in_err-found-clause-exact c =
    let is : c.from_residual-in_err-found.result ≡ Err (Text c.in_err-found.field-0.0) = search rules in
    no_value c.args.text.now c.in_ok-reader.reader c.in_err-found.field-0.0 c.from_residual-in_err-found.result c.in_ok-reader.ensures.ok is c.in_err-found.ensures.kind (λ fault. c.in_err-found.ensures.err (ap Err fault))

and_more : {T : Type 0} (token_of : T → Token) (next : Option T) (reader rest : List Token) → true ≡ is_some next → MatchOption next ((reader ≡ []) × (rest ≡ [])) (λ t. reader ≡ token_of t ∷ rest)
    → (t : Token) × (reader ≡ t ∷ rest)
and_more token_of None reader rest some read_as = cc
and_more token_of (Some t) reader rest some read_as = (token_of t, read_as)

pub returns-then-is_some-clause-exact : goal.returns-then-is_some-clause-exact
returns-then-is_some-clause-exact c = λ _.
    let more = and_more token_of c.next.result c.read_whole.new.reader c.next.new.self c.if-is_some.ensures c.next.ensures.value in
    let d = c.in_ok-found.ensures.ok in
    no_json c.args.text.now (whole_and_more c.args.text.now d.0 more.0 c.next.new.self (ap (λ ts. converted of_json (value max_depth ts)) (sym c.in_ok-reader.ensures.ok) ∙ d.1 ∙ ap (λ ts. Some (d.0, ts)) more.1))

pub returns-clause-exact : goal.returns-clause-exact
returns-clause-exact c =
    let none : c.read_whole.new.reader ≡ [] = search rules in
    let d = c.in_ok-found.ensures.ok in
    let read_as = whole_read c.args.text.now d.0 (ap (λ ts. converted of_json (value max_depth ts)) (sym c.in_ok-reader.ensures.ok) ∙ d.1 ∙ ap (λ ts. Some (d.0, ts)) none) in
    let is = judged_text c.args.text.now d.0 (option_map (λ v. lent_view v.items) c.in_ok-found.found) c.in_ok-found.extent read_as d.2 in
    subst (GivesEntries c.judged.result) (sym is) c.judged.ensures.exact
