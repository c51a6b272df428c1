-- The text of an object whose members were taken.
use Rattle.std.proofs.Common.{◌≡◌, ℕ, List, [], ◌∷◌, length, Vec, Global, Option, Some, None, Result, Ok, Err, IfOk, ap, ◌∙◌, subst, arith, rules}
use Rattle.std.specs.Prelude.{IfSome}
use Rattle.json.specs.Json.{parse_map, members, value}
use Rattle.json.specs.Lex.{tokens}
use Rattle.json.specs.Token.{Token}
use Rattle.json.proofs.Grammar.{value-begin_object}
use Rattle.serde_json.specs.Read.{converted, max_depth, read}
use Rattle.flag_text.specs.Grammar.{tree_from, members_from}
use Rattle.flag_text.specs.Reading.{if_json, if_whole}
use Rattle.flag_text.specs.Shape.{Members, no_members, object}
use Rattle.flag_text.specs.View.{view, members_view}
use Rattle.flag_text.specs.declared.fault.TextFault.{TextFault}
use Rattle.flag_text.specs.declared.tree.Tree.{Tree, Object, the_lemmas}
use Rattle.flag_text.proofs.Printed.{if_whole-kept}
use Rattle.flag_text.proofs.Trees.{whole_read}
use Rattle.flag_text.proofs.Turns.{converted-object}
use Rattle.flag_text.proofs.Views.{Named}
use Rattle.member_names.specs.NamedPassed.{AreMembersPlain}

-- an object is all of the text
pub object_read : (text : List ℕ) (ts : List Token) (all : Members) → tokens text ≡ Token.begin_object ∷ ts → converted (λ ms. members_from ms no_members) (members (value 126) (length ts) ts) ≡ Some (all, [])
    → AreMembersPlain 119 all → if_whole (if_json (read text)) ≡ Ok (object all)
object_read text ts all opened taken plain =
    let whole : converted tree_from (value max_depth (tokens text)) ≡ Some (object all, []) =
    ap (λ all. converted tree_from (value max_depth all)) opened ∙ ap (converted tree_from) (value-begin_object max_depth ts (omega arith)) ∙ converted-object (members (value 126) (length ts) ts) ∙ ap (parse_map object) taken in
    ap if_whole (whole_read text (object all) whole) ∙ if_whole-kept (object all) (omega (arith, plain.0)) plain.1

-- what an object of these members is
pub object_of : (v : Vec Named Global) (es : List Named) → v.items ≡ es → view (Object v) ≡ object (members_view es)
object_of v es is = seen ∙ ap (λ ms. object (members_view ms)) is
  where
    seen : view (Object v) ≡ object (members_view v.items)
    seen = search (rules, the_lemmas)

-- what holds of what was read holds of what is taken of it
pub carried : (r : Result (Option Tree) TextFault) (k : Result Tree TextFault) (P Q : Tree → Type 0) → ((t : Tree) → P t → Q t) → IfOk r (λ o. IfSome o (λ t. k ≡ Ok t)) → IfOk k P → IfOk r (λ o. IfSome o Q)
carried (Err e) k P Q f is ok = tt
carried (Ok None) k P Q f is ok = tt
carried (Ok (Some t)) k P Q f is ok = f t (subst (λ x. IfOk x P) is ok)
