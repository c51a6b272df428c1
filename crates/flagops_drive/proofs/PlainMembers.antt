-- The members of an ask, and the ask that they make.
use Rattle.std.proofs.Common.{◌≡◌, ◌∙◌, ◌<◌, ◌≤◌, ◌-◌, ℕ, pos, negsuc, Bool, true, false, cond, List, ◌∷◌, length, Option, Some, None, is_some, refl, sym, ap, arith}
use Rattle.std.specs.Prelude.{codes}
use Rattle.std.specs.Str.{bytes_eq}
use Rattle.std.proofs.lemmas.Slice.Eq.{bytes_eq-Decides}
use Rattle.json.specs.Json.{parse_map, read_key, members, value}
use Rattle.json.specs.Token.{Token}
use Rattle.json.proofs.Grammar.{value_is, value-begin_object, read_key-shorter}
use Rattle.serde_json.specs.Read.{converted}
use Rattle.flag_text.specs.Grammar.{put, tree_from, members_from}
use Rattle.flag_text.specs.Readers.{as_object}
use Rattle.flag_text.specs.Shape.{Shape, null, boolean, whole, other, text, list, object, Members, no_members, member}
use Rattle.flag_defs.specs.Kind.{kind_named, word_of}
use Rattle.flag_defs.specs.declared.kind.Kind.{Kind}
use Rattle.flag_defs.specs.declared.kind.Kind.TheVariants as kind
use Rattle.flagops_drive.specs.Asks.{if_moment, if_object}
use Rattle.flagops_drive.specs.Plain.{Comes}
use Rattle.flag_text.proofs.Turns.{converted-object, member_read, members_over}

-- ---- the values

-- the word that names a kind is the kind's word
pub word_named : (s : List ℕ) (k : Kind) → kind_named s ≡ Some k → word_of k ≡ s
word_named s k e = go (bytes_eq s (codes "bool")) (bytes_eq s (codes "text")) (bytes_eq s (codes "whole")) (bytes_eq s (codes "object")) (bytes_eq s (codes "float")) refl refl refl refl refl e
  where
    same : (word : List ℕ) (j : Kind) → bytes_eq s word ≡ true → word_of j ≡ word → Some j ≡ Some k → word_of k ≡ s
    same word j is of e = let named : j ≡ k = cc in ap word_of (sym named) ∙ of ∙ sym ((bytes_eq-Decides s word).0 is)

    go : (a b c d f : Bool) → bytes_eq s (codes "bool") ≡ a → bytes_eq s (codes "text") ≡ b → bytes_eq s (codes "whole") ≡ c → bytes_eq s (codes "object") ≡ d → bytes_eq s (codes "float") ≡ f
        → cond a (Some kind.Bool) (cond b (Some kind.Text) (cond c (Some kind.Whole) (cond d (Some kind.Object) (cond f (Some kind.Float) None)))) ≡ Some k → word_of k ≡ s
    go true b c d f p q r t u e = same (codes "bool") kind.Bool p refl e
    go false true c d f p q r t u e = same (codes "text") kind.Text q refl e
    go false false true d f p q r t u e = same (codes "whole") kind.Whole r refl e
    go false false false true f p q r t u e = same (codes "object") kind.Object t refl e
    go false false false false true p q r t u e = same (codes "float") kind.Float u refl e
    go false false false false false p q r t u e = cc

in_time : (b : Bool) (m n : ℕ) → cond b (Some m) None ≡ Some n → m ≡ n
in_time true m n e = cc
in_time false m n e = cc

-- what is a moment is a whole number
pub moment_is : (t : Shape) (n : ℕ) → if_moment t ≡ Some n → t ≡ whole (pos n)
moment_is null n e = cc
moment_is (boolean b) n e = cc
moment_is (whole (pos m)) n e = ap (λ k. whole (pos k)) (in_time _ m n e)
moment_is (whole (negsuc m)) n e = cc
moment_is other n e = cc
moment_is (text s) n e = cc
moment_is (list ts) n e = cc
moment_is (object ms) n e = cc

-- what has members is an object
pub object_is : (t : Shape) → is_some (as_object t) ≡ true → if_object t ≡ Some t
object_is null e = cc
object_is (boolean b) e = cc
object_is (whole n) e = cc
object_is other e = cc
object_is (text s) e = cc
object_is (list ts) e = cc
object_is (object ms) e = refl

-- ---- the members

-- a text behind a name
pub text_comes : (name s : List ℕ) (old rest new : List Token) → read_key old ≡ Some (Some name, rest) → rest ≡ Token.string s ∷ new → Comes name old (text s) new
text_comes name s old rest new named first =
    record { rest = rest; named = named; is = ap (converted tree_from) (ap (value 125) first ∙ value_is 125 (Token.string s ∷ new)); shorter = omega (arith, ap length first) }

-- the same tree comes
pub same_comes : (name : List ℕ) (old : List Token) (t u : Shape) (new : List Token) → t ≡ u → Comes name old t new → Comes name old u new
same_comes name old t u new same c = record { rest = c.rest; named = c.named; is = c.is ∙ ap (λ v. Some (v, new)) same; shorter = c.shorter }

-- less is left behind a member
pub shorter_behind : (name : List ℕ) (old : List Token) (t : Shape) (new : List Token) → Comes name old t new → length new < length old
shorter_behind name old t new c = omega (arith, c.shorter, read_key-shorter old (Some name) c.rest c.named)

-- ---- the ask

abbrev left_of : Members → ℕ → List Token → Option (Members × List Token)
left_of old n ts = converted (λ ms. members_from ms old) (members (value 125) n ts)

one_more : (name : List ℕ) (t : Shape) (old : Members) (n : ℕ) (ts r : List Token) → length ts ≤ n → Comes name ts t r → (left_of old n ts ≡ left_of (put name t old) (n - 1) r) × (length r ≤ n - 1)
one_more name t old n ts r enough c =
    let less : length r < length ts = shorter_behind name ts t r c in (member_read (value 125) old n name ts c.rest r t (omega arith) c.named c.is, omega arith)

pub ask_read : (ts r₁ r₂ r₃ r₄ r₅ r : List Token) (key word : List ℕ) (default context moment : Shape) → Comes (codes "key") ts (text key) r₁ → Comes (codes "want") r₁ (text word) r₂ → Comes (codes "default") r₂ default r₃
    → Comes (codes "context") r₃ context r₄ → Comes (codes "moment") r₄ moment r₅ → read_key r₅ ≡ Some (None, r)
    → converted tree_from (value 126 (Token.begin_object ∷ ts))
    ≡ Some (object (member (codes "context") context (member (codes "default") default (member (codes "key") (text key) (member (codes "moment") moment (member (codes "want") (text word) no_members))))), r)
ask_read ts r₁ r₂ r₃ r₄ r₅ r key word default context moment c₁ c₂ c₃ c₄ c₅ end =
    let n = length ts in
    let m₁ = one_more _ _ no_members n ts r₁ (omega arith) c₁ in
    let m₂ = one_more _ _ _ (n - 1) r₁ r₂ m₁.1 c₂ in
    let m₃ = one_more _ _ _ (n - 1 - 1) r₂ r₃ m₂.1 c₃ in
    let m₄ = one_more _ _ _ (n - 1 - 1 - 1) r₃ r₄ m₃.1 c₄ in
    let m₅ = one_more _ _ _ (n - 1 - 1 - 1 - 1) r₄ r₅ m₄.1 c₅ in
    ap (converted tree_from) (value-begin_object 126 ts (omega arith)) ∙ converted-object (members (value 125) n ts)
    ∙ ap (parse_map object) (m₁.0 ∙ m₂.0 ∙ m₃.0 ∙ m₄.0 ∙ m₅.0 ∙ members_over (value 125) _ (n - 1 - 1 - 1 - 1 - 1) r₅ r m₅.1 end)
