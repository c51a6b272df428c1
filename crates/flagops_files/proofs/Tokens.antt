-- The lexemes of tokens that begin an object with a name.
use Rattle.std.proofs.Common.{◌≡◌, ℕ, Bool, true, false, List, [], ◌∷◌, refl, ap, ◌∙◌}
use Rattle.json.specs.Token.{Token, begin_object, end_object, begin_array, end_array, key, string, number, boolean, null, bad}
use Rattle.json.specs.Lex.{Lexeme, token, comma, colon, fresh, begins_colon, place_token, punctuate}

-- where an object opens
pub object_lexeme : (ls : List Lexeme) (ts : List Token) → punctuate fresh ls ≡ begin_object ∷ ts → (more : List Lexeme) × (ls ≡ token begin_object ∷ more) × (punctuate fresh more ≡ ts)
unfolding punctuate
object_lexeme [] ts e = cc
object_lexeme (comma ∷ ls) ts e = let same : bad ≡ begin_object = cc in cc
object_lexeme (colon ∷ ls) ts e = let same : bad ≡ begin_object = cc in cc
object_lexeme (token begin_object ∷ ls) ts e = (ls, refl, cc)
object_lexeme (token end_object ∷ ls) ts e = let same : end_object ≡ begin_object = cc in cc
object_lexeme (token begin_array ∷ ls) ts e = let same : begin_array ≡ begin_object = cc in cc
object_lexeme (token end_array ∷ ls) ts e = let same : end_array ≡ begin_object = cc in cc
object_lexeme (token (key s) ∷ ls) ts e = let same : bad ≡ begin_object = cc in cc
object_lexeme (token (string s) ∷ ls) ts e = go (begins_colon ls) e
  where
    go : (b : Bool) → place_token fresh (string s) b (λ next. punctuate next ls) ≡ begin_object ∷ ts → (more : List Lexeme) × (token (string s) ∷ ls ≡ token begin_object ∷ more) × (punctuate fresh more ≡ ts)
    go true h = let same : key s ≡ begin_object = cc in cc
    go false h = let same : string s ≡ begin_object = cc in cc
object_lexeme (token (number s) ∷ ls) ts e = let same : number s ≡ begin_object = cc in cc
object_lexeme (token (boolean b) ∷ ls) ts e = let same : boolean b ≡ begin_object = cc in cc
object_lexeme (token null ∷ ls) ts e = let same : null ≡ begin_object = cc in cc
object_lexeme (token bad ∷ ls) ts e = let same : bad ≡ begin_object = cc in cc

-- where a name stands
pub name_lexeme : (ls : List Lexeme) (k : List ℕ) (ts : List Token) → punctuate fresh ls ≡ key k ∷ ts → (more : List Lexeme) × (ls ≡ token (string k) ∷ more)
unfolding punctuate
name_lexeme [] k ts e = cc
name_lexeme (comma ∷ ls) k ts e = let same : bad ≡ key k = cc in cc
name_lexeme (colon ∷ ls) k ts e = let same : bad ≡ key k = cc in cc
name_lexeme (token begin_object ∷ ls) k ts e = let same : begin_object ≡ key k = cc in cc
name_lexeme (token end_object ∷ ls) k ts e = let same : end_object ≡ key k = cc in cc
name_lexeme (token begin_array ∷ ls) k ts e = let same : begin_array ≡ key k = cc in cc
name_lexeme (token end_array ∷ ls) k ts e = let same : end_array ≡ key k = cc in cc
name_lexeme (token (key s) ∷ ls) k ts e = let same : bad ≡ key k = cc in cc
name_lexeme (token (string s) ∷ ls) k ts e = go (begins_colon ls) e
  where
    go : (b : Bool) → place_token fresh (string s) b (λ next. punctuate next ls) ≡ key k ∷ ts → (more : List Lexeme) × (token (string s) ∷ ls ≡ token (string k) ∷ more)
    go true h = let same : key s ≡ key k = cc in let name : s ≡ k = cc in (ls, ap (λ n. token (string n) ∷ ls) name)
    go false h = let same : string s ≡ key k = cc in cc
name_lexeme (token (number s) ∷ ls) k ts e = let same : number s ≡ key k = cc in cc
name_lexeme (token (boolean b) ∷ ls) k ts e = let same : boolean b ≡ key k = cc in cc
name_lexeme (token null ∷ ls) k ts e = let same : null ≡ key k = cc in cc
name_lexeme (token bad ∷ ls) k ts e = let same : bad ≡ key k = cc in cc

-- an object with a member
pub object_lexemes : (ls : List Lexeme) (k : List ℕ) (ts : List Token) → punctuate fresh ls ≡ begin_object ∷ (key k ∷ ts) → (more : List Lexeme) × (ls ≡ token begin_object ∷ (token (string k) ∷ more))
object_lexemes ls k ts e =
    let o = object_lexeme ls (key k ∷ ts) e in
    let n = name_lexeme o.0 k ts o.2 in
    (n.0, o.1 ∙ ap (λ rest. token begin_object ∷ rest) n.1)
