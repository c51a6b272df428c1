-- The book that stands at a path, where there is one.
use Rattle.std.proofs.Common.{◌≡◌, ◌==◌, ℕ, Bool, true, false, not, List, [], ◌∷◌, length, take, arith, Option, Some, None, IfSome, refl, sym, ap, ◌∙◌, subst}
use Rattle.std.proofs.lemmas.Bool.{eqb-true}
use Rattle.std.specs.Prelude.{Result, Ok, Err, option_map}
use Rattle.book_core.specs.Book.{Contents}
use Rattle.flagops_files.specs.Losses.{book_in, is_filled, losses_at, lost_inputs, lost_of}
use Rattle.flagops_files.specs.Question.{book_at}
use Rattle.flagops_files.specs.Refusal.{GivesUnlessWant, Refused, is_want}
use Rattle.flagops_files.specs.declared.refusal.Refusal.{Refusal}
use Rattle.flagops_shell.specs.Files.{Holding, first_piece}

-- ---- whether the file has bytes

inside : (front bytes : List ℕ) → Some front ≡ Some bytes → front ≡ bytes
inside front bytes is = cc

some_length : (b : ℕ) (bs : List ℕ) (none : Bool) → (length (b ∷ bs) == 0) ≡ none → none ≡ false
some_length b bs true is = let no : length (b ∷ bs) ≡ 0 = eqb-true (length (b ∷ bs)) 0 is in absurd (omega (arith, no))
some_length b bs false is = refl

filled_of : (held : Option (List ℕ)) (front : List ℕ) → Some front ≡ option_map first_piece held → not (length front == 0) ≡ is_filled held
filled_of None front is = cc
filled_of (Some []) front is = let same : front ≡ [] = inside front [] is in rw same refl
filled_of (Some (b ∷ bs)) front is =
    let same : front ≡ b ∷ take 4095 bs = inside front (b ∷ take 4095 bs) is in
    let none : (length (b ∷ take 4095 bs) == 0) ≡ false = some_length b (take 4095 bs) (length (b ∷ take 4095 bs) == 0) refl in
    ap (λ (bytes : List ℕ). not (length bytes == 0)) same ∙ ap not none

none_of : (held : Option (List ℕ)) → (let o : Option (List ℕ) = None in o) ≡ option_map first_piece held → false ≡ is_filled held
none_of None is = refl
none_of (Some bytes) is = cc

module _ (old : Option Holding) (path : List ℕ) where
  pub filled : (front bytes : List ℕ) (empty : Bool) → bytes ≡ front → empty ≡ (length bytes == 0) → IfSome old (λ at. Some front ≡ option_map first_piece (at path)) → IfSome old (λ at. not empty ≡ is_filled (at path))
  filled front bytes empty same none is = go old is
    where
      go : (h : Option Holding) → IfSome h (λ at. Some front ≡ option_map first_piece (at path)) → IfSome h (λ at. not empty ≡ is_filled (at path))
      go None is = tt
      go (Some at) is = ap not (none ∙ ap (λ (bs : List ℕ). length bs == 0) same) ∙ filled_of (at path) front is

  pub unread : IfSome old (λ at. (let o : Option (List ℕ) = None in o) ≡ option_map first_piece (at path)) → IfSome old (λ at. false ≡ is_filled (at path))
  unread is = go old is
    where
      go : (h : Option Holding) → IfSome h (λ at. (let o : Option (List ℕ) = None in o) ≡ option_map first_piece (at path)) → IfSome h (λ at. false ≡ is_filled (at path))
      go None is = tt
      go (Some at) is = none_of (at path) is

  module _ (new : Contents) where
    -- ---- what is lost of it

    pub none_there : IfSome old (λ at. false ≡ is_filled (at path)) → IfSome old (λ at. losses_at at path new ≡ Ok 0)
    unfolding losses_at
    none_there is = go old is
      where
        go : (h : Option Holding) → IfSome h (λ at. false ≡ is_filled (at path)) → IfSome h (λ at. losses_at at path new ≡ Ok 0)
        go None is = tt
        go (Some at) is = ap (λ (b : Bool). lost_of (book_in at path b) new) (sym is)

    pub there : (r : Result ℕ Refused) → IfSome old (λ at. true ≡ is_filled (at path)) → IfSome old (λ at. GivesUnlessWant (λ n. n) r (lost_of (book_at at path) new)) → IfSome old (λ at. GivesUnlessWant (λ n. n) r (losses_at at path new))
    unfolding losses_at
    there r is gives = go old is gives
      where
        go : (h : Option Holding) → IfSome h (λ at. true ≡ is_filled (at path)) → IfSome h (λ at. GivesUnlessWant (λ n. n) r (lost_of (book_at at path) new)) → IfSome h (λ at. GivesUnlessWant (λ n. n) r (losses_at at path new))
        go None is gives = tt
        go (Some at) is gives = subst (λ (b : Bool). GivesUnlessWant (λ n. n) r (lost_of (book_in at path b) new)) is gives

    pub counted_so : (book : Contents) (n : ℕ) → IfSome old (λ at. book_at at path ≡ Ok book) → n ≡ lost_inputs book new → IfSome old (λ at. lost_of (book_at at path) new ≡ Ok n)
    counted_so book n is counted = go old is
      where
        go : (h : Option Holding) → IfSome h (λ at. book_at at path ≡ Ok book) → IfSome h (λ at. lost_of (book_at at path) new ≡ Ok n)
        go None is = tt
        go (Some at) is = ap (λ (r : Result Contents Refusal). lost_of r new) is ∙ ap Ok (sym counted)
