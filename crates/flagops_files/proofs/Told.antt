-- A remark that is made of lines, and what is told of one of several things.
use Rattle.std.proofs.Common.{◌≡◌, ℕ, Bool, false, List, [], ◌∷◌, ◌++◌, map, Result, Ok, Err, IfOk, String, string_bytes, refl, sym, subst, inl, inr, Global}
use Rattle.std.specs.Prelude.{OnErr}
use Rattle.flagops_files.specs.Told.{AllSucceed, Attempt, NamesFirst, NamesOne, NamesSubject, Subject, Subjects, by_kind, within}
use Rattle.flagops_shell.proofs.Lifted.{not_want}
use Rattle.flagops_shell.specs.Diagnostic.{Says}
use Rattle.flagops_shell.specs.declared.refused.Refused.{Refused}
use Rattle.flagops_shell.specs.declared.refused.Remark.{Remark}
use Rattle.flagops_shell.specs.declared.refused.Remark.TheVariants.{Short, Lines}

-- what the lines say, the remark says
pub says : {E : Type 0} (P : List ℕ → Type 0) (lines : Result (String Global) E) (remark : Remark) → IfOk lines (λ s. remark ≡ Lines s) → OnErr lines (remark ≡ Short)
    → IfOk lines (λ s. P (string_bytes s)) → Says P remark
says P (Ok s) remark is short named = subst (Says P) (sym is) named
says P (Err e) remark is short named = subst (Says P) (sym short) tt

-- one of the first is one of all
pub told_left : {R : Type 0} (xs ys : Subjects R) (e : R) (remark : Remark) → NamesOne xs e remark → NamesOne (xs ++ ys) e remark
told_left [] ys e remark told = absurd told
told_left (x ∷ xs) ys e remark (inl told) = inl told
told_left (x ∷ xs) ys e remark (inr more) = inr (told_left xs ys e remark more)

pub told_right : {R : Type 0} (xs ys : Subjects R) (e : R) (remark : Remark) → NamesOne ys e remark → NamesOne (xs ++ ys) e remark
told_right [] ys e remark told = told
told_right (x ∷ xs) ys e remark told = inr (told_right xs ys e remark told)

-- ---- the first that is refused

-- the first of some is the first of all of which they come first
pub first_left : {R : Type 0} (xs ys : List (Attempt R)) (e : R) (remark : Remark) → NamesFirst xs e remark → NamesFirst (xs ++ ys) e remark
first_left [] ys e remark names = absurd names
first_left (x ∷ xs) ys e remark (inl (refused, says)) = inl (refused, says)
first_left (x ∷ xs) ys e remark (inr (succeeds, names)) = inr (succeeds, first_left xs ys e remark names)

-- and that of those behind them, where they succeed
pub first_right : {R : Type 0} (xs ys : List (Attempt R)) (e : R) (remark : Remark) → AllSucceed xs → NamesFirst ys e remark → NamesFirst (xs ++ ys) e remark
first_right [] ys e remark succeed names = names
first_right (x ∷ xs) ys e remark (succeeds, succeed) names = inr (succeeds, first_right xs ys e remark succeed names)

pub succeed_both : {R : Type 0} (xs ys : List (Attempt R)) → AllSucceed xs → AllSucceed ys → AllSucceed (xs ++ ys)
succeed_both [] ys first rest = rest
succeed_both (x ∷ xs) ys (succeeds, first) rest = (succeeds, succeed_both xs ys first rest)

pub succeed_within : {E R : Type 0} (f : E → R) (xs : List (Attempt E)) → AllSucceed xs → AllSucceed (map (within f) xs)
succeed_within f [] succeed = tt
succeed_within f (x ∷ xs) (succeeds, succeed) = (succeeds, succeed_within f xs succeed)

pub first_within : {E R : Type 0} (f : E → R) (xs : List (Attempt E)) (e : E) (remark : Remark) → NamesFirst xs e remark → NamesFirst (map (within f) xs) (f e) remark
first_within f [] e remark names = absurd names
first_within f (x ∷ xs) e remark (inl (refused, says)) = inl ((e, refused, refl), says)
first_within f (x ∷ xs) e remark (inr (succeeds, names)) = inr (succeeds, first_within f xs e remark names)

-- one of several by its kind
pub first_by_kind : {R : Type 0} (xs : Subjects R) (e : R) (remark : Remark) → NamesOne xs e remark → NamesFirst (by_kind xs) e remark
first_by_kind [] e remark names = absurd names
first_by_kind (x ∷ xs) e remark (inl named) = inl named
first_by_kind (x ∷ xs) e remark (inr more) = inr (tt, first_by_kind xs e remark more)

-- what is attempted is left of all of these: the first of what is left that is refused is the first of all
abbrev pub AreLeft : {R : Type 0} → List (Attempt R) → List (Attempt R) → Type 0
AreLeft {R} left all = (e : R) (remark : Remark) → NamesFirst left e remark → NamesFirst all e remark

module _ {R : Type 0} (a : Attempt R) (left all : List (Attempt R)) (are : AreLeft (a ∷ left) all) where
  -- after one that succeeds
  pub left_after : a.Succeeds → AreLeft left all
  left_after succeeds e remark names = are e remark (inr (succeeds, names))

  -- one that is refused is the first
  pub first_of_left : (e : R) (remark : Remark) → a.Refuses e → Says (NamesSubject a.subject) remark → NamesFirst all e remark
  first_of_left e remark refused says = are e remark (inl (refused, says))

-- ---- a refusal of another family is told as it was

module _ {E R : Type 0} (want : E → Bool) (is_want : R → Bool) (f : E → R) (same : (e : E) → is_want (f e) ≡ want e) (e : Refused E) (t : Refused R) (is : t.refusal ≡ f e.refusal) (said : t.remark ≡ e.remark) where
  -- by the name of the one thing that it is of
  pub told_of : (subject : Subject) → (want e.refusal ≡ false → Says (NamesSubject subject) e.remark) → is_want t.refusal ≡ false → Says (NamesSubject subject) t.remark
  told_of subject told no_want = subst (Says (NamesSubject subject)) (sym said) (told (not_want want is_want f same e t is no_want))

  -- by that of one of several, where what it is of as the other it is of as this
  pub told_of_one : (xs : Subjects E) (ys : Subjects R) → ((r : E) (remark : Remark) → NamesOne xs r remark → NamesOne ys (f r) remark)
      → (want e.refusal ≡ false → NamesOne xs e.refusal e.remark) → is_want t.refusal ≡ false → NamesOne ys t.refusal t.remark
  told_of_one xs ys alike told no_want =
      subst (λ (r : R). NamesOne ys r t.remark) (sym is) (subst (NamesOne ys (f e.refusal)) (sym said) (alike e.refusal e.remark (told (not_want want is_want f same e t is no_want))))

  -- by that of the first that is refused
  pub told_of_first : (xs : List (Attempt E)) → (want e.refusal ≡ false → NamesFirst xs e.refusal e.remark) → is_want t.refusal ≡ false → NamesFirst (map (within f) xs) t.refusal t.remark
  told_of_first xs told no_want =
      subst (λ (r : R). NamesFirst (map (within f) xs) r t.remark) (sym is)
      (subst (NamesFirst (map (within f) xs) (f e.refusal)) (sym said) (first_within f xs e.refusal e.remark (told (not_want want is_want f same e t is no_want))))
