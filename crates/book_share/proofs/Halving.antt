-- What holds of two halves of the jobs holds of all.
use mathlib.Core.Path.{◌≡◌, refl, sym, subst, ap, ◌∙◌}
use mathlib.Core.List.{List, [], ◌∷◌, ◌++◌}
use mathlib.Core.Logic.{⊎_elim}
use Prim.Native.Nat.{ℕ, ◌+◌, ◌-◌, ◌<◌}
use native.Mathlib.Omega.{arith}
use lib.ListN.{length, get_or, take, drop}
use denote.Param.Members.{Shared}
use Rattle.std.proofs.lemmas.List.{take-append-drop, length-drop, length-take, length-append, get_or-take, get_or-drop, get_or_append_left, get_or-append_right, length_push, get_or_push}
use Rattle.std.proofs.lemmas.Bool.{cases_lt}
use Rattle.core.specs.Fn.{FnReturns}
use Rattle.std.specs.Fork.{AcceptsJobs, GivesJob}
use Rattle.std.specs.Fork.Halves.{GivesFor}

module _ {F J R : Type 0} (g : Shared F (J × Unit {0}) R) (f : F) where
  job_moved : (js ks : List J) (i k : ℕ) (r s : R) → ((d : J) → get_or ks k d ≡ get_or js i d) → r ≡ s → GivesJob g f js i r → GivesJob g f ks k s
  job_moved js ks i k r s e w h =
      record { job = h.job; job_read = h.job_read ∙ sym (e h.job); job_is = λ d. e d ∙ h.job_is d; call = subst (FnReturns g f (h.job, tt)) w h.call }

  pub accepts_last : (all js : List J) (x : J) → all ≡ js ++ x ∷ [] → AcceptsJobs g f all → g.pre f (x, tt)
  accepts_last all js x e k =
      let n : length all ≡ length js + 1 = ap length e ∙ length_push js x in
      k (length js) x (omega arith) (sym (ap (λ l. get_or l (length js) x) e ∙ get_or_push js x x (length js) refl))

  pub accepts_halves : (all js ks : List J) (h : ℕ) → js ≡ take h all → ks ≡ drop h all → AcceptsJobs g f all → AcceptsJobs g f js × AcceptsJobs g f ks
  accepts_halves all js ks h front back k =
      let a = ap length front ∙ length-take h all in let b = ap length back ∙ length-drop h all in (
        λ i y p r. k i y (omega arith) (r ∙ ap (λ l. get_or l i y) front ∙ get_or-take h all i y (omega arith)),
        λ i y p r. k (h + i) y (omega arith) (r ∙ ap (λ l. get_or l i y) back ∙ get_or-drop h all i y),
      )

  job_one : (x : J) (r : R) → FnReturns g f (x, tt) r → GivesFor g f (x ∷ []) (r ∷ [])
  job_one x r said =
      record {
        len = refl;
        each = λ i d h. let z : i ≡ 0 = omega (arith, length_push [] x) in
            subst (λ k. GivesJob g f (x ∷ []) k (get_or (r ∷ []) k d)) (sym z) (record { job = x; job_read = refl; job_is = λ e. refl; call = said });
      }

  pub job_only : (all js : List J) (x : J) (none rs : List R) (r : R) → length all < 2 → all ≡ js ++ x ∷ [] → none ≡ [] → rs ≡ none ++ r ∷ [] → FnReturns g f (x, tt) r → GivesFor g f all rs
  job_only all [] x none rs r short e empty is said =
      subst (λ l. GivesFor g f l rs) (sym e) (subst (GivesFor g f (x ∷ [])) (sym (is ∙ ap (λ l. l ++ r ∷ []) empty)) (job_one x r said))
  job_only all (y ∷ js) x none rs r short e empty is said = absurd (omega (arith, ap length e, length-append (y ∷ []) (js ++ x ∷ []), length_push [] y, length_push js x))

  jobs_both : (js ks : List J) (xs ys zs : List R) → zs ≡ xs ++ ys → GivesFor g f js xs → GivesFor g f ks ys → GivesFor g f (js ++ ks) zs
  jobs_both js ks xs ys zs is a b =
      let n = length js in
      record {
        len = omega (arith, ap length is, length-append xs ys, length-append js ks);
        each = λ k d h. ⊎_elim
            (λ p. job_moved js (js ++ ks) k k _ _ (λ e. get_or_append_left js ks e k p) (sym (ap (λ l. get_or l k d) is ∙ get_or_append_left xs ys d k (omega arith))) (a.each k d p))
            (λ p. job_moved ks (js ++ ks) (k - n) k _ _ (λ e. get_or-append_right js ks n k e refl p) (sym (ap (λ l. get_or l k d) is ∙ get_or-append_right xs ys n k d a.len p))
            (b.each (k - n) d (omega (arith, length-append js ks))))
            (cases_lt k n);
      }

  pub jobs_halves : (all js ks : List J) (h : ℕ) (xs ys zs : List R) → js ≡ take h all → ks ≡ drop h all → zs ≡ xs ++ ys → GivesFor g f js xs → GivesFor g f ks ys → GivesFor g f all zs
  jobs_halves all js ks h xs ys zs front back is a b =
      subst (λ l. GivesFor g f l zs) (ap (λ l. l ++ ks) front ∙ ap (λ l. take h all ++ l) back ∙ take-append-drop h all) (jobs_both js ks xs ys zs is a b)
