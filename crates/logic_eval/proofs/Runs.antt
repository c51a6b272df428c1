-- What holds of the value of a run and of each site that it reaches.
use Rattle.std.proofs.Common.{◌++◌, Result, Ok, Err}
use Rattle.std.specs.Prelude.{ℕ, IfOk}
use Rattle.std.specs.List.{All}
use Rattle.std.proofs.lemmas.List.Elements.{All-nil, All-cons, All-append, All-same}
use Rattle.logic_values.specs.declared.fault.EvalFault.{EvalFault}
use Rattle.logic_eval.specs.Run.{Reach, cost, reach, Run, ends, gives, faults, after, continues, ◌>>=◌, reached_of}
use Rattle.logic_eval.proofs.Budgets.{reached_of-append}

-- the value, if there is one, has P, and each reached site has Q
pub record Runs {A : Type 0} (P : A → Type 0) (Q : Reach → Type 0) (r : Run A) : Type 0 where
  pub value : IfOk r.ending P
  pub reached : All Q (reached_of r.trace)

module _ (Q : Reach → Type 0) where
  pub runs-ends : {A : Type 0} (P : A → Type 0) (e : Result A EvalFault) → IfOk e P → Runs P Q (ends e)
  unfolding ends
  runs-ends P e h = record { value = h; reached = All-nil Q }

  pub runs-gives : {A : Type 0} (P : A → Type 0) (v : A) → P v → Runs P Q (gives v)
  runs-gives P v h = runs-ends P (Ok v) h

  pub runs-faults : {A : Type 0} (P : A → Type 0) (f : EvalFault) → Runs P Q (let r : Run A = faults f in r)
  runs-faults P f = runs-ends P (Err f) tt

  pub runs-cost : {A : Type 0} (P : A → Type 0) (n : ℕ) (r : Run A) → Runs P Q r → Runs P Q (after (cost n) r)
  unfolding after
  runs-cost P n r h = record { value = h.value; reached = h.reached }

  pub runs-reach : {A : Type 0} (P : A → Type 0) (x : Reach) (r : Run A) → Q x → Runs P Q r → Runs P Q (after (reach x) r)
  unfolding after
  runs-reach P x r q h = record { value = h.value; reached = All-cons Q x (reached_of r.trace) q h.reached }

  pub runs-bind : {A B : Type 0} (P : A → Type 0) (R : B → Type 0) (r : Run A) (f : A → Run B) → Runs P Q r → ((v : A) → P v → Runs R Q (f v)) → Runs R Q (r >>= f)
  unfolding ◌>>=◌
  runs-bind {A} {B} P R r f h k = go r.ending h.value
    where
      go : (e : Result A EvalFault) → IfOk e P → Runs R Q (continues r.trace e f)
      go (Ok v) p = let s = k v p in record {
        value = s.value;
        reached = All-same Q (reached_of (r.trace ++ (f v).trace)) (reached_of r.trace ++ reached_of (f v).trace) (reached_of-append r.trace (f v).trace)
            (All-append Q (reached_of r.trace) (reached_of (f v).trace) h.reached s.reached);
      }
      go (Err e) p = record { value = tt; reached = h.reached }
