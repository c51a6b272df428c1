-- The logs of posts.
use Rattle.std.proofs.Common.{◌≡◌, ◌+◌, ◌∙◌, ℕ, zero, suc, List, ◌∷◌, [], ap, arith, length, map, refl, sym}
use Rattle.std.specs.Prelude.{Option}
use Rattle.std.proofs.lemmas.List.{length-append, length-map}
use Rattle.ofrep_service.specs.Logs.{path_at, paths_of}
use Rattle.std.proofs.lemmas.Simd.{map-map}

-- what is seen of the logs is seen of the posts that have them
pub seen_at_posts : {P L X : Type 0} (log : P → L) (seen : L → X) (posts : List P) (logs : List L) (all : List X) → map log posts ≡ logs → map seen logs ≡ all → map (λ p. seen (log p)) posts ≡ all
seen_at_posts log seen posts logs all same is = sym (map-map seen log posts) ∙ ap (map seen) same ∙ is

-- so many workers have so many paths
as_many : (folder : Option (List ℕ)) (workers : ℕ) → length (paths_of folder workers) ≡ workers
as_many folder zero = refl
as_many folder (suc workers) = omega (arith, length-append (paths_of folder workers) (path_at folder (workers + 1) ∷ []), as_many folder workers)

-- where each post has the log that was opened for it, there are as many as workers
pub all_posted : {P L : Type 0} (log : P → L) (seen : L → Option (List ℕ)) (posts : List P) (logs : List L) (folder : Option (List ℕ)) (workers : ℕ)
    → map log posts ≡ logs → map seen logs ≡ paths_of folder workers → length posts ≡ workers
all_posted log seen posts logs folder workers same is =
    omega (arith, length-map posts log, length-map logs seen, ap length same, ap length is, as_many folder workers)
