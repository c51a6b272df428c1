-- Lines that are counted.
use Rattle.std.proofs.Common.{◌≡◌, ◌+◌, ◌-◌, ◌^◌, ℕ, List, [], ◌∷◌, ◌++◌, min, sum_by, ap, ◌∙◌, arith}
use Rattle.std.proofs.lemmas.List.Sums.{sum_by-append}
use Rattle.log_file.specs.declared.handed.Handed.{Handed}
use Rattle.log_file.specs.Line.{lines_in}
use Rattle.log_file.specs.Handed.{handed_in}
use Rattle.note_log.specs.Sound.{IsCounted, earlier_in}
use Rattle.log_file.proofs.LastLines.{lines_both}
use Rattle.note_log.proofs.Anew.{one_lost}

lines_of_all : (files : List (List ℕ)) (last : List ℕ) → sum_by lines_in (files ++ last ∷ []) ≡ sum_by lines_in files + lines_in last
lines_of_all files last = omega (arith, sum_by-append lines_in files (last ∷ []))

-- more is handed to the file that is open
pub counted_more : (before : ℕ) (handed more after : List ℕ) (n m : ℕ) → IsCounted before handed n → after ≡ handed ++ more → m ≡ min (n + lines_in more) (2 ^ 64 - 1) → IsCounted before after m
counted_more before handed more after n m h is grown =
    let all : lines_in after ≡ lines_in handed + lines_in more = ap lines_in is ∙ lines_both handed more in
    omega (arith, h, all, grown)

-- nothing was handed over yet
pub counted_none : (files : List (Handed × ℕ)) (handed : List ℕ) → files ≡ [] → handed ≡ [] → IsCounted (sum_by lines_in (earlier_in files)) handed 0
counted_none files handed none empty =
    let before : sum_by lines_in (earlier_in files) ≡ 0 = ap (λ (fs : List (Handed × ℕ)). sum_by lines_in (earlier_in fs)) none in
    let last : lines_in handed ≡ 0 = ap lines_in empty in
    omega (arith, before, last)

-- one file more was lost
pub counted_anew : (files after : List (Handed × ℕ)) (last : Handed) (n m : ℕ) (handed : List ℕ) → IsCounted (sum_by lines_in (earlier_in files)) (handed_in last.writes.items) m
    → after ≡ files ++ (last, n) ∷ [] → handed ≡ [] → IsCounted (sum_by lines_in (earlier_in after)) handed m
counted_anew files after last n m handed h is none =
    let all = ap (λ (fs : List (Handed × ℕ)). sum_by lines_in (earlier_in fs)) is ∙ ap (sum_by lines_in) (one_lost files last n) ∙ lines_of_all (earlier_in files) (handed_in last.writes.items) in
    let nothing : lines_in handed ≡ 0 = ap lines_in none in
    omega (arith, h, all, nothing)

-- all that is counted
pub counted_all : (earlier : List (List ℕ)) (handed : List ℕ) (n : ℕ) → IsCounted (sum_by lines_in earlier) handed n → n ≡ min (sum_by lines_in (earlier ++ handed ∷ [])) (2 ^ 64 - 1)
counted_all earlier handed n h = omega (arith, h, lines_of_all earlier handed)
