-- What a file was handed.
use Rattle.std.specs.Prelude.{◌≡◌, ℕ, List, ◌++◌, take, Option, Result, IfSome, MatchResult}
use Rattle.std.specs.List.{flat_map}
use Rattle.std.specs.declared.alloc.Global.{Global}
use Rattle.bytes.specs.declared.unique.BytesMut.{BytesMut}

-- the bytes that were taken by writes, of each of which this says what it was given and how much it took
abbrev pub handed_in : List (BytesMut Global × ℕ) → List ℕ
handed_in writes = flat_map (λ w. take w.1 w.0.items) writes

-- the front that was taken was handed over, and nothing where none was
abbrev pub HandsTaken : {E : Type 0} → List (BytesMut Global × ℕ) → List (BytesMut Global × ℕ) → Result ℕ E → List ℕ → Type 0
HandsTaken old new result buf = MatchResult result (λ n. handed_in new ≡ handed_in old ++ take n buf) (λ _. new ≡ old)

-- the bytes of a file, where they are known, end with these
abbrev pub EndsWith : Option (List ℕ) → List ℕ → Type 0
EndsWith bytes last = IfSome bytes (λ bs. (before : List ℕ) × (bs ≡ before ++ last))
