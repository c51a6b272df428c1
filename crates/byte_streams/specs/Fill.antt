-- A batch that grows by what a stream gives.
use Rattle.std.specs.Prelude.{◌≡◌, ◌≤◌, ℕ, List, ◌++◌, length, Option}
use Rattle.std.specs.Io.KnownBytes.{Consumes}

-- the batch grows by the bytes that the stream loses
pub record Grows (old new : Option (List ℕ)) (before after : List ℕ) : Type 0 where
  pub added : List ℕ
  pub stream : Consumes old new added
  pub batch : after ≡ before ++ added

-- it grows by a front of them, and at most so many behind it are lost
pub record GrowsPartly (most : ℕ) (old new : Option (List ℕ)) (before after : List ℕ) : Type 0 where
  pub added : List ℕ
  pub lost : List ℕ
  pub few : length lost ≤ most
  pub stream : Consumes old new (added ++ lost)
  pub batch : after ≡ before ++ added
