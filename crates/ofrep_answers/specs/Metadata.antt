-- The metadata that answers tell (OpenFeature Remote Evaluation Protocol: metadata of a flag's evaluation, and of the bulk evaluation).
use Rattle.std.specs.Prelude.{ℕ, List, [], Option}
use Rattle.flag_metadata.specs.Document.{Described}
use Rattle.flag_metadata.specs.Merged as merged

-- the texts of the metadata of the flag of a key, and of that of all flags together, where there is some
pub record AnswerMetadata : Type 0 where
  pub of_flag : List ℕ → List ℕ
  pub of_all : Option (List ℕ)

-- that of these documents, the latest last
abbrev pub metadata_of : List Described → AnswerMetadata
metadata_of ds = record { of_flag = merged.flag_metadata ds; of_all = merged.merged_metadata ds }

abbrev pub no_metadata : AnswerMetadata
no_metadata = metadata_of []
