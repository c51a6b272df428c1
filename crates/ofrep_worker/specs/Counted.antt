-- What the text of the counts ends with (Prometheus: text-based exposition format 0.0.4; its client libraries' process metrics).
use Rattle.std.specs.Prelude.{◌≡◌, ℕ, List, ◌++◌, codes, decimal}

-- a family of one number that rises and falls: what it is for people, its kind, and the number
unfoldable pub gauge_text : List ℕ → List ℕ → ℕ → List ℕ
gauge_text name help value =
    codes "# HELP " ++ (name ++ (codes " " ++ (help ++ (codes "\n# TYPE " ++ (name ++ (codes " gauge\n" ++ (name ++ (codes " " ++ (decimal value ++ codes "\n")))))))))

-- how many bytes the logs have together, and the resident memory of the process
unfoldable pub sizes_text : ℕ → ℕ → List ℕ
sizes_text log_bytes memory =
    gauge_text (codes "ofrep_log_bytes") (codes "Bytes of the logs together, as last looked at.") log_bytes
    ++ gauge_text (codes "process_resident_memory_bytes") (codes "Resident memory size in bytes.") memory

-- the text ends with some
abbrev pub EndsWithSizes : List ℕ → Type 0
EndsWithSizes text = (before : List ℕ) × (log_bytes : ℕ) × (memory : ℕ) × (text ≡ before ++ sizes_text log_bytes memory)
