-- A command with its words.
use Rattle.std.specs.Prelude.{Bool, List, ℕ, Option, option_map}
use Rattle.flag_defs.specs.declared.kind.Kind.{Kind}
use Rattle.flagops_words.specs.declared.asked.Asked as declared
use Rattle.flagops_words.specs.declared.shell.Shell.{Shell}
use Rattle.flagops_words.specs.declared.asked.Asked.TheVariants as code

pub data Asked : Type 0 where
  -- a rule file and a key, and whether the answer is printed as JSON
  bucket : List ℕ → List ℕ → Bool → Asked
  -- the old and the new rule file, a request and a key file, and whether the answer is printed as JSON
  price : List ℕ → List ℕ → List ℕ → List ℕ → Bool → Asked
  -- a document, a key, a kind of value, a default, a context and a moment, and whether the document may have floats
  resolve : List ℕ → List ℕ → Kind → List ℕ → List ℕ → ℕ → Bool → Asked
  -- a document, a request, a book and a plan, the factor of a refinement if there is one, whether what is doubted is refused, whether
  -- the answer is printed as JSON, and whether the document may have floats
  verify : List ℕ → List ℕ → List ℕ → List ℕ → Option ℕ → Bool → Bool → Bool → Asked
  -- a document, a request and a book, the factor of a refinement if there is one, whether what is doubted is refused, whether
  -- the plan is told in words, and whether the document may have floats
  plan : List ℕ → List ℕ → List ℕ → Option ℕ → Bool → Bool → Bool → Asked
  -- a document, a plan, a flag and a site, whether it is refused that something of the document is left out, and whether the document
  -- may have floats
  apply : List ℕ → List ℕ → List ℕ → ℕ → Bool → Bool → Asked
  -- a document, a plan, a request and a book, whether the document is written over, the factor of a refinement if there is one,
  -- whether what is doubted is refused, and whether the document may have floats
  keep : List ℕ → List ℕ → List ℕ → List ℕ → Bool → Option ℕ → Bool → Bool → Asked
  -- a document, asks, a number of workers and a book, whether the book keeps what it has, whether what it has may be lost, whether
  -- what is doubted is refused, whether the answer is printed as JSON, and whether the document may have floats
  drive : List ℕ → List ℕ → ℕ → List ℕ → Bool → Bool → Bool → Bool → Bool → Asked
  -- a shell
  completions : Shell → Asked

-- the same, without where the words lie in memory
abbrev pub asked_view : declared.Asked → Asked
asked_view (code.Bucket rule key json) = bucket rule.now key.now json
asked_view (code.Price old new request keys json) = price old.now new.now request.now keys.now json
asked_view (code.Resolve document key kind default context moment floats) = resolve document.now key.now kind default.now context.now moment.number floats
asked_view (code.Verify document request book file refine strict json floats) = verify document.now request.now book.now file.now (option_map (λ m. m.number) refine) strict json floats
asked_view (code.Apply document file key site strict floats) = apply document.now file.now key.now site strict floats
asked_view (code.Keep document file request book write refine strict floats) = keep document.now file.now request.now book.now write (option_map (λ m. m.number) refine) strict floats
asked_view (code.Drive document file workers book add replace strict json floats) = drive document.now file.now workers book.now add replace strict json floats
asked_view (code.Completions shell) = completions shell
asked_view (code.Plan document request book refine strict explain floats) = plan document.now request.now book.now (option_map (λ m. m.number) refine) strict explain floats
