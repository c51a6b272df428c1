-- What a plan shows of the inputs that were recorded.
use Rattle.std.specs.Prelude.{◌≡◌, ℕ, List, [], Bool, Result, Ok}
use Rattle.std.specs.List.{IsDistinct, list_any}
use Rattle.std.specs.Str.{bytes_eq}
use Rattle.flag_defs.specs.Document.{Definitions}
use Rattle.book_core.specs.Book.{Contents, IsBook, is_among}
use Rattle.book_core.specs.Calls.{stands}
use Rattle.book_core.specs.Page.{PageName}
use Rattle.book_lock.specs.Sealed.{IsSealed}
use Rattle.book_lock.specs.Told.{IsTold, all_told}
use Rattle.book_lock.specs.declared.name.BookName as BookName
use Rattle.book_lock.specs.declared.sealing.SealRefused.{SealRefused}
use Rattle.book_lock.specs.declared.call.Sight.{Sight}
use Rattle.book_share.specs.Asked.{Mention, is_mention}
use Rattle.book_share.specs.Driven.{AreNoted}
use Rattle.price_core.specs.Request.{asked_of}
use Rattle.plan_text.specs.Answer.{Answer, planned_view}
use Rattle.plan_text.specs.declared.planned.Planned.{Planned}
use Rattle.rollout.specs.Lawful.{Problem, and_then, by_price, place_of}
use Rattle.rollout.specs.Plan.{IsPlanned}
use Rattle.rollout.specs.Refined.{problem_refined}
use Rattle.rollout.specs.Verified.{Shows}
use Rattle.rollout.specs.declared.fault.RolloutFault.{RolloutFault}
use Rattle.product_laws.specs.declared.planning.PlanRefused.{PlanRefused}
use Rattle.product_laws.specs.declared.planning.PlanRefused.TheVariants.{Seal, Plan}

-- which inputs were recorded on a page
abbrev pub Record : Type 0
Record = PageName → List ℕ → Bool

-- the inputs that pass a test, each once, in any order
pub record AreKeys (is_key : List ℕ → Bool) (keys : List (List ℕ)) : Type 0 where
  pub distinct : IsDistinct bytes_eq keys
  pub all : (input : List ℕ) → is_among input keys ≡ is_key input

-- the page of the site that a request names
abbrev pub page_asked : Definitions → List ℕ → Result PageName RolloutFault
page_asked flags request = and_then (by_price (asked_of request)) (λ asked. and_then (place_of flags asked.flag asked.site) (λ place. Ok place.page))

-- the same rule, limits and prices, and these keys as the inputs that count
abbrev pub of_keys : Problem → List (List ℕ) → Problem
of_keys p keys = record { old = p.old; limits = p.limits; pricing = p.pricing; inputs = keys }

-- The answer to a request, on the site's rule refined by m, holds of the inputs that were recorded on the page of its site:
-- the rule fits and costs them the least of all rules that fit, or no rule fits.
pub record HoldsOf (recorded : Record) (m : ℕ) (flags : Definitions) (request : List ℕ) (answer : Answer) : Type 0 where
  pub page : PageName
  pub named : page_asked flags request ≡ Ok page
  -- the rule, the limits and the prices that are asked, whatever was recorded
  pub problem : Problem
  pub asked : problem_refined m flags request [] ≡ Ok problem
  -- the recorded inputs are finitely many
  pub some : List (List ℕ)
  pub are : AreKeys (recorded page) some
  pub shows : (keys : List (List ℕ)) → AreKeys (recorded page) keys → Shows (of_keys problem keys) answer

-- What is planned on the book that these seats leave is what a plan of the request on it is.
pub record IsPlannedOn (n : ℕ) (seats : List Sight) (flags : Definitions) (request : List ℕ) (planned : Planned) : Type 0 where
  pub book : Contents
  pub sealed : IsSealed n seats book
  pub told : IsTold seats book
  pub plan : IsPlanned (problem_refined 1 flags request book) (Ok planned)

-- what holds of a refusal, by whether the book was not sealed or the sealed book was not planned on
abbrev pub IsRefusedBy : {L : Type 0} {g : BookName.Ghosts L} → (SealRefused L g → Type 0) → (RolloutFault → Contents → Type 0) → PlanRefused L g → Type 0
IsRefusedBy unsealed unplanned (Seal refused) = unsealed refused
IsRefusedBy unsealed unplanned (Plan fault book) = unplanned fault book

-- what the seats of a book were told
abbrev pub told_to : List Sight → Record
told_to seats page input = stands (all_told seats) page input

-- what a list mentions
abbrev pub mentioned_in : List Mention → Record
mentioned_in mentions page input = list_any (is_mention page input) mentions

-- what is planned on a sealed book holds of what its seats were told
abbrev pub SealedPlansHold : Type 0
SealedPlansHold = (seats : List Sight) (book : Contents) (m : ℕ) (flags : Definitions) (request : List ℕ) (planned : Planned)
    → IsBook book → IsTold seats book → IsPlanned (problem_refined m flags request book) (Ok planned) → HoldsOf (told_to seats) m flags request (planned_view planned)

-- what is planned on a driven book holds of what its asks reached, where no page was full
abbrev pub DrivenPlansHold : Type 0
DrivenPlansHold = (mentions : List Mention) (book : Contents) (calls news m : ℕ) (flags : Definitions) (request : List ℕ) (planned : Planned)
    → IsBook book → AreNoted mentions book calls news 0 → IsPlanned (problem_refined m flags request book) (Ok planned) → HoldsOf (mentioned_in mentions) m flags request (planned_view planned)
