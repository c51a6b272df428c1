-- That a tally stands for the book whose inputs it counts, in a picture too.
use Rattle.std.specs.Prelude.{ℕ, List, Option}
use Rattle.book_core.specs.Book.{Contents, inputs_on}
use Rattle.flag_defs.specs.Document.{Definitions}
use Rattle.flagops_pictures.specs.Asked.{asked_on}
use Rattle.flagops_pictures.specs.Pictured.{IsDrawn}
use Rattle.flagops_pictures.specs.Ramps.{AreTold}
use Rattle.picture.specs.Spelling.{Pictures}
use Rattle.plan_text.specs.Answer.{Answer}
use Rattle.ramp.specs.Ramp.{Standing, in_book, in_tally}
use Rattle.rollout.specs.declared.refining.Refining.{Refining}
use Rattle.note_tallies.specs.JoinLaw.{IsTallyOf}
use Rattle.note_tallies.specs.Tally.{PageTally}

-- A picture of an answer on the tally of a page's inputs is one of it on the book that has them.
abbrev pub TallyPicturesAreOfBooks : Type 0
TallyPicturesAreOfBooks =
    (refining : Refining) (flags : Definitions) (request : List ℕ) (book : Contents) (t : PageTally) (answer : Answer) (bytes : List ℕ)
    → IsTallyOf (inputs_on book t.page) t → IsDrawn (asked_on refining flags request (in_tally t)) answer bytes → IsDrawn (asked_on refining flags request (in_book book)) answer bytes

-- And so are the pictures of the answers to steps.
abbrev pub TallyRampPicturesAreOfBooks : Type 0
TallyRampPicturesAreOfBooks =
    (standing : Standing) (refine : Option ℕ) (requests : List (List ℕ)) (book : Contents) (t : PageTally) (n : ℕ) (answers : List Answer) (ps : Pictures)
    → IsTallyOf (inputs_on book t.page) t → AreTold standing refine requests (in_tally t) n answers ps → AreTold standing refine requests (in_book book) n answers ps
