-- What `picture --ramp` answers.
use Rattle.std.specs.Prelude.{◌≡◌, ℕ, suc, is_some, List, [], ◌∷◌, Option, Some, Ok, Err}
use Rattle.flagops_shell.specs.Files.{Holding}
use Rattle.flagops_ramps.specs.Doubts.{doubt_of_steps}
use Rattle.flagops_ramps.specs.Report.{Came}
use Rattle.flagops_ramps.specs.Judging.{Answered, Found, IsFoundAt}
use Rattle.flagops_ramps.specs.Ramp.{recorded}
use Rattle.flagops_ramps.specs.Words.{Verifying}
use Rattle.picture.specs.Spelling.{IsPicture, Pictures}
use Rattle.picture.specs.Told.{Item, step_height, step_told}
use Rattle.picture.specs.declared.words.Title.TheVariants as title
use Rattle.plan_text.specs.Answer.{Answer}
use Rattle.ramp.specs.Ramp.{Recorded, Standing, left_by, still}
use Rattle.flagops_pictures.specs.Asked.{step_asked}
use Rattle.flagops_pictures.specs.Pictured.{IsAnswerTold}

-- the number of a step, as a picture
abbrev pub step_picture : ℕ → ℕ × List Item
step_picture n = (step_height, step_told n ∷ [])

-- The pictures of answers in turn, each below the number of its step: the first is to a step on these flags, and each other to one on what the one before leaves.
abbrev pub AreTold : Standing → Option ℕ → List (List ℕ) → Recorded → ℕ → List Answer → Pictures → Type 0
AreTold standing refine [] held n answers ps = ps ≡ []
AreTold standing refine (request ∷ requests) held n [] ps = ps ≡ []
AreTold standing refine (request ∷ requests) held n (answer ∷ answers) ps =
    (this : ℕ × List Item) × (rest : Pictures) × IsAnswerTold (step_asked standing refine answer request held) answer this
    × AreTold (left_by standing request answer) (Some 1) (still answer requests) held (suc n) answers rest × (ps ≡ step_picture n ∷ (this ∷ rest))

-- the page that has the pictures of answers, each below the number of its step, from 1
abbrev pub IsRampDrawn : Option ℕ → Answered → List ℕ → Type 0
IsRampDrawn refine a bytes = (ps : Pictures) × AreTold (Ok a.question.flags) refine a.requests (recorded a.question.evidence) 1 a.answers ps × IsPicture title.Rollout ps bytes

-- the pictures where the answers are found right, beside which a person is told of a doubt; and else the refusal of `verify-ramp`
abbrev pub IsRampPictureOf : Option ℕ → Found → Came → Type 0
IsRampPictureOf refine (Ok a) r = (bytes : List ℕ) × IsRampDrawn refine a bytes × (r ≡ Ok (record { text = bytes; status = 0; is_told = is_some (doubt_of_steps a.question a.requests) }))
IsRampPictureOf refine (Err e) r = r ≡ Err e

-- what the files at the paths make
unfoldable pub IsRampPicture : Holding → Verifying → Came → Type 0
IsRampPicture at v r = (found : Found) × IsFoundAt at v found × IsRampPictureOf v.rollout.refine found r
