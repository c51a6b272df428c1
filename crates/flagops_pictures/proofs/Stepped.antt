-- What comes of a ramp that is drawn.
use Rattle.std.proofs.Common.{◌≡◌, false, true, Option, None, Some, Ok, Err, refl, ◌∙◌, sym}
use Rattle.std.specs.Prelude.{IfSome}
use Rattle.flagops_shell.specs.Files.{Holding}
use Rattle.flagops_shell.specs.Report.{outcome_view}
use Rattle.flagops_shell.specs.declared.outcome.Outcome.{Outcome}
use Rattle.flagops_ramps.specs.Judging.{IsFoundAt, answered_view}
use Rattle.flagops_ramps.specs.Refusal.{is_want}
use Rattle.flagops_ramps.specs.Report.{GivesOne, Told}
use Rattle.flagops_ramps.specs.Words.{Verifying}
use Rattle.flagops_ramps.specs.declared.judging.RightAnswers.{RightAnswers}
use Rattle.flagops_pictures.specs.Ramps.{IsRampPicture, IsRampPictureOf}

module _ (v : Verifying) where
  pictured_at : (at : Holding) (a : RightAnswers) (o : Outcome) → IsFoundAt at v (Ok (answered_view a)) → IsRampPictureOf v.rollout.refine (Ok (answered_view a)) (Ok (outcome_view o)) → IsRampPicture at v (Ok (outcome_view o))
  unfolding IsRampPicture
  pictured_at at a o found drawn = (Ok (answered_view a), found, drawn)

  -- right answers are drawn
  pub pictured : (holding : Option Holding) (a : RightAnswers) (o : Outcome) → IfSome holding (λ at. IsFoundAt at v (Ok (answered_view a))) → IsRampPictureOf v.rollout.refine (Ok (answered_view a)) (Ok (outcome_view o)) → IfSome holding (λ at. IsRampPicture at v (Ok (outcome_view o)))
  pictured None a o found drawn = tt
  pictured (Some at) a o found drawn = pictured_at at a o found drawn

  refused_at : (at : Holding) (t : Told) → GivesOne answered_view (Err t) (IsFoundAt at v) → GivesOne outcome_view (Err t) (IsRampPicture at v)
  unfolding IsRampPicture
  refused_at at t found = λ no_want. (Err t.refusal, found no_want, refl)

  -- others are refused
  pub refused : (holding : Option Holding) (t : Told) → IfSome holding (λ at. GivesOne answered_view (Err t) (IsFoundAt at v)) → IfSome holding (λ at. GivesOne outcome_view (Err t) (IsRampPicture at v))
  refused None t found = tt
  refused (Some at) t found = refused_at at t found

  -- memory ran out
  pub wanting : (holding : Option Holding) (t : Told) → is_want t.refusal ≡ true → IfSome holding (λ at. GivesOne outcome_view (Err t) (IsRampPicture at v))
  wanting None t want = tt
  wanting (Some at) t want = λ no_want. absurd (let both : true ≡ false = sym want ∙ no_want in cc)
