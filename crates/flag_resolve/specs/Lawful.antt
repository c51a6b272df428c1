-- What holds of every resolution, whichever case it comes by.
use Rattle.std.specs.Prelude.{◌≡◌, Bool, true, false, is_some, IfSome, IfNone}
use Rattle.flag_defs.specs.Kind.{is_of_kind}
use Rattle.flag_resolve.specs.Resolution.{Asked}
use Rattle.flag_resolve.specs.Resolved.{Resolved}
use Rattle.flag_resolve.specs.declared.reason.Reason.{Reason}
use Rattle.flag_resolve.specs.declared.reason.Reason.TheVariants.{Error}

-- the reason is ERROR
abbrev pub is_error : Reason → Bool
is_error Error = true
is_error reason = false

-- A code stands with the reason ERROR alone; the value is of the wanted kind where a variant is named, and else the caller's default.
pub record IsLawful (a : Asked) (r : Resolved) : Type 0 where
  pub coded : is_some r.code ≡ is_error r.reason
  pub typed : IfSome r.variant (λ name. is_of_kind a.want r.value ≡ true)
  pub defaulted : IfNone r.variant (r.value ≡ a.default)
