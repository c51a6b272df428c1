-- A request is read by the members that its reader takes.
use Rattle.std.proofs.Common.{◌≡◌, ℕ, Bool, cond, true, false, List, Some, refl, sym, subst, codes}
use Rattle.std.specs.Str.{bytes_eq}
use Rattle.std.proofs.lemmas.Slice.Eq.{bytes_eq-Decides}
use Rattle.flag_text.specs.Readers.{find_member}
use Rattle.flag_text.specs.Shape.{Shape, null, boolean, whole, other, text, list, object, Members, no_members, member}
use Rattle.price_core.specs.Request.{request_of}
use Rattle.member_names.specs.Unread.{reads}
use Rattle.member_names.specs.declared.reader.Reader.{Reader}
use Rattle.member_names.specs.declared.reader.Reader.TheVariants as reader
use Rattle.flagops_rollouts.specs.Passed.{members_read, part_read}

-- a member that is taken is found as before
found_read : (r : Reader) (name : List ℕ) → reads r name ≡ true → (ms : Members) → find_member name (members_read r ms) ≡ find_member name ms
found_read r name taken no_members = refl
found_read r name taken (member k t ms) = go (reads r k) refl (bytes_eq k name) refl (found_read r name taken ms)
  where
    go : (b : Bool) → reads r k ≡ b → (same : Bool) → bytes_eq k name ≡ same → find_member name (members_read r ms) ≡ find_member name ms
        → find_member name (cond b (member k t (members_read r ms)) (members_read r ms)) ≡ cond same (Some t) (find_member name ms)
    go true is true named rest = rw named refl
    go true is false named rest = rw named rest
    go false is false named rest = rest
    go false is true named rest =
        let bad : reads r k ≡ true = subst (λ (n : List ℕ). reads r n ≡ true) (sym ((bytes_eq-Decides k name).0 named)) taken in
        cc

pub passed_over : (t : Shape) → request_of (part_read reader.Request t) ≡ request_of t
passed_over null = refl
passed_over (boolean b) = refl
passed_over (whole n) = refl
passed_over other = refl
passed_over (text s) = refl
passed_over (list ts) = refl
passed_over (object ms) =
    let found : (name : List ℕ) → reads reader.Request name ≡ true → find_member name (members_read reader.Request ms) ≡ find_member name ms = λ name taken. found_read reader.Request name taken ms in
    rw (found (codes "plan") refl, found (codes "flag") refl, found (codes "site") refl, found (codes "price") refl, found (codes "totals") refl, found (codes "prices") refl, found (codes "forbid") refl) refl
