-- Permissions as octal digits, and the profile with a umask.
use Rattle.std.specs.Prelude.{ℕ, ◌≤◌, List, length, if◌then◌else◌, Option, codes}
use Rattle.std.specs.Prelude.{option_map, unwrap_or}
use Rattle.std.specs.Str.Parse.{IsNumeral, digits_value}
use Rattle.sftp_profile.specs.declared.profiles.Profile.{Profile}

-- permissions as text: one to four octal digits, of a number up to 0777
abbrev pub IsPermissions : List ℕ → Type 0
IsPermissions text = IsNumeral 8 text × (length text ≤ 4) × (digits_value 8 text ≤ 511)

-- the profile with this umask, which says something only with the departure `made`
abbrev pub with_umask : Profile → ℕ → Profile
with_umask profile umask = if profile.made then record profile { umask = umask } else profile

-- the digits of the option, or the usual ones
abbrev pub umask_digits : Option (List ℕ) → List ℕ
umask_digits given = unwrap_or given (codes "022")

-- the profile that the options ask for, with the umask of these digits
abbrev pub asked_profile : Option Profile → Option (List ℕ) → Option Profile
asked_profile profile given =
    option_map (λ profile. with_umask profile (digits_value 8 (umask_digits given))) profile
