-- What the command line gives for an option.
use Rattle.std.specs.Prelude.{ℕ, Bool, List, Option, unwrap_or, find, bytes_eq, slice_get}
use Rattle.std.specs.Prelude.{option_and_then, codes, ◌||◌, true, false, not, if◌then◌else◌, [], ◌∷◌, Some, None}
use Rattle.std.specs.Prelude.{is_some}
use Rattle.std.specs.Prelude.{◌≡◌, ◌⊎◌}
use Rattle.std.specs.Option.{option_map}
use Rattle.clap.specs.Walk.{Row}
use Rattle.clap.specs.declared.parser.matches.Found.{Found}
use Rattle.clap.specs.Matches.{matched_of, raw_values, first_value}
use Rattle.sftp_profile.specs.declared.profiles.Profile.{Profile}
use Rattle.sftp_profile.specs.declared.profiles.NewOwner.{NewOwner}
use Rattle.sftp_profile.specs.declared.profiles.NewOwner.TheVariants.{User, Given, Group, Posix}
use Rattle.sftp_profile.specs.Profiles.{strict, posix, posix_user}
use Rattle.sftp_profile.specs.Profiles.{with_name}
use Rattle.sftp_verdicts.specs.declared.asked.AuditOptions.{AuditOptions}
use Rattle.sftp_overlapping.specs.declared.asked.TogetherOptions.{TogetherOptions}
use Rattle.sftp_options.specs.declared.command_line.Request.{Request}
use Rattle.sftp_options.specs.declared.command_line.Request.TheVariants as requests
use Rattle.sftp_tar.specs.declared.choices.LimitChoice.{LimitChoice}
use Rattle.sftp_tar.specs.declared.choices.LimitChoice.TheVariants.{Usual, Raised, Most, Fit}
use Rattle.sftp_tar.specs.declared.choices.SpecialChoice.{SpecialChoice}
use Rattle.sftp_tar.specs.declared.choices.SpecialChoice.TheVariants.{Refuse, Skip, File}
use Rattle.sftp_tar.specs.declared.choices.Taking.{Taking}

-- the values of the option of this name
abbrev pub values_in : List Row → List ℕ → Option (List (List ℕ))
values_in rows name = option_map (λ (row : Row). row.values) (find (λ (row : Row). bytes_eq row.id name) rows)

-- the first of them
abbrev pub value_in : List Row → List ℕ → Option (List ℕ)
value_in rows name = option_and_then (λ (values : List (List ℕ)). slice_get values 0) (values_in rows name)

-- a flag with this value is given: the parser's value for it is `true`
abbrev pub is_given : Option (List ℕ) → Bool
is_given value = bytes_eq (unwrap_or value (codes "")) (codes "true")

-- ==== The profile that the options of `audit` name.

-- the profile of a name
abbrev pub named : List ℕ → Profile
named name = if bytes_eq name (codes "posix-user") then posix_user else posix

-- the same, or the strict one without a name
abbrev pub base_of : Option (List ℕ) → Profile
base_of (Some name) = named name
base_of None = strict

-- the profile with the departure of a name accepted or not; a name that is none changes nothing
abbrev pub with_departure : Bool → Profile → List ℕ → Profile
with_departure is_on profile name = unwrap_or (with_name profile name is_on) profile

-- the same of these names, one after the other
unfoldable pub with_names : Bool → Profile → List (List ℕ) → Profile
with_names is_on profile [] = profile
with_names is_on profile (name ∷ names) = with_names is_on (with_departure is_on profile name) names

-- who owns what is made by a rule
abbrev pub owner_by : List ℕ → NewOwner
owner_by rule =
    if bytes_eq rule (codes "given") then Given else if bytes_eq rule (codes "group") then Group else
    if bytes_eq rule (codes "posix") then Posix else User

-- the profile with this rule, which says something only with the departure `made`
abbrev pub with_rule : Profile → Option (List ℕ) → Profile
with_rule profile rule =
    if profile.made then record profile { new_owner = owner_by (unwrap_or rule (codes "user")) } else profile

-- What the options say, each by its values, in the order given: what the profile is based on, the departures that are
-- allowed besides, those that are excepted, the rule of who owns what is made, and the order of the paths of SYMLINK.
pub record Options : Type 0 where
  pub base : Option (List ℕ)
  pub allowed : Option (List (List ℕ))
  pub excepted : Option (List (List ℕ))
  pub rule : Option (List ℕ)
  pub order : Option (List ℕ)

-- what the command line gives for each of them
abbrev pub options_in : List Row → Options
options_in rows = record {
  base = value_in rows (codes "profile");
  allowed = values_in rows (codes "allow");
  excepted = values_in rows (codes "except");
  rule = value_in rows (codes "new-owner");
  order = value_in rows (codes "symlink");
}

-- the same by what the parser found
abbrev pub options_found : Found → Options
options_found found = record {
  base = first_value found (codes "profile");
  allowed = option_map raw_values (matched_of found (codes "allow"));
  excepted = option_map raw_values (matched_of found (codes "except"));
  rule = first_value found (codes "new-owner");
  order = first_value found (codes "symlink");
}

-- the profile by these options, but for the umask
abbrev pub profile_by : Options → Profile
profile_by options =
    record (with_rule
    (with_names false (with_names true (base_of options.base) (unwrap_or options.allowed []))
    (unwrap_or options.excepted [])) options.rule) {
      symlink_draft = is_some options.order;
    }

-- the profile, if one of these four options was given; without one the session is judged strictly
abbrev pub profile_asked : Options → Option Profile
profile_asked options =
    if is_some options.order || (is_some options.base || (is_some options.allowed || is_some options.excepted))
    then Some (profile_by options) else None

-- ==== What a command line asks for: an audit.

-- the options that a verdict depends on, and the file for the final tree, each by what the command line gives for it
pub record IsAuditAsked (rows : List Row) (asked : AuditOptions) : Type 0 where
  pub tree : value_in rows (codes "tree") ≡ Some asked.tree.now
  pub transcript : value_in rows (codes "transcript") ≡ Some asked.transcript.now
  pub out : value_in rows (codes "out") ≡ option_map (λ name. name.now) asked.out
  pub cuts : asked.cuts ≡ is_given (value_in rows (codes "cut"))
  pub keeps_going : asked.keeps_going ≡ is_given (value_in rows (codes "keep-going"))
  pub profile : asked.profile ≡ profile_asked (options_in rows)
  pub umask : value_in rows (codes "umask") ≡ option_map (λ digits. digits.now) asked.umask

-- the same for the audit of each of several transcripts: what the verdict on each depends on
pub record IsEachAsked (rows : List Row) (asked : AuditOptions) : Type 0 where
  pub tree : value_in rows (codes "tree") ≡ Some asked.tree.now
  pub cuts : asked.cuts ≡ is_given (value_in rows (codes "cut"))
  pub profile : asked.profile ≡ profile_asked (options_in rows)
  pub umask : value_in rows (codes "umask") ≡ option_map (λ digits. digits.now) asked.umask

-- the tree or the transcript is not named
abbrev pub LacksFile : List Row → Type 0
LacksFile rows = (value_in rows (codes "tree") ≡ None) ⊎ (value_in rows (codes "transcript") ≡ None)

-- an audit with these options
abbrev pub IsAuditRequest : List Row → Request → Type 0
IsAuditRequest rows (requests.Audit asked) = IsAuditAsked rows asked
IsAuditRequest rows other = ⊥

-- the options of an audit of several sessions together that its verdict depends on, but for the files of the sessions
-- and the tolerance
pub record IsTogetherAsked (rows : List Row) (asked : TogetherOptions) : Type 0 where
  pub tree : value_in rows (codes "tree") ≡ Some asked.tree.now
  pub order : value_in rows (codes "order") ≡ Some asked.order.now
  pub out : value_in rows (codes "out") ≡ option_map (λ name. name.now) asked.out
  pub profile : asked.profile ≡ profile_asked (options_in rows)
  pub umask : value_in rows (codes "umask") ≡ option_map (λ digits. digits.now) asked.umask

-- ==== What the options of `import` say.

-- the limits of this name
abbrev pub limits_by : List ℕ → LimitChoice
limits_by which =
    if bytes_eq which (codes "raised") then Raised else if bytes_eq which (codes "most") then Most
    else if bytes_eq which (codes "fit") then Fit else Usual

-- what becomes of devices and FIFOs by this name
abbrev pub special_by : List ℕ → SpecialChoice
special_by what = if bytes_eq what (codes "skip") then Skip else if bytes_eq what (codes "file") then File else Refuse

-- how the archive is taken by the values of the options: without them, with the usual limits, and nothing special
abbrev pub taking_by : Option (List ℕ) → Option (List ℕ) → Bool → Taking
taking_by which what without_times = record {
  limits = limits_by (unwrap_or which (codes "usual"));
  special = special_by (unwrap_or what (codes "refuse"));
  with_times = not without_times;
}

abbrev pub taking_in : List Row → Taking
taking_in rows =
    taking_by (value_in rows (codes "limits")) (value_in rows (codes "special"))
    (is_given (value_in rows (codes "no-times")))
