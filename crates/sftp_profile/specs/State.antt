-- The state of a judge: a session under a profile, and the directories that are open in it.
use Rattle.std.specs.Prelude.{List, []}
use Rattle.sftp_tree.specs.Tree.{Tree}
use Rattle.sftp_handles.specs.State as sessions
use Rattle.sftp_profile.specs.declared.profiles.Profile.{Profile}
use Rattle.sftp_profile.specs.declared.directories.Directory.{Directory}

pub record State : Type 0 where
  pub profile : Profile
  pub session : sessions.State
  -- in the order opened; none where the profile has no use for them
  pub directories : List Directory

-- a session under a profile, with no directory
abbrev pub bare : Profile → sessions.State → State
bare profile session = record { profile = profile; session = session; directories = [] }

-- a session on this tree in which nothing is open
abbrev pub begun : Profile → Tree → State
begun profile tree = bare profile (sessions.settled tree [])
