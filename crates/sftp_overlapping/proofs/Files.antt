-- The files of the sessions of a set, where their bytes are known.
use Rattle.std.proofs.Common.{◌≡◌, ◌<◌, ◌≤◌, ◌+◌, suc, ℕ, List, [], ◌∷◌, ◌++◌, Bor, map, take, drop, length}
use Rattle.std.proofs.Common.{refl, sym, ap, subst, ◌∙◌, Option}
use Rattle.std.specs.Prelude.{get_or}
use Rattle.std.proofs.lemmas.List.{take_more, take_all, map-append}
use Rattle.std.proofs.Math.Seq.{split_at}
use Rattle.sftp_together.specs.Sets.{TimedEvent}
use Rattle.sftp_gathering.specs.declared.clock.SetClock.{SetClock}
use Rattle.sftp_gathering.specs.Files.{SessionFiles, AreSessionsOf, name_of}
use Rattle.sftp_gathering.specs.Gathered.{Gathered, IsGathered, IsNoMember}
use Rattle.sftp_overlapping.specs.declared.members.Member.{Member}
use Rattle.sftp_overlapping.specs.Sets.{IsMember, AreMembers, AreNoSessions}

-- ---- the names of sessions

abbrev pub text : Bor (List ℕ) → List ℕ
text name = name.now

abbrev pub name_in : {T : Type 0} → Member T → List ℕ
name_in member = member.name.now

-- the names so far, and the next one
pub one-name-more : {T : Type 0} (members : List (Member T)) (place : ℕ) (member : Member T)
    (names : List (Bor (List ℕ))) (name : Bor (List ℕ)) → place < length members
    → member ≡ get_or members place member → name.now ≡ member.name.now
    → map text names ≡ map name_in (take place members)
    → map text (names ++ name ∷ []) ≡ map name_in (take (place + 1) members)
one-name-more {T} members place member names name less is same before =
    map-append text names (name ∷ [])
    ∙ ap (λ (xs : List (List ℕ)). xs ++ name.now ∷ []) before
    ∙ ap (λ (x : List ℕ). map name_in (take place members) ++ x ∷ []) same
    ∙ sym (map-append name_in (take place members) (member ∷ []))
    ∙ ap (λ (m : Member T). map name_in (take place members ++ m ∷ [])) is
    ∙ ap (λ (ms : List (Member T)). map name_in ms) (sym (take_more members place member less))

module _ {T : Type 0} (bytes : T → Option (List ℕ)) where
  -- the names of sessions are those of their files
  pub names_are : (members : List (Member T)) (each : List SessionFiles) → AreMembers bytes members each
      → map name_of each ≡ map name_in members
  names_are [] [] are = refl
  names_are [] (files ∷ each) are = absurd are
  names_are (member ∷ members) [] are = absurd are
  names_are (member ∷ members) (files ∷ each) are =
      ap (λ (name : List ℕ). name ∷ map name_of each) are.0.name_is
      ∙ ap (λ (names : List (List ℕ)). member.name.now ∷ names) (names_are members each are.1)

  -- ---- the files of the first sessions, those of the next one, and the others

  record Parted (before : List (Member T)) (member : Member T) (each : List SessionFiles) : Type 0 where
    pub front : List SessionFiles
    pub files : SessionFiles
    pub others : List SessionFiles
    pub each_is : each ≡ front ++ files ∷ others
    pub front_are : AreMembers bytes before front
    pub is_member : IsMember bytes member files

  parted : (before : List (Member T)) (member : Member T) (behind : List (Member T)) (each : List SessionFiles)
      → AreMembers bytes (before ++ member ∷ behind) each → Parted before member each
  parted [] member behind [] are = absurd are
  parted [] member behind (files ∷ each) are = record {
    front = [];
    files = files;
    others = each;
    each_is = refl;
    front_are = tt;
    is_member = are.0;
  }
  parted (first ∷ before) member behind [] are = absurd are
  parted (first ∷ before) member behind (files ∷ each) are =
      let p = parted before member behind each are.1 in
      record {
        front = files ∷ p.front;
        files = p.files;
        others = p.others;
        each_is = ap (λ (xs : List SessionFiles). files ∷ xs) p.each_is;
        front_are = (are.0, p.front_are);
        is_member = p.is_member;
      }

  -- the files of the last session have none behind them
  last_parted : (before : List (Member T)) (member : Member T) (each : List SessionFiles)
      → AreMembers bytes (before ++ member ∷ []) each
      → (front : List SessionFiles) × (files : SessionFiles) × (each ≡ front ++ files ∷ [])
      × AreMembers bytes before front × IsMember bytes member files
  last_parted [] member [] are = absurd are
  last_parted [] member (files ∷ []) are = ([], files, refl, tt, are.0)
  last_parted [] member (files ∷ other ∷ each) are = absurd are.1
  last_parted (first ∷ before) member [] are = absurd are
  last_parted (first ∷ before) member (files ∷ each) are =
      let p = last_parted before member each are.1 in
      (files ∷ p.0, p.1, ap (λ (xs : List SessionFiles). files ∷ xs) p.2, (are.0, p.3), p.4)

  -- the bytes that were read of a session's files are the files
  pub member-added : (files : SessionFiles) (times : List ℕ) (each : List SessionFiles) (new : Gathered)
      → times ≡ files.times
      → IsGathered (each ++ record { name = files.name; transcript = files.transcript; times = times } ∷ []) new
      → IsGathered (each ++ files ∷ []) new
  member-added files times each new is gathered =
      subst (λ (ts : List ℕ). IsGathered (each ++ record {
        name = files.name;
        transcript = files.transcript;
        times = ts;
      } ∷ []) new) is gathered

  pub member-refused : (files : SessionFiles) (times : List ℕ) (each : List SessionFiles) → times ≡ files.times
      → IsNoMember each (record { name = files.name; transcript = files.transcript; times = times })
      → IsNoMember each files
  member-refused files times each is refused =
      subst (λ (ts : List ℕ). IsNoMember each (record {
        name = files.name;
        transcript = files.transcript;
        times = ts;
      })) is refused

  -- ---- sessions one by one

  module _ (members : List (Member T)) (place : ℕ) (member : Member T) (less : place < length members)
      (is : member ≡ get_or members place member) (old : Gathered)
      (so_far : (each : List SessionFiles) → AreMembers bytes (take place members) each → IsGathered each old)
    where
      -- what is gathered goes on with the next session
      pub gathered-next : (new : Gathered)
          → ((files : SessionFiles) → IsMember bytes member files → (each : List SessionFiles) → IsGathered each old
          → IsGathered (each ++ files ∷ []) new)
          → (each : List SessionFiles) → AreMembers bytes (take (place + 1) members) each → IsGathered each new
      gathered-next new next each are =
          let here = take_more members place member less
          ∙ ap (λ (m : Member T). take place members ++ m ∷ []) (sym is) in
          let p = last_parted (take place members) member each
          (subst (λ (ms : List (Member T)). AreMembers bytes ms each) here are) in
          subst (λ (xs : List SessionFiles). IsGathered xs new) (sym p.2) (next p.1 p.4 p.0 (so_far p.0 p.3))

      -- where a session is not taken, there are no sessions
      pub none-taken : ((files : SessionFiles) → IsMember bytes member files → (each : List SessionFiles)
          → IsGathered each old → IsNoMember each files)
          → (each : List SessionFiles) → AreMembers bytes members each → AreNoSessions each
      none-taken refuses each are clock sessions of =
          let here = split_at members place member less
          ∙ ap (λ (m : Member T). take place members ++ m ∷ drop (suc place) members) (sym is) in
          let p = parted (take place members) member (drop (suc place) members) each
          (subst (λ (ms : List (Member T)). AreMembers bytes ms each) here are) in
          refuses p.files p.is_member p.front (so_far p.front p.front_are) p.others clock sessions
          (subst (λ (xs : List SessionFiles). AreSessionsOf clock xs sessions) p.each_is of)

  -- after the last one all are gathered
  pub all-gathered : (members : List (Member T)) (count : ℕ) (set : Gathered) → length members ≤ count
      → ((each : List SessionFiles) → AreMembers bytes (take count members) each → IsGathered each set)
      → (each : List SessionFiles) → AreMembers bytes members each → IsGathered each set
  all-gathered members count set enough so_far =
      subst (λ (ms : List (Member T)). (each : List SessionFiles) → AreMembers bytes ms each → IsGathered each set)
      (take_all count members enough) so_far
