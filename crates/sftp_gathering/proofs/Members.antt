-- The sessions of files: there is one at most, and what is gathered goes on with each further file.
use Rattle.std.proofs.Common.{◌≡◌, ℕ, List, [], ◌∷◌, ◌++◌, map, refl, sym, ap, subst, ◌∙◌, Ok, Err, Result, Option, Some, None}
use Rattle.std.proofs.lemmas.List.{map-append}
use Rattle.std.specs.List.{AllByRecursion}
use Rattle.sftp_times.specs.declared.entries.Beginning.{Beginning}
use Rattle.sftp_times.specs.declared.errors.TimesError.{TimesError}
use Rattle.sftp_times.specs.declared.errors.TimesError.TheVariants as times_errors
use Rattle.sftp_times.specs.Times.{times_at}
use Rattle.sftp_tree.specs.Tree.{Tree}
use Rattle.sftp_tree.specs.Picture.{IsStart}
use Rattle.sftp_tree.proofs.TreeFiles.Files.{one_start}
use Rattle.sftp_transcript.specs.declared.events.Event.{Event}
use Rattle.sftp_transcript.specs.Explained.{StepOf}
use Rattle.sftp_transcript.proofs.transcripts.{records_are_one_lem}
use Rattle.sftp_together.specs.Sets.{TimedEvent, IsWhole, timed_exchanges, AreExplained}
use Rattle.sftp_together.specs.Checks.{ExplainsBy}
use Rattle.sftp_sets.specs.Sessions.{IsSession, timed}
use Rattle.sftp_gathering.specs.declared.clock.SetClock.{SetClock}
use Rattle.sftp_gathering.specs.declared.clock.SetClock.TheVariants.{Dates}
use Rattle.sftp_gathering.specs.Files.{SessionFiles, IsSessionOf, AreSessionsOf, IsSetExplained, IsSetExplainedBy, clock_of, start_of}
use Rattle.sftp_gathering.specs.Gathered.{Gathered, AreOn, IsGathered, IsNoMember, IsOnClock, IsReadOn, IsTimesFault}
use Rattle.sftp_gathering.specs.Gathered.{IsUnreadMember}
use Rattle.sftp_gathering.specs.declared.errors.MemberError.{MemberError}
use Rattle.sftp_gathering.specs.declared.errors.MemberError.TheVariants.{Times, OtherClock, Session}
use Rattle.sftp_gathering.specs.declared.clocks.TimesOnClock.{TimesOnClock}

-- ---- one session at most

-- what is read of times
abbrev TimesRead : Type 0
TimesRead = Beginning × List ℕ

same_read : (p q : TimesRead) (read : Result TimesRead TimesError) → read ≡ Ok p → read ≡ Ok q → p ≡ q
same_read p q read is same = cc

-- a beginning and entries that are read of times are those of a session with these times
pub same_times : (bytes : List ℕ) (a b : Beginning) (xs ys : List ℕ) → times_at bytes ≡ Ok (a, xs)
    → times_at bytes ≡ Ok (b, ys) → (a ≡ b) × (xs ≡ ys)
same_times bytes a b xs ys is same =
    let p = same_read (a, xs) (b, ys) (times_at bytes) is same in
    (ap (λ (t : TimesRead). t.0) p, ap (λ (t : TimesRead). t.1) p)

pub one_session : (c d : SetClock) (files : SessionFiles) (s t : List TimedEvent) → IsSessionOf c files s
    → IsSessionOf d files t → s ≡ t
one_session c d files s t a b =
    let same = same_times files.times a.beginning b.beginning a.entries b.entries a.times_are b.times_are in
    let events = records_are_one_lem a.session_is.events b.session_is.events files.transcript
    a.session_is.recorded b.session_is.recorded in
    let start = ap start_of same.0 in
    a.session_is.session_is
    ∙ ap (λ (n : ℕ). timed n a.entries a.session_is.events) start
    ∙ ap (λ (xs : List ℕ). timed (start_of b.beginning) xs a.session_is.events) same.1
    ∙ ap (λ (es : List Event). timed (start_of b.beginning) b.entries es) events
    ∙ sym b.session_is.session_is

pub one_clock : (c d : SetClock) (files : SessionFiles) (s t : List TimedEvent) → IsSessionOf c files s
    → IsSessionOf d files t → c ≡ d
one_clock c d files s t a b =
    let same = same_times files.times a.beginning b.beginning a.entries b.entries a.times_are b.times_are in
    sym a.clock_is ∙ ap (λ (x : Beginning). clock_of x.boot) same.0 ∙ b.clock_is

pub one_set : (c d : SetClock) (each : List SessionFiles) (ss ts : List (List TimedEvent)) → AreSessionsOf c each ss
    → AreSessionsOf d each ts → ss ≡ ts
one_set c d [] [] [] a b = refl
one_set c d [] [] (t ∷ ts) a b = absurd b
one_set c d [] (s ∷ ss) ts a b = absurd a
one_set c d (f ∷ fs) [] ts a b = absurd a
one_set c d (f ∷ fs) (s ∷ ss) [] a b = absurd b
one_set c d (f ∷ fs) (s ∷ ss) (t ∷ ts) a b =
    let first = one_session c d f s t a.0 b.0 in
    let others = one_set c d fs ss ts a.1 b.1 in
    ap (λ (x : List TimedEvent). x ∷ ss) first ∙ ap (λ (xs : List (List TimedEvent)). t ∷ xs) others

-- ---- among others

pub all_whole : (c : SetClock) (each : List SessionFiles) (ss : List (List TimedEvent)) → AreSessionsOf c each ss
    → AllByRecursion IsWhole ss
all_whole c [] [] are = tt
all_whole c [] (s ∷ ss) are = absurd are
all_whole c (f ∷ fs) [] are = absurd are
all_whole c (f ∷ fs) (s ∷ ss) are = (are.0.session_is.whole, all_whole c fs ss are.1)

one_more : (c : SetClock) (each : List SessionFiles) (ss : List (List TimedEvent)) (f : SessionFiles)
    (s : List TimedEvent) → AreSessionsOf c each ss → IsSessionOf c f s
    → AreSessionsOf c (each ++ f ∷ []) (ss ++ s ∷ [])
one_more c [] [] f s are is = (is, tt)
one_more c [] (t ∷ ss) f s are is = absurd are
one_more c (g ∷ each) [] f s are is = absurd are
one_more c (g ∷ each) (t ∷ ss) f s are is = (are.0, one_more c each ss f s are.1 is)

-- the session of files that are among others
within : (c : SetClock) (each : List SessionFiles) (f : SessionFiles) (others : List SessionFiles)
    (ss : List (List TimedEvent)) → AreSessionsOf c (each ++ f ∷ others) ss
    → (s : List TimedEvent) × IsSessionOf c f s
within c [] f others [] are = absurd are
within c [] f others (s ∷ ss) are = (s, are.0)
within c (g ∷ each) f others [] are = absurd are
within c (g ∷ each) f others (s ∷ ss) are = within c each f others ss are.1

-- ---- what is gathered

same_clock : (clock : SetClock) (so_far : Option SetClock) (each : List SessionFiles) (ss : List (List TimedEvent))
    (f : SessionFiles) (s : List TimedEvent) → AreOn so_far each ss → IsOnClock so_far clock → IsSessionOf clock f s
    → AreOn (Some clock) (each ++ f ∷ []) (ss ++ s ∷ [])
same_clock clock None each ss f s are on is =
    rw (are.0, are.1) (is, tt)
same_clock clock (Some c) [] ss f s are on is = absurd are
same_clock clock (Some c) (g ∷ each) [] f s are on is = absurd are
same_clock clock (Some c) (g ∷ each) (t ∷ ss) f s are on is =
    let moved = subst (λ (x : SetClock). AreSessionsOf x (g ∷ each) (t ∷ ss)) on are in
    one_more clock (g ∷ each) (t ∷ ss) f s moved is

pub gathered-more : (clock : SetClock) (old new : Gathered) (each : List SessionFiles) (f : SessionFiles)
    (s : List TimedEvent) → IsGathered each old → IsOnClock old.clock clock → IsSessionOf clock f s
    → new.clock ≡ Some clock → new.each ≡ old.each ++ timed_exchanges s ∷ [] → IsGathered (each ++ f ∷ []) new
gathered-more clock old new each f s is on session clock_is each_is = record {
  sessions = is.sessions ++ s ∷ [];
  sessions_are =
      subst (λ (c : Option SetClock). AreOn c (each ++ f ∷ []) (is.sessions ++ s ∷ [])) (sym clock_is)
      (same_clock clock old.clock each is.sessions f s is.sessions_are on session);
  exchanges_are = each_is ∙ ap (λ (xs : List _). xs ++ timed_exchanges s ∷ []) is.exchanges_are
      ∙ sym (map-append timed_exchanges is.sessions (s ∷ []));
}

-- ---- what is refused

pub none-malformed : (each : List SessionFiles) (f : SessionFiles) (error : TimesError)
    → times_at f.times ≡ Err error → IsNoMember each f
none-malformed each f error is others clock ss are =
    let found = within clock each f others ss are in
    let read = found.1.times_are in
    absurd cc

pub none-unread : (each : List SessionFiles) (f : SessionFiles) (beginning : Beginning) (entries : List ℕ)
    → times_at f.times ≡ Ok (beginning, entries)
    → ((s : List TimedEvent) → IsSession f.transcript (start_of beginning) entries s → ⊥) → IsNoMember each f
none-unread each f beginning entries is none others clock ss are =
    let found = within clock each f others ss are in
    let same = same_times f.times found.1.beginning beginning found.1.entries entries found.1.times_are is in
    none found.0
    (subst (λ (b : Beginning). IsSession f.transcript (start_of b) entries found.0) same.0
    (subst (λ (xs : List ℕ). IsSession f.transcript (start_of found.1.beginning) xs found.0) same.1
    found.1.session_is))

pub none-other : (so_far : Option SetClock) (each : List SessionFiles) (sessions : List (List TimedEvent))
    (f : SessionFiles) (beginning : Beginning) (entries : List ℕ) → AreOn so_far each sessions
    → times_at f.times ≡ Ok (beginning, entries) → (IsOnClock so_far (clock_of beginning.boot) → ⊥)
    → IsNoMember each f
none-other None each sessions f beginning entries on is other others clock ss are = other tt
none-other (Some c) [] sessions f beginning entries on is other others clock ss are = absurd on
none-other (Some c) (g ∷ each) [] f beginning entries on is other others clock ss are = absurd on
none-other (Some c) (g ∷ each) (t ∷ ts) f beginning entries on is other others clock [] are = absurd are
none-other (Some c) (g ∷ each) (t ∷ ts) f beginning entries on is other others clock (s ∷ ss) are =
    let found = within clock (g ∷ each) f others (s ∷ ss) are in
    let same = same_times f.times found.1.beginning beginning found.1.entries entries found.1.times_are is in
    other (one_clock c clock g t s on.0 are.0 ∙ sym found.1.clock_is
    ∙ ap (λ (x : Beginning). clock_of x.boot) same.0)

-- the error of a file of times refuses the session
pub none-times : (gathered : Gathered) (each : List SessionFiles) (f : SessionFiles) (error : MemberError)
    → IsGathered each gathered → IsTimesFault gathered.clock f.times error → (IsUnreadMember error → ⊥)
    → IsNoMember each f
none-times gathered each f (Times times_errors.NoMemory) is fault judged = absurd (judged tt)
none-times gathered each f (Times times_errors.Magic) is fault judged = none-malformed each f times_errors.Magic fault
none-times gathered each f (Times (times_errors.Short entry)) is fault judged =
    none-malformed each f (times_errors.Short entry) fault
none-times gathered each f (Times (times_errors.Order entry)) is fault judged =
    none-malformed each f (times_errors.Order entry) fault
none-times gathered each f OtherClock is fault judged =
    none-other gathered.clock each is.sessions f fault.beginning fault.entries is.sessions_are fault.times_are
    fault.other
none-times gathered each f (Session error) is fault judged = absurd fault

-- ---- what is read

pub session-of : (so_far : Option SetClock) (f : SessionFiles) (read : TimesOnClock) (session : List TimedEvent)
    → IsReadOn so_far f.times read
    → IsSession f.transcript read.times.start read.times.entries.items session
    → IsSessionOf read.clock f session
session-of so_far f read session r is = record {
  beginning = r.beginning;
  entries = read.times.entries.items;
  times_are = r.times_are;
  clock_is = r.clock_is;
  session_is =
      subst (λ (n : ℕ). IsSession f.transcript n read.times.entries.items session) r.start_is is;
}

pub none-session : (so_far : Option SetClock) (each : List SessionFiles) (f : SessionFiles) (read : TimesOnClock)
    → IsReadOn so_far f.times read
    → ((session : List TimedEvent) → IsSession f.transcript read.times.start read.times.entries.items session → ⊥)
    → IsNoMember each f
none-session so_far each f read r none =
    none-unread each f r.beginning read.times.entries.items r.times_are
    (λ session is. none session
    (subst (λ (n : ℕ). IsSession f.transcript n read.times.entries.items session) (sym r.start_is) is))

-- ---- what is judged

on_one : (so_far : Option SetClock) (each : List SessionFiles) (sessions : List (List TimedEvent))
    → AreOn so_far each sessions → (clock : SetClock) × AreSessionsOf clock each sessions
on_one None each sessions are = (Dates, rw (are.0, are.1) tt)
on_one (Some c) [] sessions are = absurd are
on_one (Some c) (f ∷ each) sessions are = (c, are)

module _ {S : Type 0} (step : StepOf S) (begin : Tree → S) (tolerance : ℕ) (start : Tree) (tree : List ℕ)
    (each : List SessionFiles) (gathered : Gathered) (is : IsGathered each gathered) (starts : IsStart start tree)
  where
    pub set-explained : (close : S → Tree) (end : Tree)
        → ((sessions : List (List TimedEvent)) → AllByRecursion IsWhole sessions
        × (gathered.each ≡ map timed_exchanges sessions)
        → (last : S) × AreExplained step (begin start) tolerance sessions last × (end ≡ close last))
        → IsSetExplained step begin close tolerance tree each end
    set-explained close end explains =
        let on = on_one gathered.clock each is.sessions is.sessions_are in
        let told = explains is.sessions (all_whole on.0 each is.sessions on.1, is.exchanges_are) in
        record {
          start = start;
          start_is = starts;
          clock = on.0;
          sessions = is.sessions;
          sessions_are = on.1;
          last = told.0;
          explained = told.1;
          end_is = told.2;
        }

    pub set-refused : (places : List ℕ)
        → ((last : S) → ExplainsBy step (begin start) tolerance gathered.each places last → ⊥)
        → IsSetExplainedBy step begin tolerance tree each places → ⊥
    set-refused places refuses told =
        let on = on_one gathered.clock each is.sessions is.sessions_are in
        let same = one_set told.clock on.0 each told.sessions is.sessions told.sessions_are on.1 in
        let exchanges = ap (λ (ss : List (List TimedEvent)). map timed_exchanges ss) same ∙ sym is.exchanges_are in
        refuses told.last
        (subst (λ (t : Tree). ExplainsBy step (begin t) tolerance gathered.each places told.last)
        (one_start told.start start tree told.start_is starts)
        (subst (λ (xs : List _). ExplainsBy step (begin told.start) tolerance xs places told.last) exchanges
        told.explains))
